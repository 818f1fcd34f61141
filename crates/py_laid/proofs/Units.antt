-- Runs over units that bind, jump, raise and leave blocks. A telling may be cut in front of each of them, so here is also which
-- parts of a tree may be cut at their front.
use Rattle.std.proofs.Common.{◌≡◌, ◌<◌, ◌≤◌, ℕ, zero, suc, List, [], ◌∷◌, ◌++◌, Bool, true, false, cond, refl, sym, ap, ◌∙◌, subst, length, arith, inl}
use Rattle.std.specs.Prelude.{Option, Some, None, slice_get, slice_set, nat_lt}
use Rattle.std.proofs.lemmas.Bool.{lt-ltb}
use Rattle.std.proofs.lemmas.List.{length-set}
use Rattle.py_code.specs.declared.instruction.Instruction.{Instruction}
use Rattle.py_code.specs.declared.instruction.Instruction.TheVariants.{StoreFast, Jump, Raise}
use Rattle.py_code.specs.declared.operator.RaiseKind.TheVariants as kind
use Rattle.py_code.specs.Numbers.{raise_number}
use Rattle.py_objects.specs.declared.refs.PyBaseExceptionRef.{PyBaseExceptionRef}
use Rattle.py_objects.specs.declared.payload.Payload.TheVariants as payload
use Rattle.py_objects.specs.declared.request.Request.TheVariants as request
use Rattle.py_objects.specs.Objects.{Obj, as_exception}
use Rattle.py_objects.specs.Own.{Own}
use Rattle.py_rows.specs.declared.block.Block.{Block}
use Rattle.py_rows.specs.declared.block.UnwindReason.{UnwindReason}
use Rattle.py_rows.specs.declared.block.UnwindReason.TheVariants.{Raising}
use Rattle.py_rows.specs.States.{Goes, Stuck, Plainly, jumps}
use Rattle.py_rows.specs.Handled.{handled_in}
use Rattle.py_rows.specs.Unwinding.{unwinds}
use Rattle.py_rows.specs.Asked.{name_of_local}
use Rattle.py_rows.specs.Rows.{act, delete_fast}
use Rattle.py_tree.specs.declared.expr.Atom.TheVariants as atom
use Rattle.py_tree.specs.Tree.{Name, Expr, Suite, nothing, first, Clauses, no_more, clause}
use Rattle.py_tree.specs.Binding.{Env, set_local, bind}
use Rattle.py_tree.specs.Scene.{Scene}
use Rattle.py_tree.specs.Outcome.{Normal, Raises, Cut, Handled, After, Use, Runner, By_truth, Loops, Forgets, Handles, Reraises, RunsSuite, Tries}
use Rattle.py_laid.specs.Code.{Around, Scope, place, Stands, StandsLocal, LaidTarget, LaidForget}
use Rattle.py_laid.proofs.Env.{env_of, set_local-env_of}
use Rattle.py_laid.proofs.Decoding.{Now, running, begun, Execution, setting_of, From, Behind, TellsFrom, parts_of, scene_of, step_left, steps_run, goes_run, silent_run}
use Rattle.py_laid.proofs.Lands.{Context, RunsFrom, Pauses, Targets, outcome_of, targets_may, bare_none, use_passes, ahead}
use Rattle.py_laid.proofs.Asking.{unwinds_left, asked_run}
use Rattle.py_laid.proofs.Loads.{const_run, cut_load}

-- ---- cuts

-- either way behind a test
pub chosen_cut : (P Q : Type 0) → P → Q → (b : Bool) → By_truth b P Q
chosen_cut P Q one other true = one
chosen_cut P Q one other false = other

-- a loop may be cut at its front
pub cut_loop : (scene : Scene) (line : ℕ) (a : Expr) (body : Runner) (n : ℕ) (env : Env) (h : Handled) (event : ℕ) (ts : List Own) (K : After)
    → K env Cut event [] → ts ≡ [] → Loops scene line a body n env h event ts K
cut_loop scene line a body zero env h event ts K cut none = inl (none, cut)
cut_loop scene line a body (suc n) env h event ts K cut none = inl (none, cut)

-- so may a suite, clauses, and what forgets a name
pub suite_pauses : (ex : Execution) (s : Suite) → Pauses ex (RunsSuite (scene_of ex) s)
suite_pauses ex nothing env h event K normal cut = inl (refl, cut env)
suite_pauses ex (first n f more) env h event K normal cut = inl (refl, cut env)

pub forget_pauses : (ex : Execution) (x : Name) → Pauses ex (Forgets x)
forget_pauses ex x env h event K normal cut = normal (set_local x None env)

pub clause_pauses : (ex : Execution) (x : Option Name) (body : Runner) → Pauses ex body → Pauses ex (Handles x body)
clause_pauses ex None body paused env h event K normal cut = paused env h event K normal cut
clause_pauses ex (Some x) body paused env h event K normal cut = paused env h event _ (λ env1. normal (set_local x None env1)) cut

pub tries_pause : (ex : Execution) (line : ℕ) (cs : Clauses) (e : PyBaseExceptionRef) (env : Env) (h : Handled) (event : ℕ) (K : After) → K env Cut event []
    → Tries (scene_of ex) line cs e env h event [] K
tries_pause ex line no_more e env h event K cut = inl (refl, cut)
tries_pause ex line (clause n c x s more) e env h event K cut = cut_load (scene_of ex) n env h (atom.Name c) event (Use env K _) cut (λ v. inl (refl, cut))

-- ---- locals

-- the second store counts
slice_set-twice : (xs : List (Option Obj)) (i : ℕ) (v w : Option Obj) → slice_set (slice_set xs i v) i w ≡ slice_set xs i w
slice_set-twice [] i v w = refl
slice_set-twice (x ∷ xs) zero v w = refl
slice_set-twice (x ∷ xs) (suc i) v w = ap (λ (l : List (Option Obj)). x ∷ l) (slice_set-twice xs i v w)

-- what was stored is there
slice_get-set : (xs : List (Option Obj)) (i : ℕ) (v : Option Obj) → i < length xs → slice_get (slice_set xs i v) i ≡ Some v
slice_get-set [] i v low = absurd (omega (arith, low))
slice_get-set (x ∷ xs) zero v low = refl
slice_get-set (x ∷ xs) (suc i) v low = slice_get-set xs i v (omega (arith, low))

-- with a local set or unset
abbrev put : Now → ℕ → Option Obj → Now
put now i v = record { locals = slice_set now.locals i v; slot = now.slot }

module _ (ex : Execution) where
  -- a value goes to a local
  store_run : {Q : Type 0} {scope : Scope} {line at to : ℕ} (x : Name) → StandsLocal (parts_of ex) scope line at StoreFast x to
      → (v : Obj) (stack : List Obj) (blocks : List Block) (now : Now) (last m : ℕ) (ts : List Own) → length now.locals ≡ length ex.vars
      → From ex m at last (v ∷ stack) blocks now ts → (ts ≡ [] → Q)
      → ((j : ℕ) → j < m → From ex j to to stack blocks (put now (place ex.vars x) (Some v)) ts → Q) → Q
  store_run x (stands, below) v stack blocks now last m ts same run cut go =
      let there : nat_lt (place ex.vars x) (length now.locals) ≡ true = lt-ltb (place ex.vars x) (length now.locals) (omega (arith, below, same)) in
      goes_run ex stands (v ∷ stack) stack blocks blocks now (put now (place ex.vars x) (Some v)) last m ts
      (λ k p. ap (λ (b : Bool). Plainly (cond b (Goes (running (suc k) (suc k) 0 stack blocks (put now (place ex.vars x) (Some v)))) Stuck)) there) run cut go

  -- what a value is done with
  pub target_run : (scope : Scope) (line at to : ℕ) (x : Option Name) → LaidTarget (parts_of ex) scope line x at to
      → (v : Obj) (stack : List Obj) (blocks : List Block) (now : Now) (n : ℕ) (tells : Env → ℕ → List Own → Type 0) → ((env : Env) (event : ℕ) → tells env event [])
      → TellsFrom ex to stack blocks n tells
      → (last m event : ℕ) (ts : List Own) → m ≤ n → length now.locals ≡ length ex.vars → From ex m at last (v ∷ stack) blocks now ts → tells (bind x v (env_of ex.vars now.locals)) event ts
  target_run scope line at to None stands v stack blocks now n tells paused later last m event ts most same run =
      silent_run ex stands (v ∷ stack) stack blocks blocks now now (λ k p. refl) n tells paused later last m event ts most same run
  target_run scope line at to (Some x) stands v stack blocks now n tells paused later last m event ts most same run =
      store_run x stands v stack blocks now last m ts same run
      (λ none. subst (λ (us : List Own). tells (set_local x (Some v) (env_of ex.vars now.locals)) event us) (sym none) (paused (set_local x (Some v) (env_of ex.vars now.locals)) event))
      (λ j less more.
      let long : length (slice_set now.locals (place ex.vars x) (Some v)) ≡ length ex.vars = length-set now.locals (place ex.vars x) (Some v) ∙ same in
      rw (set_local-env_of ex.vars now.locals x (Some v) stands.1 same) (later (put now (place ex.vars x) (Some v)) to j event ts (omega (arith, less, most)) long more))

  -- a name is forgotten
  pub forget_run : (around : Around) (scope : Scope) (line at to : ℕ) (x : Name) → LaidForget (parts_of ex) scope line x at to → RunsFrom ex around at to (Forgets x)
  forget_run around scope line at to x (stores, deletes, loads, store, (delete, below)) c low high later now last m event ts most same run =
      const_run ex loads payload.None (λ k q b v. Goes (running b b 0 (v ∷ c.base) c.blocks now)) c.base c.blocks now last m ts (λ v has. has) (λ i k q. refl) run cut
      (λ v k q j from is_next less has more. store_run x store v c.base c.blocks now stores j ts same more cut
      (λ i fewer rest.
      goes_run ex delete c.base c.base c.blocks c.blocks (put now (place ex.vars x) (Some v)) (put (put now (place ex.vars x) (Some v)) (place ex.vars x) None) deletes i ts
      (λ k2 p.
      ap (λ (o : Option (Option Obj)). Plainly (delete_fast (name_of_local (setting_of ex) (place ex.vars x)) (place ex.vars x) o (begun k2 p c.base c.blocks (put now (place ex.vars x) (Some v)))))
      (slice_get-set now.locals (place ex.vars x) (Some v) (omega (arith, below, same))))
      rest cut
      (λ h least done.
      let long : length (slice_set now.locals (place ex.vars x) None) ≡ length ex.vars = length-set now.locals (place ex.vars x) None ∙ same in
      rw (set_local-env_of ex.vars now.locals x None below same)
      (later (put now (place ex.vars x) None) to h event ts (omega (arith, least, fewer, less, most)) long
      (subst (λ (l : List (Option Obj)). From ex h to to c.base c.blocks (record { locals = l; slot = now.slot }) ts) (slice_set-twice now.locals (place ex.vars x) (Some v) None) done)))))
    where
      cut : ts ≡ [] → c.K (set_local x None (env_of ex.vars now.locals)) Normal event ts
      cut none =
          subst (λ (us : List Own). c.K (set_local x None (env_of ex.vars now.locals)) Normal event us) (sym none) (c.lands.pauses (set_local x None (env_of ex.vars now.locals)) Normal event tt)

  -- a jump forwards
  pub jump_run : {scope : Scope} {line at to next : ℕ} → Stands (parts_of ex) scope line at Jump to next → next ≤ to
      → (stack : List Obj) (blocks : List Block) (n : ℕ) (tells : Env → ℕ → List Own → Type 0) → ((env : Env) (event : ℕ) → tells env event [])
      → TellsFrom ex to stack blocks n tells → TellsFrom ex at stack blocks n tells
  jump_run {to = to} {next = next} stands forward stack blocks n tells paused later now last m event ts most same run =
      steps_run ex stands (λ k p b. jumps to (begun k p stack blocks now)) stack blocks now last m ts (λ k p. refl) run
      (λ none. subst (λ (us : List Own). tells (env_of ex.vars now.locals) event us) (sym none) (paused (env_of ex.vars now.locals) event))
      (λ k p j from is_next less step. later now (suc k) j event ts (omega (arith, less, most)) same (ahead ex to k (suc k) p stack blocks now j ts (omega (arith, is_next, forward)) step))

  -- a unit that leaves its blocks for a reason, over the stack that the statement began with
  pub leaves_run : {around : Around} (c : Context ex around) (now then : Now) {scope : Scope} {line at arg to : ℕ} {op : Instruction} → Stands (parts_of ex) scope line at op arg to
      → (r : UnwindReason) (stack : List Obj) (blocks : List Block) (last m event : ℕ) (ts : List Own)
      → Targets around r → m ≤ c.limit → c.low ≤ at → to ≤ c.high → length then.locals ≡ length ex.vars
      → ((k p : ℕ) → act (setting_of ex) op arg (begun k p stack blocks now) ≡ Plainly (unwinds r (begun k p c.base c.blocks then)))
      → From ex m at last stack blocks now ts → c.K (env_of ex.vars then.locals) (outcome_of r) event ts
  leaves_run {around} c now then stands r stack blocks last m event ts targets most low high same unwound run =
      steps_run ex stands (λ k p b. unwinds r (begun k p c.base c.blocks then)) stack blocks now last m ts unwound run
      (λ none. subst (λ (us : List Own). c.K (env_of ex.vars then.locals) (outcome_of r) event us) (sym none)
      (c.lands.pauses (env_of ex.vars then.locals) (outcome_of r) event (targets_may around r targets)))
      (λ k p j from is_next less step.
      c.lands.unwinds r [] k p then j event ts targets (bare_none r) (omega (arith, low, from)) (omega (arith, high, is_next)) (omega (arith, less, most)) same
      (unwinds_left ex r k p c.base c.blocks then j ts step))

  -- what is asked for is raised
  module _ {around : Around} (c : Context ex around) (now : Now) (same : length now.locals ≡ length ex.vars) where
    abbrev env : Env
    env = env_of ex.vars now.locals

    -- an answer that is raised
    pub raised_run : (extra : List Obj) (v : Obj) (k p m event : ℕ) (us : List Own) → c.low ≤ k → k < c.high → m < c.limit
        → Behind ex m (unwinds (Raising (as_exception v)) (begun k p (extra ++ c.base) c.blocks now)) us → c.K env (Raises (as_exception v)) event us
    raised_run extra v k p m event us low high less step =
        c.lands.unwinds (Raising (as_exception v)) extra k p now m event us tt tt low high less same (unwinds_left ex (Raising (as_exception v)) k p (extra ++ c.base) c.blocks now m us step)

    -- what is handled is raised again
    pub reraises_run : {scope : Scope} {line at to : ℕ} → Stands (parts_of ex) scope line at Raise (raise_number kind.Reraise) to → (extra : List Obj) (last m event : ℕ) (ts : List Own)
        → m ≤ c.limit → c.low ≤ at → to ≤ c.high → From ex m at last (extra ++ c.base) c.blocks now ts → Reraises (scene_of ex) line env (handled_in None c.blocks) event ts c.K
    reraises_run stands extra last m event ts most low high run =
        asked_run ex c now same _ (use_passes ex c env _) stands request.Handled (extra ++ c.base) extra last m event ts most low high (λ k p. refl) run
        (λ v i value. c.lands.pauses env (Raises (as_exception v)) i tt)
        (λ v k p j i us from is_next less value left.
        raised_run extra v k p j i us (omega (arith, low, from)) (omega (arith, high, is_next)) (omega (arith, less, most))
        (step_left ex j (unwinds (Raising (as_exception v)) (begun k p (extra ++ c.base) c.blocks now)) us left))
