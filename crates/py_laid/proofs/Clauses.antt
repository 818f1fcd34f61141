-- The laid clauses of a try run as those of the tree: each loads its class, asks whether it matches, and takes the exception
-- or leaves it to the next; a body with clauses runs in front of them.
use Rattle.std.proofs.Common.{◌≡◌, ◌<◌, ◌≤◌, ℕ, suc, List, [], ◌∷◌, ◌++◌, Bool, refl, sym, ap, subst, length, arith, le_refl, inl}
use Rattle.std.specs.Prelude.{Option, Some, None}
use Rattle.py_code.specs.declared.instruction.Instruction.TheVariants as op
use Rattle.py_code.specs.declared.operator.TestOperator.TheVariants as test
use Rattle.py_code.specs.declared.operator.RaiseKind.TheVariants as kind
use Rattle.py_code.specs.Numbers.{test_number, raise_number}
use Rattle.py_objects.specs.declared.refs.PyBaseExceptionRef.{PyBaseExceptionRef}
use Rattle.py_objects.specs.declared.request.Request.TheVariants.{Match}
use Rattle.py_objects.specs.Objects.{Obj, as_object}
use Rattle.py_objects.specs.Own.{Own}
use Rattle.py_rows.specs.declared.block.Block.{Block}
use Rattle.py_rows.specs.declared.block.BlockType.TheVariants as typ
use Rattle.py_rows.specs.declared.block.UnwindReason.{UnwindReason}
use Rattle.py_rows.specs.declared.block.UnwindReason.TheVariants as reason
use Rattle.py_rows.specs.States.{Goes, Plainly, jumps}
use Rattle.py_rows.specs.Handled.{handled_in}
use Rattle.py_rows.specs.Unwinding.{unwind}
use Rattle.py_tree.specs.declared.expr.Atom.TheVariants as atom
use Rattle.py_tree.specs.Tree.{Name, TryExcept, Suite, Clauses, no_more, clause}
use Rattle.py_tree.specs.Binding.{Env, bind}
use Rattle.py_tree.specs.Outcome.{Outcome, Normal, Breaks, Continues, Returns, Raises, Cut, Handled, Use, Requests, Tests, By_truth, Handles, On_raise, Runs, RunsSuite, Tries}
use Rattle.py_laid.specs.Code.{Around, Scope, on, in_try, in_clauses, Stands, LaidAtom, LaidTarget, LaidForm, LaidSuite, LaidClauses}
use Rattle.py_laid.proofs.Env.{env_of}
use Rattle.py_laid.proofs.Decoding.{Now, running, begun, Execution, From, Behind, TellsFrom, parts_of, scene_of, goes_run, silent_run}
use Rattle.py_laid.proofs.Places.{stands_bound, atom_bound, target_bound, suite_bound, clauses_bound}
use Rattle.py_laid.proofs.Lands.{Context, RunsFrom, Pauses, May, Targets, Bare, outcome_of, bottom-under, passes, use_passes, ahead}
use Rattle.py_laid.proofs.Asking.{asked_once_run}
use Rattle.py_laid.proofs.Loads.{true_stays, atom_run, tests_run}
use Rattle.py_laid.proofs.Units.{chosen_cut, suite_pauses, tries_pause, target_run, jump_run, reraises_run}

-- the block of the clauses of a try that began over these values
abbrev pub handling : List Obj → PyBaseExceptionRef → Handled → Block
handling base e kept = record { typ = typ.ExceptHandler e kept; level = length base }

module _ (ex : Execution) {around : Around} (c : Context ex around) (e : PyBaseExceptionRef) (kept : Handled) where
  -- what runs from a place while they handle the exception, which lies on the stack
  abbrev pub TriesFrom : ℕ → ℕ → Clauses → Type 0
  TriesFrom at line cs = TellsFrom ex at (as_object e ∷ c.base) (handling c.base e kept ∷ c.blocks) c.limit (λ env event ts. Tries (scene_of ex) line cs e env (Some e) event ts c.K)

  -- the frame behind them
  abbrev restored : Now → Now
  restored now = record { locals = now.locals; slot = kept }

  -- where they run
  abbrev handler_context : Context ex around
  handler_context = record {
    low = c.low;
    high = c.high;
    base = c.base;
    blocks = handling c.base e kept ∷ c.blocks;
    limit = c.limit;
    K = c.K;
    lands = record {
      pauses = c.lands.pauses;
      unwinds = λ r extra k prefix now m event ts targets bare below above less same step. passes ex c r extra k prefix (restored now) m event ts targets below above less same step;
    };
  }

  -- where no clause is left
  pub no_more_run : (scope : Scope) (line at to : ℕ) → Stands (parts_of ex) scope line at op.Raise (raise_number kind.Reraise) to → c.low ≤ at → to ≤ c.high → TriesFrom at line no_more
  no_more_run scope line at to stands low high now last m event ts most same run = reraises_run ex handler_context now same stands (as_object e ∷ []) last m event ts most low high run

  -- a clause, whose suite runs as it should, in front of others
  module _ (scope : Scope) (line at to n : ℕ) (class : Name) (x : Option Name) (s : Suite) (more : Clauses) (loads asks decides binds begins leaves jumps_over other : ℕ)
      (duplicate : Stands (parts_of ex) (on (in_clauses scope)) n at op.Duplicate 0 loads) (load : LaidAtom (parts_of ex) (on (on (in_clauses scope))) n (atom.Name class) loads asks)
      (matches : Stands (parts_of ex) (on (on (on (in_clauses scope)))) n asks op.TestOperation (test_number test.ExceptionMatch) decides)
      (decide : Stands (parts_of ex) (on (on (in_clauses scope))) n decides op.JumpIfFalse other binds) (binding : LaidTarget (parts_of ex) (in_clauses scope) n x binds begins)
      (pop : Stands (parts_of ex) (in_clauses scope) n leaves op.PopException 0 jumps_over) (leave : Stands (parts_of ex) scope n jumps_over op.Jump to other)
      (order : begins ≤ leaves) (behind : other ≤ to) (low : c.low ≤ at) (high : to ≤ c.high) (paused : Pauses ex (Handles x (RunsSuite (scene_of ex) s)))
      (runs : RunsFrom ex around begins leaves (Handles x (RunsSuite (scene_of ex) s)))
      (others : c.low ≤ other → TriesFrom other line more)
      (later : TellsFrom ex to c.base c.blocks c.limit (λ env. c.K env Normal)) where
    duplicates : at < loads
    duplicates = stands_bound (parts_of ex) duplicate

    names_class : loads < asks
    names_class = atom_bound (parts_of ex) (on (on (in_clauses scope))) n (atom.Name class) loads asks load

    matches_it : asks < decides
    matches_it = stands_bound (parts_of ex) matches

    chooses : decides < binds
    chooses = stands_bound (parts_of ex) decide

    binds_it : binds < begins
    binds_it = target_bound (parts_of ex) (in_clauses scope) n x binds begins binding

    pops_it : leaves < jumps_over
    pops_it = stands_bound (parts_of ex) pop

    jumps_off : jumps_over < other
    jumps_off = stands_bound (parts_of ex) leave

    -- what follows its test
    abbrev Chosen : Env → Bool → ℕ → List Own → Type 0
    Chosen env b i mid = By_truth b (Handles x (RunsSuite (scene_of ex) s) (bind x (as_object e) env) (Some e) i mid c.K) (Tries (scene_of ex) line more e env (Some e) i mid c.K)

    -- it may be cut there
    chosen_pauses : (env : Env) (b : Bool) (i : ℕ) → Chosen env b i []
    chosen_pauses env b i =
        chosen_cut (Handles x (RunsSuite (scene_of ex) s) (bind x (as_object e) env) (Some e) i [] c.K) (Tries (scene_of ex) line more e env (Some e) i [] c.K)
        (paused (bind x (as_object e) env) (Some e) i c.K (λ env1. c.lands.pauses env1 Normal i tt) (λ env1. c.lands.pauses env1 Cut i tt))
        (tries_pause ex line more e env (Some e) i c.K (c.lands.pauses env Cut i tt)) b

    -- the end of its suite
    leaves_clause : TellsFrom ex leaves c.base (handling c.base e kept ∷ c.blocks) c.limit (λ env. c.K env Normal)
    leaves_clause now last m event ts few same run =
        silent_run ex pop c.base c.base (handling c.base e kept ∷ c.blocks) c.blocks now (restored now)
        (λ k p. ap (λ (stack : List Obj). Plainly (Goes (running (suc k) (suc k) 0 stack c.blocks (restored now)))) (bottom-under [] c.base))
        c.limit (λ env. c.K env Normal) (λ env i. c.lands.pauses env Normal i tt)
        (jump_run ex leave behind c.base c.blocks c.limit (λ env. c.K env Normal) (λ env i. c.lands.pauses env Normal i tt) later) last m event ts few same run

    -- its suite, behind the binding of its name
    suite_from : (now : Now) (last m event : ℕ) (ts : List Own) → m ≤ c.limit → length now.locals ≡ length ex.vars
        → From ex m binds last (as_object e ∷ c.base) (handling c.base e kept ∷ c.blocks) now ts
        → Handles x (RunsSuite (scene_of ex) s) (bind x (as_object e) (env_of ex.vars now.locals)) (Some e) event ts c.K
    suite_from now last m event ts few same run =
        target_run ex (in_clauses scope) n binds begins x binding (as_object e) c.base (handling c.base e kept ∷ c.blocks) now c.limit
        (λ env1 i us. Handles x (RunsSuite (scene_of ex) s) env1 (Some e) i us c.K)
        (λ env1 i. paused env1 (Some e) i c.K (λ env2. c.lands.pauses env2 Normal i tt) (λ env2. c.lands.pauses env2 Cut i tt))
        (runs handler_context (omega (arith, low, duplicates, names_class, matches_it, chooses, binds_it)) (omega (arith, high, behind, pops_it, jumps_off)) leaves_clause) last m event ts few same run

    -- the whole clause
    pub clause_run : TriesFrom at line (clause n class x s more)
    clause_run now last m event ts most same run =
        let env : Env = env_of ex.vars now.locals in
        goes_run ex duplicate (as_object e ∷ c.base) (as_object e ∷ as_object e ∷ c.base) (handling c.base e kept ∷ c.blocks) (handling c.base e kept ∷ c.blocks) now now last m ts (λ k p. refl) run
        (λ none. subst (λ (us : List Own). Tries (scene_of ex) line (clause n class x s more) e env (Some e) event us c.K) (sym none)
        (tries_pause ex line (clause n class x s more) e env (Some e) event c.K (c.lands.pauses env Cut event tt)))
        (λ j less more1.
        atom_run ex handler_context now same
        (Use env c.K (λ v i mid. Requests (scene_of ex) n (Match (as_object e) v) (Some e) i mid (Use env c.K (λ w g mid2. Tests (scene_of ex) n env (Some e) w g mid2 c.K (Chosen env)))))
        (use_passes ex handler_context env _)
        (on (on (in_clauses scope))) n loads asks (as_object e ∷ as_object e ∷ []) loads j event ts (omega (arith, less, most)) (omega (arith, low, duplicates))
        (omega (arith, high, behind, matches_it, chooses, binds_it, order, pops_it, jumps_off)) more1
        (λ v i. inl (refl, c.lands.pauses env Cut i tt))
        (λ v g i us fewer more2.
        asked_once_run ex handler_context now same (Use env c.K (λ w l mid2. Tests (scene_of ex) n env (Some e) w l mid2 c.K (Chosen env))) (use_passes ex handler_context env _)
        matches (Match (as_object e) v) (v ∷ as_object e ∷ as_object e ∷ c.base) (as_object e ∷ []) asks g i us
        (omega (arith, fewer, less, most)) (omega (arith, low, duplicates, names_class)) (omega (arith, high, behind, chooses, binds_it, order, pops_it, jumps_off)) (λ k p. refl) more2
        (λ w. w ∷ as_object e ∷ c.base) (λ k p w. refl)
        (λ w l. inl (refl, c.lands.pauses env Cut l tt))
        (λ w q l rest least more3.
        tests_run ex handler_context now same (Chosen env) binds other (as_object e ∷ []) q (omega (arith, least, fewer, less, most))
        (omega (arith, binds_it, order, pops_it, jumps_off)) (omega (arith, high, behind, binds_it, order, pops_it, jumps_off))
        (chosen_pauses env)
        (λ l2 d i2 vs down more4. suite_from now l2 d i2 vs (omega (arith, down, least, fewer, less, most)) same more4)
        (λ l2 d i2 vs down more4.
        others (omega (arith, low, duplicates, names_class, matches_it, chooses, binds_it, order, pops_it, jumps_off)) now l2 d i2 vs (omega (arith, down, least, fewer, less, most)) same more4)
        (λ b. b) (true_stays ex) decide w decides q l rest (le_refl q) (omega (arith, low, duplicates, names_class, matches_it)) more3)) (atom.Name class) load)

module _ (ex : Execution) where
  -- ---- a body, then clauses, which run as they should

  module _ (around : Around) (c : Context ex around) (line handler to : ℕ) (cs : Clauses) (low : c.low ≤ handler) (high : handler ≤ c.high)
      (clauses : (e : PyBaseExceptionRef) (kept : Handled) → TriesFrom ex c e kept handler line cs) where
    -- what follows where the body raised
    abbrev caught : PyBaseExceptionRef → Env → ℕ → List Own → Type 0
    caught e env event mid = Tries (scene_of ex) line cs e env (Some e) event mid c.K

    -- behind the body a telling may be cut
    body_pauses : (env : Env) (o : Outcome) (event : ℕ) → May around o → On_raise c.K caught env o event []
    body_pauses env Normal event may = c.lands.pauses env Normal event tt
    body_pauses env Breaks event may = c.lands.pauses env Breaks event may
    body_pauses env Continues event may = c.lands.pauses env Continues event may
    body_pauses env (Returns v) event may = c.lands.pauses env (Returns v) event tt
    body_pauses env (Raises e) event may = tries_pause ex line cs e env (Some e) event c.K (c.lands.pauses env Cut event tt)
    body_pauses env Cut event may = c.lands.pauses env Cut event tt

    -- the block of the body
    abbrev guarded : Block
    guarded = record { typ = typ.TryExcept handler; level = length c.base }

    -- the frame in front of the clauses
    abbrev entered : PyBaseExceptionRef → Now → Now
    entered e now = record { locals = now.locals; slot = Some e }

    -- the body is left: the clauses take what is raised, and every other reason passes
    body_unwinds : (r : UnwindReason) (extra : List Obj) (k prefix : ℕ) (now : Now) (m event : ℕ) (ts : List Own) → Targets around r → Bare r extra
        → c.low ≤ k → k < handler → m < c.limit → length now.locals ≡ length ex.vars
        → Behind ex m (unwind r (guarded ∷ c.blocks) (begun k prefix (extra ++ c.base) (guarded ∷ c.blocks) now)) ts → On_raise c.K caught (env_of ex.vars now.locals) (outcome_of r) event ts
    body_unwinds (reason.Break t) extra k prefix now m event ts targets bare below above less same step =
        passes ex c (reason.Break t) extra k prefix now m event ts targets below (omega (arith, above, high)) less same step
    body_unwinds (reason.Continue t) extra k prefix now m event ts targets bare below above less same step =
        passes ex c (reason.Continue t) extra k prefix now m event ts targets below (omega (arith, above, high)) less same step
    body_unwinds (reason.Returning v) extra k prefix now m event ts targets bare below above less same step =
        passes ex c (reason.Returning v) extra k prefix now m event ts tt below (omega (arith, above, high)) less same step
    body_unwinds (reason.Raising e) extra k prefix now m event ts targets bare below above less same step =
        clauses e now.slot (entered e now) (suc k) m event ts (omega (arith, less)) same
        (ahead ex handler k (suc k) prefix (as_object e ∷ c.base) (handling c.base e now.slot ∷ c.blocks) (entered e now) m ts above
        (subst (λ (stack : List Obj). Behind ex m (jumps handler (begun k prefix (as_object e ∷ stack) (handling c.base e now.slot ∷ c.blocks) (entered e now))) ts) (bottom-under extra c.base) step))

    -- where the body runs
    abbrev body_context : Context ex around
    body_context = record {
      low = c.low;
      high = handler;
      base = c.base;
      blocks = guarded ∷ c.blocks;
      limit = c.limit;
      K = On_raise c.K caught;
      lands = record { pauses = body_pauses; unwinds = body_unwinds };
    }

    -- the normal end of the body
    body_ends_run : {inner outer : Scope} {leaves over : ℕ} → handler ≤ to → Stands (parts_of ex) inner line leaves op.PopBlock 0 over → Stands (parts_of ex) outer line over op.Jump to handler
        → TellsFrom ex to c.base c.blocks c.limit (λ env. c.K env Normal) → TellsFrom ex leaves c.base (guarded ∷ c.blocks) c.limit (λ env. c.K env Normal)
    body_ends_run forward pops jump later now last m event ts few same run =
        silent_run ex pops c.base c.base (guarded ∷ c.blocks) c.blocks now now
        (λ k p. ap (λ (stack : List Obj). Plainly (Goes (running (suc k) (suc k) 0 stack c.blocks now))) (bottom-under [] c.base))
        c.limit (λ env. c.K env Normal) (λ env i. c.lands.pauses env Normal i tt)
        (jump_run ex jump forward c.base c.blocks c.limit (λ env. c.K env Normal) (λ env i. c.lands.pauses env Normal i tt) later) last m event ts few same run

  -- a try with clauses
  pub except_run : (scope : Scope) (line at to : ℕ) (s : Suite) (cs : Clauses)
      → ((handler begins leaves : ℕ) → LaidSuite (parts_of ex) (in_try handler scope) s begins leaves → RunsFrom ex scope.around begins leaves (RunsSuite (scene_of ex) s))
      → ((handler : ℕ) → LaidClauses (parts_of ex) scope line cs handler to → (c : Context ex scope.around) (e : PyBaseExceptionRef) (kept : Handled) → c.low ≤ handler → to ≤ c.high
      → TellsFrom ex to c.base c.blocks c.limit (λ env. c.K env Normal) → TriesFrom ex c e kept handler line cs)
      → LaidForm (parts_of ex) scope line (TryExcept s cs) at to → RunsFrom ex scope.around at to (Runs (scene_of ex) line (TryExcept s cs))
  except_run scope line at to s cs runs others (begins, leaves, over, handler, sets, suite, pops, jump, laid) c low high later now last m event ts most same run =
      let sets_up : at < begins = stands_bound (parts_of ex) sets in
      let order : begins ≤ leaves = suite_bound (parts_of ex) (in_try handler scope) s begins leaves suite in
      let popped : leaves < over = stands_bound (parts_of ex) pops in
      let left : over < handler = stands_bound (parts_of ex) jump in
      let forward : handler ≤ to = clauses_bound (parts_of ex) scope line cs handler to laid in
      let below : c.low ≤ handler = omega (arith, low, sets_up, order, popped, left) in
      let above : handler ≤ c.high = omega (arith, forward, high) in
      silent_run ex sets c.base c.base c.blocks (record { typ = typ.TryExcept handler; level = length c.base } ∷ c.blocks) now now (λ k p. refl)
      c.limit (λ env i us. RunsSuite (scene_of ex) s env (handled_in None c.blocks) i us (On_raise c.K (λ e env1 l mid. Tries (scene_of ex) line cs e env1 (Some e) l mid c.K)))
      (λ env i. suite_pauses ex s env (handled_in None c.blocks) i _ (λ env1. c.lands.pauses env1 Normal i tt) (λ env1. c.lands.pauses env1 Cut i tt))
      (runs handler begins leaves suite (body_context scope.around c line handler to cs below above (λ e kept. others handler laid c e kept below high later))
      (omega (arith, low, sets_up)) (omega (arith, popped, left))
      (body_ends_run scope.around c line handler to cs below above (λ e kept. others handler laid c e kept below high later) forward pops jump later))
      last m event ts most same run
