-- What follows a statement, for each of its outcomes: where its blocks are left for a reason, what runs there tells what the
-- reason's outcome may tell.
use Rattle.std.proofs.Common.{◌≡◌, ◌-◌, ◌<◌, ◌≤◌, ℕ, List, [], ◌∷◌, ◌++◌, Bool, cond, refl, ap, ◌∙◌, subst, length, drop, arith, length-append}
use Rattle.std.proofs.Math.Seq.{drop-append_seam}
use Rattle.std.specs.Prelude.{None, Some}
use Rattle.std.proofs.lemmas.Bool.{lt-ltb, le-ltb}
use Rattle.py_code.specs.Bottom.{bottom}
use Rattle.py_objects.specs.declared.refs.PyBaseExceptionRef.{PyBaseExceptionRef}
use Rattle.py_objects.specs.Objects.{Obj}
use Rattle.py_objects.specs.Own.{Own, Rounds}
use Rattle.py_objects.specs.Telling.{AfterValue, Failed, Stopped}
use Rattle.py_rows.specs.declared.block.Block.{Block}
use Rattle.py_rows.specs.declared.block.UnwindReason.{UnwindReason}
use Rattle.py_rows.specs.declared.block.UnwindReason.TheVariants.{Break, Continue, Returning, Raising}
use Rattle.py_rows.specs.States.{Goes, Tells, jumps}
use Rattle.py_rows.specs.Handled.{handled_in}
use Rattle.py_rows.specs.Unwinding.{unwind}
use Rattle.py_tree.specs.Binding.{Env}
use Rattle.py_tree.specs.Outcome.{Outcome, Normal, Breaks, Continues, Returns, Raises, Cut, Handled, After, Runner, With, Use}
use Rattle.py_laid.specs.Code.{Around}
use Rattle.py_laid.proofs.Decoding.{Now, running, begun, Execution, Behind, From, TellsFrom}
use Rattle.py_laid.proofs.Env.{env_of}

-- the outcome that a reason is of
abbrev pub outcome_of : UnwindReason → Outcome
outcome_of (Break to) = Breaks
outcome_of (Continue to) = Continues
outcome_of (Returning v) = Returns v
outcome_of (Raising e) = Raises e

-- a statement is inside of a loop
abbrev pub IsInLoop : Around → Type 0
IsInLoop None = ⊥
IsInLoop (Some l) = Unit {0}

-- an outcome that a statement may have, by the loop around it
abbrev pub May : Around → Outcome → Type 0
May around Normal = Unit {0}
May around Breaks = IsInLoop around
May around Continues = IsInLoop around
May around (Returns v) = Unit {0}
May around (Raises e) = Unit {0}
May around Cut = Unit {0}

-- a reason for which a statement may leave its blocks, by the loop around it: a label is one of that loop's
abbrev pub Targets : Around → UnwindReason → Type 0
Targets None (Break to) = ⊥
Targets (Some l) (Break to) = to ≡ l.stop
Targets None (Continue to) = ⊥
Targets (Some l) (Continue to) = to ≡ l.again
Targets around (Returning v) = Unit {0}
Targets around (Raising e) = Unit {0}

-- for what reasons values may lie on the stack that belong to no block: a loop that goes on keeps its stack
abbrev pub Bare : UnwindReason → List Obj → Type 0
Bare (Break to) extra = Unit {0}
Bare (Continue to) extra = extra ≡ []
Bare (Returning v) extra = Unit {0}
Bare (Raising e) extra = Unit {0}

-- the outcome of a reason is one that the statement may have
pub targets_may : (around : Around) (r : UnwindReason) → Targets around r → May around (outcome_of r)
targets_may None (Break to) is = absurd is
targets_may (Some l) (Break to) is = tt
targets_may None (Continue to) is = absurd is
targets_may (Some l) (Continue to) is = tt
targets_may around (Returning v) is = tt
targets_may around (Raising e) is = tt

-- blocks may be left for every reason where no value lies above
pub bare_none : (r : UnwindReason) → Bare r []
bare_none (Break to) = tt
bare_none (Continue to) = refl
bare_none (Returning v) = tt
bare_none (Raising e) = tt

-- ---- stacks

-- what lies under values
pub bottom-under : (extra base : List Obj) → bottom (length base) (extra ++ base) ≡ base
bottom-under extra base =
    let above : length (extra ++ base) - length base ≡ length extra = omega (arith, length-append extra base) in
    ap (λ (n : ℕ). drop n (extra ++ base)) above ∙ drop-append_seam extra base

module _ (ex : Execution) where
  -- what follows statements of a loop whose units stand from `low` on and in front of `high`, which begin with this stack and these
  -- blocks, in a run of so many steps: it may be cut at its front, and it holds where the blocks are left
  pub record Lands (around : Around) (low high : ℕ) (base : List Obj) (blocks : List Block) (n : ℕ) (K : After) : Type 0 where
    pub pauses : (env : Env) (o : Outcome) (event : ℕ) → May around o → K env o event []
    pub unwinds : (r : UnwindReason) (extra : List Obj) (k prefix : ℕ) (now : Now) (m event : ℕ) (ts : List Own) → Targets around r → Bare r extra
        → low ≤ k → k < high → m < n → length now.locals ≡ length ex.vars
        → Behind ex m (unwind r blocks (begun k prefix (extra ++ base) blocks now)) ts → K (env_of ex.vars now.locals) (outcome_of r) event ts

  -- where a statement runs
  pub record Context (around : Around) : Type 1 where
    pub low : ℕ
    pub high : ℕ
    pub base : List Obj
    pub blocks : List Block
    pub limit : ℕ
    pub K : After
    pub lands : Lands around low high base blocks limit K

  -- the exception that is handled there
  abbrev pub handled : {around : Around} → Context around → Handled
  handled c = handled_in None c.blocks

  -- what runs from one place to another tells what the body may tell in front of whatever follows
  abbrev pub RunsFrom : Around → ℕ → ℕ → Runner → Type 1
  RunsFrom around at next body = (c : Context around) → c.low ≤ at → next ≤ c.high → TellsFrom ex next c.base c.blocks c.limit (λ env. c.K env Normal)
      → TellsFrom ex at c.base c.blocks c.limit (λ env event ts. body env (handled_in None c.blocks) event ts c.K)

  -- a body may be cut at its front
  abbrev pub Pauses : Runner → Type 1
  Pauses body = (env : Env) (h : Handled) (event : ℕ) (K : After) → ((env1 : Env) → K env1 Normal event []) → ((env1 : Env) → K env1 Cut event []) → body env h event [] K

  module _ {around : Around} (c : Context around) where
    -- blocks are left further outwards
    pub passes : (r : UnwindReason) (extra : List Obj) (k prefix : ℕ) (now : Now) (m event : ℕ) (ts : List Own) → Targets around r
        → c.low ≤ k → k < c.high → m < c.limit → length now.locals ≡ length ex.vars
        → Behind ex m (unwind r c.blocks (begun k prefix (bottom (length c.base) (extra ++ c.base)) c.blocks now)) ts → c.K (env_of ex.vars now.locals) (outcome_of r) event ts
    passes r extra k prefix now m event ts targets low high less same step =
        c.lands.unwinds r [] k prefix now m event ts targets (bare_none r) low high less same
        (subst (λ (stack : List Obj). Behind ex m (unwind r c.blocks (begun k prefix stack c.blocks now)) ts) (bottom-under extra c.base) step)

    -- what follows a value, where what comes in its place is the statement's end
    pub record PassesOn (env : Env) (V : AfterValue) : Type 0 where
      pub stopped : (event : ℕ) → V Stopped event []
      pub failed : (e : PyBaseExceptionRef) (event : ℕ) (ts : List Own) → c.K env (Raises e) event ts → V (Failed e) event ts

    -- so it is in the statement itself
    pub use_passes : (env : Env) (next : Obj → ℕ → List Own → Type 0) → PassesOn env (Use env c.K next)
    use_passes env next = record { stopped = λ event. c.lands.pauses env Cut event tt; failed = λ e event ts told. told }

    -- and in an expression that has more parts
    pub with_passes : (env : Env) (V : AfterValue) (next : Obj → ℕ → List Own → Type 0) → PassesOn env V → PassesOn env (With V next)
    with_passes env V next passes = record { stopped = passes.stopped; failed = passes.failed }

  -- a jump forwards is silent
  pub ahead : (to k last prefix : ℕ) (stack : List Obj) (blocks : List Block) (now : Now) (m : ℕ) (ts : List Own) → k < to
      → Behind ex m (jumps to (running k last prefix stack blocks now)) ts → From ex m to last stack blocks now ts
  ahead to k last prefix stack blocks now m ts forward step =
      subst (λ (b : Bool). Behind ex m (cond b (Goes (running to last 0 stack blocks now)) (Tells (Rounds k) (running to last 0 stack blocks now))) ts) (lt-ltb k to forward) step

  -- a jump backwards is a round
  pub back : (to k last prefix : ℕ) (stack : List Obj) (blocks : List Block) (now : Now) (m : ℕ) (ts : List Own) → to ≤ k
      → Behind ex m (jumps to (running k last prefix stack blocks now)) ts → (mid : List Own) × (ts ≡ Rounds k ∷ mid) × From ex m to last stack blocks now mid
  back to k last prefix stack blocks now m ts backward step =
      subst (λ (b : Bool). Behind ex m (cond b (Goes (running to last 0 stack blocks now)) (Tells (Rounds k) (running to last 0 stack blocks now))) ts) (le-ltb k to backward) step
