-- A laid try with a finally runs as that of the tree, however its body is left: its reason, if any, waits in the block.
-- So does the suite of a clause that forgets its name.
use Rattle.std.proofs.Common.{◌≡◌, ◌<◌, ◌≤◌, ℕ, suc, List, [], ◌∷◌, ◌++◌, refl, ap, subst, length, arith}
use Rattle.std.specs.Prelude.{Option, Some, None}
use Rattle.py_code.specs.declared.instruction.Instruction.TheVariants as op
use Rattle.py_objects.specs.Objects.{Obj}
use Rattle.py_objects.specs.Own.{Own}
use Rattle.py_rows.specs.declared.block.Block.{Block}
use Rattle.py_rows.specs.declared.block.BlockType.TheVariants as typ
use Rattle.py_rows.specs.declared.block.UnwindReason.{UnwindReason}
use Rattle.py_rows.specs.declared.block.UnwindReason.TheVariants as reason
use Rattle.py_rows.specs.States.{Goes, Plainly, jumps}
use Rattle.py_rows.specs.Handled.{entered_by, entered_if, handled_in}
use Rattle.py_rows.specs.Unwinding.{unwind, unwinds}
use Rattle.py_tree.specs.Tree.{Name}
use Rattle.py_tree.specs.Binding.{Env}
use Rattle.py_tree.specs.Outcome.{Outcome, Normal, Breaks, Continues, Returns, Raises, Cut, Handled, Runner, Behind_finally, On_finally, Finally, Forgets, Handles}
use Rattle.py_laid.specs.Code.{Around, Scope, before_finally, in_finally, Stands, LaidForget, LaidFinally, LaidHandler}
use Rattle.py_laid.proofs.Env.{env_of}
use Rattle.py_laid.proofs.Decoding.{Now, running, begun, Execution, Behind, TellsFrom, parts_of, silent_run}
use Rattle.py_laid.proofs.Places.{stands_bound, forget_bound}
use Rattle.py_laid.proofs.Lands.{Context, RunsFrom, Pauses, May, Targets, Bare, outcome_of, targets_may, bottom-under, passes, ahead}
use Rattle.py_laid.proofs.Units.{forget_pauses, leaves_run, forget_run}

-- why a finally runs: behind a normal end, or for a reason that the statement may have
abbrev pub TargetsIf : Around → Option UnwindReason → Type 0
TargetsIf around None = Unit {0}
TargetsIf around (Some r) = Targets around r

-- the outcome that it follows
abbrev pub outcome_if : Option UnwindReason → Outcome
outcome_if None = Normal
outcome_if (Some r) = outcome_of r

-- that outcome is one that the statement may have
may_if : (around : Around) (r : Option UnwindReason) → TargetsIf around r → May around (outcome_if r)
may_if around None targets = tt
may_if around (Some r) targets = targets_may around r targets

module _ (ex : Execution) where
  -- ---- a finally, whose code runs as it should, behind a body

  module _ (around : Around) (c : Context ex around) (scope : Scope) (line handler ends to : ℕ) (final : Runner) (runs : RunsFrom ex around handler ends final) (paused : Pauses ex final)
      (end : Stands (parts_of ex) scope line ends op.EndFinally 0 to) (low : c.low ≤ handler) (order : handler ≤ ends) (high : to ≤ c.high)
      (later : TellsFrom ex to c.base c.blocks c.limit (λ env. c.K env Normal)) where
    leaves : ends < to
    leaves = stands_bound (parts_of ex) end

    abbrev h : Handled
    h = handled_in None c.blocks

    -- its block, while it runs
    abbrev handling : Option UnwindReason → Handled → Block
    handling r kept = record { typ = typ.FinallyHandler r kept; level = length c.base }

    -- the frame behind it
    abbrev restored : Now → Handled → Now
    restored now kept = record { locals = now.locals; slot = kept }

    -- behind the finally a telling may be cut
    behind_pauses : (o : Outcome) → May around o → (env : Env) (o2 : Outcome) (event : ℕ) → May around o2 → Behind_finally c.K o env o2 event []
    behind_pauses o may env Normal event may2 = c.lands.pauses env o event may
    behind_pauses o may env Breaks event may2 = c.lands.pauses env Breaks event may2
    behind_pauses o may env Continues event may2 = c.lands.pauses env Continues event may2
    behind_pauses o may env (Returns v) event may2 = c.lands.pauses env (Returns v) event tt
    behind_pauses o may env (Raises e) event may2 = c.lands.pauses env (Raises e) event tt
    behind_pauses o may env Cut event may2 = c.lands.pauses env Cut event tt

    -- a finally that leaves for a reason of its own
    behind_leaves : (o : Outcome) (r : UnwindReason) (env : Env) (event : ℕ) (ts : List Own) → c.K env (outcome_of r) event ts → Behind_finally c.K o env (outcome_of r) event ts
    behind_leaves o (reason.Break t) env event ts told = told
    behind_leaves o (reason.Continue t) env event ts told = told
    behind_leaves o (reason.Returning v) env event ts told = told
    behind_leaves o (reason.Raising e) env event ts told = told

    -- where the finally runs
    abbrev final_context : (r : Option UnwindReason) → Handled → TargetsIf around r → Context ex around
    final_context r kept targets = record {
      low = c.low;
      high = c.high;
      base = c.base;
      blocks = handling r kept ∷ c.blocks;
      limit = c.limit;
      K = Behind_finally c.K (outcome_if r);
      lands = record {
        pauses = behind_pauses (outcome_if r) (may_if around r targets);
        unwinds = λ r2 extra k prefix now m event ts targets2 bare below above less same step.
            behind_leaves (outcome_if r) r2 (env_of ex.vars now.locals) event ts (passes ex c r2 extra k prefix (restored now kept) m event ts targets2 below above less same step);
      };
    }

    -- its end goes on behind it, or with its reason
    ends_run : (r : Option UnwindReason) (kept : Handled) → TargetsIf around r → TellsFrom ex ends c.base (handling r kept ∷ c.blocks) c.limit (λ env. c.K env (outcome_if r))
    ends_run None kept targets now last m event ts few same run =
        silent_run ex end c.base c.base (handling None kept ∷ c.blocks) c.blocks now (restored now kept)
        (λ k p. ap (λ (stack : List Obj). Plainly (Goes (running (suc k) (suc k) 0 stack c.blocks (restored now kept)))) (bottom-under [] c.base))
        c.limit (λ env. c.K env Normal) (λ env i. c.lands.pauses env Normal i tt) later last m event ts few same run
    ends_run (Some r) kept targets now last m event ts few same run =
        leaves_run ex c now (restored now kept) end r c.base (handling (Some r) kept ∷ c.blocks) last m event ts targets few (omega (arith, low, order)) high same
        (λ k p. ap (λ (stack : List Obj). Plainly (unwinds r (begun k p stack c.blocks (restored now kept)))) (bottom-under [] c.base)) run

    -- its code, however it is entered
    handler_run : (r : Option UnwindReason) (kept : Handled) → TargetsIf around r
        → TellsFrom ex handler c.base (handling r kept ∷ c.blocks) c.limit (λ env event ts. final env (entered_if r h) event ts (Behind_finally c.K (outcome_if r)))
    handler_run r kept targets = runs (final_context r kept targets) low (omega (arith, leaves, high)) (ends_run r kept targets)

    -- behind the body

    body_pauses : (env : Env) (o : Outcome) (event : ℕ) → May around o → On_finally final h c.K env o event []
    body_pauses env Normal event may = paused env h event _ (λ env1. c.lands.pauses env1 Normal event tt) (λ env1. c.lands.pauses env1 Cut event tt)
    body_pauses env Breaks event may = paused env h event _ (λ env1. c.lands.pauses env1 Breaks event may) (λ env1. c.lands.pauses env1 Cut event tt)
    body_pauses env Continues event may = paused env h event _ (λ env1. c.lands.pauses env1 Continues event may) (λ env1. c.lands.pauses env1 Cut event tt)
    body_pauses env (Returns v) event may = paused env h event _ (λ env1. c.lands.pauses env1 (Returns v) event tt) (λ env1. c.lands.pauses env1 Cut event tt)
    body_pauses env (Raises e) event may = paused env (Some e) event _ (λ env1. c.lands.pauses env1 (Raises e) event tt) (λ env1. c.lands.pauses env1 Cut event tt)
    body_pauses env Cut event may = c.lands.pauses env Cut event tt

    -- the finally runs behind each reason
    body_leaves : (r : UnwindReason) (env : Env) (event : ℕ) (ts : List Own) → final env (entered_by r h) event ts (Behind_finally c.K (outcome_of r))
        → On_finally final h c.K env (outcome_of r) event ts
    body_leaves (reason.Break t) env event ts told = told
    body_leaves (reason.Continue t) env event ts told = told
    body_leaves (reason.Returning v) env event ts told = told
    body_leaves (reason.Raising e) env event ts told = told

    -- the block of the body
    abbrev guarded : Block
    guarded = record { typ = typ.Finally handler; level = length c.base }

    -- the frame in front of the finally
    abbrev entered : UnwindReason → Now → Now
    entered r now = record { locals = now.locals; slot = entered_by r now.slot }

    -- the body is left, and the finally takes the reason
    body_unwinds : (r : UnwindReason) (extra : List Obj) (k prefix : ℕ) (now : Now) (m event : ℕ) (ts : List Own) → Targets around r → Bare r extra
        → c.low ≤ k → k < handler → m < c.limit → length now.locals ≡ length ex.vars
        → Behind ex m (unwind r (guarded ∷ c.blocks) (begun k prefix (extra ++ c.base) (guarded ∷ c.blocks) now)) ts → On_finally final h c.K (env_of ex.vars now.locals) (outcome_of r) event ts
    body_unwinds r extra k prefix now m event ts targets bare below above less same step =
        body_leaves r (env_of ex.vars now.locals) event ts
        (handler_run (Some r) now.slot targets (entered r now) (suc k) m event ts (omega (arith, less)) same
        (ahead ex handler k (suc k) prefix c.base (handling (Some r) now.slot ∷ c.blocks) (entered r now) m ts above
        (subst (λ (stack : List Obj). Behind ex m (jumps handler (begun k prefix stack (handling (Some r) now.slot ∷ c.blocks) (entered r now))) ts) (bottom-under extra c.base) step)))

    -- where the body runs
    abbrev body_context : Context ex around
    body_context = record {
      low = c.low;
      high = handler;
      base = c.base;
      blocks = guarded ∷ c.blocks;
      limit = c.limit;
      K = On_finally final h c.K;
      lands = record { pauses = body_pauses; unwinds = body_unwinds };
    }

    -- the normal end of the body
    body_ends_run : {inner outer : Scope} {leaves enters : ℕ} → Stands (parts_of ex) inner line leaves op.PopBlock 0 enters → Stands (parts_of ex) outer line enters op.EnterFinally 0 handler
        → TellsFrom ex leaves c.base (guarded ∷ c.blocks) c.limit (λ env. On_finally final h c.K env Normal)
    body_ends_run pops enter now last m event ts few same run =
        silent_run ex pops c.base c.base (guarded ∷ c.blocks) c.blocks now now
        (λ k p. ap (λ (stack : List Obj). Plainly (Goes (running (suc k) (suc k) 0 stack c.blocks now))) (bottom-under [] c.base))
        c.limit (λ env. On_finally final h c.K env Normal) (λ env i. body_pauses env Normal i tt)
        (λ now1 last1 m1 event1 ts1 few1 same1 run1.
        silent_run ex enter c.base c.base c.blocks (handling None now1.slot ∷ c.blocks) now1 now1 (λ k p. refl)
        c.limit (λ env. On_finally final h c.K env Normal) (λ env i. body_pauses env Normal i tt) (handler_run None now1.slot tt) last1 m1 event1 ts1 few1 same1 run1)
        last m event ts few same run

  -- a body, then a finally
  pub finally_run : (around : Around) (scope : Scope) (line at to : ℕ) (body final : Runner) (B F : Scope → ℕ → ℕ → Type 0)
      → ((within : Scope) (from upto : ℕ) → B within from upto → from ≤ upto) → ((within : Scope) (from upto : ℕ) → F within from upto → from ≤ upto) → Pauses ex body → Pauses ex final
      → ((handler from upto : ℕ) → B (before_finally handler scope) from upto → RunsFrom ex around from upto body)
      → ((from upto : ℕ) → F (in_finally scope) from upto → RunsFrom ex around from upto final)
      → LaidFinally (parts_of ex) scope line B F at to → RunsFrom ex around at to (Finally body final)
  finally_run around scope line at to body final B F B_order F_order body_paused final_paused body_runs final_runs
      (begins, leaves, enters, handler, ends, sets, suite, pops, enter, last_suite, end) c low high later now last m event ts most same run =
      let sets_up : at < begins = stands_bound (parts_of ex) sets in
      let order : begins ≤ leaves = B_order (before_finally handler scope) begins leaves suite in
      let popped : leaves < enters = stands_bound (parts_of ex) pops in
      let entered : enters < handler = stands_bound (parts_of ex) enter in
      let order2 : handler ≤ ends = F_order (in_finally scope) handler ends last_suite in
      let after : c.low ≤ handler = omega (arith, low, sets_up, order, popped, entered) in
      let runs : RunsFrom ex around handler ends final = final_runs handler ends last_suite in
      silent_run ex sets c.base c.base c.blocks (record { typ = typ.Finally handler; level = length c.base } ∷ c.blocks) now now (λ k p. refl)
      c.limit (λ env i us. body env (handled_in None c.blocks) i us (On_finally final (handled_in None c.blocks) c.K))
      (λ env i. body_paused env (handled_in None c.blocks) i _
      (λ env1. body_pauses around c (in_finally scope) line handler ends to final runs final_paused end after order2 high later env1 Normal i tt) (λ env1. c.lands.pauses env1 Cut i tt))
      (body_runs handler begins leaves suite (body_context around c (in_finally scope) line handler ends to final runs final_paused end after order2 high later)
      (omega (arith, low, sets_up)) (omega (arith, popped, entered))
      (body_ends_run around c (in_finally scope) line handler ends to final runs final_paused end after order2 high later pops enter))
      last m event ts most same run

  -- the suite of a clause
  pub handler_suite_run : (around : Around) (scope : Scope) (line at to : ℕ) (x : Option Name) (body : Runner) (B : Scope → ℕ → ℕ → Type 0)
      → ((within : Scope) (from upto : ℕ) → B within from upto → from ≤ upto) → Pauses ex body
      → ((from upto : ℕ) → B scope from upto → RunsFrom ex around from upto body) → ((handler from upto : ℕ) → B (before_finally handler scope) from upto → RunsFrom ex around from upto body)
      → LaidHandler (parts_of ex) scope line x B at to → RunsFrom ex around at to (Handles x body)
  handler_suite_run around scope line at to None body B order paused plain guarded laid = plain at to laid
  handler_suite_run around scope line at to (Some x) body B order paused plain guarded laid =
      finally_run around scope line at to body (Forgets x) B (λ within handler ends. LaidForget (parts_of ex) within line x handler ends) order
      (λ within from upto forget. let low : from < upto = forget_bound (parts_of ex) within line x from upto forget in omega (arith, low)) paused (forget_pauses ex x) guarded
      (λ from upto forget. forget_run ex around (in_finally scope) line from upto x forget) laid
