-- A laid loop runs as that of the tree: a run of so many steps begins at most as many turns, which is shown by their number.
-- A break lands behind the loop, and a continue at its test, as the jump back does.
use Rattle.std.proofs.Common.{◌≡◌, ◌<◌, ◌≤◌, ℕ, zero, suc, List, [], ◌∷◌, ◌++◌, refl, sym, ap, subst, length, arith, le_refl, inr}
use Rattle.std.specs.Prelude.{Some, None}
use Rattle.py_code.specs.declared.instruction.Instruction.TheVariants as op
use Rattle.py_objects.specs.Objects.{Obj}
use Rattle.py_objects.specs.Own.{Own, Rounds}
use Rattle.py_rows.specs.declared.block.Block.{Block}
use Rattle.py_rows.specs.declared.block.BlockType.TheVariants as typ
use Rattle.py_rows.specs.declared.block.UnwindReason.{UnwindReason}
use Rattle.py_rows.specs.declared.block.UnwindReason.TheVariants as reason
use Rattle.py_rows.specs.States.{Goes, Tells, Plainly, jumps}
use Rattle.py_rows.specs.Handled.{handled_in}
use Rattle.py_rows.specs.Unwinding.{unwind}
use Rattle.py_tree.specs.Tree.{Expr, While, Suite}
use Rattle.py_tree.specs.Binding.{Env}
use Rattle.py_tree.specs.Outcome.{Outcome, Normal, Breaks, Continues, Returns, Raises, Cut, Handled, After, Runner, By_truth, On_turn, Loops, Runs, RunsSuite}
use Rattle.py_laid.specs.Code.{Around, Labels, Scope, on, in_loop, Stands, LaidExpr, LaidForm, LaidSuite}
use Rattle.py_laid.proofs.Env.{env_of}
use Rattle.py_laid.proofs.Decoding.{Now, running, begun, Execution, Behind, From, TellsFrom, parts_of, scene_of, steps_run, silent_run}
use Rattle.py_laid.proofs.Places.{stands_bound, expr_bound, suite_bound}
use Rattle.py_laid.proofs.Lands.{Context, RunsFrom, Pauses, May, Targets, Bare, outcome_of, bottom-under, passes, ahead, back}
use Rattle.py_laid.proofs.Loads.{true_stays}
use Rattle.py_laid.proofs.Operating.{chooses_run}
use Rattle.py_laid.proofs.Units.{chosen_cut, cut_loop, suite_pauses}

module _ (ex : Execution) where
  -- a loop whose suite runs as it should, inside of others
  module _ (around : Around) (c : Context ex around) (scope : Scope) (line tests asks begins repeats ends to : ℕ) (a : Expr) (body : Runner)
      (loads : LaidExpr (parts_of ex) (in_loop (record { stop = to; again = tests }) scope) line a tests asks)
      (choice : Stands (parts_of ex) (on (in_loop (record { stop = to; again = tests }) scope)) line asks op.JumpIfFalse ends begins)
      (repeat : Stands (parts_of ex) (in_loop (record { stop = to; again = tests }) scope) line repeats op.Jump tests ends)
      (pops : Stands (parts_of ex) (in_loop (record { stop = to; again = tests }) scope) line ends op.PopBlock 0 to)
      (low : c.low ≤ tests) (order : begins ≤ repeats) (high : to ≤ c.high) (paused : Pauses ex body)
      (runs : RunsFrom ex (Some (record { stop = to; again = tests })) begins repeats body)
      (later : TellsFrom ex to c.base c.blocks c.limit (λ env. c.K env Normal)) where
    first : tests < asks
    first = expr_bound (parts_of ex) a (in_loop (record { stop = to; again = tests }) scope) line tests asks loads

    enters : asks < begins
    enters = stands_bound (parts_of ex) choice

    jumps_back : repeats < ends
    jumps_back = stands_bound (parts_of ex) repeat

    leaves : ends < to
    leaves = stands_bound (parts_of ex) pops

    -- the block of the loop
    abbrev held : Block
    held = record { typ = typ.Loop; level = length c.base }

    abbrev h : Handled
    h = handled_in None c.blocks

    -- the end of the loop
    ends_run : TellsFrom ex ends c.base (held ∷ c.blocks) c.limit (λ env. c.K env Normal)
    ends_run now last m event ts few same run =
        silent_run ex pops c.base c.base (held ∷ c.blocks) c.blocks now now (λ k p. ap (λ (stack : List Obj). Plainly (Goes (running (suc k) (suc k) 0 stack c.blocks now))) (bottom-under [] c.base))
        c.limit (λ env. c.K env Normal) (λ env i. c.lands.pauses env Normal i tt) later last m event ts few same run

    -- what may follow the body, behind which at most n more turns are begun
    abbrev turns : ℕ → After
    turns n = On_turn c.K (λ env i rest. Loops (scene_of ex) line a body n env h i rest c.K)

    -- a run of fewer than n steps from the test begins at most n turns
    abbrev FromTest : ℕ → Type 0
    FromTest n = (at : ℕ) (now : Now) (last m event : ℕ) (ts : List Own) → m < n → length now.locals ≡ length ex.vars → From ex m tests last c.base (held ∷ c.blocks) now ts
        → Loops (scene_of ex) line a body n (env_of ex.vars now.locals) h event (Rounds at ∷ ts) c.K

    -- behind the test a telling may be cut
    test_pauses : (env : Env) (o : Outcome) (event : ℕ) → May None o → c.K env o event []
    test_pauses env Normal event may = c.lands.pauses env Normal event tt
    test_pauses env Breaks event may = absurd may
    test_pauses env Continues event may = absurd may
    test_pauses env (Returns v) event may = c.lands.pauses env (Returns v) event tt
    test_pauses env (Raises e) event may = c.lands.pauses env (Raises e) event tt
    test_pauses env Cut event may = c.lands.pauses env Cut event tt

    -- the test is left by a raise alone
    test_unwinds : (r : UnwindReason) (extra : List Obj) (k prefix : ℕ) (now : Now) (m event : ℕ) (ts : List Own) → Targets None r → Bare r extra
        → c.low ≤ k → k < c.high → m < c.limit → length now.locals ≡ length ex.vars
        → Behind ex m (unwind r (held ∷ c.blocks) (begun k prefix (extra ++ c.base) (held ∷ c.blocks) now)) ts → c.K (env_of ex.vars now.locals) (outcome_of r) event ts
    test_unwinds (reason.Break t) extra k prefix now m event ts targets bare below above less same step = absurd targets
    test_unwinds (reason.Continue t) extra k prefix now m event ts targets bare below above less same step = absurd targets
    test_unwinds (reason.Returning v) extra k prefix now m event ts targets bare below above less same step =
        passes ex c (reason.Returning v) extra k prefix now m event ts tt below above less same step
    test_unwinds (reason.Raising e) extra k prefix now m event ts targets bare below above less same step = passes ex c (reason.Raising e) extra k prefix now m event ts tt below above less same step

    -- where the test runs
    abbrev test_context : Context ex None
    test_context = record {
      low = c.low;
      high = c.high;
      base = c.base;
      blocks = held ∷ c.blocks;
      limit = c.limit;
      K = c.K;
      lands = record { pauses = test_pauses; unwinds = test_unwinds };
    }

    module _ (n : ℕ) (few : n ≤ c.limit) (again : FromTest n) where
      -- behind the body a telling may be cut
      turn_pauses : (env : Env) (o : Outcome) (event : ℕ) → May (Some (record { stop = to; again = tests })) o → turns n env o event []
      turn_pauses env Normal event may = cut_loop (scene_of ex) line a body n env h event [] c.K (c.lands.pauses env Cut event tt) refl
      turn_pauses env Breaks event may = c.lands.pauses env Normal event tt
      turn_pauses env Continues event may = cut_loop (scene_of ex) line a body n env h event [] c.K (c.lands.pauses env Cut event tt) refl
      turn_pauses env (Returns v) event may = c.lands.pauses env (Returns v) event tt
      turn_pauses env (Raises e) event may = c.lands.pauses env (Raises e) event tt
      turn_pauses env Cut event may = c.lands.pauses env Cut event tt

      -- the jump back to the test, or a continue
      round_run : (k prefix : ℕ) (now : Now) (m event : ℕ) (ts : List Own) → tests ≤ k → m < n → length now.locals ≡ length ex.vars
          → Behind ex m (jumps tests (begun k prefix c.base (held ∷ c.blocks) now)) ts → Loops (scene_of ex) line a body n (env_of ex.vars now.locals) h event ts c.K
      round_run k prefix now m event ts below less same step =
          let (mid, is, rest) = back ex tests k (suc k) prefix c.base (held ∷ c.blocks) now m ts below step in
          subst (λ (us : List Own). Loops (scene_of ex) line a body n (env_of ex.vars now.locals) h event us c.K) (sym is) (again k now (suc k) m event mid less same rest)

      -- the body is left
      turn_unwinds : (r : UnwindReason) (extra : List Obj) (k prefix : ℕ) (now : Now) (m event : ℕ) (ts : List Own) → Targets (Some (record { stop = to; again = tests })) r → Bare r extra
          → tests ≤ k → k < repeats → m < n → length now.locals ≡ length ex.vars
          → Behind ex m (unwind r (held ∷ c.blocks) (begun k prefix (extra ++ c.base) (held ∷ c.blocks) now)) ts → turns n (env_of ex.vars now.locals) (outcome_of r) event ts
      turn_unwinds (reason.Break t) extra k prefix now m event ts targets bare below above less same step =
          later now (suc k) m event ts (omega (arith, less, few)) same
          (ahead ex to k (suc k) prefix c.base c.blocks now m ts (omega (arith, above, jumps_back, leaves))
          (subst (λ (label : ℕ). Behind ex m (jumps label (begun k prefix c.base c.blocks now)) ts) targets
          (subst (λ (stack : List Obj). Behind ex m (jumps t (begun k prefix stack c.blocks now)) ts) (bottom-under extra c.base) step)))
      turn_unwinds (reason.Continue t) extra k prefix now m event ts targets bare below above less same step =
          round_run k prefix now m event ts below less same
          (subst (λ (label : ℕ). Behind ex m (jumps label (begun k prefix c.base (held ∷ c.blocks) now)) ts) targets
          (subst (λ (more : List Obj). Behind ex m (jumps t (begun k prefix (more ++ c.base) (held ∷ c.blocks) now)) ts) bare step))
      turn_unwinds (reason.Returning v) extra k prefix now m event ts targets bare below above less same step =
          passes ex c (reason.Returning v) extra k prefix now m event ts tt (omega (arith, low, below)) (omega (arith, above, jumps_back, leaves, high)) (omega (arith, less, few)) same step
      turn_unwinds (reason.Raising e) extra k prefix now m event ts targets bare below above less same step =
          passes ex c (reason.Raising e) extra k prefix now m event ts tt (omega (arith, low, below)) (omega (arith, above, jumps_back, leaves, high)) (omega (arith, less, few)) same step

      -- where the body runs
      abbrev turn_context : Context ex (Some (record { stop = to; again = tests }))
      turn_context = record {
        low = tests;
        high = repeats;
        base = c.base;
        blocks = held ∷ c.blocks;
        limit = n;
        K = turns n;
        lands = record { pauses = turn_pauses; unwinds = turn_unwinds };
      }

      -- the jump back from the end of the body
      repeats_run : TellsFrom ex repeats c.base (held ∷ c.blocks) n (λ env. turns n env Normal)
      repeats_run now last m event ts most same run =
          steps_run ex repeat (λ k p b. jumps tests (begun k p c.base (held ∷ c.blocks) now)) c.base (held ∷ c.blocks) now last m ts (λ k p. refl) run
          (λ none. cut_loop (scene_of ex) line a body n (env_of ex.vars now.locals) h event ts c.K (c.lands.pauses (env_of ex.vars now.locals) Cut event tt) none)
          (λ k p j from is_next less step. round_run k p now j event ts (omega (arith, first, enters, order, from)) (omega (arith, less, most)) same step)

    -- as many turns as steps
    turns_run : (n : ℕ) → n ≤ c.limit → FromTest n
    turns_run zero few at now last m event ts less same run = absurd (omega (arith, less))
    turns_run (suc n) few at now last m event ts less same run =
        let again : FromTest n = turns_run n (omega (arith, few)) in
        let fewer : n ≤ c.limit = omega (arith, few) in
        let env : Env = env_of ex.vars now.locals in
        let chosen = chooses_run ex test_context now same (λ b. b) (true_stays ex) (λ b i mid. By_truth b (body env h i mid (turns n)) (c.K env Normal i mid)) begins ends m (omega (arith, less, few))
        (omega (arith, order, jumps_back)) (omega (arith, order, jumps_back, leaves, high))
        (λ b i. chosen_cut (body env h i [] (turns n)) (c.K env Normal i [])
        (paused env h i (turns n) (λ env1. turn_pauses n fewer again env1 Normal i tt) (λ env1. c.lands.pauses env1 Cut i tt)) (c.lands.pauses env Normal i tt) b)
        (λ l j i us least more. runs (turn_context n fewer again) (omega (arith, first, enters)) (le_refl repeats) (repeats_run n fewer again) now l j i us (omega (arith, least, less)) same more)
        (λ l j i us least more. ends_run now l j i us (omega (arith, least, less, few)) same more)
        (in_loop (record { stop = to; again = tests }) scope) line a tests last asks event ts low loads choice run in
        inr (at, ts, refl, chosen)

  -- the whole loop
  pub while_run : (scope : Scope) (line at to : ℕ) (a : Expr) (s : Suite)
      → ((labels : Labels) (begins repeats : ℕ) → LaidSuite (parts_of ex) (in_loop labels scope) s begins repeats → RunsFrom ex (Some labels) begins repeats (RunsSuite (scene_of ex) s))
      → LaidForm (parts_of ex) scope line (While a s) at to → RunsFrom ex scope.around at to (Runs (scene_of ex) line (While a s))
  while_run scope line at to a s runs (tests, asks, begins, repeats, ends, sets, loads, choice, suite, repeat, pops) c low high later now last m event ts most same run =
      let sets_up : at < tests = stands_bound (parts_of ex) sets in
      let order : begins ≤ repeats = suite_bound (parts_of ex) (in_loop (record { stop = to; again = tests }) scope) s begins repeats suite in
      let env : Env = env_of ex.vars now.locals in
      steps_run ex sets (λ k p b. Tells (Rounds k) (running b b 0 c.base (record { typ = typ.Loop; level = length c.base } ∷ c.blocks) now)) c.base c.blocks now last m ts (λ k p. refl) run
      (λ none. (c.limit, cut_loop (scene_of ex) line a (RunsSuite (scene_of ex) s) c.limit env (handled_in None c.blocks) event ts c.K (c.lands.pauses env Cut event tt) none))
      (λ k p j from is_next less (mid, is, rest). (
        c.limit,
        subst (λ (us : List Own). Loops (scene_of ex) line a (RunsSuite (scene_of ex) s) c.limit env (handled_in None c.blocks) event us c.K) (sym is)
            (turns_run scope.around c scope line tests asks begins repeats ends to a (RunsSuite (scene_of ex) s) loads choice repeat pops (omega (arith, low, sets_up)) order high (suite_pauses ex s)
            (runs (record { stop = to; again = tests }) begins repeats suite) later c.limit (le_refl c.limit) k now tests j event mid (omega (arith, less, most)) same rest),
      ))
