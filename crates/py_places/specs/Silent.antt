-- How a body goes on without an event: to what it tells next, from a suite or behind an outcome. None is that nothing may be told there, not even that
-- it is cut.
use Rattle.std.specs.Prelude.{ℕ, Option, Some, None, List, [], ◌∷◌, ◌++◌}
use Rattle.py_objects.specs.declared.refs.PyBaseExceptionRef.{PyBaseExceptionRef}
use Rattle.py_objects.specs.declared.payload.Payload.{Payload}
use Rattle.py_objects.specs.declared.payload.Payload.TheVariants as payload
use Rattle.py_objects.specs.declared.request.Request.TheVariants as request
use Rattle.py_objects.specs.Objects.{Obj, as_object}
use Rattle.py_objects.specs.Callees.{call_request}
use Rattle.py_tree.specs.declared.expr.Atom.{Atom}
use Rattle.py_tree.specs.declared.expr.Atom.TheVariants as atom
use Rattle.py_tree.specs.declared.expr.Operator.{Operator}
use Rattle.py_tree.specs.Operators.{Way, Asks_one, Asks_two, Calls_it, Yields_it, way_of}
use Rattle.py_tree.specs.Tree.{Name, Expr, Leaf, Operate, Exprs, no_operands, operand, Form, Assign, Do, Show, Return, Raise as RaiseForm, Reraise, Break, Continue, Pass, If, IfElse, While, TryExcept, TryFinally, With, Suite, nothing, first, Clauses, no_more, clause}
use Rattle.py_tree.specs.Binding.{Env, find_local, set_local}
use Rattle.py_tree.specs.Outcome.{Outcome, Normal, Breaks, Continues, Returns, Raises, Cut, Handled, behind}
use Rattle.py_places.specs.Cells.{Cells, Like, first_of, next_number, entry_of}
use Rattle.py_places.specs.Place.{Choice, Branches, Branches_else, Catches, Swallows, Then, Stored, Shown, Returned, Raising, Raised, Tested, Told, Classed, Entering, Entered, Passed, Operand, Behind, Turn, Final, Passing, Catch, Forget, Exit, Frames, Question, Looks_up, Requests, Nothing_more, Value, Raise, Stuck, Asking, Yielding, Turning, Leaving, Leaving_by, Ending_by, Place, place}

-- where one goes on behind an outcome
abbrev pub Back : Type 0
Back = Env → Outcome → Cells → Option Place

-- and with a value
abbrev pub Goes : Type 0
Goes = Obj → Cells → Option Place

-- it may be cut here
abbrev pub or_stuck : Cells → Option Place → Place
or_stuck cells None = place cells Stuck
or_stuck cells (Some m) = m

-- ---- behind the parts of a statement

abbrev pub on_normal : Back → (Env → Cells → Place) → Back
on_normal back go env Normal cells = Some (go env cells)
on_normal back go env Breaks cells = back env Breaks cells
on_normal back go env Continues cells = back env Continues cells
on_normal back go env (Returns v) cells = back env (Returns v) cells
on_normal back go env (Raises e) cells = back env (Raises e) cells
on_normal back go env Cut cells = back env Cut cells

abbrev pub on_turn : Back → (Env → Cells → Place) → Back
on_turn back go env Normal cells = Some (go env cells)
on_turn back go env Breaks cells = back env Normal cells
on_turn back go env Continues cells = Some (go env cells)
on_turn back go env (Returns v) cells = back env (Returns v) cells
on_turn back go env (Raises e) cells = back env (Raises e) cells
on_turn back go env Cut cells = back env Cut cells

abbrev pub on_final : Back → Handled → (Outcome → Handled → Env → Cells → Place) → Back
on_final back h go env Normal cells = Some (go Normal h env cells)
on_final back h go env Breaks cells = Some (go Breaks h env cells)
on_final back h go env Continues cells = Some (go Continues h env cells)
on_final back h go env (Returns v) cells = Some (go (Returns v) h env cells)
on_final back h go env (Raises e) cells = Some (go (Raises e) (Some e) env cells)
on_final back h go env Cut cells = back env Cut cells

abbrev pub passing : Back → Outcome → Back
passing back o env o2 cells = back env (behind o o2) cells

abbrev pub on_catch : Back → (PyBaseExceptionRef → Env → Cells → Option Place) → Back
on_catch back handle env Normal cells = back env Normal cells
on_catch back handle env Breaks cells = back env Breaks cells
on_catch back handle env Continues cells = back env Continues cells
on_catch back handle env (Returns v) cells = back env (Returns v) cells
on_catch back handle env (Raises e) cells = handle e env cells
on_catch back handle env Cut cells = back env Cut cells

abbrev pub forgetting : Back → Name → Back
forgetting back x env Normal cells = back (set_local x None env) Normal cells
forgetting back x env Breaks cells = back (set_local x None env) Breaks cells
forgetting back x env Continues cells = back (set_local x None env) Continues cells
forgetting back x env (Returns v) cells = back (set_local x None env) (Returns v) cells
forgetting back x env (Raises e) cells = back (set_local x None env) (Raises e) cells
forgetting back x env Cut cells = back env Cut cells

abbrev pub on_exit : Back → Handled → Obj → Frames → Back
on_exit back h m fs env Normal cells = Some (place cells (Leaving env h m (Passed Normal) fs))
on_exit back h m fs env Breaks cells = Some (place cells (Leaving env h m (Passed Breaks) fs))
on_exit back h m fs env Continues cells = Some (place cells (Leaving env h m (Passed Continues) fs))
on_exit back h m fs env (Returns v) cells = Some (place cells (Leaving env h m (Passed (Returns v)) fs))
on_exit back h m fs env (Raises e) cells = Some (place cells (Leaving_by env h m e (Tested (Swallows e)) fs))
on_exit back h m fs env Cut cells = back env Cut cells

-- how a body ends that came to an outcome
abbrev pub last_of : Outcome → Cells → Option Place
last_of Normal cells = Some (place cells (Ending_by Nothing_more))
last_of Breaks cells = None
last_of Continues cells = None
last_of (Returns v) cells = Some (place cells (Ending_by (Value v)))
last_of (Raises e) cells = Some (place cells (Ending_by (Raise e)))
last_of Cut cells = Some (place cells Stuck)

-- ---- values

-- a question is asked
abbrev pub asking : Env → Handled → Question → Then → Frames → Cells → Option Place
asking env h q th fs cells = Some (place cells (Asking env h q th fs))

-- a value is tested
abbrev pub testing : Choice → Env → Handled → Frames → Goes
testing ch env h fs v cells = asking env h (Requests (request.Truth v)) (Told ch) fs cells

-- a literal, where this is its first object
abbrev pub by_first : List Payload → Option Obj → Cells → Goes → Option Place
by_first objects None cells k = Some (place cells Stuck)
by_first objects (Some w) cells k = Some (or_stuck cells (k (next_number objects cells) (cells ++ Like w ∷ [])))

-- a name, where it is such a local
abbrev pub by_local : Name → Option (Option Obj) → Env → Handled → Then → Frames → Cells → Goes → Option Place
by_local x None env h th fs cells k = asking env h (Looks_up x) th fs cells
by_local x (Some None) env h th fs cells k = asking env h (Requests (request.Unbound x)) th fs cells
by_local x (Some (Some v)) env h th fs cells k = k v cells

module _ (objects : List Payload) where
  abbrev pub load : Atom → Env → Handled → Then → Frames → Cells → Goes → Option Place
  load atom.None env h th fs cells k = by_first objects (first_of objects payload.None) cells k
  load (atom.Bool b) env h th fs cells k = by_first objects (first_of objects (payload.Bool b)) cells k
  load (atom.Int n) env h th fs cells k = by_first objects (first_of objects (payload.Int n)) cells k
  load (atom.Str s) env h th fs cells k = by_first objects (first_of objects (payload.Str s)) cells k
  load (atom.Name x) env h th fs cells k = by_local x (find_local x env) env h th fs cells k

  -- a call of what has this payload, if it has one
  abbrev pub calling : Option Payload → Obj → List Obj → Env → Handled → Then → Frames → Cells → Option Place
  calling None f vs env h th fs cells = Some (place cells Stuck)
  calling (Some p) f vs env h th fs cells = asking env h (Requests (call_request p f vs)) th fs cells

  -- what an operator does with the values of its operands
  abbrev pub finish : Way → List Obj → Env → Handled → Then → Frames → Cells → Option Place
  finish (Asks_one r) (v ∷ []) env h th fs cells = asking env h (Requests (r v)) th fs cells
  finish (Asks_two r) (v ∷ w ∷ []) env h th fs cells = asking env h (Requests (r v w)) th fs cells
  finish Calls_it (f ∷ vs) env h th fs cells = calling (entry_of objects cells f) f vs env h th fs cells
  finish Yields_it (v ∷ []) env h th fs cells = Some (place cells (Yielding env h v th fs))
  finish way vs env h th fs cells = Some (place cells Stuck)

  abbrev mutual
    -- an expression whose value becomes this, and where one goes on with it at once
    pub evaluate : ℕ → Expr → Env → Handled → Then → Frames → Cells → Goes → Option Place
    evaluate line (Leaf a) env h th fs cells k = load a env h th fs cells k
    evaluate line (Operate o es) env h th fs cells k = operands line o [] es env h th fs cells

    -- operands behind those that have their values
    pub operands : ℕ → Operator → List Obj → Exprs → Env → Handled → Then → Frames → Cells → Option Place
    operands line o vs no_operands env h th fs cells = finish (way_of o) vs env h th fs cells
    operands line o vs (operand e es) env h th fs cells =
        evaluate line e env h (Operand line o vs es th) fs cells (λ v cells1. operands line o (vs ++ v ∷ []) es env h th fs cells1)

  -- ---- statements

  -- the clauses of the try of a line at an exception, in order
  abbrev pub try_clauses : ℕ → Clauses → PyBaseExceptionRef → Env → Handled → Frames → Cells → Option Place
  try_clauses line no_more e env h fs cells = asking env h (Requests request.Handled) Raised fs cells
  try_clauses line (clause n c x s more) e env h fs cells =
      load (atom.Name c) env h (Classed line x s more e) fs cells
      (λ v cells1. asking env h (Requests (request.Match (as_object e) v)) (Tested (Catches line x s more e)) fs cells1)

  abbrev mutual
    -- a suite among these frames, behind which one goes on so
    pub enter : Suite → Frames → Back → Env → Handled → Cells → Place
    enter nothing fs back env h cells = or_stuck cells (back env Normal cells)
    enter (first n f more) fs back env h cells =
        or_stuck cells (enter_form n f (Behind h more ∷ fs) (on_normal back (λ env1 cells1. enter more fs back env1 h cells1)) env h cells)

    pub enter_form : ℕ → Form → Frames → Back → Env → Handled → Cells → Option Place
    enter_form line (Assign x e) fs back env h cells =
        evaluate line e env h (Stored (Some x)) fs cells (λ v cells1. back (set_local x (Some v) env) Normal cells1)
    enter_form line (Do o es) fs back env h cells = operands line o [] es env h (Stored None) fs cells
    enter_form line (Show e) fs back env h cells =
        evaluate line e env h Shown fs cells (λ v cells1. asking env h (Requests (request.Show v)) (Stored None) fs cells1)
    enter_form line (Return e) fs back env h cells = evaluate line e env h Returned fs cells (λ v cells1. back env (Returns v) cells1)
    enter_form line (RaiseForm e) fs back env h cells =
        evaluate line e env h Raising fs cells (λ v cells1. asking env h (Requests (request.Raisable v)) Raised fs cells1)
    enter_form line Reraise fs back env h cells = asking env h (Requests request.Handled) Raised fs cells
    enter_form line Break fs back env h cells = back env Breaks cells
    enter_form line Continue fs back env h cells = back env Continues cells
    enter_form line Pass fs back env h cells = back env Normal cells
    enter_form line (If e s) fs back env h cells =
        evaluate line e env h (Tested (Branches s)) fs cells (testing (Branches s) env h fs)
    enter_form line (IfElse e s t) fs back env h cells =
        evaluate line e env h (Tested (Branches_else s t)) fs cells (testing (Branches_else s t) env h fs)
    enter_form line (While e s) fs back env h cells = Some (place cells (Turning env h line e s fs))
    enter_form line (TryExcept s cs) fs back env h cells =
        Some (enter s (Catch line cs ∷ fs) (on_catch back (λ e env1 cells1. try_clauses line cs e env1 (Some e) fs cells1)) env h cells)
    enter_form line (TryFinally s t) fs back env h cells =
        Some (enter s (Final h t ∷ fs) (on_final back h (λ o h1 env1 cells1. enter t (Passing o ∷ fs) (passing back o) env1 h1 cells1)) env h cells)
    enter_form line (With e x s) fs back env h cells =
        evaluate line e env h (Entering line x s) fs cells (λ m cells1. asking env h (Requests (request.Enter m)) (Entered line m x s) fs cells1)

  -- where one goes on behind an outcome among these frames
  abbrev pub resume : Frames → Back
  resume [] env o cells = last_of o cells
  resume (Behind h more ∷ fs) env o cells = on_normal (resume fs) (λ env1 cells1. enter more fs (resume fs) env1 h cells1) env o cells
  resume (Turn h line e s ∷ fs) env o cells = on_turn (resume fs) (λ env1 cells1. place cells1 (Turning env1 h line e s fs)) env o cells
  resume (Final h t ∷ fs) env o cells =
      on_final (resume fs) h (λ o1 h1 env1 cells1. enter t (Passing o1 ∷ fs) (passing (resume fs) o1) env1 h1 cells1) env o cells
  resume (Passing o1 ∷ fs) env o cells = passing (resume fs) o1 env o cells
  resume (Catch line cs ∷ fs) env o cells = on_catch (resume fs) (λ e env1 cells1. try_clauses line cs e env1 (Some e) fs cells1) env o cells
  resume (Forget h x ∷ fs) env o cells = forgetting (resume fs) x env o cells
  resume (Exit h line m ∷ fs) env o cells = on_exit (resume fs) h m fs env o cells
