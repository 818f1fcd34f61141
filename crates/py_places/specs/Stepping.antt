-- What an event of a body leaves of its place. None is that it may not be told there.
use Rattle.std.specs.Prelude.{ℕ, Bool, true, false, Option, Some, None, List, [], ◌∷◌, ◌++◌, bytes_eq, eqb, slice_get, if◌then◌else◌}
use Rattle.py_code.specs.declared.operator.BinaryOperator.TheVariants as binary
use Rattle.py_code.specs.declared.operator.ComparisonOperator.TheVariants as comparison
use Rattle.py_objects.specs.declared.refs.PyBaseExceptionRef.{PyBaseExceptionRef}
use Rattle.py_objects.specs.declared.payload.Payload.{Payload}
use Rattle.py_objects.specs.declared.payload.Payload.TheVariants as payload
use Rattle.py_objects.specs.declared.request.Keywords.TheVariants as keywords
use Rattle.py_objects.specs.declared.request.Request.{Request}
use Rattle.py_objects.specs.declared.request.Request.TheVariants as request
use Rattle.py_objects.specs.declared.event.GotAnswer.{GotAnswer}
use Rattle.py_objects.specs.declared.event.GotAnswer.TheVariants as got
use Rattle.py_objects.specs.declared.event.ResumeHow.{ResumeHow}
use Rattle.py_objects.specs.declared.event.ResumeHow.TheVariants as how
use Rattle.py_objects.specs.declared.event.Ending.{Ending}
use Rattle.py_objects.specs.declared.event.Ending.TheVariants as ending
use Rattle.py_objects.specs.Objects.{Obj, as_exception, as_object}
use Rattle.py_objects.specs.Callees.{is_manager}
use Rattle.py_objects.specs.Own.{Own, Resumes, Asks, Gets, Rounds, Yields, Ends}
use Rattle.py_tree.specs.declared.body.BodyKind.{BodyKind}
use Rattle.py_tree.specs.declared.body.BodyKind.TheVariants.{Function, Generator}
use Rattle.py_tree.specs.Tree.{Name, Suite, Tree}
use Rattle.py_tree.specs.Binding.{Env, set_local, bind, start_env}
use Rattle.py_tree.specs.Outcome.{Normal, Returns, Raises, Handled}
use Rattle.py_places.specs.Cells.{Cell, Like, Is, Cells, is_literal, cell_at, with_cell, entry_of}
use Rattle.py_places.specs.Place.{Choice, Branches, Branches_else, Turns, Catches, Swallows, Then, Stored, Shown, Returned, Raising, Raised, Tested, Told, Classed, Entering, Entered, Refused, Passed, Operand, Turn, Forget, Exit, Frames, Question, Looks_up, Requests, Last, Nothing_more, Value, Raise, Rest, Stuck, Starting, Asking, Waiting, Yielding, Suspended, Turning, Leaving, Leaving_by, Ending_by, Place, place}
use Rattle.py_places.specs.Silent.{asking, testing, evaluate, operands, try_clauses, enter, resume}

-- ---- a value is given

module _ (objects : List Payload) where
  -- a truth value decides
  abbrev pub choose : Choice → Bool → Env → Handled → Frames → Cells → Option Place
  choose (Branches s) true env h fs cells = Some (enter objects s fs (resume objects fs) env h cells)
  choose (Branches s) false env h fs cells = resume objects fs env Normal cells
  choose (Branches_else s t) true env h fs cells = Some (enter objects s fs (resume objects fs) env h cells)
  choose (Branches_else s t) false env h fs cells = Some (enter objects t fs (resume objects fs) env h cells)
  choose (Turns line e s) true env h fs cells = Some (enter objects s (Turn h line e s ∷ fs) (resume objects (Turn h line e s ∷ fs)) env h cells)
  choose (Turns line e s) false env h fs cells = resume objects fs env Normal cells
  choose (Catches line None s more e) true env h fs cells = Some (enter objects s fs (resume objects fs) env h cells)
  choose (Catches line (Some x) s more e) true env h fs cells =
      Some (enter objects s (Forget h x ∷ fs) (resume objects (Forget h x ∷ fs)) (set_local x (Some (as_object e)) env) h cells)
  choose (Catches line x s more e) false env h fs cells = try_clauses objects line more e env h fs cells
  choose (Swallows e) true env h fs cells = resume objects fs env Normal cells
  choose (Swallows e) false env h fs cells = resume objects fs env (Raises e) cells

  -- the answer to a test, by its payload
  abbrev pub by_told : Option Payload → Choice → Env → Handled → Frames → Cells → Option Place
  by_told (Some (payload.Bool b)) ch env h fs cells = choose ch b env h fs cells
  by_told _ ch env h fs cells = None

  -- a manager was entered, by the payload of what was asked
  abbrev pub managing : Bool → ℕ → Obj → Option Name → Suite → Obj → Env → Handled → Frames → Cells → Option Place
  managing true line m x s v env h fs cells = Some (enter objects s (Exit h line m ∷ fs) (resume objects (Exit h line m ∷ fs)) (bind x v env) h cells)
  managing false line m x s v env h fs cells = asking env h (Requests (request.NoExit m)) Refused fs cells

  abbrev pub by_manager : Option Payload → ℕ → Obj → Option Name → Suite → Obj → Env → Handled → Frames → Cells → Option Place
  by_manager None line m x s v env h fs cells = Some (place cells Stuck)
  by_manager (Some p) line m x s v env h fs cells = managing (is_manager p) line m x s v env h fs cells

  abbrev pub proceed : Then → Obj → Env → Handled → Frames → Cells → Option Place
  proceed (Stored t) v env h fs cells = resume objects fs (bind t v env) Normal cells
  proceed Shown v env h fs cells = asking env h (Requests (request.Show v)) (Stored None) fs cells
  proceed Returned v env h fs cells = resume objects fs env (Returns v) cells
  proceed Raising v env h fs cells = asking env h (Requests (request.Raisable v)) Raised fs cells
  proceed Raised v env h fs cells = resume objects fs env (Raises (as_exception v)) cells
  proceed (Tested ch) v env h fs cells = testing ch env h fs v cells
  proceed (Told ch) v env h fs cells = by_told (slice_get objects v.number) ch env h fs cells
  proceed (Classed line x s more e) v env h fs cells =
      asking env h (Requests (request.Match (as_object e) v)) (Tested (Catches line x s more e)) fs cells
  proceed (Entering line x s) v env h fs cells = asking env h (Requests (request.Enter v)) (Entered line v x s) fs cells
  proceed (Entered line m x s) v env h fs cells = by_manager (entry_of objects cells m) line m x s v env h fs cells
  proceed Refused v env h fs cells = None
  proceed (Passed o) v env h fs cells = resume objects fs env o cells
  proceed (Operand line o vs es th) v env h fs cells = operands objects line o (vs ++ v ∷ []) es env h th fs cells

  -- ---- numbers that events name

  -- whether two payloads are there, and are of one literal
  abbrev pub alike : Option Payload → Option Payload → Bool
  alike None q = false
  alike (Some p) q = is_literal p q

  -- a number of the place is this object of an event
  abbrev pub meet_cell : Option Cell → Obj → Obj → Cells → Option Cells
  meet_cell None v w cells = if eqb v.number w.number then Some cells else None
  meet_cell (Some (Is u)) v w cells = if eqb u.number w.number then Some cells else None
  meet_cell (Some (Like u)) v w cells =
      if alike (slice_get objects u.number) (slice_get objects w.number) then Some (with_cell objects v (Is w) cells) else None

  abbrev pub meet : Obj → Obj → Cells → Option Cells
  meet v w cells = meet_cell (cell_at objects cells v) v w cells

  abbrev pub meet_in : Obj → Obj → Option Cells → Option Cells
  meet_in v w None = None
  meet_in v w (Some cells) = meet v w cells

  -- several are, in order
  abbrev pub meet_all : List Obj → List Obj → Option Cells → Option Cells
  meet_all [] [] m = m
  meet_all (v ∷ vs) (w ∷ ws) m = meet_all vs ws (meet_in v w m)
  meet_all _ _ m = None

  -- the same of one that there may be
  abbrev pub meet_if : Option Obj → Option Obj → Option Cells → Option Cells
  meet_if None None m = m
  meet_if (Some v) (Some w) m = meet_in v w m
  meet_if _ _ m = None

  -- of what is handled
  abbrev pub meet_handled : Handled → Option PyBaseExceptionRef → Option Cells → Option Cells
  meet_handled None None m = m
  meet_handled (Some e) (Some f) m = meet_in (as_object e) (as_object f) m
  meet_handled _ _ m = None

  -- where a test holds
  abbrev pub given : Bool → Option Cells → Option Cells
  given b m = if b then m else None

  -- a request of the place is this one of an event: of those that bodies make, a call without keyword arguments and a throw without a traceback
  abbrev pub meet_request : Request → Request → Option Cells → Option Cells
  meet_request (request.Unbound x) (request.Unbound y) m = given (bytes_eq x y) m
  meet_request (request.Binary binary.Add a b) (request.Binary binary.Add c d) m = meet_in b d (meet_in a c m)
  meet_request (request.Binary binary.Subtract a b) (request.Binary binary.Subtract c d) m = meet_in b d (meet_in a c m)
  meet_request (request.Compare comparison.Less a b) (request.Compare comparison.Less c d) m = meet_in b d (meet_in a c m)
  meet_request (request.Compare comparison.Equal a b) (request.Compare comparison.Equal c d) m = meet_in b d (meet_in a c m)
  meet_request (request.Truth v) (request.Truth w) m = meet_in v w m
  meet_request (request.Match e c) (request.Match f d) m = meet_in c d (meet_in e f m)
  meet_request request.Handled request.Handled m = m
  meet_request (request.Raisable v) (request.Raisable w) m = meet_in v w m
  meet_request (request.Show v) (request.Show w) m = meet_in v w m
  meet_request (request.Call f vs keywords.None) (request.Call g ws keywords.None) m = meet_all vs ws (meet_in f g m)
  meet_request (request.Send g v) (request.Send k w) m = meet_in v w (meet_in g k m)
  meet_request (request.Throw g c v None) (request.Throw k d w None) m = meet_if v w (meet_in c d (meet_in g k m))
  meet_request (request.Close g) (request.Close k) m = meet_in g k m
  meet_request (request.Enter v) (request.Enter w) m = meet_in v w m
  meet_request (request.NoExit v) (request.NoExit w) m = meet_in v w m
  meet_request _ _ m = None

  -- a question is, where this is the dict of the globals
  abbrev pub meet_question : (globals : Obj) → Question → Request → Option Cells → Option Cells
  meet_question globals (Looks_up x) (request.Global d y) m = given (eqb d.number globals.number) (given (bytes_eq x y) m)
  meet_question globals (Looks_up x) _ m = None
  meet_question globals (Requests q) r m = meet_request q r m

  -- whether an object is None
  abbrev pub is_none : Obj → Bool
  is_none v = is_literal payload.None (slice_get objects v.number)

  -- the exit of a manager that is left without a raise takes None three times
  abbrev pub meet_exit : Obj → Request → Option Cells → Option Cells
  meet_exit m (request.Exit x c e t) cells = given (is_none c) (given (is_none e) (given (is_none t) (meet_in m x cells)))
  meet_exit m _ cells = None

  -- whether an object is the class of what has this payload, which is an exception
  abbrev pub is_class : Option Payload → Obj → Bool
  is_class (Some (payload.Exception body)) c = eqb body.class.number c.number
  is_class _ c = false

  -- that of one that is left by a raise takes the class of the exception, that, and an object that is left open
  abbrev pub meet_exit_by : Obj → PyBaseExceptionRef → Request → Option Cells → Option Cells
  meet_exit_by m e (request.Exit x c f t) cells = given (is_class (slice_get objects f.number) c) (meet_in (as_object e) f (meet_in m x cells))
  meet_exit_by m e _ cells = None

  -- ---- events

  -- where numbers were met, one goes on so
  abbrev pub if_met : Rest → Option Cells → Option Place
  if_met rest None = None
  if_met rest (Some cells) = Some (place cells rest)

  -- the body ends
  abbrev pub ends : Last → Ending → Cells → Option Place
  ends Nothing_more (ending.Return w) cells = if is_none w then Some (place cells Stuck) else None
  ends Nothing_more (ending.Raise f) cells = None
  ends (Value v) (ending.Return w) cells = if_met Stuck (meet v w cells)
  ends (Value v) (ending.Raise f) cells = None
  ends (Raise e) (ending.Return w) cells = None
  ends (Raise e) (ending.Raise f) cells = if_met Stuck (meet (as_object e) (as_object f) cells)

  -- what is thrown into a body that hasn't started
  abbrev pub thrown_first : BodyKind → PyBaseExceptionRef → Cells → Option Place
  thrown_first Function e cells = None
  thrown_first Generator e cells = Some (place cells (Ending_by (Raise e)))

  abbrev pub starts : Tree → List Obj → ResumeHow → Cells → Option Place
  starts t args how.Start cells = Some (enter objects t.suite [] (resume objects []) (start_env t args) None cells)
  starts t args (how.Send v) cells = None
  starts t args (how.Throw e) cells = thrown_first t.kind e cells

  abbrev pub goes_on : ResumeHow → Env → Handled → Then → Frames → Cells → Option Place
  goes_on how.Start env h th fs cells = None
  goes_on (how.Send v) env h th fs cells = proceed th v env h fs cells
  goes_on (how.Throw e) env h th fs cells = resume objects fs env (Raises e) cells

  abbrev pub answers : GotAnswer → Env → Handled → Then → Frames → Cells → Option Place
  answers (got.Value v) env h th fs cells = proceed th v env h fs cells
  answers (got.Stop v) env h th fs cells = None
  answers (got.Raise e) env h th fs cells = resume objects fs env (Raises e) cells

module _ (objects : List Payload) (globals : Obj) where
  -- what is told next at a rest
  abbrev pub step_rest : Rest → Own → Cells → Option Place
  step_rest (Starting t args) (Resumes k w) cells = starts objects t args w cells
  step_rest (Asking env h q th fs) (Asks at r own) cells =
      if_met objects (Waiting env h th fs) (meet_question objects globals q r (meet_handled objects h own (Some cells)))
  step_rest (Waiting env h th fs) (Gets k w) cells = answers objects w env h th fs cells
  step_rest (Yielding env h v th fs) (Yields at w) cells = if_met objects (Suspended env h th fs) (meet objects v w cells)
  step_rest (Suspended env h th fs) (Resumes k w) cells = goes_on objects w env h th fs cells
  step_rest (Turning env h line e s fs) (Rounds at) cells =
      evaluate objects line e env h (Tested (Turns line e s)) fs cells (testing (Turns line e s) env h fs)
  step_rest (Leaving env h m th fs) (Asks at r own) cells =
      if_met objects (Waiting env h th fs) (meet_exit objects m r (meet_handled objects h own (Some cells)))
  step_rest (Leaving_by env h m e th fs) (Asks at r own) cells =
      if_met objects (Waiting env h th fs) (meet_exit_by objects m e r (meet_handled objects (Some e) own (Some cells)))
  step_rest (Ending_by o) (Ends at e) cells = ends objects o e cells
  step_rest _ _ cells = None

  abbrev pub step : Place → Own → Option Place
  step p e = step_rest p.rest e p.cells
