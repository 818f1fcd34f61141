-- The three sorts of groups: what a group of each drives and asks, which activations it makes, its events, its two
-- objects and its frames, and what it changes. Drives and activations are numbered from 0, and its objects from n; x is the number that it calls with.
use Rattle.std.specs.Prelude.{ℕ, suc, ◌+◌, Bool, true, false, Option, Some, None, List, [], ◌∷◌, pos, codes}
use Rattle.py_code.specs.declared.operator.BinaryOperator.TheVariants as binary
use Rattle.py_code.specs.declared.operator.ComparisonOperator.TheVariants as comparison
use Rattle.py_objects.specs.declared.refs.PyTypeRef.{PyTypeRef}
use Rattle.py_objects.specs.declared.refs.PyBaseExceptionRef.{PyBaseExceptionRef}
use Rattle.py_objects.specs.declared.payload.Payload.{Payload}
use Rattle.py_objects.specs.declared.payload.Payload.TheVariants as payload
use Rattle.py_objects.specs.declared.payload.CoroBody.{CoroBody}
use Rattle.py_objects.specs.declared.payload.CoroKind.TheVariants as coro
use Rattle.py_objects.specs.declared.error_kind.ErrorKind.TheVariants.{GeneratorExit}
use Rattle.py_objects.specs.declared.request.Keywords.TheVariants as keywords
use Rattle.py_objects.specs.declared.request.Request.{Request}
use Rattle.py_objects.specs.declared.request.Request.TheVariants as request
use Rattle.py_objects.specs.declared.event.ResumeHow.TheVariants as how
use Rattle.py_objects.specs.declared.event.GotAnswer.TheVariants as got
use Rattle.py_objects.specs.declared.event.Ending.TheVariants as ending
use Rattle.py_objects.specs.declared.event.DriveAnswer.TheVariants as answer
use Rattle.py_objects.specs.declared.event.Event.{Event}
use Rattle.py_objects.specs.declared.event.Event.TheVariants as event
use Rattle.py_objects.specs.declared.edit.Change.{Change}
use Rattle.py_objects.specs.declared.edit.Edit.TheVariants as edit
use Rattle.py_objects.specs.declared.edit.LinkField.TheVariants as link
use Rattle.py_objects.specs.Singletons.{none_object}
use Rattle.py_objects.specs.Objects.{Obj}
use Rattle.py_objects.specs.Values.{new_exception}
use Rattle.py_exceptions.specs.Classes.{class_of, first_classes}
use Rattle.py_lines.specs.declared.drive.DriveAtom.TheVariants as argument
use Rattle.py_lines.specs.declared.drive.DriveLine.{DriveLine}
use Rattle.py_lines.specs.declared.drive.DriveLine.TheVariants as drive
use Rattle.py_run.specs.Run.{Requests, Posed, Activation}
use Rattle.made_runs.proofs.Located.{raise_line}
use Rattle.made_runs.proofs.Objects.{obj, truth_object, false_object, true_object, fault_object, enter_object}
use Rattle.made_runs.proofs.Objects.{exit_object, scope_object, work_object, count_object, globals_object}
use Rattle.made_runs.proofs.Objects.{open_object, close_object, limit_object, zero_object, one_object, empty_object}

-- a group is a call of work that raises, one that returns, or a call of count with a next and a close
pub data Sort : Type 0 where
  Raises Returns Counts : Sort

-- the sort of a group, by whether work is called, and whether it raises
abbrev pub sort_by : Bool → Bool → Sort
sort_by true true = Raises
sort_by true false = Returns
sort_by false is_raised = Counts

-- ---- drives

-- the drive that calls a function with a number
abbrev pub call : List ℕ → ℕ → DriveLine
call f v = drive.Call f (argument.Int (pos v) ∷ [])

-- the drives of a group that calls with v, the first of which has this number
abbrev pub lines_of : Sort → (v number : ℕ) → List DriveLine
lines_of Raises v d = call (codes "work") v ∷ []
lines_of Returns v d = call (codes "work") v ∷ []
lines_of Counts v d = call (codes "count") v ∷ drive.Next d ∷ drive.Close d ∷ []

-- what a drive asks, by a host that entered nothing before
abbrev pub posed : Request → Posed
posed r = record { pose = Requests r; entered = 0 }

-- the question for a call of a function with one argument
abbrev pub calls : Obj → Obj → Request
calls f x = request.Call f (x ∷ []) keywords.None

-- the question for a next of the generator n
abbrev pub next : ℕ → Request
next n = request.Send (obj n) none_object

-- the question for its close
abbrev pub close : ℕ → Request
close n = request.Close (obj n)

-- what the drives of a group ask
abbrev pub asked_of : Sort → (n : ℕ) → Obj → List Posed
asked_of Raises n x = posed (calls work_object x) ∷ []
asked_of Returns n x = posed (calls work_object x) ∷ []
asked_of Counts n x = posed (calls count_object x) ∷ posed (next n) ∷ posed (close n) ∷ []

-- ---- activations

-- an activation of a function with these arguments
abbrev pub activation : Obj → List Obj → Activation
activation f vs = record { function = f; args = vs }

-- the one of a call of work
abbrev pub worked : Obj → Activation
worked x = activation work_object (x ∷ [])

-- the one of the manager's enter
abbrev pub entered : Activation
entered = activation enter_object []

-- what an exit is told of the exception n, whose traceback comes behind it
abbrev pub told_raise : ℕ → List Obj
told_raise n = fault_object ∷ obj n ∷ obj (suc n) ∷ []

-- what an exit is told where nothing was raised
abbrev pub told_none : List Obj
told_none = none_object ∷ none_object ∷ none_object ∷ []

-- the activation of the manager's exit, which is told this
abbrev pub left : List Obj → Activation
left told = activation exit_object told

-- the one of a call of count
abbrev pub counted : Obj → Activation
counted x = activation count_object (x ∷ [])

-- the activations that a group makes
abbrev pub made_of : Sort → (n : ℕ) → Obj → List Activation
made_of Raises n x = worked x ∷ entered ∷ left (told_raise n) ∷ []
made_of Returns n x = worked x ∷ entered ∷ left told_none ∷ []
made_of Counts n x = counted x ∷ []

-- how many these are
abbrev pub acts_of : Sort → ℕ
acts_of Raises = 3
acts_of Returns = 3
acts_of Counts = 1

-- ---- events

-- the exception with a number
abbrev pub exception : ℕ → PyBaseExceptionRef
exception n = record { number = n }

-- an activation asks, while this is handled, and gets a value
abbrev pub asks : (a : ℕ) → Request → Option PyBaseExceptionRef → Obj → List Event → List Event
asks a r own v events = event.Ask a r own 0 ∷ event.Got a (got.Value v) ∷ events

-- the n-th drive calls work, which asks whether its number is below 500
abbrev pub begins : (d a : ℕ) → Obj → Bool → List Event → List Event
begins d a x b events =
    event.Drive d ∷ event.Make a work_object (x ∷ []) ∷ event.Resume a how.Start
    ∷ asks a (request.Compare comparison.Less x limit_object) None (truth_object b) events

-- an activation of a function that shows a text and returns None
abbrev pub shows : (a : ℕ) → (f text : Obj) → List Obj → List Event → List Event
shows a f text vs events =
    event.Make a f vs ∷ event.Resume a how.Start
    ∷ asks a (request.Show text) None none_object (event.End a (ending.Return none_object) 0 ∷ events)

-- the manager is asked for and entered
abbrev pub enters : (a b : ℕ) → List Event → List Event
enters a b events =
    asks a (request.Global globals_object (codes "scope")) None scope_object
    (event.Ask a (request.Enter scope_object) None 0
    ∷ shows b enter_object open_object [] (event.Got a (got.Value none_object) ∷ events))

-- the manager is left, and its exit is told this
abbrev pub leaves : (a b : ℕ) → Option PyBaseExceptionRef → (c e t : Obj) → List Event → List Event
leaves a b own c e t events =
    event.Ask a (request.Exit scope_object c e t) own 0
    ∷ shows b exit_object close_object (c ∷ e ∷ t ∷ []) (event.Got a (got.Value none_object) ∷ events)

-- the exit lets the exception n go on, and the clause catches it
abbrev pub catches : (a n : ℕ) → List Event → List Event
catches a n events =
    asks a (request.Truth none_object) None false_object
    (asks a (request.Global globals_object (codes "Fault")) (Some (exception n)) fault_object
    (asks a (request.Match (obj n) fault_object) (Some (exception n)) true_object
    (asks a (request.Truth true_object) (Some (exception n)) true_object events)))

-- the call of work returns
abbrev pub returns : (d a : ℕ) → Obj → List Event
returns d a v = event.End a (ending.Return v) 0 ∷ event.Result d (answer.Returns v) ∷ []

-- work raises within the scope, up to the question for its exception
abbrev pub raises_asked : (d a b : ℕ) → Obj → List Event → List Event
raises_asked d a b x events =
    begins d a x true
    (enters a b
    (asks a (request.Truth true_object) None true_object
    (asks a (request.Global globals_object (codes "Fault")) None fault_object
    (event.Ask a (request.Raisable fault_object) None 0 ∷ events))))

-- the events of a call of work that raises
abbrev pub raising : (d a b c n : ℕ) → Obj → List Event
raising d a b c n x =
    raises_asked d a b x
    (event.Got a (got.Value (obj n))
    ∷ leaves a c (Some (exception n)) fault_object (obj n) (obj (suc n)) (catches a n (returns d a (obj n))))

-- the events of a call of work that returns its number
abbrev pub returning : (d a b c : ℕ) → Obj → List Event
returning d a b c x =
    begins d a x false
    (enters a b
    (asks a (request.Truth false_object) None false_object
    (leaves a c None none_object none_object none_object (returns d a x))))

-- a call of count makes its activation
abbrev pub created : (d a : ℕ) → Obj → List Event → List Event
created d a x events = event.Drive d ∷ event.Make a count_object (x ∷ []) ∷ events

-- the call gives the generator, which a next enters, and which yields 0
abbrev pub yields : (d d2 a n : ℕ) → List Event → List Event
yields d d2 a n events =
    event.Result d (answer.Returns (obj n)) ∷ event.Drive d2 ∷ event.Resume a how.Start ∷ event.Round a 0
    ∷ asks a (request.Truth true_object) None true_object
    (event.Yield a zero_object 0 ∷ event.Result d2 (answer.Yields zero_object) ∷ events)

-- a close throws a GeneratorExit into it, and it adds 1 and ends
abbrev pub closes : (d3 a n : ℕ) → List Event
closes d3 a n =
    event.Resume a (how.Throw (exception (suc n)))
    ∷ asks a (request.Binary binary.Add zero_object one_object) (Some (exception (suc n))) one_object
    (event.End a (ending.Raise (exception (suc n))) 0 ∷ event.Result d3 answer.Closes ∷ [])

-- the events of a call of count, a next and a close
abbrev pub counting : (d d2 d3 a n : ℕ) → Obj → List Event
counting d d2 d3 a n x = created d a x (yields d d2 a n (event.Drive d3 ∷ closes d3 a n))

-- the events of a group
abbrev pub events_of : Sort → (n : ℕ) → Obj → List Event
events_of Raises n x = raising 0 0 1 2 n x
events_of Returns n x = returning 0 0 1 2 x
events_of Counts n x = counting 0 1 2 0 n x

-- ---- objects

-- the class of the exception that work raises
abbrev pub fault_class : PyTypeRef
fault_class = record { number = 71 }

-- this exception
abbrev pub raised : Payload
raised = payload.Exception (new_exception fault_class empty_object)

-- its traceback: an entry in the frame of the activation of work, behind the unit that asked
abbrev pub traced : (frame : ℕ) → Payload
traced frame = payload.Traceback (record { next = None; frame = record { number = frame }; lasti = 1; lineno = raise_line })

-- a generator, where so many activations were made before
abbrev pub generator_body : ℕ → CoroBody
generator_body m = record { activation = suc m; name = codes "count"; kind = coro.Generator }

-- the exception that closes it
abbrev pub exit_raised : Payload
exit_raised = payload.Exception (new_exception (class_of first_classes GeneratorExit) empty_object)

-- the first of a group's two objects; a group that returns needs none, and has a None
abbrev pub first_of : Sort → (m : ℕ) → Payload
first_of Raises m = raised
first_of Returns m = payload.None
first_of Counts m = payload.Generator (generator_body m)

-- and the second one, where its first activation has this frame
abbrev pub second_of : Sort → (frame : ℕ) → Payload
second_of Raises frame = traced frame
second_of Returns frame = payload.None
second_of Counts frame = exit_raised

-- the frame of its first activation
abbrev pub frame_of : Sort → Payload
frame_of Raises = payload.Frame 2
frame_of Returns = payload.Frame 2
frame_of Counts = payload.Frame 3

-- the frames of all activations that a group makes, in order
abbrev pub frames_of : Sort → List Payload
frames_of Raises = payload.Frame 2 ∷ payload.Frame 0 ∷ payload.Frame 1 ∷ []
frames_of Returns = payload.Frame 2 ∷ payload.Frame 0 ∷ payload.Frame 1 ∷ []
frames_of Counts = payload.Frame 3 ∷ []

-- ---- links

-- the exception that work raises gets its traceback, behind so many events of the group
abbrev pub traceback_set : (events n : ℕ) → Change
traceback_set events n = record { after = events + 20; object = obj n; edit = edit.Link link.Traceback (Some (obj (suc n))) }

-- what changes by the events of a group, before which there were so many
abbrev pub changes_of : Sort → (events n : ℕ) → List Change
changes_of Raises events n = traceback_set events n ∷ []
changes_of Returns events n = []
changes_of Counts events n = []
