-- Scripts with a loop without an end and with an unknown name, worked by hand: their journals, and lists of events that look
-- like one and are none.
use Rattle.std.specs.Prelude.{ℕ, None, List, [], ◌∷◌, Bool, true, codes}
use Rattle.py_objects.specs.declared.payload.Payload.{Payload}
use Rattle.py_objects.specs.declared.payload.Payload.TheVariants as payload
use Rattle.py_objects.specs.declared.request.Request.TheVariants.{Truth, Global}
use Rattle.py_objects.specs.declared.event.ResumeHow.TheVariants.{Start}
use Rattle.py_objects.specs.declared.event.GotAnswer.TheVariants as got
use Rattle.py_objects.specs.declared.event.Ending.TheVariants as ending
use Rattle.py_objects.specs.declared.event.DriveAnswer.TheVariants as answer
use Rattle.py_objects.specs.declared.event.Event.{Event}
use Rattle.py_objects.specs.declared.event.Event.TheVariants as event
use Rattle.py_objects.specs.declared.error_kind.ErrorKind.{ErrorKind}
use Rattle.py_objects.specs.declared.error_kind.ErrorKind.TheVariants.{NameError}
use Rattle.py_objects.specs.Objects.{Obj, Name}
use Rattle.py_objects.specs.Singletons.{none_object}
use Rattle.py_tree.specs.declared.body.BodyKind.TheVariants.{Function}
use Rattle.py_tree.specs.declared.expr.Atom.TheVariants as atom
use Rattle.py_tree.specs.Tree.{Leaf, Suite, Show, While, nothing, first, Tree}
use Rattle.py_grammar.specs.Grammar.{Decl, FunctionDecl}
use Rattle.py_lines.specs.declared.drive.DriveLine.{DriveLine}
use Rattle.py_lines.specs.declared.drive.DriveLine.TheVariants as drive
use Rattle.py_meaning.specs.Whole.{IsRunOf}
use Rattle.py_meaning.specs.Worked.{object, exception, exception_entry, function_entry, loaded}

-- the bytes of the script whose loop doesn't end
abbrev pub script : List ℕ
script = codes "def f\nwhile True\nend\nend\ncall f\n"

-- a function f without parameters
abbrev pub function_of : Suite → Tree
function_of s = record { kind = Function; name = codes "f"; params = []; suite = s; line = 1 }

-- def f / while True / end / end
abbrev pub function : Tree
function = function_of (first 2 (While (Leaf (atom.Bool true)) nothing) nothing)

-- what the script declares
abbrev pub decls : List Decl
decls = FunctionDecl function ∷ []

-- what it drives: call f
abbrev pub drives : List DriveLine
drives = drive.Call (codes "f") [] ∷ []

-- the objects of a run of f, the frame of whose activation has number 3, and more
abbrev pub objects_with : List Payload → List Payload
objects_with more = loaded (codes "f") (function_entry (codes "f") 0) (payload.Frame 0 ∷ more)

-- the True that is tested has number 4, and the answer 5
abbrev pub objects_by : Bool → List Payload
objects_by told = objects_with (payload.Bool true ∷ payload.Bool told ∷ [])

-- the objects of the run
abbrev pub objects : List Payload
objects = objects_by true

-- the drive calls f, whose activation is entered; these events follow
abbrev pub entered : List Event → List Event
entered events = event.Drive 1 ∷ event.Make 1 (object 0) [] ∷ event.Resume 1 Start ∷ events

-- a round begins, at this unit
abbrev pub round : ℕ → List Event → List Event
round at events = event.Round 1 at ∷ events

-- the truth of the first True is asked for at the third unit, and the second object answers
abbrev pub tested : List Event → List Event
tested events = event.Ask 1 (Truth (object 4)) None 2 ∷ event.Got 1 (got.Value (object 5)) ∷ events

-- the run as far as the second round: seven events
abbrev pub events : List Event
events = entered (round 0 (tested (round 3 [])))

-- the first round isn't told
abbrev pub without_round : List Event
without_round = entered (tested (round 3 []))

-- the first round is told twice, so that nothing is tested in it
abbrev pub untested : List Event
untested = entered (round 0 (round 3 (tested [])))

-- the body ends, though the test was true
abbrev pub left_early : List Event
left_early = entered (round 0 (tested (event.End 1 (ending.Return none_object) 4 ∷ [])))

-- the bytes of a script with a name that is nowhere
abbrev pub unknown_script : List ℕ
unknown_script = codes "def f\nshow z\nend\ncall f\n"

-- def f / show z / end
abbrev pub unknown_decls : List Decl
unknown_decls = FunctionDecl (function_of (first 2 (Show (Leaf (atom.Name (codes "z")))) nothing)) ∷ []

-- the entry of an exception of a kind with the arguments 5
abbrev pub unknown_error : ErrorKind → Payload
unknown_error kind = exception_entry kind 5

-- the text of the refusal of the name
abbrev pub not_defined : Name
not_defined = codes "name 'z' is not defined"

-- the objects that the raise adds: the text 4, a tuple of it, 5, and the exception 6
abbrev pub raised_objects : ErrorKind → List Payload
raised_objects kind = payload.Str not_defined ∷ payload.Tuple (object 4 ∷ []) ∷ unknown_error kind ∷ []

-- the objects of a run that raises
abbrev pub unknown_by : ErrorKind → List Payload
unknown_by kind = objects_with (raised_objects kind)

-- the objects where NameError is raised
abbrev pub unknown_objects : List Payload
unknown_objects = unknown_by NameError

-- the name is asked for at the first unit, in this object
abbrev pub asked_in : Obj → List Event → List Event
asked_in d events = entered (event.Ask 1 (Global d (codes "z")) None 0 ∷ events)

-- in the dict of the globals
abbrev pub asked : List Event → List Event
asked events = asked_in (object 2) events

-- the answer raises, which ends the body and the drive
abbrev pub unknown_events : List Event
unknown_events = asked (event.Got 1 (got.Raise (exception 6)) ∷ event.End 1 (ending.Raise (exception 6)) 0 ∷ event.Result 1 (answer.Raises (exception 6)) ∷ [])

-- it gives a value
abbrev pub unknown_given : List Event
unknown_given = asked (event.Got 1 (got.Value none_object) ∷ [])

-- a run of the script with an unknown name
abbrev pub IsUnknownRun : List Payload → List Event → Type 0
IsUnknownRun store es = IsRunOf unknown_decls drives store es

-- what it writes
abbrev pub unknown_text : List ℕ
unknown_text = codes "1 raises NameError: name 'z' is not defined\n"
