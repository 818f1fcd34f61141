-- A script worked by hand that names what it doesn't declare, and journals in which an entry has that name all the same.
use Rattle.std.specs.Prelude.{ℕ, None, List, [], ◌∷◌, ◌++◌, codes}
use Rattle.py_objects.specs.declared.payload.Payload.{Payload}
use Rattle.py_objects.specs.declared.payload.Payload.TheVariants as payload
use Rattle.py_objects.specs.declared.error_kind.ErrorKind.TheVariants.{NameError}
use Rattle.py_objects.specs.declared.request.Request.TheVariants as request
use Rattle.py_objects.specs.declared.event.ResumeHow.TheVariants.{Start}
use Rattle.py_objects.specs.declared.event.GotAnswer.{GotAnswer}
use Rattle.py_objects.specs.declared.event.GotAnswer.TheVariants as got
use Rattle.py_objects.specs.declared.event.Ending.{Ending}
use Rattle.py_objects.specs.declared.event.Ending.TheVariants as ending
use Rattle.py_objects.specs.declared.event.DriveAnswer.{DriveAnswer}
use Rattle.py_objects.specs.declared.event.DriveAnswer.TheVariants as answer
use Rattle.py_objects.specs.declared.event.Event.{Event}
use Rattle.py_objects.specs.declared.event.Event.TheVariants as event
use Rattle.py_objects.specs.Objects.{Name}
use Rattle.py_tree.specs.declared.expr.Atom.TheVariants as atom
use Rattle.py_tree.specs.Tree.{Leaf, Return, Suite, nothing, first}
use Rattle.py_run.specs.First.{first_objects}
use Rattle.py_meaning.specs.Worked.{object, exception, exception_entry, function_entry}
use Rattle.py_core.specs.Claims.{FailsOf, IsWholeOf}
use Rattle.py_core.specs.WorkedLiterals.{decls_with, drives}

-- the bytes of the script
abbrev pub script : List ℕ
script = codes "def f\nreturn C\nend\ncall f\n"

-- return C
abbrev pub suite : Suite
suite = first 2 (Return (Leaf (atom.Name (codes "C")))) nothing

-- behind f, 0: its name, 1, the dict of the globals, 2, the frame of f, 3, a class of this name, 4, and the NameError, 7, with its text, 5, and its
-- arguments, 6
abbrev pub rest_by : Name → List Payload
rest_by name =
    payload.Str (codes "f") ∷ payload.Dict ((object 1, object 0) ∷ []) ∷ payload.Frame 0 ∷ payload.Class (record { name = name; mro = [] })
    ∷ payload.Str (codes "name 'C' is not defined") ∷ payload.Tuple (object 5 ∷ []) ∷ exception_entry NameError 6 ∷ []

-- the objects: the class has the name that the script doesn't declare
abbrev pub objects : List Payload
objects = first_objects ++ function_entry (codes "f") 0 ∷ rest_by (codes "C")

-- f asks for the name and is answered, and ends with that
abbrev pub events_by : GotAnswer → Ending → DriveAnswer → List Event
events_by w e a =
    event.Drive 1 ∷ event.Make 1 (object 0) [] ∷ event.Resume 1 Start ∷ event.Ask 1 (request.Global (object 2) (codes "C")) None 0 ∷ event.Got 1 w
    ∷ event.End 1 e 0 ∷ event.Result 1 a ∷ []

-- NameError is raised
abbrev pub raising : List Event
raising = events_by (got.Raise (exception 7)) (ending.Raise (exception 7)) (answer.Raises (exception 7))

-- the class is the answer
abbrev pub answering : List Event
answering = events_by (got.Value (object 4)) (ending.Return (object 4)) (answer.Returns (object 4))

-- a journal with these events is a whole run of the script, or fails at the event of a number
abbrev pub IsWhole : List Event → Type 0
IsWhole events = IsWholeOf (decls_with suite) drives objects [] events

abbrev pub Fails : ℕ → List Event → Type 0
Fails n events = FailsOf (decls_with suite) drives n objects [] events
