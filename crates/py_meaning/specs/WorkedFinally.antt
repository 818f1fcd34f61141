-- A script with a finally that a raise enters, worked by hand: its journal, and lists of events that look like one and are none.
use Rattle.std.specs.Prelude.{ℕ, Option, Some, None, List, [], ◌∷◌, ◌++◌, pos, codes}
use Rattle.py_objects.specs.declared.refs.PyBaseExceptionRef.{PyBaseExceptionRef}
use Rattle.py_objects.specs.declared.payload.Payload.{Payload}
use Rattle.py_objects.specs.declared.payload.Payload.TheVariants as payload
use Rattle.py_objects.specs.declared.error_kind.ErrorKind.TheVariants.{NameError}
use Rattle.py_objects.specs.declared.request.Request.TheVariants.{Global, Show as Showing}
use Rattle.py_objects.specs.declared.event.GotAnswer.TheVariants as got
use Rattle.py_objects.specs.declared.event.Ending.TheVariants as ending
use Rattle.py_objects.specs.declared.event.DriveAnswer.TheVariants as answer
use Rattle.py_objects.specs.declared.event.Event.{Event}
use Rattle.py_objects.specs.declared.event.Event.TheVariants as event
use Rattle.py_objects.specs.Singletons.{none_object}
use Rattle.py_tree.specs.declared.expr.Atom.TheVariants as atom
use Rattle.py_tree.specs.Tree.{Leaf, Tree, Show, TryFinally, nothing, first}
use Rattle.py_grammar.specs.Grammar.{Decl, FunctionDecl}
use Rattle.py_meaning.specs.Worked.{object, exception}
use Rattle.py_meaning.specs.WorkedLoop.{function_of, objects_with, raised_objects, entered}

-- the bytes of the script; it drives what those of the loops do
abbrev pub script : List ℕ
script = codes "def f\ntry\nshow z\nfinally\nshow 1\nend\nend\ncall f\n"

-- def f / try / show z / finally / show 1 / end / end
abbrev pub function : Tree
function = function_of (first 2 (TryFinally (first 3 (Show (Leaf (atom.Name (codes "z")))) nothing) (first 5 (Show (Leaf (atom.Int (pos 1)))) nothing)) nothing)

-- what the script declares
abbrev pub decls : List Decl
decls = FunctionDecl function ∷ []

-- the objects that the run adds behind the frame, 3: those of the raise of NameError, 4 to 6, and the number that is shown, 7
abbrev pub run_objects : List Payload
run_objects = raised_objects NameError ++ payload.Int (pos 1) ∷ []

abbrev pub objects : List Payload
objects = objects_with run_objects

-- the name is asked for at the second unit, in the dict of the globals; these events follow
abbrev pub asked : List Event → List Event
asked events = entered (event.Ask 1 (Global (object 2) (codes "z")) None 1 ∷ events)

-- NameError answers
abbrev pub raised : List Event → List Event
raised events = asked (event.Got 1 (got.Raise (exception 6)) ∷ events)

-- the finally shows its number, while this is handled, and None answers
abbrev pub shown_in : Option PyBaseExceptionRef → List Event → List Event
shown_in handled events = raised (event.Ask 1 (Showing (object 7)) handled 4 ∷ event.Got 1 (got.Value none_object) ∷ events)

-- the exception ends the body and the drive
abbrev pub ended : List Event
ended = event.End 1 (ending.Raise (exception 6)) 6 ∷ event.Result 1 (answer.Raises (exception 6)) ∷ []

-- the run of the script
abbrev pub events : List Event
events = shown_in (Some (exception 6)) ended

-- the finally is passed by
abbrev pub passed_by : List Event
passed_by = raised ended

-- it runs as if nothing were handled
abbrev pub unhandled : List Event
unhandled = shown_in None ended

-- the exception is gone behind it, and the body returns
abbrev pub swallowed : List Event
swallowed = shown_in (Some (exception 6)) (event.End 1 (ending.Return none_object) 7 ∷ event.Result 1 (answer.Returns none_object) ∷ [])
