-- A script with a class, a manager and a with whose body returns, worked by hand: its journal, and lists of events and objects that look like ones of
-- it and are none.
use Rattle.std.specs.Prelude.{ℕ, Some, None, List, [], ◌∷◌, ◌++◌, pos, true, codes}
use Rattle.py_objects.specs.declared.payload.Payload.{Payload}
use Rattle.py_objects.specs.declared.payload.Payload.TheVariants as payload
use Rattle.py_objects.specs.declared.error_kind.ErrorKind.{ErrorKind}
use Rattle.py_objects.specs.declared.error_kind.ErrorKind.TheVariants.{ValueError}
use Rattle.py_objects.specs.declared.request.Request.TheVariants.{Enter, Exit, Global}
use Rattle.py_objects.specs.declared.event.ResumeHow.TheVariants.{Start}
use Rattle.py_objects.specs.declared.event.GotAnswer.TheVariants as got
use Rattle.py_objects.specs.declared.event.Ending.TheVariants as ending
use Rattle.py_objects.specs.declared.event.DriveAnswer.TheVariants as answer
use Rattle.py_objects.specs.declared.event.Event.{Event}
use Rattle.py_objects.specs.declared.event.Event.TheVariants as event
use Rattle.py_objects.specs.Objects.{Obj, Name, class_object}
use Rattle.py_objects.specs.Singletons.{none_object}
use Rattle.py_exceptions.specs.Classes.{class_of, mro_of, first_classes}
use Rattle.py_tree.specs.declared.body.BodyKind.TheVariants.{Function}
use Rattle.py_tree.specs.declared.expr.Atom.TheVariants as atom
use Rattle.py_tree.specs.Tree.{Leaf, Suite, Return, With, nothing, first, Tree}
use Rattle.py_grammar.specs.Grammar.{Decl, ClassDecl, ManagerDecl, FunctionDecl}
use Rattle.py_run.specs.First.{first_objects}
use Rattle.py_meaning.specs.Worked.{object, function_entry}

-- the bytes of the script; it drives what those of the loops do
abbrev pub script : List ℕ
script = codes "def en\nreturn 7\nend\ndef ex a b c\nreturn True\nend\nmanager m en ex\nclass K ValueError\ndef f\nwith m as x\nreturn x\nend\nend\ncall f\n"

-- a function by its name, its parameters, its statements and its line
abbrev pub function_of : Name → List Name → Suite → ℕ → Tree
function_of name params suite line = record { kind = Function; name = name; params = params; suite = suite; line = line }

-- def en / return 7 / end
abbrev pub enters : Tree
enters = function_of (codes "en") [] (first 2 (Return (Leaf (atom.Int (pos 7)))) nothing) 1

-- def ex a b c / return True / end
abbrev pub exits : Tree
exits = function_of (codes "ex") (codes "a" ∷ codes "b" ∷ codes "c" ∷ []) (first 5 (Return (Leaf (atom.Bool true))) nothing) 4

-- def f / with m as x / return x / end / end
abbrev pub function : Tree
function = function_of (codes "f") [] (first 10 (With (Leaf (atom.Name (codes "m"))) (Some (codes "x")) (first 11 (Return (Leaf (atom.Name (codes "x")))) nothing)) nothing) 9

-- what the script declares
abbrev pub decls : List Decl
decls =
    FunctionDecl enters ∷ FunctionDecl exits ∷ ManagerDecl (codes "m") (codes "en") (codes "ex") ∷ ClassDecl (codes "K") (codes "ValueError")
    ∷ FunctionDecl function ∷ []

-- a pair for each name
abbrev pub pairs : List (Obj × Obj)
pairs = (object 5, object 0) ∷ (object 6, object 1) ∷ (object 7, object 2) ∷ (object 8, object 3) ∷ (object 9, object 4) ∷ []

-- the entry of the manager, which is left by this
abbrev pub manager_entry : Obj → Payload
manager_entry exit = payload.Manager (record { name = codes "m"; enter = object 0; exit = exit })

-- the entry of the class, whose base is the one of this kind
abbrev pub class_entry : ErrorKind → Payload
class_entry kind = payload.Class (record { name = codes "K"; mro = class_object (class_of first_classes kind) ∷ mro_of first_classes kind })

-- what comes behind the entries of the declarations: their names, 5 to 9, the dict of the globals, 10, the frames of f and en, 11 and 12, what en
-- returns, 13, and the frame of ex, 14
abbrev pub values : List Payload
values =
    payload.Str (codes "en") ∷ payload.Str (codes "ex") ∷ payload.Str (codes "m") ∷ payload.Str (codes "K") ∷ payload.Str (codes "f")
    ∷ payload.Dict pairs ∷ payload.Frame 2 ∷ payload.Frame 0 ∷ payload.Int (pos 7) ∷ payload.Frame 1 ∷ []

-- the objects of a run, where the manager is left by this, and the class has the base of this kind
abbrev pub objects_by : Obj → ErrorKind → List Payload
objects_by exit kind =
    first_objects ++ function_entry (codes "en") 0 ∷ function_entry (codes "ex") 1 ∷ manager_entry exit ∷ class_entry kind ∷ function_entry (codes "f") 2 ∷ values

-- the objects of the run
abbrev pub objects : List Payload
objects = objects_by (object 1) ValueError

-- True among the first objects
abbrev pub true_object : Obj
true_object = record { number = 2 }

-- the drive calls f, which asks for the manager and enters it: en returns 7, which f gets; these events follow
abbrev pub entered : List Event → List Event
entered events =
    event.Drive 1 ∷ event.Make 1 (object 4) [] ∷ event.Resume 1 Start ∷ event.Ask 1 (Global (object 10) (codes "m")) None 0 ∷ event.Got 1 (got.Value (object 2))
    ∷ event.Ask 1 (Enter (object 2)) None 1 ∷ event.Make 2 (object 0) [] ∷ event.Resume 2 Start ∷ event.End 2 (ending.Return (object 13)) 1
    ∷ event.Got 1 (got.Value (object 13)) ∷ events

-- its body returns, so that the exit is called: it is told None, this and None, and answers True
abbrev pub exited : Obj → List Event → List Event
exited told events =
    entered
    (event.Ask 1 (Exit (object 2) none_object told none_object) None 7 ∷ event.Make 3 (object 1) (none_object ∷ told ∷ none_object ∷ []) ∷ event.Resume 3 Start
    ∷ event.End 3 (ending.Return true_object) 1 ∷ event.Got 1 (got.Value true_object) ∷ events)

-- f returns this, at this unit
abbrev pub returned : ℕ → Obj → List Event
returned at v = event.End 1 (ending.Return v) at ∷ event.Result 1 (answer.Returns v) ∷ []

-- the run of the script
abbrev pub events : List Event
events = exited none_object (returned 8 (object 13))

-- the exit isn't called
abbrev pub unexited : List Event
unexited = entered (returned 4 (object 13))

-- the return is gone behind the exit
abbrev pub swallowed : List Event
swallowed = exited none_object (returned 10 none_object)

-- the exit is told what the body returns
abbrev pub told_value : List Event
told_value = exited (object 13) (returned 8 (object 13))
