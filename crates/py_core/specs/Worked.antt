-- A script worked by hand, and journals that anybody may hand in, of which some are whole runs.
use Rattle.std.specs.Prelude.{ℕ, None, List, [], ◌∷◌, ◌++◌, pos, codes, take}
use Rattle.py_objects.specs.declared.payload.Payload.{Payload}
use Rattle.py_objects.specs.declared.payload.Payload.TheVariants as payload
use Rattle.py_objects.specs.declared.edit.Change.{Change}
use Rattle.py_objects.specs.declared.edit.Edit.{Edit}
use Rattle.py_objects.specs.declared.edit.Edit.TheVariants as edit
use Rattle.py_objects.specs.declared.edit.LinkField.TheVariants as link
use Rattle.py_objects.specs.declared.error_kind.ErrorKind.TheVariants.{ValueError}
use Rattle.py_objects.specs.declared.request.Request.TheVariants as request
use Rattle.py_objects.specs.declared.event.ResumeHow.TheVariants.{Start}
use Rattle.py_objects.specs.declared.event.GotAnswer.TheVariants as got
use Rattle.py_objects.specs.declared.event.Ending.TheVariants as ending
use Rattle.py_objects.specs.declared.event.DriveAnswer.TheVariants as answer
use Rattle.py_objects.specs.declared.event.Event.{Event}
use Rattle.py_objects.specs.declared.event.Event.TheVariants as event
use Rattle.py_objects.specs.Objects.{Obj}
use Rattle.py_objects.specs.Singletons.{none_object}
use Rattle.py_tree.specs.declared.body.BodyKind.TheVariants.{Function}
use Rattle.py_tree.specs.declared.expr.Atom.TheVariants as atom
use Rattle.py_tree.specs.Tree.{Leaf, Tree, Return, Show, nothing, first}
use Rattle.py_grammar.specs.Grammar.{Decl, FunctionDecl}
use Rattle.py_lines.specs.declared.drive.DriveAtom.TheVariants as argument
use Rattle.py_lines.specs.declared.drive.DriveLine.{DriveLine}
use Rattle.py_lines.specs.declared.drive.DriveLine.TheVariants as drive
use Rattle.py_run.specs.First.{first_objects}
use Rattle.py_meaning.specs.Worked.{object, function_entry, exception_entry}
use Rattle.py_core.specs.Claims.{FailsOf, IsWholeOf}

-- the bytes of the script
abbrev pub script : List ℕ
script = codes "def f a\nshow a\nreturn a\nend\ncall f 7\n"

-- def f a / show a / return a / end
abbrev pub function : Tree
function =
    record {
      kind = Function;
      name = codes "f";
      params = codes "a" ∷ [];
      suite = first 2 (Show (Leaf (atom.Name (codes "a")))) (first 3 (Return (Leaf (atom.Name (codes "a")))) nothing);
      line = 1;
    }

-- what the script declares
abbrev pub decls : List Decl
decls = FunctionDecl function ∷ []

-- what it drives: call f 7
abbrev pub drives : List DriveLine
drives = drive.Call (codes "f") (argument.Int (pos 7) ∷ []) ∷ []

-- ---- objects

-- behind what each run begins with: f, 0, its name, 1, a dict, 2, the argument, 3, the frame of f, 4, and more
abbrev pub own_objects : Payload → List (Obj × Obj) → List Payload → List Payload
own_objects f pairs more = f ∷ payload.Str (codes "f") ∷ payload.Dict pairs ∷ payload.Int (pos 7) ∷ payload.Frame 0 ∷ more

-- the objects, where the entry of f names the code of this number
abbrev pub objects_by : ℕ → List (Obj × Obj) → List Payload → List Payload
objects_by code pairs more = first_objects ++ own_objects (function_entry (codes "f") code) pairs more

-- what a machine keeps in the dict of the globals
abbrev pub own_pairs : List (Obj × Obj)
own_pairs = (object 1, object 0) ∷ []

-- an exception that no event names, 6, with its arguments, 5
abbrev pub raised : List Payload
raised = payload.Tuple [] ∷ exception_entry ValueError 5 ∷ []

-- the objects of a machine, and that exception
abbrev pub objects : List Payload
objects = objects_by 0 own_pairs raised

-- a second entry of f, which names another code
abbrev pub second : List Payload
second = function_entry (codes "f") 1 ∷ []

-- a function and a class whose names the script doesn't know
abbrev pub strangers : List Payload
strangers = function_entry (codes "g") 0 ∷ payload.Class (record { name = codes "C"; mro = [] }) ∷ []

-- pairs of a dict that holds something else
abbrev pub other_pairs : List (Obj × Obj)
other_pairs = (object 3, object 4) ∷ []

-- the objects, where the dict names one past the end
abbrev pub past_the_end : List Payload
past_the_end = objects_by 0 ((object 1, object 9) ∷ []) []

-- ---- changes

-- an edit of that exception, made behind five events
abbrev pub edited : Edit → List Change
edited e = record { after = 5; object = object 6; edit = e } ∷ []

-- its context is cleared; its arguments are set
abbrev pub linked : List Change
linked = edited (edit.Link link.Context None)

abbrev pub rewritten : List Change
rewritten = edited (edit.Args (object 5))

-- ---- events

-- f is called, and shows its argument, which this object answers; it returns it
abbrev pub events_by : Obj → List Event
events_by a =
    event.Drive 1 ∷ event.Make 1 (object 0) (object 3 ∷ []) ∷ event.Resume 1 Start ∷ event.Ask 1 (request.Show (object 3)) None 2
    ∷ event.Got 1 (got.Value a) ∷ event.End 1 (ending.Return (object 3)) 4 ∷ event.Result 1 (answer.Returns (object 3)) ∷ []

-- the events of the run
abbrev pub events : List Event
events = events_by none_object

-- all but the last one
abbrev pub unfinished : List Event
unfinished = take 6 events

-- ---- journals

-- a journal is a whole run of the script
abbrev pub IsWhole : List Payload → List Change → List Event → Type 0
IsWhole objects changes events = IsWholeOf decls drives objects changes events

-- it fails at the event of this number
abbrev pub Fails : ℕ → List Payload → List Change → List Event → Type 0
Fails n objects changes events = FailsOf decls drives n objects changes events
