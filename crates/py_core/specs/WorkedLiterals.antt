-- Two scripts worked by hand that show a number twice, once as two literals and once as one value, and journals that tell it as one object or as two.
use Rattle.std.specs.Prelude.{ℕ, None, List, [], ◌∷◌, ◌++◌, pos, codes}
use Rattle.py_objects.specs.declared.payload.Payload.{Payload}
use Rattle.py_objects.specs.declared.payload.Payload.TheVariants as payload
use Rattle.py_objects.specs.declared.request.Request.TheVariants as request
use Rattle.py_objects.specs.declared.event.ResumeHow.TheVariants.{Start}
use Rattle.py_objects.specs.declared.event.GotAnswer.TheVariants as got
use Rattle.py_objects.specs.declared.event.Ending.TheVariants as ending
use Rattle.py_objects.specs.declared.event.DriveAnswer.TheVariants as answer
use Rattle.py_objects.specs.declared.event.Event.{Event}
use Rattle.py_objects.specs.declared.event.Event.TheVariants as event
use Rattle.py_objects.specs.Objects.{Obj}
use Rattle.py_objects.specs.Singletons.{none_object}
use Rattle.py_tree.specs.declared.body.BodyKind.TheVariants.{Function}
use Rattle.py_tree.specs.declared.expr.Atom.TheVariants as atom
use Rattle.py_tree.specs.Tree.{Assign, Leaf, Show, Suite, Tree, nothing, first}
use Rattle.py_grammar.specs.Grammar.{Decl, FunctionDecl}
use Rattle.py_lines.specs.declared.drive.DriveLine.{DriveLine}
use Rattle.py_lines.specs.declared.drive.DriveLine.TheVariants as drive
use Rattle.py_run.specs.First.{first_objects}
use Rattle.py_meaning.specs.Worked.{object, function_entry}
use Rattle.py_core.specs.Claims.{FailsOf, IsWholeOf}

-- the bytes of the scripts
abbrev pub literals_script : List ℕ
literals_script = codes "def f\nshow 1\nshow 1\nend\ncall f\n"

abbrev pub value_script : List ℕ
value_script = codes "def f\nx = 1\nshow x\nshow x\nend\ncall f\n"

-- show 1 / show 1
abbrev pub two_literals : Suite
two_literals = first 2 (Show (Leaf (atom.Int (pos 1)))) (first 3 (Show (Leaf (atom.Int (pos 1)))) nothing)

-- x = 1 / show x / show x
abbrev pub one_value : Suite
one_value =
    first 2 (Assign (codes "x") (Leaf (atom.Int (pos 1))))
    (first 3 (Show (Leaf (atom.Name (codes "x")))) (first 4 (Show (Leaf (atom.Name (codes "x")))) nothing))

-- def f / such statements / end
abbrev pub function_of : Suite → Tree
function_of suite = record { kind = Function; name = codes "f"; params = []; suite = suite; line = 1 }

-- what a script with them declares
abbrev pub decls_with : Suite → List Decl
decls_with suite = FunctionDecl (function_of suite) ∷ []

-- what it drives: call f
abbrev pub drives : List DriveLine
drives = drive.Call (codes "f") [] ∷ []

-- behind what each run begins with: f, 0, its name, 1, the dict of the globals, 2, the frame of f, 3, and two numbers 1, 4 and 5
abbrev pub own_objects : List Payload
own_objects =
    function_entry (codes "f") 0 ∷ payload.Str (codes "f") ∷ payload.Dict ((object 1, object 0) ∷ []) ∷ payload.Frame 0 ∷ payload.Int (pos 1)
    ∷ payload.Int (pos 1) ∷ []

-- the objects
abbrev pub objects : List Payload
objects = first_objects ++ own_objects

-- f shows this object, and then that one, and returns None
abbrev pub events_of : Obj → Obj → List Event
events_of v w =
    event.Drive 1 ∷ event.Make 1 (object 0) [] ∷ event.Resume 1 Start ∷ event.Ask 1 (request.Show v) None 0 ∷ event.Got 1 (got.Value none_object)
    ∷ event.Ask 1 (request.Show w) None 2 ∷ event.Got 1 (got.Value none_object) ∷ event.End 1 (ending.Return none_object) 4
    ∷ event.Result 1 (answer.Returns none_object) ∷ []

-- a journal in which these are shown is a whole run of the script with such statements
abbrev pub ShowsWhole : Suite → Obj → Obj → Type 0
ShowsWhole suite v w = IsWholeOf (decls_with suite) drives objects [] (events_of v w)

-- it fails at the event of this number
abbrev pub ShowsFailing : Suite → ℕ → Obj → Obj → Type 0
ShowsFailing suite n v w = FailsOf (decls_with suite) drives n objects [] (events_of v w)
