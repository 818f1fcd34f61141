-- A script with a generator, worked by hand: its journal, and lists of events that look like one and are none.
use Rattle.std.specs.Prelude.{ℕ, List, [], ◌∷◌, pos, codes}
use Rattle.py_objects.specs.declared.payload.Payload.{Payload}
use Rattle.py_objects.specs.declared.payload.Payload.TheVariants as payload
use Rattle.py_objects.specs.declared.payload.CoroKind.TheVariants as coro
use Rattle.py_objects.specs.declared.event.ResumeHow.TheVariants.{Start}
use Rattle.py_objects.specs.declared.event.DriveAnswer.TheVariants as answer
use Rattle.py_objects.specs.declared.event.Event.{Event}
use Rattle.py_objects.specs.declared.event.Event.TheVariants as event
use Rattle.py_objects.specs.Objects.{Obj}
use Rattle.py_tree.specs.declared.body.BodyKind.TheVariants.{Generator}
use Rattle.py_tree.specs.declared.expr.Atom.TheVariants as atom
use Rattle.py_tree.specs.declared.expr.Operator.TheVariants as operator
use Rattle.py_tree.specs.Tree.{Leaf, no_operands, operand, Tree, Do, nothing, first}
use Rattle.py_grammar.specs.Grammar.{Decl, FunctionDecl}
use Rattle.py_lines.specs.declared.drive.DriveLine.{DriveLine}
use Rattle.py_lines.specs.declared.drive.DriveLine.TheVariants as drive
use Rattle.py_meaning.specs.Whole.{IsRunOf}
use Rattle.py_meaning.specs.Worked.{object, function_entry, loaded}

-- the bytes of the script
abbrev pub script : List ℕ
script = codes "gen g\ndo (yield 1)\nend\ncall g\nnext 1\n"

-- gen g / do (yield 1) / end
abbrev pub function : Tree
function = record { kind = Generator; name = codes "g"; params = []; suite = first 2 (Do operator.Yield (operand (Leaf (atom.Int (pos 1))) no_operands)) nothing; line = 1 }

-- what the script declares
abbrev pub decls : List Decl
decls = FunctionDecl function ∷ []

-- what it drives: call g, next 1
abbrev pub drives : List DriveLine
drives = drive.Call (codes "g") [] ∷ drive.Next 1 ∷ []

-- the objects of the run: the frame of the activation, 3, the generator, 4, and the number that it yields, 5
abbrev pub own_objects : List Payload
own_objects = payload.Frame 0 ∷ payload.Generator (record { activation = 1; name = codes "g"; kind = coro.Generator }) ∷ payload.Int (pos 1) ∷ []

abbrev pub objects : List Payload
objects = loaded (codes "g") (function_entry (codes "g") 0) own_objects

-- the first drive calls g, of which an activation is made, and returns a generator; then the second drive begins, and these events follow
abbrev pub called : Obj → List Event → List Event
called g events = event.Drive 1 ∷ event.Make 1 (object 0) [] ∷ event.Result 1 (answer.Returns g) ∷ event.Drive 2 ∷ events

-- it yields a number, at its second unit, and this is the result of the drive
abbrev pub yields : Obj → Obj → List Event
yields v w = event.Yield 1 v 1 ∷ event.Result 2 (answer.Yields w) ∷ []

-- the activation is entered, and yields
abbrev pub events_by : Obj → Obj → List Event
events_by v w = called (object 4) (event.Resume 1 Start ∷ yields v w)

-- the run of the script
abbrev pub events : List Event
events = events_by (object 5) (object 5)

-- the activation yields, and was never entered
abbrev pub never_entered : List Event
never_entered = called (object 4) (yields (object 5) (object 5))

-- the call enters the activation of g
abbrev pub entered_by_call : List Event
entered_by_call = event.Drive 1 ∷ event.Make 1 (object 0) [] ∷ event.Resume 1 Start ∷ []

-- the call returns an object that is no generator
abbrev pub returned_other : List Event
returned_other = called (object 0) []

-- in a run of the script the body yields the one object, and who resumes it gets the other
abbrev pub YieldsAs : Obj → Obj → Type 0
YieldsAs v w = IsRunOf decls drives objects (events_by v w)

-- what it writes
abbrev pub text : List ℕ
text = codes "1 returns <generator object g at 1>\n2 yields 1\n"
