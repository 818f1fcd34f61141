-- A script that shows, worked by hand: its journal, and lists of events that look like one and are none.
use Rattle.std.specs.Prelude.{ℕ, None, List, [], ◌∷◌, pos, codes}
use Rattle.py_objects.specs.declared.payload.Payload.{Payload}
use Rattle.py_objects.specs.declared.payload.Payload.TheVariants as payload
use Rattle.py_objects.specs.declared.request.Request.TheVariants as request
use Rattle.py_objects.specs.declared.event.GotAnswer.TheVariants as got
use Rattle.py_objects.specs.declared.event.Ending.TheVariants as ending
use Rattle.py_objects.specs.declared.event.DriveAnswer.TheVariants as answer
use Rattle.py_objects.specs.declared.event.Event.{Event}
use Rattle.py_objects.specs.declared.event.Event.TheVariants as event
use Rattle.py_objects.specs.declared.error_kind.ErrorKind.TheVariants.{OverflowError}
use Rattle.py_objects.specs.Objects.{Obj, HasPayload}
use Rattle.py_objects.specs.Singletons.{none_object}
use Rattle.py_tree.specs.declared.body.BodyKind.TheVariants.{Function}
use Rattle.py_tree.specs.declared.expr.Atom.TheVariants as atom
use Rattle.py_tree.specs.declared.expr.Operator.TheVariants as operator
use Rattle.py_tree.specs.Tree.{Leaf, Operate, no_operands, operand, Tree, Assign, Show, nothing, first}
use Rattle.py_grammar.specs.Grammar.{Decl, FunctionDecl}
use Rattle.py_lines.specs.declared.drive.DriveLine.{DriveLine}
use Rattle.py_meaning.specs.Whole.{IsRunOf}
use Rattle.py_meaning.specs.Worked.{call_of, overflowing_of, object, exception, function_entry, objects_of, entered, asked, raising_by}

-- the bytes of the script
abbrev pub script : List ℕ
script = codes "def g a b\nx = (add a b)\nshow x\nend\ncall g 33 12\n"

-- def g a b / x = (add a b) / show x / end
abbrev pub function : Tree
function =
    record {
      kind = Function;
      name = codes "g";
      params = codes "a" ∷ codes "b" ∷ [];
      suite = first 2 (Assign (codes "x") (Operate operator.Add (operand (Leaf (atom.Name (codes "a"))) (operand (Leaf (atom.Name (codes "b"))) no_operands)))) (first 3 (Show (Leaf (atom.Name (codes "x")))) nothing);
      line = 1;
    }

-- what the script declares
abbrev pub decls : List Decl
decls = FunctionDecl function ∷ []

-- call g 33 12
abbrev pub drive : DriveLine
drive = call_of (codes "g") (pos 33) (pos 12)

-- what it drives
abbrev pub drives : List DriveLine
drives = drive ∷ []

-- the objects of the run; the sum has number 6, and 7 is the None that is returned
abbrev pub objects : List Payload
objects = objects_of (codes "g") (function_entry (codes "g") 0) (pos 33) (pos 12) (payload.Int (pos 45) ∷ payload.None ∷ [])

-- the drive calls g, whose body gets the sum of its arguments; these events follow
abbrev pub summed : List Event → List Event
summed events = entered 1 (asked 1 (object 3) (object 4) (event.Got 1 (got.Value (object 6)) ∷ events))

-- the body shows this object, at its sixth unit
abbrev pub shows : Obj → List Event → List Event
shows v events = event.Ask 1 (request.Show v) None 5 ∷ events

-- it gets this object for what it shows
abbrev pub answered : Obj → List Event → List Event
answered v events = event.Got 1 (got.Value v) ∷ events

-- it returns this object at its end, at its seventh unit
abbrev pub ended : Obj → List Event
ended v = event.End 1 (ending.Return v) 6 ∷ event.Result 1 (answer.Returns v) ∷ []

-- a run of the drive, in which this is shown, answered and returned
abbrev pub events_by : Obj → Obj → Obj → List Event
events_by v a r = summed (shows v (answered a (ended r)))

-- the run of the script
abbrev pub events : List Event
events = events_by (object 6) none_object (object 7)

-- nothing is shown
abbrev pub without_show : List Event
without_show = summed (ended (object 7))

-- the sum is shown twice
abbrev pub shown_twice : List Event
shown_twice = summed (shows (object 6) (answered none_object (shows (object 6) (answered none_object (ended (object 7))))))

-- a drive that adds 1 to the greatest whole number
abbrev pub overflowing : DriveLine
overflowing = overflowing_of (codes "g")

-- the objects where OverflowError is raised
abbrev pub overflow_objects : List Payload
overflow_objects = raising_by (codes "g") (function_entry (codes "g") 0) OverflowError []

-- the body gets an exception, and shows its first argument behind that
abbrev pub shown_behind_raise : List Event
shown_behind_raise = entered 1 (asked 1 (object 3) (object 4) (event.Got 1 (got.Raise (exception 8)) ∷ shows (object 3) []))

-- in a run of the script this is shown, answered and returned
abbrev pub Shows : Obj → Obj → Obj → Type 0
Shows v a r = IsRunOf decls drives objects (events_by v a r)

-- any None answers the show, and any None is returned
abbrev pub ReturnsAnyNone : Type 0
ReturnsAnyNone = (a r : Obj) → HasPayload objects a payload.None → HasPayload objects r payload.None → Shows (object 6) a r

-- a run of the drive whose sum is out of range
abbrev pub IsOverflowRun : List Event → Type 0
IsOverflowRun es = IsRunOf decls (overflowing ∷ []) overflow_objects es
