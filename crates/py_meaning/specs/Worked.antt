-- A script worked by hand: its journal, and lists of events that look like one and are none.
use Rattle.std.specs.Prelude.{ℕ, ◌+◌, ◌-◌, ◌^◌, Some, None, List, [], ◌∷◌, ◌++◌, ℤ, pos, ◌+ℤ◌, ◌≡◌, true, false, codes, length}
use Rattle.std.specs.Fmt.{signed_decimal}
use Rattle.py_code.specs.Range.{in_range}
use Rattle.py_objects.specs.declared.refs.PyBaseExceptionRef.{PyBaseExceptionRef}
use Rattle.py_objects.specs.declared.payload.Payload.{Payload}
use Rattle.py_objects.specs.declared.payload.Payload.TheVariants as payload
use Rattle.py_objects.specs.declared.error_kind.ErrorKind.{ErrorKind}
use Rattle.py_objects.specs.declared.error_kind.ErrorKind.TheVariants.{OverflowError}
use Rattle.py_code.specs.declared.operator.BinaryOperator.TheVariants as binary
use Rattle.py_objects.specs.declared.request.Request.TheVariants.{Binary}
use Rattle.py_objects.specs.declared.event.ResumeHow.TheVariants.{Start}
use Rattle.py_objects.specs.declared.event.GotAnswer.TheVariants as got
use Rattle.py_objects.specs.declared.event.Ending.TheVariants as ending
use Rattle.py_objects.specs.declared.event.DriveAnswer.TheVariants as answer
use Rattle.py_objects.specs.declared.event.Event.{Event}
use Rattle.py_objects.specs.declared.event.Event.TheVariants as event
use Rattle.py_objects.specs.Objects.{Obj, Name}
use Rattle.py_objects.specs.Values.{new_exception}
use Rattle.py_exceptions.specs.Classes.{class_of, first_classes}
use Rattle.py_tree.specs.declared.body.BodyKind.TheVariants.{Function}
use Rattle.py_tree.specs.declared.expr.Atom.TheVariants as atom
use Rattle.py_tree.specs.declared.expr.Operator.TheVariants as operator
use Rattle.py_tree.specs.Tree.{Leaf, Operate, no_operands, operand, Tree, Assign, Return, nothing, first}
use Rattle.py_grammar.specs.Grammar.{Decl, FunctionDecl}
use Rattle.py_lines.specs.declared.drive.DriveAtom.TheVariants as argument
use Rattle.py_lines.specs.declared.drive.DriveLine.{DriveLine}
use Rattle.py_lines.specs.declared.drive.DriveLine.TheVariants as drive
use Rattle.py_run.specs.Coming.{IsDone}
use Rattle.py_run.specs.First.{first_objects}
use Rattle.py_meaning.specs.Whole.{IsRunOf}
use Rattle.py_meaning.specs.Text.{events_text}

-- the bytes of the script
abbrev pub script : List ℕ
script = codes "def f a b\nx = (add a b)\nreturn x\nend\ncall f 33 12\n"

-- def f a b / x = (add a b) / return x / end
abbrev pub function : Tree
function =
    record {
      kind = Function;
      name = codes "f";
      params = codes "a" ∷ codes "b" ∷ [];
      suite = first 2 (Assign (codes "x") (Operate operator.Add (operand (Leaf (atom.Name (codes "a"))) (operand (Leaf (atom.Name (codes "b"))) no_operands)))) (first 3 (Return (Leaf (atom.Name (codes "x")))) nothing);
      line = 1;
    }

-- what the script declares
abbrev pub decls : List Decl
decls = FunctionDecl function ∷ []

-- the call of a function with two numbers
abbrev pub call_of : Name → ℤ → ℤ → DriveLine
call_of f m n = drive.Call f (argument.Int m ∷ argument.Int n ∷ [])

-- what it drives: call f 33 12
abbrev pub drives : List DriveLine
drives = call_of (codes "f") (pos 33) (pos 12) ∷ []

-- an object of the run by its number behind what each run begins with
abbrev pub object : ℕ → Obj
object n = record { number = length first_objects + n }

-- an exception by that number
abbrev pub exception : ℕ → PyBaseExceptionRef
exception n = record { number = length first_objects + n }

-- the entry of a function, with the number of its code
abbrev pub function_entry : Name → ℕ → Payload
function_entry name code = payload.Function (record { name = name; code = code })

-- what each run begins with, and then a function, 0, its name, 1, the dict of the globals that binds it, 2, and more
abbrev pub loaded : Name → Payload → List Payload → List Payload
loaded name f more = first_objects ++ f ∷ payload.Str name ∷ payload.Dict ((object 1, object 0) ∷ []) ∷ more

-- the same with the function's two arguments, 3 and 4, and the frame of its activation, 5
abbrev pub objects_of : Name → Payload → ℤ → ℤ → List Payload → List Payload
objects_of name f m n more = loaded name f (payload.Int m ∷ payload.Int n ∷ payload.Frame 0 ∷ more)

-- the objects of the run, where the function has this entry; the sum has number 6
abbrev pub objects_by : Payload → List Payload
objects_by f = objects_of (codes "f") f (pos 33) (pos 12) (payload.Int (pos 45) ∷ [])

-- the objects of the run
abbrev pub objects : List Payload
objects = objects_by (function_entry (codes "f") 0)

-- the same with a manager, which the script doesn't declare
abbrev pub objects_with_manager : List Payload
objects_with_manager =
    objects_of (codes "f") (function_entry (codes "f") 0) (pos 33) (pos 12)
    (payload.Int (pos 45) ∷ payload.Manager (record { name = codes "m"; enter = object 0; exit = object 0 }) ∷ [])

-- the n-th drive calls the function, whose n-th activation is entered; these events follow
abbrev pub entered : ℕ → List Event → List Event
entered n events = event.Drive n ∷ event.Make n (object 0) (object 3 ∷ object 4 ∷ []) ∷ event.Resume n Start ∷ events

-- its body asks for the sum of two objects, at its third unit
abbrev pub asked : ℕ → Obj → Obj → List Event → List Event
asked n a b events = event.Ask n (Binary binary.Add a b) None 2 ∷ events

-- it gets a value and returns it, at its sixth unit
abbrev pub returned : ℕ → Obj → List Event → List Event
returned n v events = event.Got n (got.Value v) ∷ event.End n (ending.Return v) 5 ∷ event.Result n (answer.Returns v) ∷ events

-- it gets an exception, which ends it where it asked
abbrev pub raised : ℕ → PyBaseExceptionRef → List Event → List Event
raised n e events = event.Got n (got.Raise e) ∷ event.End n (ending.Raise e) 2 ∷ event.Result n (answer.Raises e) ∷ events

-- a run of the drive, in which this object is the sum
abbrev pub events_by : Obj → List Event
events_by v = entered 1 (asked 1 (object 3) (object 4) (returned 1 v []))

-- the run of the script
abbrev pub events : List Event
events = events_by (object 6)

-- the same without its last event
abbrev pub unfinished : List Event
unfinished = entered 1 (asked 1 (object 3) (object 4) (event.Got 1 (got.Value (object 6)) ∷ event.End 1 (ending.Return (object 6)) 5 ∷ []))

-- a loop goes round, where the body has none
abbrev pub with_round : List Event
with_round = entered 1 (event.Round 1 0 ∷ asked 1 (object 3) (object 4) (returned 1 (object 6) []))

-- the result stands where the activation's end is missing
abbrev pub without_end : List Event
without_end = entered 1 (asked 1 (object 3) (object 4) (event.Got 1 (got.Value (object 6)) ∷ event.Result 1 (answer.Returns (object 6)) ∷ []))

-- the body asks for the sum of 12 and 33
abbrev pub swapped : List Event
swapped = entered 1 (asked 1 (object 4) (object 3) (returned 1 (object 6) []))

-- a second drive begins, which the script hasn't
abbrev pub driven_twice : List Event
driven_twice = entered 1 (asked 1 (object 3) (object 4) (returned 1 (object 6) (event.Drive 2 ∷ [])))

-- the greatest whole number
abbrev pub greatest : ℤ
greatest = pos (2 ^ 127 - 1)

-- a call of a function that adds 1 to it
abbrev pub overflowing_of : Name → DriveLine
overflowing_of f = call_of f greatest (pos 1)

-- a drive that does
abbrev pub overflowing : DriveLine
overflowing = overflowing_of (codes "f")

-- the entry of a new exception of a kind, with the number of its arguments
abbrev pub exception_entry : ErrorKind → ℕ → Payload
exception_entry kind args = payload.Exception (new_exception (class_of first_classes kind) (object args))

-- the same with the arguments 7
abbrev pub error_entry : ErrorKind → Payload
error_entry kind = exception_entry kind 7

-- the text of the refusal of a sum
abbrev pub out_of_range : Name
out_of_range = codes "integer out of range"

-- the objects that a raise adds: the text 6, a tuple of it, 7, and an exception of a kind, 8
abbrev pub error_objects : ErrorKind → List Payload → List Payload
error_objects kind more = payload.Str out_of_range ∷ payload.Tuple (object 6 ∷ []) ∷ error_entry kind ∷ more

-- the objects of a run that raises, where the function has this name and this entry
abbrev pub raising_by : Name → Payload → ErrorKind → List Payload → List Payload
raising_by name f kind more = objects_of name f greatest (pos 1) (error_objects kind more)

-- the same of the script's function
abbrev pub raising_objects : ErrorKind → List Payload → List Payload
raising_objects kind more = raising_by (codes "f") (function_entry (codes "f") 0) kind more

-- the same where the exception has a cause, the first argument
abbrev pub caused_objects : List Payload
caused_objects =
    objects_of (codes "f") (function_entry (codes "f") 0) greatest (pos 1)
    (payload.Str out_of_range ∷ payload.Tuple (object 6 ∷ [])
    ∷ payload.Exception (record (new_exception (class_of first_classes OverflowError) (object 7)) { cause = Some (object 3) }) ∷ [])

-- the objects where OverflowError is raised
abbrev pub overflow_objects : List Payload
overflow_objects = raising_objects OverflowError []

-- the n-th drive raises an exception, and these events follow
abbrev pub raises : ℕ → PyBaseExceptionRef → List Event → List Event
raises n e events = entered n (asked n (object 3) (object 4) (raised n e events))

-- the run in which the drive raises this exception
abbrev pub overflow_by : PyBaseExceptionRef → List Event
overflow_by e = raises 1 e []

-- each whole run of the call with these numbers writes this
abbrev pub Writes : ℤ → ℤ → List ℕ → Type 0
Writes m n line = (store : List Payload) (es : List Event) → IsRunOf decls (call_of (codes "f") m n ∷ []) store es → IsDone 1 es → events_text store [] es ≡ line

-- whatever a whole run of such a call is, it writes the sum of its numbers
abbrev pub WritesSums : Type 0
WritesSums = (m n : ℤ) → in_range (m +ℤ n) ≡ true → Writes m n (codes "1 returns " ++ (signed_decimal (m +ℤ n) ++ codes "\n"))

-- the line of a sum that is out of range
abbrev pub overflow_line : List ℕ
overflow_line = codes "1 raises OverflowError: integer out of range\n"

-- or that it is out of range
abbrev pub WritesOverflows : Type 0
WritesOverflows = (m n : ℤ) → in_range (m +ℤ n) ≡ false → Writes m n overflow_line

-- a run of a drive whose sum is out of range
abbrev pub IsOverflowRun : List Payload → List Event → Type 0
IsOverflowRun store es = IsRunOf decls (overflowing ∷ []) store es

-- a run of two such drives, in which the second one raises this exception
abbrev pub RaisesSecond : PyBaseExceptionRef → Type 0
RaisesSecond e =
    IsRunOf decls (overflowing ∷ overflowing ∷ []) (raising_objects OverflowError (error_entry OverflowError ∷ []))
    (raises 1 (exception 8) (raises 2 e []))
