-- A script whose function calls another one, worked by hand: its journal, and lists of events that look like one and are none.
use Rattle.std.specs.Prelude.{ℕ, Some, None, List, [], ◌∷◌, ◌++◌, pos, ◌≡◌, slice_get, length, codes}
use Rattle.py_objects.specs.declared.payload.Payload.{Payload}
use Rattle.py_objects.specs.declared.payload.Payload.TheVariants as payload
use Rattle.py_objects.specs.declared.payload.CoroKind.{CoroKind}
use Rattle.py_objects.specs.declared.payload.FunctionBody.{FunctionBody}
use Rattle.py_objects.specs.declared.error_kind.ErrorKind.TheVariants.{TypeError}
use Rattle.py_objects.specs.declared.request.Keywords.TheVariants as keywords
use Rattle.py_objects.specs.declared.request.Request.TheVariants.{Call, Global}
use Rattle.py_objects.specs.declared.event.ResumeHow.TheVariants.{Start}
use Rattle.py_objects.specs.declared.event.GotAnswer.TheVariants as got
use Rattle.py_objects.specs.declared.event.Ending.TheVariants as ending
use Rattle.py_objects.specs.declared.event.DriveAnswer.TheVariants as answer
use Rattle.py_objects.specs.declared.event.Event.{Event}
use Rattle.py_objects.specs.declared.event.Event.TheVariants as event
use Rattle.py_objects.specs.Objects.{Obj, Name, HasPayload}
use Rattle.py_tree.specs.declared.body.BodyKind.TheVariants.{Function}
use Rattle.py_tree.specs.declared.expr.Atom.TheVariants as atom
use Rattle.py_tree.specs.declared.expr.Operator.TheVariants as operator
use Rattle.py_tree.specs.Tree.{Leaf, Operate, no_operands, operand, Tree, Assign, Return, nothing, first}
use Rattle.py_grammar.specs.Grammar.{Decl, FunctionDecl}
use Rattle.py_lines.specs.declared.drive.DriveAtom.TheVariants as argument
use Rattle.py_lines.specs.declared.drive.DriveLine.{DriveLine}
use Rattle.py_lines.specs.declared.drive.DriveLine.TheVariants as drive
use Rattle.py_run.specs.Calls.{Enters, CallsFunction, ComesTo}
use Rattle.py_run.specs.Run.{Signature, Plan, depth}
use Rattle.py_run.specs.Coming.{Past, setting}
use Rattle.py_run.specs.First.{first_objects}
use Rattle.py_meaning.specs.Worked.{object, exception, function_entry, exception_entry}

-- the bytes of the script
abbrev pub script : List ℕ
script = codes "def g a b\nreturn a\nend\ndef f\nx = (call g 7 8)\nreturn x\nend\ncall f\ncall g $1 9\ncall f $1\n"

-- def g a b / return a / end
abbrev pub callee : Tree
callee = record { kind = Function; name = codes "g"; params = codes "a" ∷ codes "b" ∷ []; suite = first 2 (Return (Leaf (atom.Name (codes "a")))) nothing; line = 1 }

-- def f / x = (call g 7 8) / return x / end
abbrev pub caller : Tree
caller =
    record {
      kind = Function;
      name = codes "f";
      params = [];
      suite = first 5 (Assign (codes "x") (Operate operator.Call (operand (Leaf (atom.Name (codes "g"))) (operand (Leaf (atom.Int (pos 7))) (operand (Leaf (atom.Int (pos 8))) no_operands))))) (first 6 (Return (Leaf (atom.Name (codes "x")))) nothing);
      line = 4;
    }

-- what the script declares
abbrev pub decls : List Decl
decls = FunctionDecl callee ∷ FunctionDecl caller ∷ []

-- what it drives: call f, call g $1 9, call f $1
abbrev pub drives : List DriveLine
drives =
    drive.Call (codes "f") [] ∷ drive.Call (codes "g") (argument.Drive 1 ∷ argument.Int (pos 9) ∷ []) ∷ drive.Call (codes "f") (argument.Drive 1 ∷ []) ∷ []

-- the names of the functions, 2 and 3, the dict of the globals, 4, the frame of f, 5, its numbers, 6 and 7, the frame of g, 8, the
-- number of the second drive, 9, and the frame of g again, 10
abbrev pub values : List (Obj × Obj) → List Payload → List Payload
values pairs more =
    payload.Str (codes "g") ∷ payload.Str (codes "f") ∷ payload.Dict pairs ∷ payload.Frame 1 ∷ payload.Int (pos 7)
    ∷ payload.Int (pos 8) ∷ payload.Frame 0 ∷ payload.Int (pos 9) ∷ payload.Frame 0 ∷ more

-- the text of the refusal of the third drive
abbrev pub refusal_text : Name
refusal_text = codes "f() takes 0 positional arguments but 1 were given"

-- what that refusal adds: its text, 11, a tuple of it, 12, and the exception, 13
abbrev pub refusal_objects : List Payload
refusal_objects = payload.Str refusal_text ∷ payload.Tuple (object 11 ∷ []) ∷ exception_entry TypeError 12 ∷ []

-- the objects of the run, where the dict of the globals has these pairs: g has number 0 and f has 1
abbrev pub objects_by : List (Obj × Obj) → List Payload
objects_by pairs = first_objects ++ function_entry (codes "g") 0 ∷ function_entry (codes "f") 1 ∷ values pairs refusal_objects

-- a pair for each name
abbrev pub pair_of_g : Obj × Obj
pair_of_g = (object 2, object 0)

abbrev pub pair_of_f : Obj × Obj
pair_of_f = (object 3, object 1)

-- the objects of the run
abbrev pub objects : List Payload
objects = objects_by (pair_of_g ∷ pair_of_f ∷ [])

-- the first drive calls f, whose body gets g and calls it with its two numbers; these events follow
abbrev pub asking : List Event → List Event
asking events =
    event.Drive 1 ∷ event.Make 1 (object 1) [] ∷ event.Resume 1 Start ∷ event.Ask 1 (Global (object 4) (codes "g")) None 0 ∷ event.Got 1 (got.Value (object 0))
    ∷ event.Ask 1 (Call (object 0) (object 6 ∷ object 7 ∷ []) keywords.None) None 3 ∷ events

-- an activation of g is made with this number and these arguments
abbrev pub making : ℕ → List Obj → List Event → List Event
making n args events = asking (event.Make n (object 0) args ∷ events)

-- it is entered
abbrev pub entering : List Event → List Event
entering events = making 2 (object 6 ∷ object 7 ∷ []) (event.Resume 2 Start ∷ events)

-- g returns its first argument, at its second unit
abbrev pub left : List Event → List Event
left events = entering (event.End 2 (ending.Return (object 6)) 1 ∷ events)

-- f gets it and returns it, and this is the result of the drive
abbrev pub returned : Obj → List Event → List Event
returned v events = left (event.Got 1 (got.Value (object 6)) ∷ event.End 1 (ending.Return (object 6)) 6 ∷ event.Result 1 (answer.Returns v) ∷ events)

-- the second drive calls g with this object in front of 9, which is returned
abbrev pub again : Obj → List Event → List Event
again v events =
    returned (object 6)
    (event.Drive 2 ∷ event.Make 3 (object 0) (v ∷ object 9 ∷ []) ∷ event.Resume 3 Start ∷ event.End 3 (ending.Return v) 1 ∷ event.Result 2 (answer.Returns v) ∷ events)

-- the run of the script: the third drive is refused
abbrev pub events : List Event
events = again (object 6) (event.Drive 3 ∷ event.Result 3 (answer.Raises (exception 13)) ∷ [])

-- g is made twice
abbrev pub made_twice : List Event
made_twice = making 2 (object 6 ∷ object 7 ∷ []) (event.Make 3 (object 0) (object 6 ∷ object 7 ∷ []) ∷ [])

-- f gets what g returns in front of the end of g
abbrev pub answered_early : List Event
answered_early = entering (event.Got 1 (got.Value (object 6)) ∷ event.End 2 (ending.Return (object 6)) 1 ∷ [])

-- the activation of g has number 3
abbrev pub numbered_on : List Event
numbered_on = making 3 (object 6 ∷ object 7 ∷ []) []

-- g is never entered
abbrev pub never_entered : List Event
never_entered = making 2 (object 6 ∷ object 7 ∷ []) (event.End 2 (ending.Return (object 6)) 1 ∷ [])

-- g is made with its arguments in another order
abbrev pub swapped : List Event
swapped = making 2 (object 7 ∷ object 6 ∷ []) []

-- an activation is made of the drive that is refused
abbrev pub refused_made : List Event
refused_made = again (object 6) (event.Drive 3 ∷ event.Make 4 (object 1) (object 6 ∷ []) ∷ [])

-- a function is called with as many arguments as it takes
pub record IsFull (plan : Plan) (objects : List Payload) (f : Obj) (vs : List Obj) : Type 0 where
  pub body : FunctionBody
  pub is_function : HasPayload objects f (payload.Function body)
  pub signature : Signature
  pub signed : slice_get plan.signatures body.code ≡ Some signature
  pub count : length vs ≡ length signature.params

-- what the drives write
abbrev pub text : List ℕ
text = codes "1 returns 7\n2 returns 7\n3 raises TypeError: f() takes 0 positional arguments but 1 were given\n"

-- what is said of each function that gets its own number of arguments, wherever a run has come to
abbrev pub OfFullCalls : ((plan : Plan) (p : Past) (store : List Payload) (f : Obj) (vs : List Obj) → IsFull plan store f vs → Type 0) → Type 0
OfFullCalls claim = (plan : Plan) (p : Past) (store : List Payload) (f : Obj) (vs : List Obj) (full : IsFull plan store f vs) → claim plan p store f vs full

-- its call enters it
abbrev pub IsEntered : (plan : Plan) (p : Past) (store : List Payload) (f : Obj) (vs : List Obj) → Type 0
IsEntered plan p store f vs = CallsFunction (setting plan p) store f vs (Enters f vs)

-- one whose activations can't be suspended is entered where 999 activations run
abbrev pub EntersAt999 : Type 0
EntersAt999 = OfFullCalls (λ plan p store f vs full. full.signature.kind ≡ None → depth plan p.state ≡ 999 → IsEntered plan p store f vs)

-- where 1000 run, its call enters nothing
abbrev pub EntersNothingAt1000 : Type 0
EntersNothingAt1000 =
    OfFullCalls (λ plan p store f vs full. (g : Obj) (ws : List Obj) → full.signature.kind ≡ None → depth plan p.state ≡ 1000
    → ComesTo (setting plan p) store (Call f vs keywords.None) (Enters g ws) → ⊥)

-- the activation of a generator function is made at any depth
abbrev pub IsMadeAtAnyDepth : Type 0
IsMadeAtAnyDepth = OfFullCalls (λ plan p store f vs full. (kind : CoroKind) → full.signature.kind ≡ Some kind → IsEntered plan p store f vs)
