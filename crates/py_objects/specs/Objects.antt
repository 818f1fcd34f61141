-- What the objects of a run are: by number, by the names that they are declared under, and which are new.
use Rattle.std.specs.Prelude.{ℕ, suc, ◌<◌, Option, Some, None, List, [], ◌∷◌, ◌++◌, Bool, false, ◌≡◌, ◌||◌, slice_get, length, eqb, bytes_eq, if◌then◌else◌}
pub use Rattle.py_objects.specs.Refs.{Obj, Name, as_object, class_object}
use Rattle.py_objects.specs.declared.refs.PyBaseExceptionRef.{PyBaseExceptionRef}
use Rattle.py_objects.specs.declared.payload.Payload.{Payload}
use Rattle.py_objects.specs.declared.payload.Payload.TheVariants as payload
use Rattle.py_objects.specs.declared.payload.ClassBody.{ClassBody}
use Rattle.py_objects.specs.declared.payload.FunctionBody.{FunctionBody}
use Rattle.py_objects.specs.declared.payload.ExceptionBody.{ExceptionBody}
use Rattle.py_objects.specs.declared.payload.TracebackBody.{TracebackBody}
use Rattle.py_objects.specs.declared.request.Keywords.{Keywords}
use Rattle.py_objects.specs.declared.request.Keywords.TheVariants as keywords
use Rattle.py_objects.specs.declared.request.Request.{Request}
use Rattle.py_objects.specs.declared.request.Request.TheVariants as request
use Rattle.py_objects.specs.declared.event.DriveAnswer.{DriveAnswer}
use Rattle.py_objects.specs.declared.event.DriveAnswer.TheVariants as drive
use Rattle.py_objects.specs.declared.event.GotAnswer.{GotAnswer}
use Rattle.py_objects.specs.declared.event.GotAnswer.TheVariants as got
use Rattle.py_objects.specs.declared.event.ResumeHow.{ResumeHow}
use Rattle.py_objects.specs.declared.event.ResumeHow.TheVariants as how
use Rattle.py_objects.specs.declared.event.Ending.{Ending}
use Rattle.py_objects.specs.declared.event.Ending.TheVariants as ending
use Rattle.py_objects.specs.declared.event.Event.{Event}
use Rattle.py_objects.specs.declared.event.Event.TheVariants as event

-- the object has this payload
abbrev pub HasPayload : List Payload → Obj → Payload → Type 0
HasPayload objects v p = slice_get objects v.number ≡ Some p

-- an object as an exception
abbrev pub as_exception : Obj → PyBaseExceptionRef
as_exception v = record { number = v.number }

-- the name that a payload declares, where it is a declaration
abbrev pub declares : Payload → Option Name
declares (payload.Class c) = Some c.name
declares (payload.Function f) = Some f.name
declares (payload.Manager m) = Some m.name
declares _ = None

-- whether a name is the one that is declared, if any
abbrev pub is_name : Name → Option Name → Bool
is_name n None = false
is_name n (Some m) = bytes_eq n m

-- the first object that is declared under a name, where the first entry has this number
abbrev pub declared_from : ℕ → List Payload → Name → Option Obj
declared_from i [] n = None
declared_from i (p ∷ ps) n = if is_name n (declares p) then Some (record { number = i }) else declared_from (suc i) ps n

-- the first object that is declared under a name
abbrev pub declared : List Payload → Name → Option Obj
declared objects n = declared_from 0 objects n

-- the numbers of objects, in order
abbrev pub numbers : List Obj → List ℕ
numbers [] = []
numbers (v ∷ vs) = v.number ∷ numbers vs

-- the number of an object, where there is one
abbrev pub numbers_if : Option Obj → List ℕ
numbers_if None = []
numbers_if (Some v) = v.number ∷ []

-- the number of an exception, where there is one
abbrev pub number_if : Option PyBaseExceptionRef → List ℕ
number_if None = []
number_if (Some e) = e.number ∷ []

-- the numbers that pairs name
abbrev pub pair_numbers : List (Obj × Obj) → List ℕ
pair_numbers [] = []
pair_numbers (p ∷ ps) = p.0.number ∷ p.1.number ∷ pair_numbers ps

-- the numbers that attributes name
abbrev pub attr_numbers : List (Name × Obj) → List ℕ
attr_numbers [] = []
attr_numbers (a ∷ attrs) = a.1.number ∷ attr_numbers attrs

-- the numbers that a payload names
abbrev pub payload_numbers : Payload → List ℕ
payload_numbers payload.None = []
payload_numbers (payload.Bool b) = []
payload_numbers (payload.Int n) = []
payload_numbers (payload.Str s) = []
payload_numbers (payload.Tuple vs) = numbers vs
payload_numbers (payload.Dict ps) = pair_numbers ps
payload_numbers (payload.Class c) = numbers c.mro
payload_numbers (payload.Function f) = []
payload_numbers (payload.Builtin f) = []
payload_numbers (payload.Code n) = []
payload_numbers (payload.Manager m) = m.enter.number ∷ m.exit.number ∷ []
payload_numbers (payload.Frame c) = []
payload_numbers (payload.Generator g) = []
payload_numbers (payload.Exception e) =
    e.class.number ∷ e.args.number ∷ (numbers_if e.cause ++ (numbers_if e.context ++ (numbers_if e.traceback ++ attr_numbers e.attrs)))
payload_numbers (payload.Traceback t) = numbers_if t.next ++ t.frame.number ∷ []

-- the numbers that keyword arguments name
abbrev pub keyword_numbers : Keywords → List ℕ
keyword_numbers keywords.None = []
keyword_numbers (keywords.Names names) = names.number ∷ []
keyword_numbers (keywords.Dict d) = d.number ∷ []

-- the numbers that a request names
abbrev pub request_numbers : Request → List ℕ
request_numbers (request.Global globals x) = globals.number ∷ []
request_numbers (request.Name locals globals x) = locals.number ∷ globals.number ∷ []
request_numbers (request.SetName d x v) = d.number ∷ v.number ∷ []
request_numbers (request.DelName d x) = d.number ∷ []
request_numbers (request.Unbound x) = []
request_numbers (request.UnboundCell x free) = []
request_numbers (request.ClassName locals globals x cell) = locals.number ∷ globals.number ∷ cell.number ∷ []
request_numbers (request.Binary op a b) = a.number ∷ b.number ∷ []
request_numbers (request.Inplace op a b) = a.number ∷ b.number ∷ []
request_numbers (request.Unary op a) = a.number ∷ []
request_numbers (request.Compare op a b) = a.number ∷ b.number ∷ []
request_numbers (request.Is a b) = a.number ∷ b.number ∷ []
request_numbers (request.Contains b a) = b.number ∷ a.number ∷ []
request_numbers (request.Truth v) = v.number ∷ []
request_numbers (request.Match e c) = e.number ∷ c.number ∷ []
request_numbers request.Handled = []
request_numbers (request.Raisable v) = v.number ∷ []
request_numbers (request.Cause c) = c.number ∷ []
request_numbers (request.Show v) = v.number ∷ []
request_numbers (request.Call f vs named) = f.number ∷ (numbers vs ++ keyword_numbers named)
request_numbers (request.Send g v) = g.number ∷ v.number ∷ []
request_numbers (request.Throw g c v t) = g.number ∷ c.number ∷ (numbers_if v ++ numbers_if t)
request_numbers (request.Close g) = g.number ∷ []
request_numbers (request.Enter m) = m.number ∷ []
request_numbers (request.AEnter m) = m.number ∷ []
request_numbers (request.NoExit m) = m.number ∷ []
request_numbers (request.NoAExit m) = m.number ∷ []
request_numbers (request.Exit x c e t) = x.number ∷ c.number ∷ e.number ∷ t.number ∷ []
request_numbers (request.Attr v x) = v.number ∷ []
request_numbers (request.SetAttr v x w) = v.number ∷ w.number ∷ []
request_numbers (request.DelAttr v x) = v.number ∷ []
request_numbers (request.Method v x) = v.number ∷ []
request_numbers (request.Item v k) = v.number ∷ k.number ∷ []
request_numbers (request.SetItem v k w) = v.number ∷ k.number ∷ w.number ∷ []
request_numbers (request.DelItem v k) = v.number ∷ k.number ∷ []
request_numbers (request.Iter v) = v.number ∷ []
request_numbers (request.Next v) = v.number ∷ []
request_numbers (request.Elements v) = v.number ∷ []
request_numbers (request.Unpack v k) = v.number ∷ []
request_numbers (request.UnpackEx v before after) = v.number ∷ []
request_numbers (request.Build kind vs) = numbers vs
request_numbers (request.MergeForCall ds) = numbers ds
request_numbers (request.DictUpdate d v) = d.number ∷ v.number ∷ []
request_numbers (request.Append l v) = l.number ∷ v.number ∷ []
request_numbers (request.AddTo s v) = s.number ∷ v.number ∷ []
request_numbers (request.PutIn d k v) = d.number ∷ k.number ∷ v.number ∷ []
request_numbers (request.Format v c spec) = v.number ∷ spec.number ∷ []
request_numbers (request.Str v) = v.number ∷ []
request_numbers (request.Wrap v) = v.number ∷ []
request_numbers (request.Annotations locals) = locals.number ∷ []
request_numbers (request.Import x level list) = level.number ∷ list.number ∷ []
request_numbers (request.ImportFrom m x) = m.number ∷ []
request_numbers (request.ImportStar locals m) = locals.number ∷ m.number ∷ []
request_numbers (request.MakeFunction globals flags parts) = globals.number ∷ numbers parts
request_numbers (request.Await v) = v.number ∷ []
request_numbers (request.AIter v) = v.number ∷ []
request_numbers (request.ANext v) = v.number ∷ []
request_numbers (request.Delegate d v) = d.number ∷ v.number ∷ []

-- the numbers that an activation is entered with
abbrev pub how_numbers : ResumeHow → List ℕ
how_numbers how.Start = []
how_numbers (how.Send v) = v.number ∷ []
how_numbers (how.Throw e) = e.number ∷ []

-- the numbers that an answer names
abbrev pub got_numbers : GotAnswer → List ℕ
got_numbers (got.Value v) = v.number ∷ []
got_numbers (got.Stop v) = numbers_if v
got_numbers (got.Raise e) = e.number ∷ []

-- the numbers that an end names
abbrev pub ending_numbers : Ending → List ℕ
ending_numbers (ending.Return v) = v.number ∷ []
ending_numbers (ending.Raise e) = e.number ∷ []

-- the numbers that a drive's answer names
abbrev pub result_numbers : DriveAnswer → List ℕ
result_numbers (drive.Returns v) = v.number ∷ []
result_numbers (drive.Yields v) = v.number ∷ []
result_numbers (drive.Stops v) = numbers_if v
result_numbers drive.Closes = []
result_numbers (drive.Raises e) = e.number ∷ []
result_numbers (drive.Reported text) = []

-- every number that an event names
abbrev pub event_numbers : Event → List ℕ
event_numbers (event.Drive d) = []
event_numbers (event.Result d w) = result_numbers w
event_numbers (event.Make a f vs) = f.number ∷ numbers vs
event_numbers (event.Resume a h) = how_numbers h
event_numbers (event.Ask a r own at) = number_if own ++ request_numbers r
event_numbers (event.Got a w) = got_numbers w
event_numbers (event.Round a at) = []
event_numbers (event.Yield a v at) = v.number ∷ []
event_numbers (event.End a e at) = ending_numbers e

-- whether a number is one of these
abbrev pub is_among : ℕ → List ℕ → Bool
is_among n [] = false
is_among n (m ∷ ms) = eqb n m || is_among n ms

-- no earlier event names the number, and nothing is declared under it
pub record IsNew (objects : List Payload) (before : List Event) (n : ℕ) : Type 0 where
  pub unnamed : (i : ℕ) (e : Event) → slice_get before i ≡ Some e → is_among n (event_numbers e) ≡ false
  pub undeclared : (x : Name) (v : Obj) → declared objects x ≡ Some v → eqb n v.number ≡ false

-- all of the numbers name objects
abbrev pub AllBelow : ℕ → List ℕ → Type 0
AllBelow n [] = Unit {0}
AllBelow n (m ∷ ms) = (m < n) × AllBelow n ms

-- every number that an event or a payload names is an object's
pub record AreNamed (objects : List Payload) (events : List Event) : Type 0 where
  pub in_events : (i : ℕ) (e : Event) → slice_get events i ≡ Some e → AllBelow (length objects) (event_numbers e)
  pub in_payloads : (i : ℕ) (p : Payload) → slice_get objects i ≡ Some p → AllBelow (length objects) (payload_numbers p)

-- an object of one of these kinds
abbrev pub IsFunction : List Payload → Obj → Type 0
IsFunction objects v = (f : FunctionBody) × HasPayload objects v (payload.Function f)

abbrev pub IsClassObject : List Payload → Obj → Type 0
IsClassObject objects v = (c : ClassBody) × HasPayload objects v (payload.Class c)

abbrev pub IsException : List Payload → Obj → Type 0
IsException objects v = (e : ExceptionBody) × HasPayload objects v (payload.Exception e)

abbrev pub IsTraceback : List Payload → Obj → Type 0
IsTraceback objects v = (t : TracebackBody) × HasPayload objects v (payload.Traceback t)

-- each of these is a class
abbrev pub AreClasses : List Payload → List Obj → Type 0
AreClasses objects [] = Unit {0}
AreClasses objects (v ∷ vs) = IsClassObject objects v × AreClasses objects vs

-- what holds of an object, where there is one
abbrev pub IfThere : (Obj → Type 0) → Option Obj → Type 0
IfThere P None = Unit {0}
IfThere P (Some v) = P v

-- an exception's entry names a class, and a tuple of arguments; its links are exceptions and a traceback
pub record IsExceptionMade (objects : List Payload) (e : ExceptionBody) : Type 0 where
  pub class : ClassBody
  pub is_class : HasPayload objects (class_object e.class) (payload.Class class)
  pub arguments : List Obj
  pub are_arguments : HasPayload objects e.args (payload.Tuple arguments)
  pub cause : IfThere (IsException objects) e.cause
  pub context : IfThere (IsException objects) e.context
  pub traceback : IfThere (IsTraceback objects) e.traceback

-- the objects that an entry names are of the kinds that it needs
abbrev pub IsMade : List Payload → Payload → Type 0
IsMade objects (payload.Class c) = AreClasses objects c.mro
IsMade objects (payload.Manager m) = IsFunction objects m.enter × IsFunction objects m.exit
IsMade objects (payload.Exception e) = IsExceptionMade objects e
IsMade objects (payload.Traceback t) = IfThere (IsTraceback objects) t.next × ((c : ℕ) × HasPayload objects (record { number = t.frame.number }) (payload.Frame c))
IsMade objects _ = Unit {0}

-- each entry names objects that are there, of the kinds that it needs
abbrev pub AllFit : List Payload → Type 0
AllFit objects = (i : ℕ) (p : Payload) → slice_get objects i ≡ Some p → AllBelow (length objects) (payload_numbers p) × IsMade objects p
