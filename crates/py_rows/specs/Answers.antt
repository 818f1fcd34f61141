-- Which answers requests want.
use Rattle.std.specs.Prelude.{ℕ, suc, ◌+◌, Bool, Some, List, ◌≡◌, ◌⊎◌, slice_get, length}
use Rattle.py_objects.specs.declared.payload.Payload.{Payload}
use Rattle.py_objects.specs.declared.payload.Payload.TheVariants as payload
use Rattle.py_objects.specs.declared.payload.ExceptionBody.{ExceptionBody}
use Rattle.py_objects.specs.declared.request.Request.{Request}
use Rattle.py_objects.specs.declared.request.Request.TheVariants as request
use Rattle.py_objects.specs.declared.request.BuildKind.{BuildKind}
use Rattle.py_objects.specs.declared.request.BuildKind.TheVariants as build
use Rattle.py_objects.specs.declared.event.GotAnswer.{GotAnswer}
use Rattle.py_objects.specs.declared.event.GotAnswer.TheVariants as got
use Rattle.py_objects.specs.Objects.{Obj, Name, HasPayload, as_object}
use Rattle.py_check.specs.declared.note.Kind.{Kind}
use Rattle.py_check.specs.declared.note.Kind.TheVariants as kind
use Rattle.py_rows.specs.declared.expect.Wanted.{Wanted}
use Rattle.py_rows.specs.declared.expect.Wanted.TheVariants as want

-- an object is of a kind; no object is a list, a set or a cell yet
abbrev pub HasKind : List Payload → Obj → Kind → Type 0
HasKind objects v kind.Any = Unit {0}
HasKind objects v kind.Str = (s : Name) × HasPayload objects v (payload.Str s)
HasKind objects v kind.Tuple = (vs : List Obj) × HasPayload objects v (payload.Tuple vs)
HasKind objects v kind.List = ⊥
HasKind objects v kind.Set = ⊥
HasKind objects v kind.Dict = (ps : List (Obj × Obj)) × HasPayload objects v (payload.Dict ps)
HasKind objects v kind.Exc = (e : ExceptionBody) × HasPayload objects v (payload.Exception e)
HasKind objects v kind.Cell = ⊥
HasKind objects v (kind.Cells n) = ⊥
HasKind objects v (kind.Names n) =
    (vs : List Obj) × HasPayload objects v (payload.Tuple vs) × (length vs ≡ n) × ((i : ℕ) (w : Obj) → slice_get vs i ≡ Some w → (s : Name) × HasPayload objects w (payload.Str s))
HasKind objects v (kind.Code c) = HasPayload objects v (payload.Code c)

-- what is built of items
abbrev pub built : BuildKind → Kind
built build.Str = kind.Str
built build.Tuple = kind.Tuple
built build.List = kind.List
built build.Set = kind.Set
built build.Dict = kind.Dict
built build.Slice = kind.Any

-- what may answer a request
abbrev pub wanted : Request → Wanted
wanted (request.Global globals x) = want.Of kind.Any
wanted (request.Name locals globals x) = want.Of kind.Any
wanted (request.SetName names x v) = want.Of kind.Any
wanted (request.DelName names x) = want.Of kind.Any
wanted (request.Unbound x) = want.NoValue
wanted (request.UnboundCell x free) = want.NoValue
wanted (request.ClassName locals globals x cell) = want.Of kind.Any
wanted (request.Binary op a b) = want.Of kind.Any
wanted (request.Inplace op a b) = want.Of kind.Any
wanted (request.Unary op a) = want.Of kind.Any
wanted (request.Compare op a b) = want.Of kind.Any
wanted (request.Is a b) = want.Truth
wanted (request.Contains a b) = want.Truth
wanted (request.Truth v) = want.Truth
wanted (request.Match a b) = want.Truth
wanted request.Handled = want.Of kind.Exc
wanted (request.Raisable v) = want.Of kind.Exc
wanted (request.Cause v) = want.ExceptionOrNone
wanted (request.Show v) = want.Of kind.Any
wanted (request.Call f args kwargs) = want.Of kind.Any
wanted (request.Send g v) = want.Of kind.Any
wanted (request.Throw g c v tb) = want.Of kind.Any
wanted (request.Close g) = want.Of kind.Any
wanted (request.Enter m) = want.Of kind.Any
wanted (request.AEnter m) = want.Of kind.Any
wanted (request.NoExit m) = want.NoValue
wanted (request.NoAExit m) = want.NoValue
wanted (request.Exit m t v b) = want.Of kind.Any
wanted (request.Attr o x) = want.Of kind.Any
wanted (request.SetAttr o x v) = want.Of kind.Any
wanted (request.DelAttr o x) = want.Of kind.Any
wanted (request.Method o x) = want.Items 3
wanted (request.Item a b) = want.Of kind.Any
wanted (request.SetItem a b v) = want.Of kind.Any
wanted (request.DelItem a b) = want.Of kind.Any
wanted (request.Iter v) = want.Of kind.Any
wanted (request.Next v) = want.Of kind.Any
wanted (request.Elements v) = want.Of kind.Tuple
wanted (request.Unpack v n) = want.Items n
wanted (request.UnpackEx v before after) = want.Unpacked before after
wanted (request.Build k items) = want.Of (built k)
wanted (request.MergeForCall dicts) = want.Of kind.Any
wanted (request.DictUpdate d v) = want.Of kind.Any
wanted (request.Append xs v) = want.Of kind.Any
wanted (request.AddTo xs v) = want.Of kind.Any
wanted (request.PutIn d k v) = want.Of kind.Any
wanted (request.Format v c spec) = want.Of kind.Any
wanted (request.Str v) = want.Of kind.Any
wanted (request.Wrap v) = want.Of kind.Any
wanted (request.Annotations locals) = want.Of kind.Any
wanted (request.Import x level names) = want.Of kind.Any
wanted (request.ImportFrom m x) = want.Of kind.Any
wanted (request.ImportStar locals m) = want.Of kind.Any
wanted (request.MakeFunction globals flags parts) = want.Of kind.Any
wanted (request.Await v) = want.Of kind.Any
wanted (request.AIter v) = want.Of kind.Any
wanted (request.ANext v) = want.Of kind.Any
wanted (request.Delegate d v) = want.Of kind.Any

-- a tuple of so many items
abbrev pub IsItems : List Payload → ℕ → List Obj → Obj → Type 0
IsItems objects n vs v = HasPayload objects v (payload.Tuple vs) × (length vs ≡ n)

-- a value is as wanted
abbrev pub IsValue : List Payload → Wanted → Obj → Type 0
IsValue objects (want.Of k) v = HasKind objects v k
IsValue objects want.Truth v = (b : Bool) × HasPayload objects v (payload.Bool b)
IsValue objects want.ExceptionOrNone v = HasKind objects v kind.Exc ⊎ HasPayload objects v payload.None
IsValue objects (want.Items n) v = (vs : List Obj) × IsItems objects n vs v
IsValue objects (want.Unpacked before after) v = (vs : List Obj) × IsItems objects (suc (before + after)) vs v × ((w : Obj) × (slice_get vs before ≡ Some w) × HasKind objects w kind.List)
IsValue objects want.NoValue v = ⊥

-- an answer is as wanted; none is a stop, as nothing that runs yet asks for the next item or goes through an iterator
abbrev pub IsAnswer : List Payload → Wanted → GotAnswer → Type 0
IsAnswer objects w (got.Value v) = IsValue objects w v
IsAnswer objects w (got.Stop v) = ⊥
IsAnswer objects w (got.Raise e) = HasKind objects (as_object e) kind.Exc
