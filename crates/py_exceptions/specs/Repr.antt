-- The representation of an object (Python Language Reference, 3.3.1), with others inside at most so deep.
use Rattle.std.specs.Prelude.{ℕ, zero, suc, Option, Some, None, List, [], ◌∷◌, ◌++◌, Bool, true, false, not, ◌&&◌, ◌||◌, ◌==◌, if◌then◌else◌, slice_get, codes, decimal, encode_utf8, encode_utf8_all}
use Rattle.std.specs.List.{list_any}
use Rattle.std.specs.Fmt.{signed_decimal}
use Rattle.py_objects.specs.declared.payload.Payload.{Payload}
use Rattle.py_objects.specs.declared.payload.Payload.TheVariants as payload
use Rattle.py_objects.specs.declared.payload.CoroKind.{CoroKind}
use Rattle.py_objects.specs.declared.payload.CoroKind.TheVariants as kind
use Rattle.py_objects.specs.declared.payload.CoroBody.{CoroBody}
use Rattle.py_objects.specs.Objects.{Obj, Name, class_object}
use Rattle.py_code.specs.BuiltinNames.{builtin_name}

-- an object's payload, where it is there
abbrev pub payload_of : List Payload → Obj → Option Payload
payload_of objects v = slice_get objects v.number

-- whether a text has a character
abbrev pub has : ℕ → Name → Bool
has c s = list_any (λ d. c == d) s

-- the quote around a text: ", where it has ' and no "
abbrev pub quote_of : Name → ℕ
quote_of s = if has 39 s && not (has 34 s) then 34 else 39

-- a text with a backslash before each quote and each backslash
abbrev pub escaped : ℕ → Name → Name
escaped q [] = []
escaped q (c ∷ cs) = if (c == q) || (c == 92) then 92 ∷ c ∷ escaped q cs else c ∷ escaped q cs

-- a text between these quotes
abbrev pub quoted_by : ℕ → Name → List ℕ
quoted_by q s = encode_utf8 q ++ (encode_utf8_all (escaped q s) ++ encode_utf8 q)

abbrev pub quoted : Name → List ℕ
quoted s = quoted_by (quote_of s) s

-- what is shown of each, with commas between
abbrev pub joined : {A : Type 0} → (A → List ℕ) → List A → List ℕ
joined f [] = []
joined f (v ∷ []) = f v
joined f (v ∷ w ∷ vs) = f v ++ (codes ", " ++ joined f (w ∷ vs))

-- the name of a class
abbrev pub class_name : Option Payload → Name
class_name (Some (payload.Class c)) = c.name
class_name _ = []

-- the items of a tuple
abbrev pub items_of : Option Payload → List Obj
items_of (Some (payload.Tuple vs)) = vs
items_of _ = []

-- how the objects inside of one are shown, where they are not too deep
abbrev pub Inner : Type 0
Inner = Option (Obj → List ℕ)

-- arguments in parentheses; three dots where they are too deep
abbrev pub in_parentheses : Inner → List Obj → List ℕ
in_parentheses None vs = codes "(...)"
in_parentheses (Some f) vs = codes "(" ++ (joined f vs ++ codes ")")

-- a tuple: one item has a comma behind it
abbrev pub tuple_of : Inner → List Obj → List ℕ
tuple_of None vs = codes "(...)"
tuple_of (Some f) (v ∷ []) = codes "(" ++ (f v ++ codes ",)")
tuple_of (Some f) vs = codes "(" ++ (joined f vs ++ codes ")")

-- a pair of a dict
abbrev pub pair_by : (Obj → List ℕ) → Obj × Obj → List ℕ
pair_by f p = f p.0 ++ (codes ": " ++ f p.1)

-- a dict: its pairs in order, in braces; three dots where they are too deep
abbrev pub dict_of : Inner → List (Obj × Obj) → List ℕ
dict_of None ps = codes "{...}"
dict_of (Some f) ps = codes "{" ++ (joined (pair_by f) ps ++ codes "}")

-- what stands in front of the name of a suspended activation
abbrev pub coro_front : CoroKind → List ℕ
coro_front kind.Generator = codes "<generator object "
coro_front kind.Coroutine = codes "<coroutine object "
coro_front kind.AsyncGen = codes "<async generator object "

-- a suspended activation: its name, and its number
abbrev pub coro_of : CoroBody → List ℕ
coro_of g = coro_front g.kind ++ (encode_utf8_all g.name ++ (codes " at " ++ (decimal g.activation ++ codes ">")))

-- an object by its payload, where it is there; a frame has no more to show
abbrev pub shown : Inner → List Payload → Option Payload → List ℕ
shown inner objects None = []
shown inner objects (Some payload.None) = codes "None"
shown inner objects (Some (payload.Bool true)) = codes "True"
shown inner objects (Some (payload.Bool false)) = codes "False"
shown inner objects (Some (payload.Int n)) = signed_decimal n
shown inner objects (Some (payload.Str s)) = quoted s
shown inner objects (Some (payload.Tuple vs)) = tuple_of inner vs
shown inner objects (Some (payload.Dict ps)) = dict_of inner ps
shown inner objects (Some (payload.Class c)) = codes "<class '" ++ (encode_utf8_all c.name ++ codes "'>")
shown inner objects (Some (payload.Function f)) = codes "<function " ++ (encode_utf8_all f.name ++ codes ">")
shown inner objects (Some (payload.Builtin f)) = codes "<built-in function " ++ (encode_utf8_all (builtin_name f) ++ codes ">")
shown inner objects (Some (payload.Code n)) = codes "<code " ++ (decimal n ++ codes ">")
shown inner objects (Some (payload.Manager m)) = codes "<manager " ++ (encode_utf8_all m.name ++ codes ">")
shown inner objects (Some (payload.Frame c)) = codes "<frame>"
shown inner objects (Some (payload.Generator g)) = coro_of g
shown inner objects (Some (payload.Exception e)) =
    encode_utf8_all (class_name (payload_of objects (class_object e.class))) ++ in_parentheses inner (items_of (payload_of objects e.args))
shown inner objects (Some (payload.Traceback t)) = codes "<traceback>"

-- an object that holds others, at most so deep
abbrev pub repr_within : ℕ → List Payload → Obj → List ℕ
repr_within zero objects v = shown None objects (payload_of objects v)
repr_within (suc k) objects v = shown (Some (repr_within k objects)) objects (payload_of objects v)
