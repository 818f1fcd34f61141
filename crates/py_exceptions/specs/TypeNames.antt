-- The names of types.
use Rattle.std.specs.Prelude.{List, ◌≡◌, codes}
use Rattle.py_objects.specs.declared.refs.PyTypeRef.{PyTypeRef}
use Rattle.py_objects.specs.declared.payload.Payload.{Payload}
use Rattle.py_objects.specs.declared.payload.Payload.TheVariants as payload
use Rattle.py_objects.specs.declared.payload.ClassBody.{ClassBody}
use Rattle.py_objects.specs.declared.payload.CoroKind.{CoroKind}
use Rattle.py_objects.specs.declared.payload.CoroKind.TheVariants as coro
use Rattle.py_objects.specs.Objects.{Name, HasPayload, class_object}

-- the name of a suspended activation's type
abbrev pub kind_name : CoroKind → Name
kind_name coro.Generator = codes "generator"
kind_name coro.Coroutine = codes "coroutine"
kind_name coro.AsyncGen = codes "async_generator"

-- the name of a class that is there
abbrev pub IsNameOf : List Payload → PyTypeRef → Name → Type 0
IsNameOf objects class n = (c : ClassBody) × HasPayload objects (class_object class) (payload.Class c) × (n ≡ c.name)

-- the name of a payload's type; an exception's is the name of its class
abbrev pub IsTypeName : List Payload → Payload → Name → Type 0
IsTypeName objects payload.None n = n ≡ codes "NoneType"
IsTypeName objects (payload.Bool b) n = n ≡ codes "bool"
IsTypeName objects (payload.Int i) n = n ≡ codes "int"
IsTypeName objects (payload.Str s) n = n ≡ codes "str"
IsTypeName objects (payload.Tuple vs) n = n ≡ codes "tuple"
IsTypeName objects (payload.Dict ps) n = n ≡ codes "dict"
IsTypeName objects (payload.Class c) n = n ≡ codes "type"
IsTypeName objects (payload.Function f) n = n ≡ codes "function"
IsTypeName objects (payload.Builtin f) n = n ≡ codes "builtin_function_or_method"
IsTypeName objects (payload.Code c) n = n ≡ codes "code"
IsTypeName objects (payload.Manager m) n = n ≡ codes "manager"
IsTypeName objects (payload.Frame c) n = n ≡ codes "frame"
IsTypeName objects (payload.Generator g) n = n ≡ kind_name g.kind
IsTypeName objects (payload.Exception e) n = IsNameOf objects e.class n
IsTypeName objects (payload.Traceback t) n = n ≡ codes "traceback"

-- a payload's type has a name
abbrev pub HasTypeName : List Payload → Payload → Type 0
HasTypeName objects p = (n : Name) × IsTypeName objects p n
