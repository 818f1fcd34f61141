-- What can be read off a payload: a number's value, a text's characters, what a class, a function and the like holds, and whether
-- two keys are one and the same. What a new exception holds.
use Rattle.std.specs.Prelude.{Option, Some, None, List, [], Bool, true, false, ◌&&◌, ◌||◌, eqb, bytes_eq, int_le, slice_get, ℤ, pos}
use Rattle.py_objects.specs.declared.payload.Payload.{Payload}
use Rattle.py_objects.specs.declared.payload.Payload.TheVariants as payload
use Rattle.py_objects.specs.declared.payload.ClassBody.{ClassBody}
use Rattle.py_objects.specs.declared.payload.FunctionBody.{FunctionBody}
use Rattle.py_objects.specs.declared.payload.ManagerBody.{ManagerBody}
use Rattle.py_objects.specs.declared.payload.CoroBody.{CoroBody}
use Rattle.py_objects.specs.declared.payload.ExceptionBody.{ExceptionBody}
use Rattle.py_objects.specs.declared.refs.PyTypeRef.{PyTypeRef}
use Rattle.py_objects.specs.Objects.{Obj, Name}

-- a number's value: True counts as 1 and False as 0
abbrev pub number_of : Payload → Option ℤ
number_of (payload.Bool true) = Some (pos 1)
number_of (payload.Bool false) = Some (pos 0)
number_of (payload.Int n) = Some n
number_of _ = None

-- the characters of a text
abbrev pub text_of : Payload → Option Name
text_of (payload.Str s) = Some s
text_of _ = None

-- the items of a tuple
abbrev pub tuple_of : Payload → Option (List Obj)
tuple_of (payload.Tuple vs) = Some vs
tuple_of _ = None

-- what a class holds
abbrev pub class_body_of : Payload → Option ClassBody
class_body_of (payload.Class c) = Some c
class_body_of _ = None

-- what a function holds
abbrev pub function_of : Payload → Option FunctionBody
function_of (payload.Function f) = Some f
function_of _ = None

-- what a context manager holds
abbrev pub manager_of : Payload → Option ManagerBody
manager_of (payload.Manager m) = Some m
manager_of _ = None

-- what a generator holds
abbrev pub generator_of : Payload → Option CoroBody
generator_of (payload.Generator g) = Some g
generator_of _ = None

-- what an exception holds
abbrev pub exception_of : Payload → Option ExceptionBody
exception_of (payload.Exception e) = Some e
exception_of _ = None

-- whether it is None
abbrev pub is_none : Payload → Bool
is_none payload.None = true
is_none _ = false

-- an exception as it is made: of a class, with its arguments, and with no links and no attributes (Python Language Reference, 7.8)
abbrev pub new_exception : PyTypeRef → Obj → ExceptionBody
new_exception class args =
    record { class = class; args = args; cause = None; context = None; suppress = false; traceback = None; attrs = [] }

-- a test of two values, where both are there
abbrev pub both : {A : Type 0} → (A → A → Bool) → Option A → Option A → Bool
both test None b = false
both test (Some x) None = false
both test (Some x) (Some y) = test x y

abbrev pub same_number : ℤ → ℤ → Bool
same_number m n = int_le m n && int_le n m

-- numbers are one key by value, texts by characters, and None with None (Python Language Reference, 3.2, under mappings)
abbrev pub same_value : Payload → Payload → Bool
same_value p q = (is_none p && is_none q) || both same_number (number_of p) (number_of q) || both bytes_eq (text_of p) (text_of q)

-- two objects are one key: they are the same, or their values are
abbrev pub same_key : List Payload → Obj → Obj → Bool
same_key objects k j = eqb k.number j.number || both same_value (slice_get objects k.number) (slice_get objects j.number)
