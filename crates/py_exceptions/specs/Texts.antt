-- Objects and exceptions as texts, so deep as they are shown.
use Rattle.std.specs.Prelude.{ℕ, zero, suc, Option, Some, None, List, [], ◌∷◌, ◌++◌, chars, codes, encode_utf8_all}
use Rattle.py_objects.specs.declared.refs.PyBaseExceptionRef.{PyBaseExceptionRef}
use Rattle.py_objects.specs.declared.payload.Payload.{Payload}
use Rattle.py_objects.specs.declared.payload.Payload.TheVariants as payload
use Rattle.py_objects.specs.declared.payload.ExceptionBody.{ExceptionBody}
use Rattle.py_objects.specs.Objects.{Obj, Name, class_object, as_object}
use Rattle.py_exceptions.specs.Repr.{payload_of, class_name, items_of, repr_within}
use Rattle.py_exceptions.specs.Said.{said, said_by}

-- a text as it is, an exception by its class where its arguments are not too deep, all else by its representation
abbrev pub str_by : Option (ExceptionBody → List Obj → List ℕ) → List ℕ → List Payload → Option Payload → List ℕ
str_by says repr objects (Some (payload.Str s)) = encode_utf8_all s
str_by (Some says) repr objects (Some (payload.Exception e)) = says e (items_of (payload_of objects e.args))
str_by says repr objects _ = repr

-- an object as a text, with others inside at most so deep
abbrev pub str_within : ℕ → List Payload → Obj → List ℕ
str_within zero objects v = str_by None (repr_within zero objects v) objects (payload_of objects v)
str_within (suc k) objects v =
    str_by (Some (said_by (str_within k objects) (repr_within k objects) objects)) (repr_within (suc k) objects v) objects (payload_of objects v)

-- the representation of an object (Python Language Reference, 3.3.1): a thousand are shown inside one another
abbrev pub repr : List Payload → Obj → List ℕ
repr objects v = repr_within 1000 objects v

-- an object as a text: a thousand are shown inside one another
abbrev pub str : List Payload → Obj → List ℕ
str objects v = str_within 1000 objects v

-- the characters of what represents an exception, and of what it says
abbrev pub repr_of : List Payload → PyBaseExceptionRef → Name
repr_of objects e = chars (repr objects (as_object e))

abbrev pub str_of : List Payload → PyBaseExceptionRef → Name
str_of objects e = chars (str objects (as_object e))

-- what stands after the class of a raise: nothing without arguments, else the single one as a text, or several in parentheses
abbrev pub details : List Payload → List Obj → List ℕ
details objects [] = []
details objects (v ∷ vs) = codes ": " ++ said (str objects) (repr objects) (v ∷ vs)

-- an exception that is raised: its class, and what it says
abbrev pub raised : List Payload → Option Payload → List ℕ
raised objects (Some (payload.Exception e)) =
    encode_utf8_all (class_name (payload_of objects (class_object e.class))) ++ details objects (items_of (payload_of objects e.args))
raised objects _ = []
