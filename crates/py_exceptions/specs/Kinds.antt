-- Which exceptions are of the built-in kinds.
use Rattle.std.specs.Prelude.{List, Bool, ◌≡◌}
use Rattle.py_objects.specs.declared.refs.PyBaseExceptionRef.{PyBaseExceptionRef}
use Rattle.py_objects.specs.declared.payload.Payload.{Payload}
use Rattle.py_objects.specs.declared.payload.Payload.TheVariants as payload
use Rattle.py_objects.specs.declared.payload.ExceptionBody.{ExceptionBody}
use Rattle.py_objects.specs.declared.error_kind.ErrorKind.TheVariants.{GeneratorExit}
use Rattle.py_objects.specs.ErrorKinds.{name_of}
use Rattle.py_objects.specs.Objects.{HasPayload, as_object, class_object}
use Rattle.py_objects.specs.Ancestry.{derives_from}

-- whether an exception is a GeneratorExit: its class is that one, or derives from it
abbrev pub IsGenExit : List Payload → PyBaseExceptionRef → Bool → Type 0
IsGenExit objects exc b =
    (e : ExceptionBody) × HasPayload objects (as_object exc) (payload.Exception e)
    × (b ≡ derives_from objects (class_object e.class) (name_of GeneratorExit))
