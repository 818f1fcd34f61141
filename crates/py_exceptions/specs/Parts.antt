-- What exceptions are made of, as they are now.
use Rattle.std.specs.Prelude.{List}
use Rattle.py_objects.specs.declared.payload.Payload.{Payload}
use Rattle.py_objects.specs.declared.payload.Payload.TheVariants as payload
use Rattle.py_objects.specs.Objects.{Obj, HasPayload, class_object, IsClassObject}
use Rattle.py_exceptions.specs.Arguments.{IsTuple}

-- where this is an exception, its class is a class, and its arguments are a tuple
abbrev pub AreParts : List Payload → Payload → Type 0
AreParts objects (payload.Exception e) = IsClassObject objects (class_object e.class) × IsTuple objects e.args
AreParts objects p = Unit {0}

-- an object is there, and so are the parts of it, if it is an exception
abbrev pub HasParts : List Payload → Obj → Type 0
HasParts objects v = (p : Payload) × HasPayload objects v p × AreParts objects p
