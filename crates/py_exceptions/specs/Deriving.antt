-- Which exceptions are of which classes.
use Rattle.std.specs.Prelude.{Option, Some, None, List, Bool, false, ◌≡◌}
use Rattle.py_objects.specs.declared.payload.Payload.{Payload}
use Rattle.py_objects.specs.declared.payload.Payload.TheVariants as payload
use Rattle.py_objects.specs.declared.payload.ClassBody.{ClassBody}
use Rattle.py_objects.specs.declared.payload.ExceptionBody.{ExceptionBody}
use Rattle.py_objects.specs.Objects.{Obj, HasPayload, class_object}
use Rattle.py_objects.specs.Values.{exception_of}
use Rattle.py_objects.specs.Ancestry.{derives}

-- whether an exception, where it is one, is of a class, or of one that derives from it
abbrev pub IsOfClass : List Payload → Option ExceptionBody → Obj → Bool → Type 0
IsOfClass objects None c b = b ≡ false
IsOfClass objects (Some e) c b = (body : ClassBody) × HasPayload objects (class_object e.class) (payload.Class body) × (b ≡ derives e.class body c)

-- whether what has a payload is an exception of a class, or of one that derives from it
abbrev pub IsInstanceOf : List Payload → Payload → Obj → Bool → Type 0
IsInstanceOf objects p c b = IsOfClass objects (exception_of p) c b
