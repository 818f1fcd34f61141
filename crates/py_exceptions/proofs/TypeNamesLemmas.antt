-- Which payloads have a type with a name, and that it stays.
use Rattle.std.proofs.Common.{◌≡◌, List, refl}
use Rattle.std.specs.Prelude.{None}
use Rattle.py_objects.specs.declared.payload.Payload.{Payload}
use Rattle.py_objects.specs.declared.payload.Payload.TheVariants as payload
use Rattle.py_objects.specs.Objects.{Name, IsMade}
use Rattle.py_objects.specs.Values.{exception_of}
use Rattle.py_objects.specs.Growth.{Grows}
use Rattle.py_objects.proofs.GrowthLemmas.{payload_grown}
use Rattle.py_exceptions.specs.TypeNames.{IsTypeName}

-- each payload but an exception, whatever the objects are
pub other_type_name : (objects : List Payload) (p : Payload) → exception_of p ≡ None → (n : Name) × IsTypeName objects p n
other_type_name objects (payload.Exception e) none = absurd (cc none)
other_type_name objects _ none = (_, refl)

-- each payload that is made of what it needs
pub has_type_name : (objects : List Payload) (p : Payload) → IsMade objects p → (n : Name) × IsTypeName objects p n
has_type_name objects (payload.Exception e) made = (made.class.name, (made.class, made.is_class, refl))
has_type_name objects _ made = (_, refl)

-- the names stay as objects grow
pub type_name_grows : (objects objects' : List Payload) (p : Payload) (n : Name) → Grows objects objects' → IsTypeName objects p n → IsTypeName objects' p n
type_name_grows objects objects' (payload.Exception e) n grows (c, has, is) = (c, payload_grown objects objects' _ _ grows has, is)
type_name_grows objects objects' _ n grows is = is
