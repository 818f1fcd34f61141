-- Which classes a class derives from.
use Rattle.std.specs.Prelude.{ℕ, Option, Some, None, List, Bool, false, ◌||◌, ◌≡◌, eqb, bytes_eq, slice_get}
use Rattle.std.specs.List.{list_any, position_from}
use Rattle.py_objects.specs.declared.refs.PyTypeRef.{PyTypeRef}
use Rattle.py_objects.specs.declared.payload.Payload.{Payload}
use Rattle.py_objects.specs.declared.payload.Payload.TheVariants as payload
use Rattle.py_objects.specs.declared.payload.ClassBody.{ClassBody}
use Rattle.py_objects.specs.Objects.{Obj, Name, HasPayload}
use Rattle.py_objects.specs.Values.{class_body_of}

-- the class that an entry is, where it is one
abbrev pub class_in : Option Payload → Option ClassBody
class_in None = None
class_in (Some p) = class_body_of p

-- the class that an object is, where it is one
abbrev pub class_at : List Payload → Obj → Option ClassBody
class_at objects v = class_in (slice_get objects v.number)

-- whether a class is there and has this name
abbrev pub has_name : Name → Option ClassBody → Bool
has_name n None = false
has_name n (Some c) = bytes_eq c.name n

-- the place of the first entry that is a class of this name: a built-in class is the first one of its name
abbrev pub first_class : Name → List Payload → Option ℕ
first_class n objects = position_from (λ p. has_name n (class_in (Some p))) 0 objects

-- whether a class is another one, or derives from it (Python Language Reference, 3.3.3.1)
abbrev pub derives : PyTypeRef → ClassBody → Obj → Bool
derives class body c = eqb class.number c.number || list_any (λ v. eqb v.number c.number) body.mro

-- whether an object, which may be a class, is the class at a place, where there is one, or derives from it
abbrev pub derives_by : Obj → Option ClassBody → Option ℕ → Bool
derives_by v None first = false
derives_by v (Some c) None = false
derives_by v (Some c) (Some i) = derives (record { number = v.number }) c (record { number = i })

-- whether an object is the built-in class of this name, or a class that derives from it
abbrev pub derives_from : List Payload → Obj → Name → Bool
derives_from objects v n = derives_by v (class_at objects v) (first_class n objects)

-- the same of a class that is there
abbrev pub IsDerived : List Payload → Obj → Name → Bool → Type 0
IsDerived objects v n b = (c : ClassBody) × HasPayload objects v (payload.Class c) × (b ≡ derives_from objects v n)
