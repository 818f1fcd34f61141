-- The built-in exception classes among the objects.
use Rattle.std.specs.Prelude.{ℕ, ◌+◌, ◌≤◌, Some, None, List, ◌++◌, ◌≡◌, ◌⊎◌, length, map, take, slice_get}
use Rattle.py_objects.specs.declared.refs.PyTypeRef.{PyTypeRef}
use Rattle.py_objects.specs.declared.payload.Payload.{Payload}
use Rattle.py_objects.specs.declared.payload.Payload.TheVariants as payload
use Rattle.py_objects.specs.declared.error_kind.ErrorKind.{ErrorKind}
use Rattle.py_objects.specs.ErrorKinds.{name_of, bases_of, error_kinds}
use Rattle.py_objects.specs.ErrorPlaces.{place_of}
use Rattle.py_objects.specs.Objects.{Obj, class_object, declares}
use Rattle.py_objects.specs.Attrs.{Attrs, inserted}
use Rattle.py_objects.specs.Edits.{Kept}
use Rattle.py_objects.specs.Growth.{with_object}
use Rattle.py_exceptions.specs.declared.zoo.ExceptionZoo.{ExceptionZoo}
use Rattle.py_exceptions.specs.BuiltIn.{IsClassOf}

-- the class of the exceptions of a kind: the classes stand one after the other
abbrev pub class_of : ExceptionZoo → ErrorKind → PyTypeRef
class_of zoo kind = record { number = zoo.first + place_of kind }

-- the classes that one derives from
abbrev pub mro_of : ExceptionZoo → ErrorKind → List Obj
mro_of zoo kind = map (λ base. class_object (class_of zoo base)) (bases_of kind)

-- the entry of a built-in class
abbrev pub class_payload : ExceptionZoo → ErrorKind → Payload
class_payload zoo kind = payload.Class (record { name = name_of kind; mro = mro_of zoo kind })

-- the entries of all of them
abbrev pub class_payloads : ExceptionZoo → List Payload
class_payloads zoo = map (class_payload zoo) error_kinds

-- a store with all of them after its objects
abbrev pub with_classes : Kept → ExceptionZoo → Kept
with_classes s zoo = record s { made = s.made ++ class_payloads zoo }

-- where the classes of a machine stand: after None, False and True
abbrev pub first_classes : ExceptionZoo
first_classes = record { first = 3 }

-- the names of the classes, each with its class
abbrev pub declarations_of : ExceptionZoo → Attrs
declarations_of zoo = map (λ kind. (name_of kind, class_object (class_of zoo kind))) error_kinds

-- the name of one of the classes comes to what is declared
abbrev pub AddsName : ExceptionZoo → ErrorKind → Attrs → Attrs → Type 0
AddsName zoo kind old new = new ≡ inserted (name_of kind) (class_object (class_of zoo kind)) old

-- where the classes stand that go after the objects of a store
abbrev pub classes_behind : Kept → ExceptionZoo
classes_behind s = record { first = length s.made }

-- one object more came, or none
abbrev pub IsAddedOrNot : Kept → Kept → Payload → Type 0
IsAddedOrNot old new p = (new ≡ old) ⊎ (new ≡ with_object old p)

-- memory ran out while the classes were added to a store without declarations: so many of them came after its objects, and all else stayed; so
-- many of their names are declared, which is each but the last one's at most
pub record AreBegun (old new : Kept) (names : Attrs) : Type 0 where
  pub classes : ℕ
  pub added : new ≡ record old { made = old.made ++ map (class_payload (classes_behind old)) (take classes error_kinds) }
  pub named : ℕ
  pub there : named ≤ classes
  pub but_one : classes ≤ named + 1
  pub declared : names ≡ map (λ kind. (name_of kind, class_object (class_of (classes_behind old) kind))) (take named error_kinds)

-- nothing is declared among these
abbrev pub DeclareNothing : List Payload → Type 0
DeclareNothing objects = (i : ℕ) (p : Payload) → slice_get objects i ≡ Some p → declares p ≡ None

-- each built-in class is there
abbrev pub HaveClasses : ExceptionZoo → List Payload → Type 0
HaveClasses zoo objects = (kind : ErrorKind) → IsClassOf objects kind (class_of zoo kind)
