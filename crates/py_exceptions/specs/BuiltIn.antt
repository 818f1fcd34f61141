-- What a built-in exception class is among the objects.
use Rattle.std.specs.Prelude.{Some, List, ◌≡◌}
use Rattle.std.specs.List.{AllZip}
use Rattle.py_objects.specs.declared.refs.PyTypeRef.{PyTypeRef}
use Rattle.py_objects.specs.declared.payload.Payload.{Payload}
use Rattle.py_objects.specs.declared.payload.Payload.TheVariants as payload
use Rattle.py_objects.specs.declared.error_kind.ErrorKind.{ErrorKind}
use Rattle.py_objects.specs.ErrorKinds.{name_of, bases_of}
use Rattle.py_objects.specs.Objects.{Obj, HasPayload, class_object, declared}

-- a class is the built-in one of a kind: it is the one that is declared under the kind's name, and derives from those that are declared under
-- the names of the kind's bases, in their order
pub record IsClassOf (objects : List Payload) (kind : ErrorKind) (class : PyTypeRef) : Type 0 where
  pub mro : List Obj
  pub entry : HasPayload objects (class_object class) (payload.Class (record { name = name_of kind; mro = mro }))
  pub is_declared : declared objects (name_of kind) ≡ Some (class_object class)
  pub bases : AllZip (λ base v. declared objects (name_of base) ≡ Some v) (bases_of kind) mro
