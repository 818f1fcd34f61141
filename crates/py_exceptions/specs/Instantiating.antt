-- What comes of what may be raised, with a value or without one.
use Rattle.std.specs.Prelude.{Option, Some, None, Bool, true, false, List, [], ◌∷◌, ◌≡◌, codes}
use Rattle.py_objects.specs.declared.refs.PyTypeRef.{PyTypeRef}
use Rattle.py_objects.specs.declared.refs.PyBaseExceptionRef.{PyBaseExceptionRef}
use Rattle.py_objects.specs.declared.payload.Payload.{Payload}
use Rattle.py_objects.specs.declared.payload.Payload.TheVariants as payload
use Rattle.py_objects.specs.declared.payload.ExceptionBody.{ExceptionBody}
use Rattle.py_objects.specs.declared.payload.Fault.{Fault}
use Rattle.py_objects.specs.declared.error_kind.ErrorKind.TheVariants.{TypeError}
use Rattle.py_objects.specs.Objects.{Obj, HasPayload, class_object, as_exception}
use Rattle.py_objects.specs.Values.{exception_of}
use Rattle.py_exceptions.specs.declared.ctor.ExceptionCtor.{ExceptionCtor}
use Rattle.py_exceptions.specs.declared.ctor.ExceptionCtor.TheVariants as ctor
use Rattle.py_exceptions.specs.declared.ctor.Instantiate.{Instantiate}
use Rattle.py_exceptions.specs.declared.ctor.Instantiate.TheVariants as comes
use Rattle.py_exceptions.specs.Deriving.{IsInstanceOf}

-- without a value: a call without arguments, or the exception
abbrev pub instantiated : ExceptionCtor → Instantiate
instantiated (ctor.Class class) = comes.Make class []
instantiated (ctor.Instance e) = comes.Done e

-- the arguments that a value with a payload stands for: none for None, the items of a tuple, the arguments of an exception, and for all
-- else the value alone
abbrev pub StandsFor : List Payload → Obj → Payload → List Obj → Type 0
StandsFor objects v payload.None args = args ≡ []
StandsFor objects v (payload.Bool b) args = args ≡ v ∷ []
StandsFor objects v (payload.Int n) args = args ≡ v ∷ []
StandsFor objects v (payload.Str s) args = args ≡ v ∷ []
StandsFor objects v (payload.Tuple items) args = args ≡ items
StandsFor objects v (payload.Dict ps) args = args ≡ v ∷ []
StandsFor objects v (payload.Class c) args = args ≡ v ∷ []
StandsFor objects v (payload.Function f) args = args ≡ v ∷ []
StandsFor objects v (payload.Builtin f) args = args ≡ v ∷ []
StandsFor objects v (payload.Code n) args = args ≡ v ∷ []
StandsFor objects v (payload.Manager m) args = args ≡ v ∷ []
StandsFor objects v (payload.Frame n) args = args ≡ v ∷ []
StandsFor objects v (payload.Generator g) args = args ≡ v ∷ []
StandsFor objects v (payload.Exception e) args = HasPayload objects e.args (payload.Tuple args)
StandsFor objects v (payload.Traceback t) args = args ≡ v ∷ []

-- the refusal of an exception with another one as its value
abbrev pub separate_value : Fault
separate_value = record { kind = TypeError; text = codes "instance exception may not have a separate value" }

-- with a value that is an exception of the class, or isn't: the value, or a call with the arguments that it stands for
abbrev pub ClassWith : List Payload → PyTypeRef → Obj → Payload → Bool → Instantiate → Type 0
ClassWith objects class v p true outcome = outcome ≡ comes.Done (as_exception v)
ClassWith objects class v p false outcome = (args : List Obj) × StandsFor objects v p args × (outcome ≡ comes.Make class args)

-- an exception stays itself with a value that is none, and is refused with another exception
abbrev pub instance_with : PyBaseExceptionRef → Option ExceptionBody → Instantiate
instance_with e None = comes.Done e
instance_with e (Some x) = comes.Fault separate_value

-- with a value of a payload
abbrev pub InstantiatesAs : List Payload → ExceptionCtor → Obj → Payload → Instantiate → Type 0
InstantiatesAs objects (ctor.Class class) v p outcome = (b : Bool) × IsInstanceOf objects p (class_object class) b × ClassWith objects class v p b outcome
InstantiatesAs objects (ctor.Instance e) v p outcome = outcome ≡ instance_with e (exception_of p)

-- with a value
abbrev pub Instantiates : List Payload → ExceptionCtor → Obj → Instantiate → Type 0
Instantiates objects c v outcome = (p : Payload) × HasPayload objects v p × InstantiatesAs objects c v p outcome
