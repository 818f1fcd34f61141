-- What may be raised, and what it is raised as.
use Rattle.std.specs.Prelude.{Option, Some, None, Bool, true, false, Result, Ok, List, ◌++◌, ◌≡◌, codes, IsErrAnd}
use Rattle.py_objects.specs.declared.refs.PyTypeRef.{PyTypeRef}
use Rattle.py_objects.specs.declared.payload.Payload.{Payload}
use Rattle.py_objects.specs.declared.payload.Payload.TheVariants as payload
use Rattle.py_objects.specs.declared.payload.ClassBody.{ClassBody}
use Rattle.py_objects.specs.declared.payload.ExceptionBody.{ExceptionBody}
use Rattle.py_objects.specs.declared.payload.Fault.{Fault}
use Rattle.py_objects.specs.declared.error_kind.ErrorKind.TheVariants.{BaseException, TypeError}
use Rattle.py_objects.specs.ErrorKinds.{name_of}
use Rattle.py_objects.specs.Objects.{Obj, Name, HasPayload, as_exception}
use Rattle.py_objects.specs.Values.{class_body_of, exception_of}
use Rattle.py_objects.specs.Ancestry.{IsDerived}
use Rattle.py_exceptions.specs.declared.ctor.ExceptionCtor.{ExceptionCtor}
use Rattle.py_exceptions.specs.declared.ctor.ExceptionCtor.TheVariants as ctor
use Rattle.py_exceptions.specs.declared.ctor.CtorFault.{CtorFault}
use Rattle.py_exceptions.specs.declared.ctor.CtorFault.TheVariants as fault
use Rattle.py_exceptions.specs.TypeNames.{IsTypeName}

-- an object as a class
abbrev pub as_class : Obj → PyTypeRef
as_class v = record { number = v.number }

-- the refusal of an object of a type
abbrev pub not_exception : Name → Fault
not_exception n = record { kind = TypeError; text = codes "exceptions must be classes or instances deriving from BaseException, not " ++ n }

-- a text is that of the refusal of what has a payload
abbrev pub IsRefusal : List Payload → Payload → Name → Type 0
IsRefusal objects p text = (n : Name) × IsTypeName objects p n × (text ≡ (not_exception n).text)

-- the object with a payload is refused, or memory ran out
abbrev pub IsNotException : List Payload → Payload → CtorFault → Type 0
IsNotException objects p (fault.NotException f) = (n : Name) × IsTypeName objects p n × (f ≡ not_exception n)
IsNotException objects p fault.NoMemory = Unit {0}

-- what a class is taken for: itself where it is one of exceptions, and nothing where it isn't
abbrev pub ClassTaken : List Payload → Obj → ClassBody → Bool → Result ExceptionCtor CtorFault → Type 0
ClassTaken objects v c true taken = taken ≡ Ok (ctor.Class (as_class v))
ClassTaken objects v c false taken = IsErrAnd taken (IsNotException objects (payload.Class c))

-- what an object with a payload is taken for, by the class and the exception that it is, if any: a class that is BaseException or derives from
-- it, and an exception, for themselves, and nothing else
abbrev pub TakenAs : List Payload → Obj → Payload → Option ClassBody → Option ExceptionBody → Result ExceptionCtor CtorFault → Type 0
TakenAs objects v p None None taken = IsErrAnd taken (IsNotException objects p)
TakenAs objects v p None (Some e) taken = taken ≡ Ok (ctor.Instance (as_exception v))
TakenAs objects v p (Some c) e taken = (b : Bool) × IsDerived objects v (name_of BaseException) b × ClassTaken objects v c b taken

abbrev pub IsTakenFor : List Payload → Obj → Payload → Result ExceptionCtor CtorFault → Type 0
IsTakenFor objects v p taken = TakenAs objects v p (class_body_of p) (exception_of p) taken

-- what an object is taken for
abbrev pub IsTaken : List Payload → Obj → Result ExceptionCtor CtorFault → Type 0
IsTaken objects v taken = (p : Payload) × HasPayload objects v p × IsTakenFor objects v p taken
