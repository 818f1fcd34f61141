-- New exceptions among the objects of a run.
use Rattle.std.specs.Prelude.{◌<◌, ◌≤◌, Option, Some, None, List, [], ◌∷◌, Bool, codes, length, is_some}
use Rattle.py_objects.specs.declared.refs.PyTypeRef.{PyTypeRef}
use Rattle.py_objects.specs.declared.refs.PyBaseExceptionRef.{PyBaseExceptionRef}
use Rattle.py_objects.specs.declared.payload.Payload.{Payload}
use Rattle.py_objects.specs.declared.payload.Payload.TheVariants as payload
use Rattle.py_objects.specs.declared.payload.ExceptionBody.{ExceptionBody}
use Rattle.py_objects.specs.declared.payload.Fault.{Fault}
use Rattle.py_objects.specs.declared.error_kind.ErrorKind.TheVariants.{OSError, ValueError}
use Rattle.py_objects.specs.ErrorKinds.{name_of}
use Rattle.py_objects.specs.Objects.{Obj, Name, HasPayload, as_object, class_object}
use Rattle.py_objects.specs.Attrs.{Attrs}
use Rattle.py_objects.specs.Edits.{Kept}
use Rattle.py_objects.specs.Ancestry.{derives_from}
use Rattle.py_objects.specs.Values.{new_exception}
use Rattle.py_exceptions.specs.declared.zoo.ExceptionZoo.{ExceptionZoo}
use Rattle.py_exceptions.specs.Classes.{class_of}
use Rattle.py_exceptions.specs.Keeping.{kept_args, kept_attrs}

-- whether a class is OSError, or derives from it
abbrev pub is_os : List Payload → PyTypeRef → Bool
is_os objects class = derives_from objects (class_object class) (name_of OSError)

-- an exception as it is made, with these attributes and maybe with a cause, which keeps its context from being printed (Python Language
-- Reference, 7.8)
abbrev pub exception_from : PyTypeRef → Obj → Option Obj → Attrs → ExceptionBody
exception_from class args cause attrs = record (new_exception class args) { cause = cause; suppress = is_some cause; attrs = attrs }

-- an exception of a class, with these arguments, this cause and these attributes and nothing else, that is none of the old objects
pub record IsNewInstanceFrom (old new : List Payload) (class : PyTypeRef) (arguments : List Obj) (cause : Option Obj) (attrs : Attrs) (e : PyBaseExceptionRef) : Type 0 where
  pub later : length old ≤ e.number
  pub below : e.number < length new
  pub args : Obj
  pub entry : HasPayload new (as_object e) (payload.Exception (exception_from class args cause attrs))
  pub are : HasPayload new args (payload.Tuple arguments)

-- one without a cause
abbrev pub IsNewInstance : List Payload → List Payload → PyTypeRef → List Obj → Attrs → PyBaseExceptionRef → Type 0
IsNewInstance old new class arguments attrs e = IsNewInstanceFrom old new class arguments None attrs e

-- one that a call of its class with these arguments makes
abbrev pub IsNewCalled : List Payload → List Payload → PyTypeRef → List Obj → PyBaseExceptionRef → Type 0
IsNewCalled old new class arguments e = IsNewInstance old new class (kept_args (is_os old class) arguments) (kept_attrs (is_os old class) arguments) e

-- one whose one argument is a text, with a cause or without one
pub record IsNewText (old new : List Payload) (class : PyTypeRef) (text : Name) (cause : Option Obj) (e : PyBaseExceptionRef) : Type 0 where
  pub argument : Obj
  pub message : HasPayload new argument (payload.Str text)
  pub made : IsNewInstanceFrom old new class (argument ∷ []) cause [] e

-- without a cause
abbrev pub IsNewException : List Payload → List Payload → PyTypeRef → Name → PyBaseExceptionRef → Type 0
IsNewException old new class text e = IsNewText old new class text None e

-- with one
abbrev pub IsNewExceptionFrom : List Payload → List Payload → PyTypeRef → Name → (cause e : PyBaseExceptionRef) → Type 0
IsNewExceptionFrom old new class text cause e = IsNewText old new class text (Some (as_object cause)) e

-- the one of a fault's kind and text, with a cause or without one, as these classes stand
abbrev pub IsNewOf : ExceptionZoo → Fault → Option Obj → Kept → Kept → PyBaseExceptionRef → Type 0
IsNewOf zoo fault cause old new e = IsNewText old.made new.made (class_of zoo fault.kind) fault.text cause e

-- with this cause
abbrev pub IsNewFrom : ExceptionZoo → Fault → PyBaseExceptionRef → Kept → Kept → PyBaseExceptionRef → Type 0
IsNewFrom zoo fault cause old new e = IsNewOf zoo fault (Some (as_object cause)) old new e

-- an exception of a class, with all that it holds, is new in a store
abbrev pub IsAddedFrom : Kept → Kept → PyTypeRef → List Obj → Option Obj → Attrs → PyBaseExceptionRef → Type 0
IsAddedFrom old new class arguments cause attrs e = IsNewInstanceFrom old.made new.made class arguments cause attrs e

-- the refusal of a text that has a null character inside
abbrev pub embedded_null : Fault
embedded_null = record { kind = ValueError; text = codes "embedded null character" }
