-- The links of exceptions, as calls read and set them (Python Language Reference, 7.8).
use Rattle.std.specs.Prelude.{Option, Some, None, Bool, true, List, ◌≡◌}
use Rattle.py_objects.specs.declared.refs.PyBaseExceptionRef.{PyBaseExceptionRef}
use Rattle.py_objects.specs.declared.payload.Payload.{Payload}
use Rattle.py_objects.specs.declared.payload.Payload.TheVariants as payload
use Rattle.py_objects.specs.declared.payload.ExceptionBody.{ExceptionBody}
use Rattle.py_objects.specs.declared.edit.Edit.{Edit}
use Rattle.py_objects.specs.declared.edit.Edit.TheVariants as edit
use Rattle.py_objects.specs.declared.edit.LinkField.{LinkField}
use Rattle.py_objects.specs.declared.edit.LinkField.TheVariants as link
use Rattle.py_objects.specs.Objects.{Obj, HasPayload, as_object}
use Rattle.py_objects.specs.Edits.{Kept, edited_exception, IsEdited}
use Rattle.py_exceptions.specs.Walks.{link_at}

-- an exception as an object, where there is one
abbrev pub exception_object : Option PyBaseExceptionRef → Option Obj
exception_object None = None
exception_object (Some e) = Some (as_object e)

-- a link of an exception leads to another one, or to none
abbrev pub HasLink : LinkField → List Payload → (exc : PyBaseExceptionRef) → Option PyBaseExceptionRef → Type 0
HasLink field objects exc v = link_at field objects (as_object exc) ≡ exception_object v

-- whether the context of an exception is left out of what is printed
abbrev pub IsSuppressed : List Payload → PyBaseExceptionRef → Bool → Type 0
IsSuppressed objects exc b = (e : ExceptionBody) × HasPayload objects (as_object exc) (payload.Exception e) × (b ≡ e.suppress)

-- a link leads from exceptions to exceptions
abbrev pub IsBetweenExceptions : LinkField → Type 0
IsBetweenExceptions link.Cause = Unit {0}
IsBetweenExceptions link.Context = Unit {0}
IsBetweenExceptions link.Traceback = ⊥
IsBetweenExceptions link.Next = ⊥

-- one edit made a link of an exception lead to another one, or to none
abbrev pub IsLinkSet : Kept → Kept → LinkField → PyBaseExceptionRef → Option PyBaseExceptionRef → Type 0
IsLinkSet old new field exc v = IsEdited old new (as_object exc) (edit.Link field (exception_object v))

-- an exception is what an edit makes of it
abbrev pub IsExceptionEdited : (old new : List Payload) → PyBaseExceptionRef → Edit → Type 0
IsExceptionEdited old new exc x =
    (e : ExceptionBody) × HasPayload old (as_object exc) (payload.Exception e)
    × HasPayload new (as_object exc) (payload.Exception (edited_exception x e))

-- an exception got a cause, or lost it, and then its context was suppressed
pub record IsCaused (old new : Kept) (exc : PyBaseExceptionRef) (cause : Option PyBaseExceptionRef) : Type 0 where
  pub between : Kept
  pub linked : IsLinkSet old between link.Cause exc cause
  pub suppressed : IsEdited between new (as_object exc) (edit.Flag true)
