-- The tracebacks of exceptions.
use Rattle.std.specs.Prelude.{ℕ, Option, Some, None, List, ◌≡◌, slice_set}
use Rattle.py_objects.specs.declared.refs.PyBaseExceptionRef.{PyBaseExceptionRef}
use Rattle.py_objects.specs.declared.refs.PyTracebackRef.{PyTracebackRef}
use Rattle.py_objects.specs.declared.refs.FrameRef.{FrameRef}
use Rattle.py_objects.specs.declared.payload.Payload.{Payload}
use Rattle.py_objects.specs.declared.payload.Payload.TheVariants as payload
use Rattle.py_objects.specs.declared.payload.ExceptionBody.{ExceptionBody}
use Rattle.py_objects.specs.declared.edit.Edit.{Edit}
use Rattle.py_objects.specs.declared.edit.Edit.TheVariants as edit
use Rattle.py_objects.specs.declared.edit.LinkField.TheVariants as link
use Rattle.py_objects.specs.Objects.{Obj, HasPayload, as_object, class_object}
use Rattle.py_objects.specs.Singletons.{none_object}
use Rattle.py_objects.specs.Edits.{Kept, objects_of}
use Rattle.py_objects.specs.Growth.{with_object}

-- a traceback as an object, where there is one
abbrev pub traceback_object : Option PyTracebackRef → Option Obj
traceback_object None = None
traceback_object (Some t) = Some (record { number = t.number })

-- an object is a frame
abbrev pub IsFrame : List Payload → FrameRef → Type 0
IsFrame objects f = (code : ℕ) × HasPayload objects (record { number = f.number }) (payload.Frame code)

-- an entry of a traceback: what it leads on to, its frame, the place in that frame's code, and the line
abbrev pub traceback_entry : Option PyTracebackRef → FrameRef → (lasti lineno : ℕ) → Payload
traceback_entry next frame lasti lineno =
    payload.Traceback (record { next = traceback_object next; frame = frame; lasti = lasti; lineno = lineno })

-- a store with one more entry
abbrev pub with_entry : Kept → Option PyTracebackRef → FrameRef → (lasti lineno : ℕ) → Kept
with_entry s next frame lasti lineno = with_object s (traceback_entry next frame lasti lineno)

-- the edit that sets a traceback, or takes it off
abbrev pub traceback_edit : Option PyTracebackRef → Edit
traceback_edit tb = edit.Link link.Traceback (traceback_object tb)

-- an exception has this traceback, or none
abbrev pub HasTraceback : List Payload → PyBaseExceptionRef → Option PyTracebackRef → Type 0
HasTraceback objects exc tb =
    (e : ExceptionBody) × HasPayload objects (as_object exc) (payload.Exception e) × (traceback_object tb ≡ e.traceback)

-- an exception got this traceback, or none any more; all else of it stayed, and so did all other objects
pub record IsTracebackSet (old new : List Payload) (exc : PyBaseExceptionRef) (tb : Option PyTracebackRef) : Type 0 where
  pub before : ExceptionBody
  pub was : HasPayload old (as_object exc) (payload.Exception before)
  pub is : new ≡ slice_set old exc.number (payload.Exception (record before { traceback = traceback_object tb }))

-- what stands for a traceback: itself, and for none the store's own None
abbrev pub StandsForTraceback : List Payload → Option Obj → Obj → Type 0
StandsForTraceback made None v = (v ≡ none_object) × HasPayload made v payload.None
StandsForTraceback made (Some t) v = v ≡ t

-- an exception as it is now, between its class and its traceback
pub record IsSplit (store : Kept) (exc : PyBaseExceptionRef) (class value traceback : Obj) : Type 0 where
  pub body : ExceptionBody
  pub has : HasPayload (objects_of store) (as_object exc) (payload.Exception body)
  pub is_class : class ≡ class_object body.class
  pub is_value : value ≡ as_object exc
  pub is_traceback : StandsForTraceback store.made body.traceback traceback
