-- What the entries of tracebacks hold and lead on to (Python Language Reference, 3.2, under traceback objects).
use Rattle.std.specs.Prelude.{Option, Some, None, List, ◌≡◌}
use Rattle.py_objects.specs.declared.refs.PyTracebackRef.{PyTracebackRef}
use Rattle.py_objects.specs.declared.payload.Payload.{Payload}
use Rattle.py_objects.specs.declared.payload.Payload.TheVariants as payload
use Rattle.py_objects.specs.declared.payload.TracebackBody.{TracebackBody}
use Rattle.py_objects.specs.declared.edit.Edit.TheVariants as edit
use Rattle.py_objects.specs.declared.edit.LinkField.TheVariants as link
use Rattle.py_objects.specs.Objects.{Obj, HasPayload}
use Rattle.py_objects.specs.Refs.{object_of_traceback}
use Rattle.py_objects.specs.Edits.{Kept, IsEdited}
use Rattle.py_exceptions.specs.Tracebacks.{traceback_object}
use Rattle.py_exceptions.specs.Walks.{link_at, Reaches}
use Rattle.py_exceptions.specs.Orders.{IsOrder}

-- this stands in an entry, where a function reads it off
abbrev pub IsInEntry : {A : Type 0} → (TracebackBody → A) → List Payload → PyTracebackRef → A → Type 0
IsInEntry read objects tb x =
    (t : TracebackBody) × HasPayload objects (object_of_traceback tb) (payload.Traceback t) × (x ≡ read t)

-- what an entry leads on to
abbrev pub next_at : List Payload → Obj → Option Obj
next_at objects v = link_at link.Next objects v

-- an entry leads on to another one, or to none
abbrev pub LeadsOn : List Payload → PyTracebackRef → Option PyTracebackRef → Type 0
LeadsOn objects tb v = next_at objects (object_of_traceback tb) ≡ traceback_object v

-- one edit made an entry lead on to another, or to none
abbrev pub IsNextSet : Kept → Kept → PyTracebackRef → Option PyTracebackRef → Type 0
IsNextSet old new tb v = IsEdited old new (object_of_traceback tb) (edit.Link link.Next (traceback_object v))

-- an entry is reached from another one, where there is one
abbrev pub LeadsBack : List Payload → PyTracebackRef → Option PyTracebackRef → Type 0
LeadsBack objects tb None = ⊥
LeadsBack objects tb (Some v) = Reaches (next_at objects) (object_of_traceback v) (object_of_traceback tb)

-- the entries along the links from one on, each once
abbrev pub AreEntries : List Payload → PyTracebackRef → List Obj → Type 0
AreEntries objects tb entries = IsOrder (next_at objects) (object_of_traceback tb) entries
