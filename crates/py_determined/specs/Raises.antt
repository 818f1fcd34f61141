-- Which traceback an exit is told of an exception, by the events alone (Python Language Reference, 7.8 and 8.5): one belongs to each raise of it in a
-- body, and it is told that of the last one.
use Rattle.std.specs.Prelude.{Option, Some, None, List, [], ◌∷◌, ◌++◌, ◌≡◌, ◌⊎◌, eqb, if◌then◌else◌}
use Rattle.py_objects.specs.declared.payload.Payload.{Payload}
use Rattle.py_objects.specs.declared.payload.Payload.TheVariants as payload
use Rattle.py_objects.specs.declared.payload.ExceptionBody.{ExceptionBody}
use Rattle.py_objects.specs.declared.request.Request.{Request}
use Rattle.py_objects.specs.declared.request.Request.TheVariants as request
use Rattle.py_objects.specs.declared.event.Event.{Event}
use Rattle.py_objects.specs.declared.event.Event.TheVariants as event
use Rattle.py_objects.specs.Objects.{Obj, HasPayload, IsNew, IsTraceback, class_object}
use Rattle.py_run.specs.Run.{State, start, after, open_in}
use Rattle.py_run.specs.Raises.{raised_by}
use Rattle.py_run.specs.Links.{IsToldNone}

-- a raise of an exception in a body, with its traceback, once an exit was told it
pub record Raise : Type 0 where
  pub exception : Obj
  pub traceback : Option Obj

-- the last raise of an exception, if it was raised; the last ones stand first
abbrev pub raise_of : Obj → List Raise → Option Raise
raise_of e [] = None
raise_of e (x ∷ xs) = if eqb x.exception.number e.number then Some x else raise_of e xs

-- this was raised, if anything, which no exit was told yet
abbrev pub with_raise : Option Obj → List Raise → List Raise
with_raise None xs = xs
with_raise (Some e) xs = record { exception = e; traceback = None } ∷ xs

-- an exit was told this traceback of an exception: it is that of its last raise
abbrev pub with_traceback : Obj → Obj → List Raise → List Raise
with_traceback e t [] = []
with_traceback e t (x ∷ xs) = if eqb x.exception.number e.number then record x { traceback = Some t } ∷ xs else x ∷ with_traceback e t xs

-- a question is asked: an exit is told a traceback
abbrev pub told_by : Request → List Raise → List Raise
told_by (request.Exit x c e t) xs = with_traceback e t xs
told_by _ xs = xs

-- the raises behind an event, where this was the state in front of it
abbrev pub raises_after : State → List Raise → Event → List Raise
raises_after s xs (event.Drive d) = xs
raises_after s xs (event.Result d w) = xs
raises_after s xs (event.Make a f vs) = xs
raises_after s xs (event.Resume a h) = xs
raises_after s xs (event.Ask a r own at) = told_by r xs
raises_after s xs (event.Got a w) = with_raise (raised_by (open_in None s.stack) w) xs
raises_after s xs (event.Round a at) = xs
raises_after s xs (event.Yield a v at) = xs
raises_after s xs (event.End a e at) = xs

-- those behind some events more
abbrev pub raises_from : State → List Raise → List Event → List Raise
raises_from s xs [] = xs
raises_from s xs (e ∷ es) = raises_from (after s e) (raises_after s xs e) es

-- the raises among events
abbrev pub raises_of : List Event → List Raise
raises_of events = raises_from start [] events

-- an object is the traceback of a raise: the one that an exit was told before, else a new one
abbrev pub IsTracebackOf : List Payload → (before : List Event) → Option Obj → Obj → Type 0
IsTracebackOf objects before None t = IsNew objects before t.number × IsTraceback objects t
IsTracebackOf objects before (Some known) t = t ≡ known

-- an object is what an exit is told as the traceback of an exception with this last raise: None where it wasn't raised
abbrev pub IsToldOf : List Payload → (before : List Event) → Option Raise → Obj → Type 0
IsToldOf objects before None t = HasPayload objects t payload.None
IsToldOf objects before (Some x) t = IsTracebackOf objects before x.traceback t

-- an exit is told an exception: its class, itself, and the traceback of its last raise
abbrev pub IsToldRaise : List Payload → (before : List Event) → List Raise → (c e t : Obj) → Type 0
IsToldRaise objects before xs c e t =
    (body : ExceptionBody) × HasPayload objects e (payload.Exception body) × (c ≡ class_object body.class) × IsToldOf objects before (raise_of e xs) t

-- a question tells what it may, where these events were before it: an exit of an exception, or of none
abbrev pub Tells : List Payload → (before : List Event) → List Raise → Request → Type 0
Tells objects before xs (request.Exit x c e t) = IsToldNone objects c e t ⊎ IsToldRaise objects before xs c e t
Tells objects before xs _ = Unit {0}

-- an event tells what it may by its question, if it asks one
abbrev pub TellsRaise : List Payload → (before : List Event) → Event → Type 0
TellsRaise objects before (event.Ask a r own at) = Tells objects before (raises_of before) r
TellsRaise objects before _ = Unit {0}

-- each of these events does, behind those before
abbrev pub TellRaises : List Payload → (before : List Event) → List Event → Type 0
TellRaises objects before [] = Unit {0}
TellRaises objects before (e ∷ es) = TellsRaise objects before e × TellRaises objects (before ++ e ∷ []) es
