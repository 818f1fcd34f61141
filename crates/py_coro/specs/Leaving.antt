-- What a generator answers that was entered and left, and its mode by then (Python Language Reference, 6.2.9.1; PEP 479; PEP 525).
use Rattle.std.specs.Prelude.{Option, Some, None, List, Bool, true, false, ◌≡◌}
use Rattle.py_objects.specs.declared.refs.PyBaseExceptionRef.{PyBaseExceptionRef}
use Rattle.py_objects.specs.declared.refs.PyTypeRef.{PyTypeRef}
use Rattle.py_objects.specs.declared.payload.Payload.{Payload}
use Rattle.py_objects.specs.declared.payload.Payload.TheVariants as payload
use Rattle.py_objects.specs.declared.payload.ExceptionBody.{ExceptionBody}
use Rattle.py_objects.specs.declared.payload.CoroKind.{CoroKind}
use Rattle.py_objects.specs.declared.payload.CoroKind.TheVariants as kind
use Rattle.py_objects.specs.declared.error_kind.ErrorKind.{ErrorKind}
use Rattle.py_objects.specs.declared.error_kind.ErrorKind.TheVariants.{GeneratorExit, StopAsyncIteration, StopIteration}
use Rattle.py_objects.specs.ErrorKinds.{name_of}
use Rattle.py_objects.specs.Objects.{Obj, HasPayload, as_object, class_object}
use Rattle.py_objects.specs.Ancestry.{IsDerived}
use Rattle.py_objects.specs.Values.{is_none}
use Rattle.py_coro.specs.declared.coro.CoroEnd.{CoroEnd}
use Rattle.py_coro.specs.declared.coro.CoroEnd.TheVariants as left
use Rattle.py_coro.specs.declared.coro.CoroAnswer.{CoroAnswer}
use Rattle.py_coro.specs.declared.coro.CoroAnswer.TheVariants as answer
use Rattle.py_coro.specs.Modes.{Mode, Suspended, Closed}

-- the mode of one that was left like this: only a yield leaves it to be entered again, and not under a close
abbrev pub mode_behind : (closing : Bool) → CoroEnd → Mode
mode_behind true how = Closed
mode_behind false (left.Yield v) = Suspended
mode_behind false (left.Return v) = Closed
mode_behind false (left.Raise e) = Closed

-- whether an exception is of a built-in class
abbrev pub IsOfClass : List Payload → PyBaseExceptionRef → ErrorKind → Bool → Type 0
IsOfClass objects e kind b =
    (body : ExceptionBody) × HasPayload objects (as_object e) (payload.Exception body) × IsDerived objects (class_object body.class) (name_of kind) b

-- which stop an exception is, by whether it is a StopIteration and whether it is a StopAsyncIteration; the first goes before
abbrev pub stop_of : (stops stops_async : Bool) → Option ErrorKind
stop_of true stops_async = Some StopIteration
stop_of false true = Some StopAsyncIteration
stop_of false false = None

-- as which stop an exception is converted that comes out of one of this kind, if it is: a StopIteration is (PEP 479), and out of an
-- asynchronous generator a StopAsyncIteration, too (PEP 525)
abbrev pub ConvertsAs : List Payload → CoroKind → PyBaseExceptionRef → Option ErrorKind → Type 0
ConvertsAs objects kind.Generator e stop = (stops : Bool) × IsOfClass objects e StopIteration stops × (stop ≡ stop_of stops false)
ConvertsAs objects kind.Coroutine e stop = (stops : Bool) × IsOfClass objects e StopIteration stops × (stop ≡ stop_of stops false)
ConvertsAs objects kind.AsyncGen e stop =
    (stops : Bool) × (stops_async : Bool) × IsOfClass objects e StopIteration stops × IsOfClass objects e StopAsyncIteration stops_async × (stop ≡ stop_of stops stops_async)

-- what a yield is answered by
abbrev pub yielded : (closing : Bool) → Obj → CoroAnswer
yielded true v = answer.Ignored
yielded false v = answer.Value v

-- a value that is None stands for none
abbrev pub value_if : Obj → Bool → Option Obj
value_if v true = None
value_if v false = Some v

-- what a return of a value of a payload is answered by
abbrev pub returned : (closing : Bool) → Obj → Payload → CoroAnswer
returned true v p = answer.Closed
returned false v p = answer.Stop (value_if v (is_none p))

-- what a return of an object is answered by, and of one that is None or isn't
abbrev pub Returns : List Payload → (closing : Bool) → Obj → CoroAnswer → Type 0
Returns objects closing v a = (p : Payload) × HasPayload objects v p × (a ≡ returned closing v p)

abbrev pub ReturnsBy : (closing : Bool) → Obj → (none : Bool) → CoroAnswer → Type 0
ReturnsBy closing v none a = (p : Payload) → none ≡ is_none p → a ≡ returned closing v p

-- whether an object is None
abbrev pub TellsNone : List Payload → Obj → Bool → Type 0
TellsNone objects v none = (p : Payload) × HasPayload objects v p × (none ≡ is_none p)

-- the class of an exception
abbrev pub IsClassOf : List Payload → PyBaseExceptionRef → PyTypeRef → Type 0
IsClassOf objects e class = (body : ExceptionBody) × HasPayload objects (as_object e) (payload.Exception body) × (class ≡ body.class)

-- what a raise is answered by, which is converted as this stop or isn't: a close is done where one exits
abbrev pub raised : (closing : Bool) → PyBaseExceptionRef → Option ErrorKind → (exits : Bool) → CoroAnswer
raised closing e (Some stop) exits = answer.Convert e stop
raised true e None true = answer.Closed
raised true e None false = answer.Raise e
raised false e None exits = answer.Raise e

-- one of this kind that was left like this answers so
abbrev pub Finishes : List Payload → CoroKind → (closing : Bool) → CoroEnd → CoroAnswer → Type 0
Finishes objects kind closing (left.Yield v) a = a ≡ yielded closing v
Finishes objects kind closing (left.Return v) a = Returns objects closing v a
Finishes objects kind closing (left.Raise e) a =
    (stop : Option ErrorKind) × (exits : Bool) × ConvertsAs objects kind e stop × IsOfClass objects e GeneratorExit exits × (a ≡ raised closing e stop exits)
