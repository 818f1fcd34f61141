-- A suspendable activation as its calls leave it (Python Language Reference, 6.2.9.1), by the rows of its mode; and what it is shown as.
use Rattle.std.specs.Prelude.{ℕ, Bool, true, false, List, Some, ◌≡◌, ◌<◌, ◌++◌, length, slice_get, nat_le, if◌then◌else◌, chars, codes, decimal}
use Rattle.py_code.specs.declared.names.NameId.{NameId}
use Rattle.py_objects.specs.declared.refs.FrameRef.{FrameRef}
use Rattle.py_objects.specs.declared.refs.PyBaseExceptionRef.{PyBaseExceptionRef}
use Rattle.py_objects.specs.declared.payload.CoroKind.{CoroKind}
use Rattle.py_objects.specs.declared.payload.Payload.{Payload}
use Rattle.py_objects.specs.Objects.{Name, as_object, IsException}
use Rattle.py_coro.specs.declared.coro.Begin.{Begin}
use Rattle.py_coro.specs.declared.coro.Begin.TheVariants as begin
use Rattle.py_coro.specs.declared.coro.CoroEnd.{CoroEnd}
use Rattle.py_coro.specs.declared.coro.CoroEnd.TheVariants as left
use Rattle.py_coro.specs.declared.refusal.CoroRefusal.TheVariants as refusal
use Rattle.py_coro.specs.Modes.{Mode, Fresh, Suspended, Running, Closed, Row, Stops, Raises, Done, Starts, Sends, Throws, Exits, Refuses, most_depth}
use Rattle.py_coro.specs.Leaving.{mode_behind}
use Rattle.py_coro.specs.Refusals.{word_of}

-- a generator: its frame, the name and the kind that it shows, its mode, and whether it was entered to be closed, which is false unless it runs
pub record State : Type 0 where
  pub frame : FrameRef
  pub name : NameId
  pub kind : CoroKind
  pub mode : Mode
  pub closing : Bool

-- a generator that hasn't been entered
abbrev pub fresh : FrameRef → NameId → CoroKind → State
fresh frame name kind = record { frame = frame; name = name; kind = kind; mode = Fresh; closing = false }

-- whether it was entered, and not left yet
abbrev pub is_running : Mode → Bool
is_running Fresh = false
is_running Suspended = false
is_running Running = true
is_running Closed = false

-- whether it is never entered again
abbrev pub is_closed : Mode → Bool
is_closed Fresh = false
is_closed Suspended = false
is_closed Running = false
is_closed Closed = true

-- a generator that is entered, to be closed or not
abbrev pub entered : Bool → State → State
entered closing s = record s { mode = Running; closing = closing }

-- what an entry comes to while so many activations run, and what it leaves: it is refused where that would be too deep
abbrev pub entry_of : (depth : ℕ) → Begin → Begin
entry_of depth begun = if nat_le most_depth depth then begin.Refused refusal.TooDeep else begun

abbrev pub entered_at : (depth : ℕ) → Bool → State → State
entered_at depth closing s = if nat_le most_depth depth then s else entered closing s

-- the state behind a row: a refusal, a stop and a raise leave it, and what is done with is closed
abbrev pub behind : Row → State → State
behind Stops s = s
behind Raises s = s
behind Done s = record s { mode = Closed }
behind Starts s = entered false s
behind Sends s = entered false s
behind Throws s = entered false s
behind Exits s = entered true s
behind (Refuses r) s = s

-- a row as the calls answer it, where this exception is thrown
abbrev pub begun : PyBaseExceptionRef → Row → Begin
begun e Stops = begin.Stop
begun e Raises = begin.Raise e
begun e Done = begin.Done
begun e Starts = begin.EnterStart
begun e Sends = begin.EnterSend
begun e Throws = begin.EnterThrow
begun e Exits = begin.EnterExit
begun e (Refuses r) = begin.Refused r

-- the state of one behind that
abbrev pub left_by : CoroEnd → State → State
left_by how s = record s { mode = mode_behind s.closing how; closing = false }

-- what is read of objects where one was left like this: a returned value is there, and what was raised is an exception
abbrev pub AreRead : List Payload → CoroEnd → Type 0
AreRead objects (left.Yield v) = Unit {0}
AreRead objects (left.Return v) = v.number < length objects
AreRead objects (left.Raise e) = IsException objects (as_object e)

-- what one is shown as, by the word for it, its name and its number
abbrev pub shown : Name → Name → ℕ → Name
shown word name n = codes "<" ++ (word ++ (codes " object " ++ (name ++ (codes " at " ++ (decimal n ++ codes ">")))))

-- a generator is shown as this, with this number, where its name is in the table
abbrev pub IsShown : List (List ℕ) → State → ℕ → Name → Type 0
IsShown names s n text =
    (name : List ℕ) → slice_get names s.name.index ≡ Some name → text ≡ shown (word_of s.kind) (chars name) n
