-- Drives by which a host has exceptions made, and what they leave.
use Rattle.std.specs.Prelude.{ℕ, ◌+◌, ◌≤◌, ◌<◌, Option, Some, None, Result, Ok, Err, List, [], ◌∷◌, ◌++◌, ◌≡◌, true, false, slice_get, length, take, option_map}
use Rattle.py_objects.specs.declared.refs.PyBaseExceptionRef.{PyBaseExceptionRef}
use Rattle.py_objects.specs.declared.refs.PyTracebackRef.{PyTracebackRef}
use Rattle.py_objects.specs.declared.payload.Payload.{Payload}
use Rattle.py_objects.specs.declared.edit.Change.{Change}
use Rattle.py_objects.specs.declared.edit.Edit.TheVariants as edit
use Rattle.py_objects.specs.declared.edit.LinkField.TheVariants as link
use Rattle.py_objects.specs.declared.event.Event.{Event}
use Rattle.py_objects.specs.declared.event.Event.TheVariants as event
use Rattle.py_objects.specs.declared.event.DriveAnswer.{DriveAnswer}
use Rattle.py_objects.specs.declared.event.DriveAnswer.TheVariants as answer
use Rattle.py_objects.specs.declared.error_kind.ErrorKind.TheVariants.{TypeError}
use Rattle.py_objects.specs.Objects.{Obj, Name, HasPayload, as_object, AllBelow, AreNamed, IfThere, IsException, IsTraceback}
use Rattle.py_objects.specs.Edits.{Kept}
use Rattle.py_objects.specs.Growth.{GrowsPlainly}
use Rattle.py_exceptions.specs.Tracebacks.{traceback_object}
use Rattle.py_exceptions.specs.Classes.{HaveClasses}
use Rattle.py_answers.specs.Answers.{Reply, Fails, IsTypeName}
use Rattle.py_answers.specs.Readable.{IsReadable}
use Rattle.py_run.specs.declared.drive.Makings.{Makings}
use Rattle.py_run.specs.Normalized.{NormalizesTo, not_traceback, traceback_as}
use Rattle.py_run.specs.Run.{Forms as MakesOf, Posed}
use Rattle.py_run.specs.Coming.{EachTells, Comes}
use Rattle.py_run.specs.Past.{past_behind}
use Rattle.py_vm.specs.declared.fault.VmFault.{VmFault}
use Rattle.py_vm.specs.declared.fault.VmFault.TheVariants as fault
use Rattle.py_vm.specs.declared.machinery.Core.{Core}
use Rattle.py_vm.specs.declared.normalizing.Formed.{Formed}
use Rattle.py_vm.specs.declared.normalizing.Formed.TheVariants as formed
use Rattle.py_vm.specs.Codes.{plain_codes}
use Rattle.py_vm.specs.Courses.{RepliesRaise, RepliesValue}
use Rattle.py_vm.specs.Machine.{Machine, done_of, past_of, plan_of}
use Rattle.py_vm.specs.RowsOf.{RowsOf}
use Rattle.py_objects.specs.FrameEntries.{frames_in}

-- what an exception is made of
abbrev pub makings_of : (thrown value traceback : Obj) → Makings
makings_of thrown value traceback = record { thrown = thrown; value = value; traceback = traceback }

-- the objects that it names
abbrev pub makings_numbers : Makings → List ℕ
makings_numbers x = x.thrown.number ∷ x.value.number ∷ x.traceback.number ∷ []

-- a drive that has an exception made of these behind so many enters
abbrev pub forming : ℕ → Makings → Posed
forming entered x = record { pose = MakesOf x; entered = entered }

-- what such a drive adds to a machine's journal, whatever comes of it: these events, a part of each run of drives in which it is the next one, by
-- which the machine is what the run says
pub record AddsForming (x : Makings) (part : List Event) (old new : Machine) : Type 0 where
  pub events : new.events ≡ old.events ++ part
  pub grows : GrowsPlainly old.objects new.objects
  pub others : new ≡ record old { objects = new.objects; changes = new.changes; events = new.events; failed = new.failed }
  pub runs : (asked : List Posed) → slice_get asked (done_of old) ≡ Some (forming old.entered x) → Comes (plan_of old.checked asked) new.objects (past_of old) part
  pub follows : (asked : List Posed) → slice_get asked (done_of old) ≡ Some (forming old.entered x) → past_behind (plan_of old.checked asked) (past_of old) part ≡ past_of new
  pub tells : EachTells (RowsOf (plain_codes new.checked) new.globals new.objects) new.events
  pub named : AreNamed new.objects new.events

-- its events: its beginning, and its result
abbrev pub begun : Machine → List Event
begun m = event.Drive (done_of m + 1) ∷ []

abbrev pub ended : Machine → DriveAnswer → List Event
ended m w = event.Drive (done_of m + 1) ∷ event.Result (done_of m + 1) w ∷ []

-- the change by which an exception gets a traceback behind so many events, if it gets one
abbrev pub tracing : ℕ → PyBaseExceptionRef → Option Obj → List Change
tracing after e None = []
tracing after e (Some t) = record { after = after; object = as_object e; edit = edit.Link link.Traceback (Some t) } ∷ []

-- an exception got what an object is as a traceback, before the drive's result, and nothing else changed
abbrev pub IsTracedBy : Machine → Obj → PyBaseExceptionRef → Machine → Type 0
IsTracedBy m object e m' =
    (p : Payload) × HasPayload m.objects object p × (t : Option Obj) × (traceback_as p object ≡ Some t) × (m'.changes ≡ m.changes ++ tracing (length m.events + 1) e t)

-- what comes of such a drive of a machine that hasn't failed, in at most so many turns: an exception is returned, with its traceback, or one is
-- raised; else turns are spent, or memory ran out while there were some left, and the machine has failed
abbrev pub Forms : Machine → Makings → ℕ → Result PyBaseExceptionRef VmFault → Machine → Type 0
Forms m x turns (Ok e) m' = (2 ≤ turns) × AddsForming x (ended m (answer.Returns (as_object e))) m m' × (m'.failed ≡ false) × IsTracedBy m x.traceback e m'
Forms m x turns (Err (fault.Exception e)) m' = (2 ≤ turns) × AddsForming x (ended m (answer.Raises e)) m m' × (m'.failed ≡ false) × (m'.changes ≡ m.changes)
Forms m x turns (Err fault.OutOfTurns) m' = (turns < 2) × AddsForming x (take turns (begun m)) m m' × (m'.failed ≡ true) × (m'.changes ≡ m.changes)
Forms m x turns (Err fault.NoMemory) m' =
    (part : List Event) × (length part < turns) × AddsForming x part m m' × (m'.failed ≡ true) × (m'.changes ≡ m.changes) × (done_of m' ≡ done_of m)
Forms m x turns (Err fault.Failed) m' = ⊥

-- the same of these three
abbrev pub FormsOf : Machine → (thrown value traceback : Obj) → ℕ → Result PyBaseExceptionRef VmFault → Machine → Type 0
FormsOf m thrown value traceback turns result m' = Forms m (makings_of thrown value traceback) turns result m'

-- ---- what the functions inside the crate promise each other

-- the drive is told
abbrev pub forming_by : Core → Core
forming_by m = record m { events = m.events ++ event.Drive (m.done + 1) ∷ [] }

-- an object is this traceback, or None where there is none, or neither
abbrev pub IsTracebackOf : List Payload → Obj → Option (Option PyTracebackRef) → Type 0
IsTracebackOf objects object t = (p : Payload) × HasPayload objects object p × (traceback_as p object ≡ option_map traceback_object t)

-- the text of the refusal of an object as a traceback
abbrev pub IsNotTraceback : List Payload → Obj → Name → Type 0
IsNotTraceback objects object text = (p : Payload) × HasPayload objects object p × (n : Name) × IsTypeName objects p n × (text ≡ not_traceback n)

-- that refusal
abbrev pub IsRefusal : (old new : List Payload) → Obj → Formed → Type 0
IsRefusal old new object (formed.Made e t) = ⊥
IsRefusal old new object (formed.Raised e) = (text : Name) × IsNotTraceback old object text × RepliesRaise old new (Fails TypeError text) e

-- what comes of what an exception is made of gives the reply to it
abbrev pub IsFormOf : (old new : List Payload) → Makings → Formed → Type 0
IsFormOf old new x (formed.Made e t) =
    (reply : Reply) × NormalizesTo old x reply × RepliesValue old new reply (as_object e) × IsTracebackOf old x.traceback (Some t)
    × IsException new (as_object e) × IfThere (IsTraceback old) (traceback_object t)
IsFormOf old new x (formed.Raised e) = (reply : Reply) × NormalizesTo old x reply × RepliesRaise old new reply e

-- the result of its drive
abbrev pub answer_of : Formed → DriveAnswer
answer_of (formed.Made e t) = answer.Returns (as_object e)
answer_of (formed.Raised e) = answer.Raises e

-- what the host is answered
abbrev pub outcome_of : Formed → Result PyBaseExceptionRef VmFault
outcome_of (formed.Made e t) = Ok e
outcome_of (formed.Raised e) = Err (fault.Exception e)

-- the drive is told its result
abbrev pub told_by : Core → Formed → Core
told_by m f = record m { events = m.events ++ event.Result (m.done + 1) (answer_of f) ∷ []; done = m.done + 1 }

-- what is needed of a machine whose drive has begun
pub record CanForm (m : Core) (x : Makings) : Type 0 where
  pub readable : IsReadable m.world.store
  pub classes : HaveClasses m.world.zoo m.world.store.made
  pub below : AllBelow (length m.world.store.made) (makings_numbers x)
  pub marked : m.world.store.mark ≤ length m.events

-- the changes that come of it
abbrev pub changes_by : ℕ → Formed → List Change
changes_by after (formed.Made e t) = tracing after e (traceback_object t)
changes_by after (formed.Raised e) = []

-- a store in which an exception got its traceback, if it gets one
pub record IsGiven (old : Kept) (e : PyBaseExceptionRef) (t : Option PyTracebackRef) (new : Kept) : Type 0 where
  pub made : new.made ≡ old.made
  pub changes : new.changes ≡ old.changes ++ tracing old.mark e (traceback_object t)
  pub mark : new.mark ≡ old.mark

-- a machine whose drive has its result
abbrev pub FormedOne : Core → Makings → Formed → Core → Type 0
FormedOne m x f m' =
    (store : Kept) × GrowsPlainly m.world.store.made store.made × (frames_in store.made ≡ frames_in m.world.store.made) × IsFormOf m.world.store.made store.made x f × (store.changes ≡ m.world.store.changes ++ changes_by (length m.events) f)
    × (store.mark ≡ length m.events) × (m' ≡ told_by (record m { world = record m.world { store = store } }) f)

-- one whose memory ran out before that: more objects may be there
abbrev pub Stopped : Core → Core → Type 0
Stopped m m' = (store : Kept) × GrowsPlainly m.world.store.made store.made × (store.changes ≡ m.world.store.changes) × (m' ≡ record m { world = record m.world { store = store } })
