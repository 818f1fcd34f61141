-- Calls by which a host has what an exception says written to a sink, and what they leave.
use Rattle.std.specs.Prelude.{ℕ, suc, ◌+◌, ◌≤◌, List, Result, Ok, Err, ◌≡◌, true, false, length, encode_utf8_all}
use Rattle.py_objects.specs.declared.refs.PyBaseExceptionRef.{PyBaseExceptionRef}
use Rattle.py_objects.specs.declared.event.Event.{Event}
use Rattle.py_objects.specs.declared.event.DriveAnswer.TheVariants as answer
use Rattle.py_objects.specs.Objects.{Name}
use Rattle.py_outside.specs.Faults.{Rose}
use Rattle.py_outside.specs.Seen.{SinkSeen}
use Rattle.py_outside.specs.Transfer.{AppendsAll, AppendsFront}
use Rattle.py_reports.specs.Scenes.{SourceLines}
use Rattle.py_run.specs.declared.drive.Told.{Told}
use Rattle.py_run.specs.Exits.{exit_of, status_of}
use Rattle.py_run.specs.Run.{Reports}
use Rattle.py_vm.specs.declared.fault.ReportFault.{ReportFault}
use Rattle.py_vm.specs.declared.fault.ReportFault.TheVariants.{Vm, WriteFault}
use Rattle.py_vm.specs.declared.fault.VmFault.TheVariants as fault
use Rattle.py_vm.specs.Machine.{Machine, Adds, EndsBy, IsCutShort, IsDoneBy, IsSpent, KeepsGenerators, done_of}
use Rattle.py_vm.specs.Reporting.{IsTextOf, objects_now}

-- the drive has its result: a text, which is what is told
pub record HasTold (t : Told) (sources : List SourceLines) (turns : ℕ) (old new : Machine) : Type 0 where
  pub works : old.failed ≡ false
  pub adds : Adds (Reports t) sources old new
  pub done : IsDoneBy old new
  pub within : length new.events ≤ length old.events + turns
  pub generators : KeepsGenerators (Reports t) old new
  pub text : Name
  pub ends : EndsBy new.events (suc (done_of old)) (answer.Reported text)
  pub is : IsTextOf old sources t text

-- what comes of the drive of such a call, whatever comes of its writing: its text is told, or turns are spent, or memory ran out. A machine that has
-- failed stays as it is
abbrev pub Tells : {A : Type 0} → Told → List SourceLines → (turns : ℕ) → (old new : Machine) → Result A ReportFault → Type 0
Tells t sources turns old new (Ok _) = HasTold t sources turns old new
Tells t sources turns old new (Err WriteFault) = HasTold t sources turns old new
Tells t sources turns old new (Err (Vm fault.NoMemory)) = (old.failed ≡ false) × Adds (Reports t) sources old new × IsCutShort old turns new
Tells t sources turns old new (Err (Vm fault.OutOfTurns)) = (old.failed ≡ false) × Adds (Reports t) sources old new × IsSpent old turns new
Tells t sources turns old new (Err (Vm fault.Failed)) = (old.failed ≡ true) × (new ≡ old)
Tells t sources turns old new (Err (Vm (fault.Exception e))) = ⊥

-- the last event tells a text
abbrev pub LastTells : List Event → Name → Type 0
LastTells events text = (d : ℕ) × EndsBy events d (answer.Reported text)

-- bytes are written whole; the sink's count of faults doesn't fall, and where it takes them for sure it stays
pub record IsWritten (before after : SinkSeen) (bytes : List ℕ) : Type 0 where
  pub whole : AppendsAll before after bytes
  pub later : before.faults ≤ after.faults
  pub sure : length bytes ≤ before.sure → after.faults ≡ before.faults

-- a front of them is written, since a write failed
pub record IsCutOff (before after : SinkSeen) (bytes : List ℕ) : Type 0 where
  pub front : AppendsFront before after bytes
  pub rose : Rose before.faults after.faults
  pub unsure : length bytes ≤ before.sure → ⊥

-- what the last event tells is written whole, or a front of it, since the sink failed, which it doesn't where it takes the text for sure; where the
-- drive has no result nothing is written
abbrev pub Writes : {A : Type 0} → List Event → (before after : SinkSeen) → Result A ReportFault → Type 0
Writes events before after (Ok _) = (text : Name) × LastTells events text × IsWritten before after (encode_utf8_all text)
Writes events before after (Err WriteFault) = (text : Name) × LastTells events text × IsCutOff before after (encode_utf8_all text)
Writes events before after (Err (Vm f)) = after ≡ before

-- the status of a program that an exception ends, of a machine's objects as they are
abbrev pub ending_status : Machine → PyBaseExceptionRef → ℕ
ending_status m exc = status_of (exit_of (objects_now m) exc)
