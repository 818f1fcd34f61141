-- What the steps of a run answer: reading the script, making its drives, and writing the text; and what the run does.
use Rattle.std.specs.Prelude.{ℕ, ◌≤◌, List, ◌≡◌, length, Result, Ok, Err}
use Rattle.std.specs.Io.KnownBytes.{Keeps}
use Rattle.py_outside.specs.Faults.{Rose}
use Rattle.py_outside.specs.Seen.{SinkSeen, SourceSeen}
use Rattle.py_outside.specs.Reading.{HasFailed}
use Rattle.py_outside.specs.Transfer.{AppendsAll, AppendsFront}
use Rattle.py_grammar.specs.declared.script.Script.{Script}
use Rattle.py_grammar.specs.Script.{IsReadScript, IsBadLine}
use Rattle.py_vm.specs.declared.fault.VmFault.{VmFault}
use Rattle.py_vm.specs.declared.fault.VmFault.TheVariants as vm_fault
use Rattle.py_run.specs.declared.journal.Journal.{Journal}
use Rattle.py_script.specs.declared.fault.ScriptFault.{ScriptFault}
use Rattle.py_script.specs.declared.fault.ScriptFault.TheVariants as fault
use Rattle.py_script.specs.declared.fault.CommandResult.{CommandResult}
use Rattle.py_script.specs.declared.fault.CommandResult.TheVariants as outcome
use Rattle.py_meaning.specs.Whole.{IsRun, IsWhole}
use Rattle.py_script.specs.Answered.{IsEmpty}
use Rattle.py_script.specs.Compiled.{RunsItsCodes}
use Rattle.py_meaning.specs.Text.{text_of}
use Rattle.py_script.specs.Causes.{IsTooLong, WasRead}

-- what parsing bytes answers
abbrev pub IsParsed : List ℕ → Result Script ScriptFault → Type 0
IsParsed bytes (Ok s) = IsReadScript bytes s
IsParsed bytes (Err fault.ReadFault) = ⊥
IsParsed bytes (Err (fault.WriteFault j)) = ⊥
IsParsed bytes (Err fault.TooLong) = ⊥
IsParsed bytes (Err (fault.Malformed line)) = IsBadLine bytes line
IsParsed bytes (Err (fault.Refused code at)) = ⊥
IsParsed bytes (Err (fault.OutOfTurns j)) = ⊥
IsParsed bytes (Err (fault.NoMemory j)) = IsEmpty j

-- when reading a source to its end answers a fault
abbrev pub IsReadFault : SourceSeen → SourceSeen → ScriptFault → Type 0
IsReadFault before after fault.ReadFault = HasFailed before after
IsReadFault before after (fault.WriteFault j) = ⊥
IsReadFault before after fault.TooLong = IsTooLong before after
IsReadFault before after (fault.Malformed line) = ⊥
IsReadFault before after (fault.Refused code at) = ⊥
IsReadFault before after (fault.OutOfTurns j) = ⊥
IsReadFault before after (fault.NoMemory j) = IsEmpty j

-- what reading a script answers
abbrev pub IsReading : SourceSeen → SourceSeen → Result Script ScriptFault → Type 0
IsReading before after (Ok s) = WasRead before after (λ bytes. IsReadScript bytes s)
IsReading before after (Err fault.ReadFault) = HasFailed before after
IsReading before after (Err (fault.WriteFault j)) = ⊥
IsReading before after (Err fault.TooLong) = IsTooLong before after
IsReading before after (Err (fault.Malformed line)) = WasRead before after (λ bytes. IsBadLine bytes line)
IsReading before after (Err (fault.Refused code at)) = ⊥
IsReading before after (Err (fault.OutOfTurns j)) = ⊥
IsReading before after (Err (fault.NoMemory j)) = IsEmpty j

-- what making the drives of a script in at most so many turns comes to, with the journal that is left
abbrev pub HasRun : Script → ℕ → Journal → Result Unit VmFault → Type 0
HasRun s turns j (Ok _) = IsRun s j × IsWhole s j × (length j.events ≤ turns) × RunsItsCodes s j
HasRun s turns j (Err vm_fault.OutOfTurns) = IsRun s j × (IsWhole s j → ⊥) × (length j.events ≡ turns) × RunsItsCodes s j
HasRun s turns j (Err vm_fault.NoMemory) = IsRun s j × (length j.events ≤ turns) × RunsItsCodes s j
HasRun s turns j (Err vm_fault.Failed) = ⊥
HasRun s turns j (Err (vm_fault.Exception e)) = ⊥

-- what writing the text of a journal answers
abbrev pub IsWriting : SinkSeen → SinkSeen → Journal → Result Journal ScriptFault → Type 0
IsWriting before after journal (Ok j) = (j ≡ journal) × AppendsAll before after (text_of journal)
IsWriting before after journal (Err fault.ReadFault) = ⊥
IsWriting before after journal (Err (fault.WriteFault j)) = (j ≡ journal) × Rose before.faults after.faults × AppendsFront before after (text_of journal)
IsWriting before after journal (Err fault.TooLong) = ⊥
IsWriting before after journal (Err (fault.Malformed line)) = ⊥
IsWriting before after journal (Err (fault.Refused code at)) = ⊥
IsWriting before after journal (Err (fault.OutOfTurns j)) = ⊥
IsWriting before after journal (Err (fault.NoMemory j)) = (j ≡ journal) × Keeps before.taken after.taken

-- what a run answers, as the result of a command
abbrev pub result_in : Result Journal ScriptFault → CommandResult
result_in (Ok j) = outcome.Ran j
result_in (Err f) = outcome.Fault f
