-- What comes of making a script from a seed: which result, and what is written.
use Rattle.std.specs.Prelude.{ℕ, ◌≤◌, ◌<◌, List, ◌≡◌, Option, Some, None, length}
use Rattle.std.specs.Io.KnownBytes.{Keeps}
use Rattle.py_outside.specs.Faults.{Rose}
use Rattle.py_outside.specs.Seen.{SinkSeen}
use Rattle.py_outside.specs.Transfer.{AppendsAll, AppendsFront}
use Rattle.py_grammar.specs.declared.script.Script.{Script}
use Rattle.py_grammar.specs.Script.{IsReadScript}
use Rattle.py_run.specs.declared.journal.Journal.{Journal}
use Rattle.py_make.specs.declared.summary.Summary.{Summary}
use Rattle.py_make.specs.Summaries.{summary_of, summary_text}
use Rattle.py_meaning.specs.Whole.{IsRun, IsWhole, IsWholeFrom}
use Rattle.py_script.specs.declared.fault.ScriptFault.TheVariants as fault
use Rattle.py_script.specs.declared.fault.CommandResult.{CommandResult}
use Rattle.py_script.specs.declared.fault.CommandResult.TheVariants as outcome
use Rattle.py_script.specs.Compiled.{RunsItsCodes}

-- how the run of a made script ends: its summary was written; the write failed, and this is its journal; or memory ran out
pub data Making : Type 0 where
  Summed : Summary → Making
  Unwritten : Journal → Making
  OutOfMemory : Making

-- which of them a result is, if it is one
abbrev pub making_in : CommandResult → Option Making
making_in (outcome.Made summary) = Some (Summed summary)
making_in (outcome.Fault (fault.WriteFault j)) = Some (Unwritten j)
making_in outcome.NoMemory = Some OutOfMemory
making_in result = None

-- the journal is a whole run of the script that the bytes are, with the codes that ran
abbrev pub IsWholeBy : List ℕ → Journal → Type 0
IsWholeBy bytes j = (s : Script) × IsReadScript bytes s × IsRun s j × IsWhole s j × RunsItsCodes s j

-- the counts are those of every whole run of the script that the bytes are, and there is one
pub record IsSummaryOf (bytes : List ℕ) (summary : Summary) : Type 0 where
  pub some : (j : Journal) × IsWholeFrom bytes j
  pub each : (j : Journal) → IsWholeFrom bytes j → summary ≡ summary_of j.events

-- what each end says of the text that was made
abbrev pub EndsMade : List ℕ → Option Making → Type 0
EndsMade bytes None = ⊥
EndsMade bytes (Some (Summed summary)) = IsSummaryOf bytes summary
EndsMade bytes (Some (Unwritten j)) = IsWholeBy bytes j
EndsMade bytes (Some OutOfMemory) = Unit {0}

-- the line of a run
abbrev pub summary_line : Journal → List ℕ
summary_line j = summary_text (summary_of j.events)

-- what is written then: the line of the summary, or a front of it where a write failed, or nothing
abbrev pub WritesMade : SinkSeen → SinkSeen → Option Making → Type 0
WritesMade before after None = ⊥
WritesMade before after (Some (Summed summary)) = AppendsAll before after (summary_text summary)
WritesMade before after (Some (Unwritten j)) = Rose before.faults after.faults × AppendsFront before after (summary_line j)
WritesMade before after (Some OutOfMemory) = Keeps before.taken after.taken

-- over a sink that takes so many bytes for sure: a write fails only where the line is longer, and no fault is counted where it isn't, or where nothing is
-- written
abbrev pub WritesMadeSurely : SinkSeen → SinkSeen → Option Making → Type 0
WritesMadeSurely before after None = ⊥
WritesMadeSurely before after (Some (Summed summary)) = length (summary_text summary) ≤ before.sure → after.faults ≡ before.faults
WritesMadeSurely before after (Some (Unwritten j)) = before.sure < length (summary_line j)
WritesMadeSurely before after (Some OutOfMemory) = after.faults ≡ before.faults

-- the end is that of this run: its summary, or its journal where the write failed
abbrev pub IsEndOfRun : Journal → Option Making → Type 0
IsEndOfRun j None = ⊥
IsEndOfRun j (Some (Summed summary)) = summary ≡ summary_of j.events
IsEndOfRun j (Some (Unwritten k)) = k ≡ j
IsEndOfRun j (Some OutOfMemory) = Unit {0}
