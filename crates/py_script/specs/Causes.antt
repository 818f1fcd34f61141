-- When each answer of the top call comes, and what it hands back, writes and notes.
use Rattle.std.specs.Prelude.{ℕ, ◌<◌, ◌≤◌, ◌^◌, ◌⊎◌, List, [], ◌++◌, false, IsTrue, Some, IfSome, ◌≡◌, length, codes, decimal, Result, Ok, Err}
use Rattle.std.specs.Io.KnownBytes.{Keeps, IsAtEnd}
use Rattle.py_outside.specs.Faults.{Rose}
use Rattle.py_outside.specs.Seen.{SinkSeen, SourceSeen}
use Rattle.py_outside.specs.Reading.{HasFailed, HasOver}
use Rattle.py_outside.specs.Transfer.{AppendsAll, AppendsFront}
use Rattle.py_grammar.specs.declared.script.Script.{Script}
use Rattle.py_grammar.specs.Script.{decls_of, IsScript, IsBadLine}
use Rattle.py_run.specs.declared.journal.Journal.{Journal}
use Rattle.py_make.specs.Made.{made_text}
use Rattle.py_script.specs.declared.words.Command.{Command}
use Rattle.py_script.specs.declared.words.Command.TheVariants as command
use Rattle.py_script.specs.declared.fault.ScriptFault.{ScriptFault}
use Rattle.py_script.specs.declared.fault.ScriptFault.TheVariants as fault
use Rattle.py_script.specs.declared.fault.CommandResult.{CommandResult}
use Rattle.py_script.specs.declared.fault.CommandResult.TheVariants as outcome
use Rattle.py_script.specs.Words.{command_in}
use Rattle.py_script.specs.Making.{making_in, EndsMade, WritesMade, WritesMadeSurely}
use Rattle.py_meaning.specs.Core.{IsCoreFrom}
use Rattle.py_meaning.specs.Whole.{IsRunFrom, IsWholeFrom, IsUnfinishedFrom}
use Rattle.py_script.specs.Answered.{IsEmpty, IsPartOfRun, IsWholeRun, IsCutRun}
use Rattle.py_script.specs.Broken.{AllKeepRules, IsBrokenFrom}
use Rattle.py_meaning.specs.Text.{text_of}

-- what was read of a source: at most 2^20 bytes, all that it had left where it tells them, and then its end; and this holds of them
pub record WasRead (before after : SourceSeen) (claim : List ℕ → Type 0) : Type 0 where
  pub bytes : List ℕ
  pub are : IfSome before.left (λ all. bytes ≡ all)
  pub short : length bytes ≤ 2 ^ 20
  pub none_left : IsAtEnd after.left
  pub ended : IsTrue after.at_end
  pub claimed : claim bytes

-- a source had more than 2^20 bytes: none of its reads failed, and the last one gave more
pub record IsTooLong (before after : SourceSeen) : Type 0 where
  pub over : HasOver before (2 ^ 20)
  pub same : after.faults ≡ before.faults
  pub more : after.at_end ≡ false

-- when a run of at most so many turns answers what it does, by what was read of the source
abbrev pub IsAnswer : SourceSeen → SourceSeen → ℕ → Result Journal ScriptFault → Type 0
IsAnswer before after turns (Ok j) = WasRead before after (λ bytes. IsWholeRun bytes turns j)
IsAnswer before after turns (Err fault.ReadFault) = HasFailed before after
IsAnswer before after turns (Err (fault.WriteFault j)) = WasRead before after (λ bytes. IsWholeRun bytes turns j ⊎ IsCutRun bytes turns j)
IsAnswer before after turns (Err fault.TooLong) = IsTooLong before after
IsAnswer before after turns (Err (fault.Malformed line)) = WasRead before after (λ bytes. IsBadLine bytes line)
IsAnswer before after turns (Err (fault.Refused code at)) = WasRead before after (λ bytes. IsBrokenFrom bytes code at)
IsAnswer before after turns (Err (fault.OutOfTurns j)) = WasRead before after (λ bytes. IsCutRun bytes turns j)
IsAnswer before after turns (Err (fault.NoMemory j)) = IsEmpty j ⊎ WasRead before after (λ bytes. IsPartOfRun bytes turns j)

-- what a run writes of each result: the text of the journal, and nothing where there is none; a failed write has written a front of it
abbrev pub IsWritten : SinkSeen → SinkSeen → CommandResult → Type 0
IsWritten before after (outcome.Ran j) = AppendsAll before after (text_of j)
IsWritten before after (outcome.Fault (fault.Malformed line)) = Keeps before.taken after.taken
IsWritten before after (outcome.Fault (fault.Refused code at)) = Keeps before.taken after.taken
IsWritten before after (outcome.Fault (fault.OutOfTurns j)) = AppendsAll before after (text_of j)
IsWritten before after (outcome.Fault fault.ReadFault) = Keeps before.taken after.taken
IsWritten before after (outcome.Fault (fault.WriteFault j)) = Rose before.faults after.faults × AppendsFront before after (text_of j)
IsWritten before after (outcome.Fault fault.TooLong) = Keeps before.taken after.taken
IsWritten before after (outcome.Fault (fault.NoMemory j)) = Keeps before.taken after.taken
IsWritten before after (outcome.Made summary) = ⊥
IsWritten before after outcome.Usage = ⊥
IsWritten before after outcome.NoMemory = ⊥

-- the text that a result stands for, which is written where its status is 0 or 4
abbrev pub text_in : CommandResult → List ℕ
text_in (outcome.Ran j) = text_of j
text_in (outcome.Fault (fault.OutOfTurns j)) = text_of j
text_in result = []

-- the status that stands for each result
abbrev pub status_in : CommandResult → ℕ
status_in (outcome.Ran j) = 0
status_in (outcome.Fault (fault.Malformed line)) = 2
status_in (outcome.Fault (fault.Refused code at)) = 3
status_in (outcome.Fault (fault.OutOfTurns j)) = 4
status_in (outcome.Fault fault.ReadFault) = 5
status_in (outcome.Fault (fault.WriteFault j)) = 6
status_in (outcome.Fault fault.TooLong) = 7
status_in (outcome.Fault (fault.NoMemory j)) = 8
status_in (outcome.Made summary) = 0
status_in outcome.Usage = 64
status_in outcome.NoMemory = 8

-- the line that is noted of each result
abbrev pub note_in : CommandResult → List ℕ
note_in (outcome.Ran j) = []
note_in (outcome.Fault (fault.Malformed line)) = codes "malformed: line " ++ (decimal line ++ codes "\n")
note_in (outcome.Fault (fault.Refused code at)) = codes "refused: code " ++ (decimal code ++ (codes " at unit " ++ (decimal at ++ codes "\n")))
note_in (outcome.Fault (fault.OutOfTurns j)) = codes "out of turns\n"
note_in (outcome.Fault fault.ReadFault) = codes "read fault\n"
note_in (outcome.Fault (fault.WriteFault j)) = codes "write fault\n"
note_in (outcome.Fault fault.TooLong) = codes "too long\n"
note_in (outcome.Fault (fault.NoMemory j)) = codes "out of memory\n"
note_in (outcome.Made summary) = []
note_in outcome.Usage = codes "usage: pyrun run [TURNS] or make SEED COUNT\n"
note_in outcome.NoMemory = codes "out of memory\n"

-- what is noted of a result: its line, where no write of it fails
abbrev pub HasNote : SinkSeen → SinkSeen → CommandResult → Type 0
HasNote before after result = AppendsAll before after (note_in result)

abbrev pub IsNoted : SinkSeen → SinkSeen → CommandResult → Type 0
IsNoted before after result = HasNote before after result ⊎ Rose before.faults after.faults

-- what a run of at most so many turns ends as
abbrev pub IsRunEnding : SourceSeen → SourceSeen → ℕ → CommandResult → Type 0
IsRunEnding before after turns (outcome.Ran j) = IsAnswer before after turns (Ok j)
IsRunEnding before after turns (outcome.Fault f) = IsAnswer before after turns (Err f)
IsRunEnding before after turns (outcome.Made summary) = ⊥
IsRunEnding before after turns outcome.Usage = ⊥
IsRunEnding before after turns outcome.NoMemory = ⊥

-- what a command ends as, by what was read of the source: only a run reads anything
abbrev pub CommandEnds : Command → SourceSeen → SourceSeen → CommandResult → Type 0
CommandEnds (command.Run turns) before after result = IsRunEnding before after turns result
CommandEnds (command.Make seed count) before after result = (after ≡ before) × EndsMade (made_text seed count) (making_in result)
CommandEnds command.Usage before after result = (after ≡ before) × (result ≡ outcome.Usage)

abbrev pub IsEnding : SourceSeen → SourceSeen → List (List ℕ) → CommandResult → Type 0
IsEnding before after words result = CommandEnds (command_in words) before after result

-- what a command writes
abbrev pub CommandWrites : Command → SinkSeen → SinkSeen → CommandResult → Type 0
CommandWrites (command.Run turns) before after result = IsWritten before after result
CommandWrites (command.Make seed count) before after result = WritesMade before after (making_in result)
CommandWrites command.Usage before after result = Keeps before.taken after.taken

abbrev pub WritesAsked : SinkSeen → SinkSeen → List (List ℕ) → CommandResult → Type 0
WritesAsked before after words result = CommandWrites (command_in words) before after result

-- no read fault is counted, the status isn't that of one, and the source is sound
pub record MeetsNoReadFault (before after : SourceSeen) (result : CommandResult) : Type 0 where
  pub same : after.faults ≡ before.faults
  pub stays : IsTrue after.is_sound
  pub status : status_in result ≡ 5 → ⊥

-- so it is over each source that was sound before
abbrev pub ReadsSoundly : SourceSeen → SourceSeen → CommandResult → Type 0
ReadsSoundly before after result = IsTrue before.is_sound → MeetsNoReadFault before after result

-- what a run does over a sink that takes so many bytes for sure: a write fault is answered only where the text is longer, and none is counted where it isn't or where
-- nothing is written
abbrev pub WritesSurely : SinkSeen → SinkSeen → CommandResult → Type 0
WritesSurely before after (outcome.Ran j) = length (text_of j) ≤ before.sure → after.faults ≡ before.faults
WritesSurely before after (outcome.Fault (fault.Malformed line)) = after.faults ≡ before.faults
WritesSurely before after (outcome.Fault (fault.Refused code at)) = after.faults ≡ before.faults
WritesSurely before after (outcome.Fault (fault.OutOfTurns j)) = length (text_of j) ≤ before.sure → after.faults ≡ before.faults
WritesSurely before after (outcome.Fault fault.ReadFault) = after.faults ≡ before.faults
WritesSurely before after (outcome.Fault (fault.WriteFault j)) = before.sure < length (text_of j)
WritesSurely before after (outcome.Fault fault.TooLong) = after.faults ≡ before.faults
WritesSurely before after (outcome.Fault (fault.NoMemory j)) = after.faults ≡ before.faults
WritesSurely before after (outcome.Made summary) = ⊥
WritesSurely before after outcome.Usage = ⊥
WritesSurely before after outcome.NoMemory = ⊥

-- what a command does over such a sink
abbrev pub CommandWritesSurely : Command → SinkSeen → SinkSeen → CommandResult → Type 0
CommandWritesSurely (command.Run turns) before after result = WritesSurely before after result
CommandWritesSurely (command.Make seed count) before after result = WritesMadeSurely before after (making_in result)
CommandWritesSurely command.Usage before after result = after.faults ≡ before.faults

abbrev pub WritesAskedSurely : SinkSeen → SinkSeen → List (List ℕ) → CommandResult → Type 0
WritesAskedSurely before after words result = CommandWritesSurely (command_in words) before after result

-- a status that stands for a fault comes only where one was counted: 5 of the source, 6 of the sink
abbrev pub CountsReadFault : SourceSeen → SourceSeen → CommandResult → Type 0
CountsReadFault before after result = status_in result ≡ 5 → HasFailed before after

abbrev pub CountsWriteFault : SinkSeen → SinkSeen → CommandResult → Type 0
CountsWriteFault before after result = status_in result ≡ 6 → Rose before.faults after.faults

-- the status of a run that was made, whole or as far as turns and memory went
abbrev pub IsOfRun : ℕ → Type 0
IsOfRun status = (status ≡ 0) ⊎ (status ≡ 4) ⊎ (status ≡ 8)

-- the status of a fault of the source or the sink
abbrev pub IsOfFault : ℕ → Type 0
IsOfFault status = (status ≡ 5) ⊎ (status ≡ 6)

-- a script of at most 2^20 bytes whose raw codes keep the rules is run: its status is 0, 4 or 8, or 5 or 6 by a fault
abbrev pub RunsScripts : SourceSeen → CommandResult → Type 0
RunsScripts before result =
    (bytes : List ℕ) (s : Script) → before.left ≡ Some bytes → length bytes ≤ 2 ^ 20 → IsScript bytes s → AllKeepRules (decls_of s)
    → IsOfRun (status_in result) ⊎ IsOfFault (status_in result)

-- a result is that this code was refused at this unit, or comes of a failed read, or of memory that ran out
abbrev pub IsRefusedAt : ℕ → ℕ → CommandResult → Type 0
IsRefusedAt code at result = (result ≡ outcome.Fault (fault.Refused code at)) ⊎ (status_in result ≡ 5) ⊎ (status_in result ≡ 8)

-- one of which this raw code is the first that breaks a rule, first at this unit, is refused
abbrev pub RefusesScripts : SourceSeen → CommandResult → Type 0
RefusesScripts before result =
    (bytes : List ℕ) (code at : ℕ) → before.left ≡ Some bytes → length bytes ≤ 2 ^ 20 → IsBrokenFrom bytes code at → IsRefusedAt code at result

-- so is one where the words ask for a run
abbrev pub RunsAskedScripts : SourceSeen → List (List ℕ) → CommandResult → Type 0
RunsAskedScripts before words result = (turns : ℕ) → command_in words ≡ command.Run turns → RunsScripts before result

abbrev pub RefusesAskedScripts : SourceSeen → List (List ℕ) → CommandResult → Type 0
RefusesAskedScripts before words result = (turns : ℕ) → command_in words ≡ command.Run turns → RefusesScripts before result

-- a run that is answered as whole has fewer events than turns
abbrev pub HasFewer : ℕ → CommandResult → Type 0
HasFewer turns (outcome.Ran j) = length j.events < turns
HasFewer turns result = Unit {0}

-- what the runs of the script that bytes are settle. Where it has no raw code and no report: where a whole one has at most so many events, turns
-- never run out; where one that isn't whole has as many, none is answered as whole; the text that is written is that of any such run. Of any script:
-- where no whole one has just so many, an answered one has fewer
pub record IsSettled (bytes : List ℕ) (turns : ℕ) (result : CommandResult) : Type 0 where
  pub never_cut : (j : Journal) → IsCoreFrom bytes → IsWholeFrom bytes j → length j.events ≤ turns → status_in result ≡ 4 → ⊥
  pub never_whole : (j : Journal) → IsCoreFrom bytes → IsUnfinishedFrom bytes j → turns ≤ length j.events → status_in result ≡ 0 → ⊥
  pub whole_text : (j : Journal) → IsCoreFrom bytes → IsWholeFrom bytes j → status_in result ≡ 0 → text_in result ≡ text_of j
  pub cut_text : (j : Journal) → IsCoreFrom bytes → IsRunFrom bytes j → length j.events ≡ turns → status_in result ≡ 4 → text_in result ≡ text_of j
  pub fewer : ((j : Journal) → IsWholeRun bytes turns j → length j.events ≡ turns → ⊥) → HasFewer turns result

-- those of the script that a source holds
abbrev pub RunsSettle : SourceSeen → ℕ → CommandResult → Type 0
RunsSettle before turns result = (bytes : List ℕ) → before.left ≡ Some bytes → IsSettled bytes turns result

-- and where the words ask for a run
abbrev pub AskedRunsSettle : SourceSeen → List (List ℕ) → CommandResult → Type 0
AskedRunsSettle before words result = (turns : ℕ) → command_in words ≡ command.Run turns → RunsSettle before turns result
