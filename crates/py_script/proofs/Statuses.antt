-- Which statuses come of a script that a source holds.
use Rattle.std.proofs.Common.{◌≡◌, ◌<◌, ◌≤◌, ◌^◌, ◌⊎◌, ℕ, List, length, Some, refl, sym, ap, ◌∙◌, subst, arith, inl, inr}
use Rattle.std.specs.Prelude.{Option, IfSome, Result, Ok, Err}
use Rattle.py_grammar.specs.declared.script.Script.{Script}
use Rattle.py_grammar.specs.Script.{decls_of, IsScript, IsBadLine}
use Rattle.py_grammar.proofs.Verdicts.{not_both}
use Rattle.py_run.specs.declared.journal.Journal.{Journal}
use Rattle.py_script.specs.declared.words.Command.{Command}
use Rattle.py_script.specs.declared.words.Command.TheVariants as command
use Rattle.py_script.specs.declared.fault.ScriptFault.{ScriptFault}
use Rattle.py_script.specs.declared.fault.ScriptFault.TheVariants as fault
use Rattle.py_script.specs.declared.fault.CommandResult.{CommandResult}
use Rattle.py_script.specs.declared.fault.CommandResult.TheVariants as outcome
use Rattle.py_outside.specs.Seen.{SinkSeen, SourceSeen}
use Rattle.py_make.specs.Made.{made_text}
use Rattle.py_script.specs.Words.{command_in}
use Rattle.py_script.specs.Making.{making_in, EndsMade, WritesMade}
use Rattle.py_script.specs.Causes.{status_in, IsAnswer, CommandEnds, IsEnding, IsRunEnding, IsWritten, WasRead, CommandWrites, CountsReadFault, CountsWriteFault, RunsScripts, RunsAskedScripts, IsRefusedAt, RefusesScripts, RefusesAskedScripts}
use Rattle.py_script.specs.Answered.{IsWholeRun, IsCutRun}
use Rattle.py_script.specs.Broken.{IsBrokenFrom}
use Rattle.py_script.specs.Compiled.{RunsItsCodes}
use Rattle.py_script.specs.Steps.{result_in}
use Rattle.py_script.proofs.Broken.{broken_in, compiled_keeps, none_broken, one_broken}

-- what was read of a source is what it held
pub what_it_held : (before after : SourceSeen) (bytes : List ℕ) (claim : List ℕ → Type 0) → before.left ≡ Some bytes → WasRead before after claim → claim bytes
what_it_held before after bytes claim is read =
    let same : read.bytes ≡ bytes = subst (λ (l : Option (List ℕ)). IfSome l (λ all. read.bytes ≡ all)) is read.are in
    subst claim same read.claimed

-- a short source isn't too long
short_enough : (left : Option (List ℕ)) (bytes : List ℕ) → left ≡ Some bytes → length bytes ≤ 2 ^ 20 → IfSome left (λ all. 2 ^ 20 < length all) → ⊥
short_enough left bytes is short long =
    let more : 2 ^ 20 < length bytes = subst (λ (l : Option (List ℕ)). IfSome l (λ all. 2 ^ 20 < length all)) is long in
    omega (arith, short, more)

module _ (before after : SourceSeen) where
  -- so a script is run
  pub answer_runs : (turns : ℕ) (r : Result Journal ScriptFault) → IsAnswer before after turns r → RunsScripts before (result_in r)
  answer_runs turns (Ok j) is bytes s left short script keep = inl (inl refl)
  answer_runs turns (Err (fault.Malformed line)) is bytes s left short script keep = absurd (not_both bytes s line script (what_it_held before after bytes (λ b. IsBadLine b line) left is))
  answer_runs turns (Err (fault.Refused code at)) is bytes s left short script keep =
      absurd (none_broken (decls_of s) code at keep (broken_in bytes s code at script (what_it_held before after bytes (λ b. IsBrokenFrom b code at) left is)))
  answer_runs turns (Err (fault.OutOfTurns j)) is bytes s left short script keep = inl (inr (inl refl))
  answer_runs turns (Err fault.ReadFault) is bytes s left short script keep = inr (inl refl)
  answer_runs turns (Err (fault.WriteFault j)) is bytes s left short script keep = inr (inr refl)
  answer_runs turns (Err fault.TooLong) is bytes s left short script keep = absurd (short_enough before.left bytes left short is.over)
  answer_runs turns (Err (fault.NoMemory j)) is bytes s left short script keep = inl (inr (inr refl))

  run_ending_runs : (turns : ℕ) (result : CommandResult) → IsRunEnding before after turns result → RunsScripts before result
  run_ending_runs turns (outcome.Ran j) is = answer_runs turns (Ok j) is
  run_ending_runs turns (outcome.Fault f) is = answer_runs turns (Err f) is
  run_ending_runs turns (outcome.Made summary) is = absurd is
  run_ending_runs turns outcome.Usage is = absurd is
  run_ending_runs turns outcome.NoMemory is = absurd is

  -- and so it is by a command
  pub ending_runs : (words : List (List ℕ)) (result : CommandResult) → IsEnding before after words result → RunsAskedScripts before words result
  ending_runs words result is turns asks = run_ending_runs turns result (subst (λ (c : Command). CommandEnds c before after result) asks is)

  -- no script runs of which a raw code breaks a rule
  none_runs : (bytes : List ℕ) (code at : ℕ) (j : Journal) → IsBrokenFrom bytes code at → (s : Script) → IsScript bytes s → RunsItsCodes s j → ⊥
  none_runs bytes code at j broken s is codes = none_broken (decls_of s) code at (compiled_keeps (decls_of s) j.codes codes.compiled) (broken_in bytes s code at is broken)

  none_whole : (bytes : List ℕ) (turns code at : ℕ) (j : Journal) → IsBrokenFrom bytes code at → IsWholeRun bytes turns j → ⊥
  none_whole bytes turns code at j broken (s, is, run, whole, few, codes) = none_runs bytes code at j broken s is.0 codes

  none_cut : (bytes : List ℕ) (turns code at : ℕ) (j : Journal) → IsBrokenFrom bytes code at → IsCutRun bytes turns j → ⊥
  none_cut bytes turns code at j broken (s, is, run, cut, all, codes) = none_runs bytes code at j broken s is.0 codes

  neither_runs : (bytes : List ℕ) (turns code at : ℕ) (j : Journal) → IsBrokenFrom bytes code at → IsWholeRun bytes turns j ⊎ IsCutRun bytes turns j → ⊥
  neither_runs bytes turns code at j broken (inl whole) = none_whole bytes turns code at j broken whole
  neither_runs bytes turns code at j broken (inr cut) = none_cut bytes turns code at j broken cut

  -- the one that is answered is the one that is there
  one_refused : (bytes : List ℕ) (code at c a : ℕ) → IsBrokenFrom bytes code at → IsBrokenFrom bytes c a → IsRefusedAt code at (outcome.Fault (fault.Refused c a))
  one_refused bytes code at c a (s, is, broken) other =
      let (same_code, same_at) = one_broken (decls_of s) c code a at (broken_in bytes s c a is other) broken in
      inl (ap (λ (k : ℕ). outcome.Fault (fault.Refused k a)) same_code ∙ ap (λ (k : ℕ). outcome.Fault (fault.Refused code k)) same_at)

  -- so it is refused
  pub answer_refuses : (turns : ℕ) (r : Result Journal ScriptFault) → IsAnswer before after turns r → RefusesScripts before (result_in r)
  answer_refuses turns (Ok j) is bytes code at left short broken =
      absurd (none_whole bytes turns code at j broken (what_it_held before after bytes (λ b. IsWholeRun b turns j) left is))
  answer_refuses turns (Err (fault.Malformed line)) is bytes code at left short (s, script, broken) =
      absurd (not_both bytes s line script (what_it_held before after bytes (λ b. IsBadLine b line) left is))
  answer_refuses turns (Err (fault.Refused c a)) is bytes code at left short broken =
      one_refused bytes code at c a broken (what_it_held before after bytes (λ b. IsBrokenFrom b c a) left is)
  answer_refuses turns (Err (fault.OutOfTurns j)) is bytes code at left short broken =
      absurd (none_cut bytes turns code at j broken (what_it_held before after bytes (λ b. IsCutRun b turns j) left is))
  answer_refuses turns (Err fault.ReadFault) is bytes code at left short broken = inr (inl refl)
  answer_refuses turns (Err (fault.WriteFault j)) is bytes code at left short broken =
      absurd (neither_runs bytes turns code at j broken (what_it_held before after bytes (λ b. IsWholeRun b turns j ⊎ IsCutRun b turns j) left is))
  answer_refuses turns (Err fault.TooLong) is bytes code at left short broken = absurd (short_enough before.left bytes left short is.over)
  answer_refuses turns (Err (fault.NoMemory j)) is bytes code at left short broken = inr (inr refl)

  run_ending_refuses : (turns : ℕ) (result : CommandResult) → IsRunEnding before after turns result → RefusesScripts before result
  run_ending_refuses turns (outcome.Ran j) is = answer_refuses turns (Ok j) is
  run_ending_refuses turns (outcome.Fault f) is = answer_refuses turns (Err f) is
  run_ending_refuses turns (outcome.Made summary) is = absurd is
  run_ending_refuses turns outcome.Usage is = absurd is
  run_ending_refuses turns outcome.NoMemory is = absurd is

  -- and so it is by a command
  pub ending_refuses : (words : List (List ℕ)) (result : CommandResult) → IsEnding before after words result → RefusesAskedScripts before words result
  ending_refuses words result is turns asks = run_ending_refuses turns result (subst (λ (c : Command). CommandEnds c before after result) asks is)

  -- a status of a read fault comes of one
  fault_counts : (turns : ℕ) (f : ScriptFault) → IsAnswer before after turns (Err f) → CountsReadFault before after (outcome.Fault f)
  fault_counts turns fault.ReadFault is status = is
  fault_counts turns (fault.WriteFault j) is status = absurd (cc status)
  fault_counts turns fault.TooLong is status = absurd (cc status)
  fault_counts turns (fault.Malformed line) is status = absurd (cc status)
  fault_counts turns (fault.Refused code at) is status = absurd (cc status)
  fault_counts turns (fault.OutOfTurns j) is status = absurd (cc status)
  fault_counts turns (fault.NoMemory j) is status = absurd (cc status)

  pub answer_counts : (turns : ℕ) (r : Result Journal ScriptFault) → IsAnswer before after turns r → CountsReadFault before after (result_in r)
  answer_counts turns (Ok j) is status = absurd (cc status)
  answer_counts turns (Err f) is status = fault_counts turns f is status

  run_counts : (turns : ℕ) (result : CommandResult) → IsRunEnding before after turns result → CountsReadFault before after result
  run_counts turns (outcome.Ran j) is status = absurd (cc status)
  run_counts turns (outcome.Fault f) is status = fault_counts turns f is status
  run_counts turns (outcome.Made summary) is status = absurd is
  run_counts turns outcome.Usage is status = absurd is
  run_counts turns outcome.NoMemory is status = absurd is

  -- nor is it one where a script was made
  made_counts : (bytes : List ℕ) (result : CommandResult) → EndsMade bytes (making_in result) → CountsReadFault before after result
  made_counts bytes (outcome.Ran j) is status = absurd is
  made_counts bytes (outcome.Fault (fault.WriteFault j)) is status = absurd (cc status)
  made_counts bytes (outcome.Fault _) is status = absurd is
  made_counts bytes (outcome.Made summary) is status = absurd (cc status)
  made_counts bytes outcome.Usage is status = absurd is
  made_counts bytes outcome.NoMemory is status = absurd (cc status)

  command_counts : (c : Command) (result : CommandResult) → CommandEnds c before after result → CountsReadFault before after result
  command_counts (command.Run turns) result is = run_counts turns result is
  command_counts (command.Make seed count) result is = made_counts (made_text seed count) result is.1
  command_counts command.Usage result is = λ status. absurd (let clash : 64 ≡ 5 = sym (ap status_in is.1) ∙ status in omega (arith, clash))

  pub ending_counts : (words : List (List ℕ)) (result : CommandResult) → IsEnding before after words result → CountsReadFault before after result
  ending_counts words result is = command_counts (command_in words) result is

-- and one of a write fault
pub written_counts : (before after : SinkSeen) (result : CommandResult) → IsWritten before after result → CountsWriteFault before after result
written_counts before after (outcome.Ran j) is status = absurd (cc status)
written_counts before after (outcome.Fault f) is status = by f is status
  where
    by : (f : ScriptFault) → IsWritten before after (outcome.Fault f) → CountsWriteFault before after (outcome.Fault f)
    by (fault.WriteFault j) is status = is.0
    by fault.ReadFault is status = absurd (cc status)
    by fault.TooLong is status = absurd (cc status)
    by (fault.Malformed line) is status = absurd (cc status)
    by (fault.Refused code at) is status = absurd (cc status)
    by (fault.OutOfTurns j) is status = absurd (cc status)
    by (fault.NoMemory j) is status = absurd (cc status)
written_counts before after (outcome.Made summary) is status = absurd is
written_counts before after outcome.Usage is status = absurd (cc status)
written_counts before after outcome.NoMemory is status = absurd is

-- also where a script was made
made_written_counts : (before after : SinkSeen) (result : CommandResult) → WritesMade before after (making_in result) → CountsWriteFault before after result
made_written_counts before after (outcome.Ran j) is status = absurd is
made_written_counts before after (outcome.Fault (fault.WriteFault j)) is status = is.0
made_written_counts before after (outcome.Fault _) is status = absurd is
made_written_counts before after (outcome.Made summary) is status = absurd (cc status)
made_written_counts before after outcome.Usage is status = absurd is
made_written_counts before after outcome.NoMemory is status = absurd (cc status)

-- and by a command, whose result this is
pub command_written_counts : (before after : SourceSeen) (c : Command) (out out' : SinkSeen) (result : CommandResult) → CommandEnds c before after result → CommandWrites c out out' result
    → CountsWriteFault out out' result
command_written_counts before after (command.Run turns) out out' result is written = written_counts out out' result written
command_written_counts before after (command.Make seed count) out out' result is written = made_written_counts out out' result written
command_written_counts before after command.Usage out out' result is written = λ status. absurd (let clash : 64 ≡ 6 = sym (ap status_in is.1) ∙ status in omega (arith, clash))
