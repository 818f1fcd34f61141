-- What the runs of a script settle of the answer to it.
use Rattle.std.proofs.Common.{◌≡◌, ◌<◌, ◌≤◌, ◌⊎◌, ℕ, List, length, sym, ◌∙◌, subst, arith, inl, inr}
use Rattle.std.specs.Prelude.{Result, Ok, Err}
use Rattle.std.proofs.lemmas.Bool.{cases_lt}
use Rattle.py_run.specs.declared.journal.Journal.{Journal}
use Rattle.py_meaning.specs.Whole.{IsWholeFrom, IsUnfinishedFrom}
use Rattle.py_outside.specs.Seen.{SourceSeen}
use Rattle.py_meaning.proofs.ScriptsAgree.{unfinished_runs, shorter, same_text, one_text}
use Rattle.py_script.specs.declared.words.Command.{Command}
use Rattle.py_script.specs.declared.fault.ScriptFault.{ScriptFault}
use Rattle.py_script.specs.declared.fault.ScriptFault.TheVariants as fault
use Rattle.py_script.specs.declared.fault.CommandResult.{CommandResult}
use Rattle.py_script.specs.declared.fault.CommandResult.TheVariants as outcome
use Rattle.py_script.specs.Answered.{IsWholeRun, IsCutRun}
use Rattle.py_script.specs.Causes.{IsAnswer, CommandEnds, IsEnding, IsRunEnding, status_in, HasFewer, IsSettled, RunsSettle, AskedRunsSettle}
use Rattle.py_script.specs.Steps.{result_in}
use Rattle.py_script.proofs.Statuses.{what_it_held}

module _ (bytes : List ℕ) (turns : ℕ) where
  -- an answer that is neither a whole run nor a cut one
  neither : (f : ScriptFault) → (status_in (outcome.Fault f) ≡ 0 → ⊥) → (status_in (outcome.Fault f) ≡ 4 → ⊥) → HasFewer turns (outcome.Fault f) → IsSettled bytes turns (outcome.Fault f)
  neither f no_run no_cut fewer = record {
    never_cut = λ j core whole few is. no_cut is;
    never_whole = λ j core unfinished enough is. no_run is;
    whole_text = λ j core whole is. absurd (no_run is);
    cut_text = λ j core run count is. absurd (no_cut is);
    fewer = λ none. fewer;
  }

  -- a whole run
  whole_settles : (j : Journal) → IsWholeRun bytes turns j → IsWholeFrom bytes j → length j.events ≤ turns → IsSettled bytes turns (outcome.Ran j)
  whole_settles j run whole few = record {
    never_cut = λ j' core other enough is. cc is;
    never_whole = λ j' core unfinished enough is. let less = shorter bytes j j' core whole unfinished in omega (arith, less, few, enough);
    whole_text = λ j' core other is. one_text bytes j j' core whole other;
    cut_text = λ j' core other count is. absurd (cc is);
    fewer = λ none. by none (cases_lt (length j.events) turns);
  }
    where
      by : ((k : Journal) → IsWholeRun bytes turns k → length k.events ≡ turns → ⊥) → (length j.events < turns) ⊎ (turns ≤ length j.events) → length j.events < turns
      by none (inl fewer) = fewer
      by none (inr enough) = absurd (none j run (omega (arith, few, enough)))

  -- one that is cut
  cut_settles : (j : Journal) → IsUnfinishedFrom bytes j → length j.events ≡ turns → IsSettled bytes turns (outcome.Fault (fault.OutOfTurns j))
  cut_settles j unfinished count = record {
    never_cut = λ j' core whole few is. let less = shorter bytes j' j core whole unfinished in omega (arith, less, few, count);
    never_whole = λ j' core other enough is. cc is;
    whole_text = λ j' core whole is. absurd (cc is);
    cut_text = λ j' core run count' is. same_text bytes j j' core (unfinished_runs bytes j unfinished) run (count ∙ sym count');
    fewer = λ none. tt;
  }

  -- by what was read
  whole_read : (j : Journal) → IsWholeRun bytes turns j → IsSettled bytes turns (outcome.Ran j)
  whole_read j (s, is, run, whole, few, codes) = whole_settles j (s, is, run, whole, few, codes) (s, is, run, whole) few

  cut_read : (j : Journal) → IsCutRun bytes turns j → IsSettled bytes turns (outcome.Fault (fault.OutOfTurns j))
  cut_read j (s, is, run, not_whole, count, codes) = cut_settles j (s, is, run, not_whole) count

module _ (before after : SourceSeen) where
  pub answer_settles : (turns : ℕ) (r : Result Journal ScriptFault) → IsAnswer before after turns r → RunsSettle before turns (result_in r)
  answer_settles turns (Ok j) is bytes left = whole_read bytes turns j (what_it_held before after bytes (λ b. IsWholeRun b turns j) left is)
  answer_settles turns (Err (fault.OutOfTurns j)) is bytes left = cut_read bytes turns j (what_it_held before after bytes (λ b. IsCutRun b turns j) left is)
  answer_settles turns (Err (fault.Malformed line)) is bytes left = neither bytes turns (fault.Malformed line) (λ s. cc s) (λ s. cc s) tt
  answer_settles turns (Err (fault.Refused code at)) is bytes left = neither bytes turns (fault.Refused code at) (λ s. cc s) (λ s. cc s) tt
  answer_settles turns (Err fault.ReadFault) is bytes left = neither bytes turns fault.ReadFault (λ s. cc s) (λ s. cc s) tt
  answer_settles turns (Err (fault.WriteFault j)) is bytes left = neither bytes turns (fault.WriteFault j) (λ s. cc s) (λ s. cc s) tt
  answer_settles turns (Err fault.TooLong) is bytes left = neither bytes turns fault.TooLong (λ s. cc s) (λ s. cc s) tt
  answer_settles turns (Err (fault.NoMemory j)) is bytes left = neither bytes turns (fault.NoMemory j) (λ s. cc s) (λ s. cc s) tt

  run_ending_settles : (turns : ℕ) (result : CommandResult) → IsRunEnding before after turns result → RunsSettle before turns result
  run_ending_settles turns (outcome.Ran j) is = answer_settles turns (Ok j) is
  run_ending_settles turns (outcome.Fault f) is = answer_settles turns (Err f) is
  run_ending_settles turns (outcome.Made summary) is = absurd is
  run_ending_settles turns outcome.Usage is = absurd is
  run_ending_settles turns outcome.NoMemory is = absurd is

  -- and so they do of a command
  pub ending_settles : (words : List (List ℕ)) (result : CommandResult) → IsEnding before after words result → AskedRunsSettle before words result
  ending_settles words result is turns asks = run_ending_settles turns result (subst (λ (c : Command). CommandEnds c before after result) asks is)
