-- What a run answers and what is written of it, from what its steps answered.
use Rattle.std.specs.Prelude.{◌≡◌, ◌≤◌, ℕ, ◌⊎◌, List, length, Result, Ok, Err}
use Rattle.std.specs.Result.{IsErrAnd}
use Rattle.std.proofs.Common.{inl, inr, sym, subst, arith}
use Rattle.py_outside.specs.Seen.{SinkSeen, SourceSeen}
use Rattle.py_grammar.specs.declared.script.Script.{Script}
use Rattle.py_vm.specs.declared.fault.VmFault.TheVariants as vm_fault
use Rattle.py_run.specs.declared.journal.Journal.{Journal}
use Rattle.py_script.specs.declared.fault.ScriptFault.{ScriptFault}
use Rattle.py_script.specs.declared.fault.ScriptFault.TheVariants as fault
use Rattle.py_grammar.specs.Script.{decls_of}
use Rattle.py_script.specs.Answered.{IsPartOfRun, IsWholeRun, IsCutRun}
use Rattle.py_script.specs.Broken.{IsBrokenFrom, IsFirstBroken}
use Rattle.py_script.specs.Steps.{IsReading, HasRun, IsWriting, result_in}
use Rattle.py_script.specs.Causes.{IsAnswer, IsWritten, WasRead}

-- what follows from what holds of the bytes that were read holds of them too
claims_more : (P Q : List ℕ → Type 0) (before after : SourceSeen) → ((bytes : List ℕ) → P bytes → Q bytes) → WasRead before after P → WasRead before after Q
claims_more P Q before after more was = record { bytes = was.bytes; are = was.are; short = was.short; none_left = was.none_left; ended = was.ended; claimed = more was.bytes was.claimed }

-- whichever run it is of, it is a part of one
part : (bytes : List ℕ) (turns : ℕ) (j : Journal) → IsWholeRun bytes turns j ⊎ IsCutRun bytes turns j → IsPartOfRun bytes turns j
part bytes turns j (inl (s, is, run, whole, short, codes)) = (s, is, run, short, codes)
part bytes turns j (inr (s, is, run, cut, all, codes)) = (s, is, run, (let most : length j.events ≤ turns = omega (arith, all) in most), codes)

-- of a source and a sink, before a run and after it
module _ (before after : SourceSeen) (sink sink' : SinkSeen) (turns : ℕ) where
  -- the journal of a script that was read is a whole run of the bytes, or a cut one
  whole_of_bytes : (s : Script) (j : Journal) → IsReading before after (Ok s) → HasRun s turns j (Ok tt) → WasRead before after (λ bytes. IsWholeRun bytes turns j)
  whole_of_bytes s j read ran = claims_more _ (λ bytes. IsWholeRun bytes turns j) before after (λ bytes is. (s, is, ran.0, ran.1, ran.2, ran.3)) read

  cut_of_bytes : (s : Script) (j : Journal) → IsReading before after (Ok s) → HasRun s turns j (Err vm_fault.OutOfTurns) → WasRead before after (λ bytes. IsCutRun bytes turns j)
  cut_of_bytes s j read ran = claims_more _ (λ bytes. IsCutRun bytes turns j) before after (λ bytes is. (s, is, ran.0, ran.1, ran.2, ran.3)) read

  -- a journal that wasn't written whole, whichever run it is of
  unwritten : (j : Journal) (f : ScriptFault) → WasRead before after (λ bytes. IsWholeRun bytes turns j ⊎ IsCutRun bytes turns j) → IsWriting sink sink' j (Err f)
      → IsAnswer before after turns (Err f)
  unwritten j (fault.WriteFault k) was is =
      let P : Journal → Type 0 = λ k. IsAnswer before after turns (Err (fault.WriteFault k)) in subst P (sym is.0) was
  unwritten j (fault.Refused code at) was is = absurd is
  unwritten j (fault.NoMemory k) was is =
      let P : Journal → Type 0 = λ k. IsAnswer before after turns (Err (fault.NoMemory k)) in
      subst P (sym is.0) (inr (claims_more _ _ before after (λ bytes. part bytes turns j) was))
  unwritten j _ was is = absurd is

  -- a whole run, however it was written
  pub answered_whole : (s : Script) (j : Journal) (r : Result Journal ScriptFault) → IsReading before after (Ok s) → HasRun s turns j (Ok tt) → IsWriting sink sink' j r
      → IsAnswer before after turns r
  answered_whole s j (Ok k) read ran is =
      let P : Journal → Type 0 = λ k. IsAnswer before after turns (Ok k) in subst P (sym is.0) (whole_of_bytes s j read ran)
  answered_whole s j (Err f) read ran is =
      unwritten j f (claims_more _ _ before after (λ bytes whole. inl whole) (whole_of_bytes s j read ran)) is

  -- a cut run that was written
  pub answered_cut : (s : Script) (j k : Journal) → k ≡ j → IsReading before after (Ok s) → HasRun s turns j (Err vm_fault.OutOfTurns) → IsAnswer before after turns (Err (fault.OutOfTurns k))
  answered_cut s j k same read ran =
      let P : Journal → Type 0 = λ k. IsAnswer before after turns (Err (fault.OutOfTurns k)) in subst P (sym same) (cut_of_bytes s j read ran)

  -- a run that memory ended
  pub answered_no_memory : (s : Script) (j : Journal) → IsReading before after (Ok s) → HasRun s turns j (Err vm_fault.NoMemory) → IsAnswer before after turns (Err (fault.NoMemory j))
  answered_no_memory s j read (run, short, codes) = inr (claims_more _ (λ bytes. IsPartOfRun bytes turns j) before after (λ bytes is. (s, is, run, short, codes)) read)

  -- a script that was refused
  pub answered_refused : (s : Script) (code at : ℕ) → IsReading before after (Ok s) → IsFirstBroken (decls_of s) code at → IsAnswer before after turns (Err (fault.Refused code at))
  answered_refused s code at read broken = claims_more _ (λ bytes. IsBrokenFrom bytes code at) before after (λ bytes is. (s, is.0, broken)) read

  -- a cut run that wasn't written whole, handed on
  pub answered_cut_unwritten : (s : Script) (j : Journal) (f : ScriptFault) (r : Result Journal ScriptFault) → IsErrAnd r (λ given. given ≡ f) → IsReading before after (Ok s)
      → HasRun s turns j (Err vm_fault.OutOfTurns) → IsWriting sink sink' j (Err f) → IsAnswer before after turns r
  answered_cut_unwritten s j f (Ok k) given read ran is = absurd given
  answered_cut_unwritten s j f (Err h) given read ran is =
      let P : ScriptFault → Type 0 = λ h. IsAnswer before after turns (Err h) in
      subst P (sym given) (unwritten j f (claims_more _ _ before after (λ bytes cut. inr cut) (cut_of_bytes s j read ran)) is)

-- of a sink, before a text was written and after it
module _ (before after : SinkSeen) (j : Journal) where
  -- what was written of a journal is what is written of the answer that hands it on
  pub written_answer : (r : Result Journal ScriptFault) → IsWriting before after j r → IsWritten before after (result_in r)
  written_answer (Ok k) is =
      let P : Journal → Type 0 = λ k. IsWritten before after (result_in (Ok k)) in subst P (sym is.0) is.1
  written_answer (Err (fault.WriteFault k)) is =
      let P : Journal → Type 0 = λ k. IsWritten before after (result_in (Err (fault.WriteFault k))) in subst P (sym is.0) (is.1, is.2)
  written_answer (Err (fault.NoMemory k)) is = is.1
  written_answer (Err (fault.Refused code at)) is = absurd is
  written_answer (Err _) is = absurd is

  -- also of a fault that is handed on
  pub written_fault : (f : ScriptFault) (r : Result Journal ScriptFault) → IsErrAnd r (λ given. given ≡ f) → IsWriting before after j (Err f)
      → IsWritten before after (result_in r)
  written_fault f (Ok k) given is = absurd given
  written_fault f (Err h) given is =
      let P : ScriptFault → Type 0 = λ h. IsWritten before after (result_in (Err h)) in subst P (sym given) (written_answer (Err f) is)
