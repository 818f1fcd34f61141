-- What was read of a source, in the words of the answers.
use Rattle.std.proofs.Common.{◌≡◌, ◌≤◌, ◌^◌, ℕ, List, length, sym, subst}
use Rattle.std.specs.Prelude.{IsTrue, Result, Ok, Err}
use Rattle.py_grammar.specs.declared.script.Script.{Script}
use Rattle.py_outside.specs.Seen.{SourceSeen}
use Rattle.py_outside.specs.Reading.{HasRead}
use Rattle.py_script.specs.declared.fault.ScriptFault.{ScriptFault}
use Rattle.py_script.specs.declared.fault.ScriptFault.TheVariants as fault
use Rattle.py_script.specs.Causes.{WasRead}
use Rattle.py_script.specs.Steps.{IsParsed, IsReadFault, IsReading}

module _ (before after : SourceSeen) where
  was_read : (P : List ℕ → Type 0) (bytes : List ℕ) → HasRead before after bytes → IsTrue after.at_end → length bytes ≤ 2 ^ 20 → P bytes → WasRead before after P
  was_read P bytes has ended short holds = record { bytes = bytes; are = has.0; short = short; none_left = has.1; ended = ended; claimed = holds }

  -- the answer of parsing what was read is that of reading
  pub parsed_is_read : (bytes : List ℕ) (r : Result Script ScriptFault) → HasRead before after bytes → IsTrue after.at_end → length bytes ≤ 2 ^ 20 → IsParsed bytes r → IsReading before after r
  parsed_is_read bytes (Ok s) has ended short is = was_read _ bytes has ended short is
  parsed_is_read bytes (Err fault.ReadFault) has ended short is = absurd is
  parsed_is_read bytes (Err fault.TooLong) has ended short is = absurd is
  parsed_is_read bytes (Err (fault.Malformed line)) has ended short is = was_read _ bytes has ended short is
  parsed_is_read bytes (Err _) has ended short is = is

  fault_answers : (f : ScriptFault) → IsReadFault before after f → IsReading before after (Err f)
  fault_answers (fault.Malformed line) is = absurd is
  fault_answers _ is = is

  -- a fault of reading the bytes is the answer of reading the script
  pub fault_is_read : (r : Result Script ScriptFault) (f : ScriptFault) → r ≡ Err f → IsReadFault before after f → IsReading before after r
  fault_is_read r f same is = subst (IsReading before after) (sym same) (fault_answers f is)
