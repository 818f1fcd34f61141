use Rattle.std.proofs.Common.{◌≡◌, ◌++◌, drop}
use Rattle.std.specs.Prelude.{encode_utf8_all, string_bytes}
use Rattle.py_exceptions.specs.Repr.{escaped}
use Rattle.py_exceptions.proofs.quoted.push_escaped.Given as goal

abbrev pub invariant-loop-c : goal.invariant-loop-c
invariant-loop-c l = string_bytes l.out ++ encode_utf8_all (escaped l.quote (drop l.c-index l.text)) ≡ string_bytes l.fn.out ++ encode_utf8_all (escaped l.quote l.text)
