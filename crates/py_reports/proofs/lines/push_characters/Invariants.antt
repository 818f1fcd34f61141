use Rattle.std.proofs.Common.{◌≡◌, ◌++◌, drop}
use Rattle.std.specs.Prelude.{encode_utf8_all, string_bytes}
use Rattle.py_reports.proofs.lines.push_characters.Given as goal

abbrev pub invariant-loop-c : goal.invariant-loop-c
invariant-loop-c l = string_bytes l.out ++ encode_utf8_all (drop l.c-index l.characters) ≡ string_bytes l.fn.out ++ encode_utf8_all l.characters
