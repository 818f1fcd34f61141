use Rattle.std.proofs.Common.{◌≡◌, ◌++◌, drop, map}
use Rattle.std.specs.Prelude.{encode_utf8_all, string_bytes}
use Rattle.py_reports.specs.SyntaxLines.{blank}
use Rattle.py_reports.proofs.caret.push_blanks.Given as goal

abbrev pub invariant-loop-c : goal.invariant-loop-c
invariant-loop-c l = string_bytes l.out ++ encode_utf8_all (map blank (drop l.c-index l.line)) ≡ string_bytes l.fn.out ++ encode_utf8_all (map blank l.line)
