use Rattle.std.proofs.Common.{◌≡◌, ◌-◌, ◌≤◌, drop, length, map}
use Rattle.py_lines.specs.RawLines.{consts_tokens}
use Rattle.py_lines.specs.Senses.{meaning_of}
use Rattle.py_lines.proofs.constant.all_consts.Given as goal

abbrev pub invariant-loop-at : goal.invariant-loop-at
invariant-loop-at l = record {
  within : l.at ≤ length l.tokens;
  tokens : map meaning_of l.tokens ≡ consts_tokens l.consts (drop l.at (map meaning_of l.tokens));
}

abbrev pub decreases-loop-at : goal.decreases-loop-at
decreases-loop-at l = length l.tokens - l.at
