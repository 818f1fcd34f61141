use Rattle.std.proofs.Common.{◌≡◌, ◌≤◌, length}
use Rattle.py_reports.specs.Lines.{without_front}
use Rattle.py_reports.proofs.lines.skip.Given as goal

abbrev pub invariant-each : goal.invariant-each
invariant-each l = (without_front l.blanks l.left ≡ without_front l.blanks l.fn.line) × (length l.left ≤ length l.fn.line)

abbrev pub decreases-each : goal.decreases-each
decreases-each l = length l.left
