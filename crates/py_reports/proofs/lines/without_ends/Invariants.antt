use Rattle.std.proofs.Common.{◌≡◌, length}
use Rattle.py_reports.specs.Lines.{without_ends}
use Rattle.py_reports.proofs.lines.without_ends.Given as goal

abbrev pub invariant-each : goal.invariant-each
invariant-each l = without_ends l.left ≡ without_ends l.fn.text

abbrev pub decreases-each : goal.decreases-each
decreases-each l = length l.left
