use Rattle.std.proofs.Common.{◌≤◌}
use Rattle.py_body.proofs.compile.labels_for.Given as goal

abbrev pub invariant-loop-labels : goal.invariant-loop-labels
invariant-loop-labels l = l.labels ≤ 3
