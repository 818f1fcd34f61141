use Rattle.std.proofs.Common.{◌≡◌, ◌++◌, length}
use Rattle.py_check.specs.KindRuns.{kinds_of}
use Rattle.py_check.proofs.kinds.expanded.Given as goal

abbrev pub invariant-runs_left : goal.invariant-runs_left
invariant-runs_left l = l.kinds.items ++ kinds_of l.left ≡ kinds_of l.runs

abbrev pub decreases-runs_left : goal.decreases-runs_left
decreases-runs_left l = length l.left
