use Rattle.std.proofs.Common.{◌≡◌, length, slice_get}
use Rattle.py_check.specs.KindRuns.{kinds_of}
use Rattle.py_check.proofs.kinds.kind_at.Given as goal

abbrev pub invariant-runs_left : goal.invariant-runs_left
invariant-runs_left l = slice_get (kinds_of l.left) l.place ≡ slice_get (kinds_of l.runs) l.at

abbrev pub decreases-runs_left : goal.decreases-runs_left
decreases-runs_left l = length l.left
