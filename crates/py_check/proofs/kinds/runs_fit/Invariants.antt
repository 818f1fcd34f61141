use Rattle.std.proofs.Common.{◌≡◌, ◌++◌, length}
use Rattle.py_check.specs.Notes.{kinds_fit}
use Rattle.py_check.specs.KindRuns.{kinds_of}
use Rattle.py_check.proofs.kinds.runs_fit.Given as goal

abbrev pub invariant-fit : goal.invariant-fit
invariant-fit l = kinds_fit (l.ks ++ l.ls) (kinds_of l.left) ≡ kinds_fit (l.front ++ l.rest) (kinds_of l.runs)

abbrev pub decreases-fit : goal.decreases-fit
decreases-fit l = length l.left
