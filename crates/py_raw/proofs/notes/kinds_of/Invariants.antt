use Rattle.std.proofs.Common.{◌≡◌, ◌++◌, length, reverse}
use Rattle.py_raw.proofs.notes.kinds_of.Given as goal

abbrev pub invariant-loop-top : goal.invariant-loop-top
invariant-loop-top l = l.list ++ reverse l.rest ≡ reverse l.kinds

abbrev pub decreases-loop-top : goal.decreases-loop-top
decreases-loop-top l = length l.rest
