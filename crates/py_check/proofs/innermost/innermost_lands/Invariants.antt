use Rattle.std.proofs.Common.{◌≡◌, length}
use Rattle.py_check.specs.Innermost.{innermost_lands}
use Rattle.py_check.specs.Sheet.{sheet_of}
use Rattle.py_check.proofs.innermost.innermost_lands.Given as goal

abbrev pub invariant-land : goal.invariant-land
invariant-land l = innermost_lands (sheet_of l.code) l.ks l.left ≡ innermost_lands (sheet_of l.code) l.kinds l.blocks

abbrev pub decreases-land : goal.decreases-land
decreases-land l = length l.left
