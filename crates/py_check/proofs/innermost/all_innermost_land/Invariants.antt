use Rattle.py_check.specs.Innermost.{InnermostLand}
use Rattle.py_check.specs.Sheet.{sheet_of}
use Rattle.py_check.proofs.innermost.all_innermost_land.Given as goal

abbrev pub invariant-loop-at : goal.invariant-loop-at
invariant-loop-at l = InnermostLand (sheet_of l.code) l.at
