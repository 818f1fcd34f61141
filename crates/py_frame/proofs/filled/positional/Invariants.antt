use Rattle.std.proofs.Common.{◌≡◌}
use Rattle.py_rows.specs.RunOfRows.{filled}
use Rattle.py_frame.proofs.filled.positional.Given as goal

abbrev pub invariant-loop-place : goal.invariant-loop-place
invariant-loop-place l = l.locals ≡ filled l.place l.args
