use Rattle.std.proofs.Common.{◌≡◌, []}
use Rattle.py_rows.specs.RunOfRows.{filled}
use Rattle.py_frame.proofs.frame.Frame.new.Given as goal

abbrev pub invariant-loop : goal.invariant-loop
invariant-loop g l = l.locals.items ≡ filled l.counter []
