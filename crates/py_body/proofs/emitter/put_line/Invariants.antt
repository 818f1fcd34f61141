use Rattle.std.proofs.Common.{◌≡◌, ◌++◌, replicate}
use Rattle.py_body.proofs.emitter.put_line.Given as goal

abbrev pub invariant-loop-unit : goal.invariant-loop-unit
invariant-loop-unit l = l.locations.items ≡ l.fn.locations.items ++ replicate l._unit l.line
