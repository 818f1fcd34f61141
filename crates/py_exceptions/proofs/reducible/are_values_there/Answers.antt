use Rattle.std.proofs.Common.{sym}
use Rattle.py_exceptions.proofs.ReducibleLemmas.{value_fails, value_holds}
use Rattle.py_exceptions.proofs.reducible.are_values_there.Goals as goal

pub returns-then-value-count : goal.returns-then-value-count
returns-then-value-count c = sym (value_fails c.args.count c.args.attrs.now c.loop-place.place _ c.in_ok-_name.ensures c.if-value-count.true)

pub loop-place-preserved : goal.loop-place-preserved
loop-place-preserved c = value_holds c.args.count c.args.attrs.now c.loop-place.place _ c.in_ok-_name.ensures c.if-value-count.false c.loop-place.invariant
