use Rattle.std.proofs.Common.{[], ap}
use Rattle.std.specs.Prelude.{reverse}
use Rattle.py_frame.proofs.Filling.{all_filled, unfilled_made}
use Rattle.py_frame.proofs.frame.Frame.new.Goals as goal

pub returns-clause-frame : goal.returns-clause-frame
returns-clause-frame g c =
    unfilled_made c.args.code.now c.args.constructor.number c.args.constructor.entry c.args.constructor.scope c.args.constructor.closure _ _ c.new.result (g.S.ValueStack.seen c.args.stack).list (reverse c.in_ok-with_capacity.field-0.items) c.loop.locals.items
    c.new.ensures c.requires.empty (ap reverse c.in_ok-with_capacity.ensures.items)
    (all_filled c.args.code.now c.code.result.now c.loop.counter c.len-end.result [] c.loop.locals.items c.code.ensures.value c.len-end.ensures c.loop.auto.counter-end c.loop-test.false c.loop.invariant)
