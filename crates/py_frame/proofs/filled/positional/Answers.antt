use Rattle.py_frame.proofs.Filling.{all_filled}
use Rattle.py_frame.proofs.filled.positional.Goals as goal

pub returns : goal.returns
returns c = all_filled c.args.code.now c.code.result.now c.loop-place.place c.len-place-end.result c.args.args.now c.loop-place.locals c.code.ensures.value c.len-place-end.ensures c.loop-place.auto.place-end c.loop-place-test.false c.loop-place.invariant
