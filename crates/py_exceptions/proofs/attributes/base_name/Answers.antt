use Rattle.py_exceptions.proofs.PathLemmas.{none_read, slash_read}
use Rattle.py_exceptions.proofs.attributes.base_name.Goals as goal

pub loop-c-init : goal.loop-c-init
loop-c-init c = none_read c.args.path.now

pub loop-c-preserved-then-c-eq47 : goal.loop-c-preserved-then-c-eq47
loop-c-preserved-then-c-eq47 c = slash_read c.args.path.now _ _ _ _ c.in-Some.ensures.cases.0 c.if-c-eq47.true c.loop-c.invariant
