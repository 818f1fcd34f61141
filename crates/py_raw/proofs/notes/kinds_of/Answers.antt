use Rattle.std.proofs.Common.{reverse}
use Rattle.py_raw.proofs.ListLemmas.{turned_more}
use Rattle.py_raw.proofs.notes.kinds_of.Goals as goal

pub loop-top-preserved : goal.loop-top-preserved
loop-top-preserved c =
    turned_more (reverse c.args.kinds.now) c.loop-top.rest.now c.in-Some.below.now c.loop-top.list c.push.new.self c.in-Some.top.now c.in-Some.ensures.cases.0
    c.loop-top.invariant c.in_ok-push.ensures.added
