use Rattle.std.proofs.Common.{◌∙◌, sym}
use Rattle.py_objects.specs.Edits.{objects_of}
use Rattle.py_exceptions.specs.Nexts.{next_at}
use Rattle.py_exceptions.proofs.OrdersLemmas.{ended_once}
use Rattle.py_exceptions.proofs.traceback_iter.links_to_end.Goals as goal

pub returns-in_default : goal.returns-in_default
returns-in_default c =
    ended_once (next_at (objects_of c.args.store.now)) c.args.from c.loop-links.links c.loop-links.at c.loop-links.invariant (sym c.link.ensures ∙ c.in_default.is)
