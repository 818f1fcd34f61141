use Rattle.py_objects.specs.Edits.{objects_of}
use Rattle.py_exceptions.specs.Nexts.{next_at}
use Rattle.py_exceptions.proofs.OrdersLemmas.{each_in_order}
use Rattle.py_exceptions.proofs.traceback_iter.TracebackIter.new.Goals as goal

pub returns : goal.returns
returns c = each_in_order (next_at (objects_of c.args.store.now)) c.args.from c.links_to_each.result c.links_to_each.ensures
