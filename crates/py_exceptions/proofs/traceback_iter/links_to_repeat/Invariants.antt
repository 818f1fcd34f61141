use Rattle.py_objects.specs.Edits.{objects_of}
use Rattle.py_exceptions.specs.Nexts.{next_at}
use Rattle.py_exceptions.proofs.OrdersLemmas.{IsSoFar}
use Rattle.py_exceptions.proofs.traceback_iter.links_to_repeat.Given as goal

abbrev pub invariant-loop-links : goal.invariant-loop-links
invariant-loop-links l = IsSoFar (next_at (objects_of l.store)) l.from l.links l.next
