use Rattle.std.proofs.Common.{◌≡◌, Some}
use Rattle.py_objects.specs.Edits.{objects_of}
use Rattle.py_exceptions.specs.Nexts.{next_at}
use Rattle.py_exceptions.specs.Walks.{led}
use Rattle.py_exceptions.proofs.traceback_iter.links_to_end.Given as goal

abbrev pub invariant-loop-links : goal.invariant-loop-links
invariant-loop-links l = led (next_at (objects_of l.store)) l.links l.fn.from ≡ Some l.at
