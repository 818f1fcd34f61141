use Rattle.std.proofs.Common.{◌≡◌, length}
use Rattle.py_objects.specs.Edits.{store_at}
use Rattle.py_objects.specs.Due.{AreInOrder, later}
use Rattle.py_objects.proofs.due.make_due.Given as goal

abbrev pub invariant-loop-change : goal.invariant-loop-change
invariant-loop-change l = record {
  order : AreInOrder l.left;
  made : store_at l.payloads l.left l.event ≡ store_at l.fn.payloads l.changes l.event;
  left : later l.event l.left ≡ later l.event l.changes;
}

abbrev pub decreases-loop-change : goal.decreases-loop-change
decreases-loop-change l = length l.left
