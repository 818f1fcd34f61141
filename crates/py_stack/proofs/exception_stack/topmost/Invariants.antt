use Rattle.std.proofs.Common.{◌≤◌, length, reverse}
use Rattle.std.specs.Prelude.{Option}
use Rattle.py_objects.specs.declared.refs.PyBaseExceptionRef.{PyBaseExceptionRef}
use Rattle.py_stack.specs.Slots.{IsTopmost}
use Rattle.py_stack.proofs.exception_stack.topmost.Given as goal

-- the topmost of what is left is that of all
abbrev pub invariant-slots_left : goal.invariant-slots_left
invariant-slots_left l = record {
  same : (found : Option PyBaseExceptionRef) → IsTopmost (reverse l.left) found → IsTopmost (reverse l.slots) found;
  few : length l.left ≤ length l.slots;
}

abbrev pub decreases-slots_left : goal.decreases-slots_left
decreases-slots_left l = length l.left
