use Rattle.std.proofs.Common.{◌≡◌, take}
use Rattle.py_stack.proofs.own.OwnStackValueStack.drain.Given as goal

abbrev pub invariant-loop-value : goal.invariant-loop-value
invariant-loop-value l = l.drained ≡ take l.value-index l.value-items
