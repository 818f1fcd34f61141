use Rattle.std.proofs.Common.{◌≡◌, ◌++◌, take}
use Rattle.py_exceptions.proofs.reducing.extended.Given as goal

abbrev pub invariant-loop-item : goal.invariant-loop-item
invariant-loop-item l = l.list ≡ l.fn.list ++ take l.item-index l.more
