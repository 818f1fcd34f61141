use Rattle.std.proofs.Common.{◌≡◌, take}
use Rattle.py_objects.proofs.pair_list.PairList.copy.Given as goal

abbrev pub invariant-loop-pair : goal.invariant-loop-pair
invariant-loop-pair l = l.copy ≡ take l.pair-index l.pair-items
