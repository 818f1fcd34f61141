use Rattle.std.proofs.Common.{◌≡◌, length, slice_get}
use Rattle.py_check.proofs.blocks.BlockList.get.Given as goal

abbrev pub invariant-blocks_left : goal.invariant-blocks_left
invariant-blocks_left l = slice_get l.list l.place ≡ slice_get l.self l.at

abbrev pub decreases-blocks_left : goal.decreases-blocks_left
decreases-blocks_left l = length l.list
