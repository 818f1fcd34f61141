use Rattle.std.proofs.Common.{◌≡◌, take, reverse}
use Rattle.py_raw.proofs.notes.blocks_of.Given as goal

abbrev pub invariant-loop-block : goal.invariant-loop-block
invariant-loop-block l = l.list ≡ reverse (take l.block-index l.blocks)
