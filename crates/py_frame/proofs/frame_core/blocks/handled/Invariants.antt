use Rattle.std.proofs.Common.{◌≡◌, ◌≤◌, length}
use Rattle.std.specs.Prelude.{None, reverse}
use Rattle.py_rows.specs.Handled.{handled_in}
use Rattle.py_frame.proofs.frame_core.blocks.handled.Given as goal

abbrev pub invariant-blocks_left : goal.invariant-blocks_left
invariant-blocks_left l = record {
  same : handled_in None (reverse l.left) ≡ handled_in None (reverse l.blocks);
  few : length l.left ≤ length l.blocks;
}

abbrev pub decreases-blocks_left : goal.decreases-blocks_left
decreases-blocks_left l = length l.left
