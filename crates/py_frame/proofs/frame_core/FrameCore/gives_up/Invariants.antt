use Rattle.std.proofs.Common.{◌≡◌, ◌+◌, length}
use Rattle.std.specs.Prelude.{Option}
use Rattle.py_objects.specs.declared.refs.PyBaseExceptionRef.{PyBaseExceptionRef}
use Rattle.py_rows.specs.Slot.{KeepsSlot}
use Rattle.py_frame.proofs.frame_core.FrameCore.gives_up.Given as goal

abbrev pub invariant-blocks_left : goal.invariant-blocks_left
invariant-blocks_left l = record {
  frame : l.self ≡ record l.fn.self { state = record l.fn.self.state { blocks = l.self.state.blocks; slot = l.self.state.slot }; block_room = l.self.block_room };
  keeps : (first : Option PyBaseExceptionRef) → KeepsSlot first l.fn.self.state → KeepsSlot first l.self.state;
  room : length l.self.state.blocks + l.self.block_room ≡ length l.fn.self.state.blocks + l.fn.self.block_room;
}

abbrev pub decreases-blocks_left : goal.decreases-blocks_left
decreases-blocks_left l = length l.self.state.blocks
