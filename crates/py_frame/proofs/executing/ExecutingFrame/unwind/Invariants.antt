use Rattle.std.proofs.Common.{◌≡◌, length}
use Rattle.py_rows.specs.Unwinding.{unwind}
use Rattle.py_frame.specs.Frames.{Framed, over}
use Rattle.py_frame.specs.Running.{IsSame}
use Rattle.py_frame.proofs.executing.ExecutingFrame.unwind.Given as goal

abbrev pub invariant-blocks_left : goal.invariant-blocks_left
invariant-blocks_left g l = record {
  rest : let f : Framed = over l.self.core (g.S.ValueStack.seen l.self.stack) in let first : Framed = over l.fn.self.core (g.S.ValueStack.seen l.fn.self.stack) in
      unwind l.reason f.state.blocks f.state ≡ unwind l.reason first.state.blocks first.state;
  at : l.self.core.state.at ≡ l.fn.self.core.state.at;
  same : IsSame (over l.fn.self.core (g.S.ValueStack.seen l.fn.self.stack)) (over l.self.core (g.S.ValueStack.seen l.self.stack));
}

abbrev pub decreases-blocks_left : goal.decreases-blocks_left
decreases-blocks_left g l = length l.self.core.state.blocks
