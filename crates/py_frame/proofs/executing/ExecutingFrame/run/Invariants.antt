use Rattle.std.proofs.Common.{◌≡◌, ◌-◌, length}
use Rattle.py_frame.specs.Added.{AddsConstants}
use Rattle.py_frame.specs.Frames.{over}
use Rattle.py_frame.proofs.RunningLemmas.{IsSilent}
use Rattle.py_frame.proofs.executing.ExecutingFrame.run.Given as goal

abbrev pub invariant-silent : goal.invariant-silent
invariant-silent g l = record {
  run : IsSilent l.store.made l.scene.names l.scene.code (over l.fn.self.core (g.S.ValueStack.seen l.fn.self.stack)) (over l.self.core (g.S.ValueStack.seen l.self.stack));
  grows : AddsConstants l.fn.store.made l.store.made;
  unchanged : l.store ≡ record l.fn.store { made = l.store.made };
}

abbrev pub decreases-silent : goal.decreases-silent
decreases-silent g l = length l.scene.code.code.code.instructions.items - l.self.core.state.at
