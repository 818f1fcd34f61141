use Rattle.py_frame.specs.Frames.{over}
use Rattle.py_frame.proofs.SafeLemmas.{can_pass}
use Rattle.py_frame.proofs.executing.ExecutingFrame.answer_instruction.Goals as goal

pub passes_if-requires-clause-safe : goal.passes_if-requires-clause-safe
passes_if-requires-clause-safe g c =
    can_pass c.args.store.now.made (over c.args.self.now.core (g.S.ValueStack.seen c.args.self.now.stack)) c.args.op c.args.arg c.args.value _ c.in-WithCleanupFinish.is c.requires.safe
