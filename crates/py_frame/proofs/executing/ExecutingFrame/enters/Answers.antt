use Rattle.py_frame.specs.Frames.{over}
use Rattle.py_frame.proofs.SafeLemmas.{can_enter}
use Rattle.py_frame.proofs.executing.ExecutingFrame.enters.Goals as goal

pub entered-requires-clause-safe : goal.entered-requires-clause-safe
entered-requires-clause-safe g c =
    can_enter c.args.store.now.made (over c.args.self.now.core (g.S.ValueStack.seen c.args.self.now.stack)) c.args.self.now.core.state.phase c.args.handler c.args.value c.requires.safe
