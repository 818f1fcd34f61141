use Rattle.py_frame.specs.Frames.{over}
use Rattle.py_frame.proofs.ToldLemmas.{exit_asked}
use Rattle.py_frame.proofs.executing.ExecutingFrame.start_cleanup.Goals as goal

pub returns-clause-traceback : goal.returns-clause-traceback
returns-clause-traceback g c =
    exit_asked c.args.store.now c.exit_arguments.new.store c.raised_in-raised.result c.in_ok-class.class c.in_ok-class.exception c.in_ok-class.traceback
    (over c.args.self.now.core (g.S.ValueStack.seen c.args.self.now.stack)).state (over c.asks_exit.new.self.core (g.S.ValueStack.seen c.asks_exit.new.self.stack)).state c.args.self.now.core.state.at c.asks_exit.result
    c.in_ok-class.ensures.told c.in_ok-class.ensures.traceback c.asks_exit.ensures.row
