use Rattle.py_rows.specs.States.{Goes, next, pushed, with_stack}
use Rattle.py_frame.specs.Frames.{over}
use Rattle.py_frame.specs.UnitRows.{constant_at}
use Rattle.py_frame.proofs.SafeLemmas.{can_load}
use Rattle.py_frame.proofs.executing.ExecutingFrame.load_const.Goals as goal

pub load-requires : goal.load-requires
load-requires g c =
    can_load c.args.store.now.made (over c.args.self.now.core (g.S.ValueStack.seen c.args.self.now.stack)) (constant_at c.args.scene.now c.args.place)
    (λ v. Goes (pushed v (next (with_stack (g.S.ValueStack.seen c.args.self.now.stack).list c.args.self.now.core.state)))) c.requires.safe
