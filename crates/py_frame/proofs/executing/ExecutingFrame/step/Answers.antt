use Rattle.std.proofs.Common.{sym, ap, subst}
use Rattle.py_rows.specs.Laws.{IsMoving}
use Rattle.py_frame.specs.Frames.{Framed, over, setting_of}
use Rattle.py_frame.specs.Running.{IsRunning, IsSame, HasTold, IsCut}
use Rattle.py_frame.proofs.AddedLemmas.{adds_grow}
use Rattle.py_frame.proofs.HearingLemmas.{taken_moves, hearing_runs, stepped_told, stepped_cut}
use Rattle.py_frame.proofs.executing.ExecutingFrame.step.Goals as goal

pub run-requires-clause-running : goal.run-requires-clause-running
run-requires-clause-running g c =
    subst (λ (f : Framed). IsRunning c.args.store.now.made c.args.scene.now.names c.args.scene.now.code (over f (g.S.ValueStack.seen c.args.self.now.stack))) (sym c.hear.ensures)
    (hearing_runs c.args.store.now.made c.args.scene.now.names c.args.scene.now.code (over c.args.self.now.core (g.S.ValueStack.seen c.args.self.now.stack)) c.args.slot c.args.input c.requires.running (record { below = c.requires.slot.below; left = c.requires.slot.left }) c.requires.expected 0 (c.requires.named 0))

pub run-requires-clause-moving : goal.run-requires-clause-moving
run-requires-clause-moving g c =
    subst (λ (f : Framed). IsMoving f.state.wants) (sym c.hear.ensures)
    (taken_moves c.args.store.now.made (setting_of c.args.scene.now.names c.args.scene.now.code c.args.self.now.core) c.args.self.now.core.state.wants c.args.input c.requires.expected)

pub returns-in-Ok-clause-stepped : goal.returns-in-Ok-clause-stepped
returns-in-Ok-clause-stepped g c =
    stepped_told c.args.store.now.made c.run.new.store.made c.args.scene.now.names c.args.scene.now.code c.args.slot c.args.input (over c.args.self.now.core (g.S.ValueStack.seen c.args.self.now.stack)) (over c.run.new.self.core (g.S.ValueStack.seen c.run.new.self.stack)) (record { below = c.requires.slot.below; left = c.requires.slot.left }) (adds_grow _ _ c.in-Ok.ensures.objects) c.in-Ok.step c.requires.expected
    (subst (λ (f : Framed). HasTold c.run.new.store.made c.args.scene.now.names c.args.scene.now.code (over f (g.S.ValueStack.seen c.args.self.now.stack)) c.in-Ok.step (over c.run.new.self.core (g.S.ValueStack.seen c.run.new.self.stack))) c.hear.ensures c.in-Ok.ensures.told)
    (subst (λ (f : Framed). IsSame (over f (g.S.ValueStack.seen c.args.self.now.stack)) (over c.run.new.self.core (g.S.ValueStack.seen c.run.new.self.stack))) c.hear.ensures c.in-Ok.ensures.same)

pub returns-in-Err-clause-stepped : goal.returns-in-Err-clause-stepped
returns-in-Err-clause-stepped g c =
    stepped_cut c.args.store.now.made c.run.new.store.made c.args.scene.now.names c.args.scene.now.code c.args.slot c.args.input (over c.args.self.now.core (g.S.ValueStack.seen c.args.self.now.stack)) (over c.gives_up.new.self (g.S.ValueStack.seen c.run.new.self.stack)) (record { below = c.requires.slot.below; left = c.requires.slot.left }) (adds_grow _ _ c.in-Err.ensures.objects) (over c.run.new.self.core (g.S.ValueStack.seen c.run.new.self.stack))
    (hearing_runs c.args.store.now.made c.args.scene.now.names c.args.scene.now.code (over c.args.self.now.core (g.S.ValueStack.seen c.args.self.now.stack)) c.args.slot c.args.input c.requires.running (record { below = c.requires.slot.below; left = c.requires.slot.left }) c.requires.expected 0 (c.requires.named 0))
    (subst (λ (f : Framed). IsCut c.run.new.store.made c.args.scene.now.code (over f (g.S.ValueStack.seen c.args.self.now.stack)) (over c.run.new.self.core (g.S.ValueStack.seen c.run.new.self.stack))) c.hear.ensures c.in-Err.ensures.cut)
    (subst (λ (f : Framed). IsSame (over f (g.S.ValueStack.seen c.args.self.now.stack)) (over c.run.new.self.core (g.S.ValueStack.seen c.run.new.self.stack))) c.hear.ensures c.in-Err.ensures.same)
    (ap (λ (f : Framed). over f (g.S.ValueStack.seen c.run.new.self.stack)) c.gives_up.ensures.frame)
    (λ first keeps. c.gives_up.ensures.given_back first (record { slot = keeps.slot; outer = keeps.outer })) c.gives_up.ensures.room
