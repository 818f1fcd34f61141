use Rattle.std.proofs.Common.{◌<◌, refl, ap, arith}
use Rattle.py_objects.specs.Edits.{Kept}
use Rattle.py_frame.specs.Frames.{over}
use Rattle.py_frame.proofs.AddedLemmas.{adds_none, adds_on, adds_grow, classes_stay}
use Rattle.py_frame.proofs.RunningLemmas.{silent_first, unit_there, can_move, row_goes, row_tells, silent_falls, silent_on, told_there, tells_on, cut_short, store_on, erred}
use Rattle.py_frame.proofs.ToldLemmas.{step_told}
use Rattle.py_frame.proofs.executing.ExecutingFrame.run.Goals as goal

pub silent-init : goal.silent-init
silent-init g c = record { run = silent_first _ _ _ _ c.requires.running c.requires.moving; grows = adds_none _; unchanged = refl }

pub moves-requires-clause-there : goal.moves-requires-clause-there
moves-requires-clause-there g c =
    unit_there c.silent.store.made c.args.scene.now.names c.args.scene.now.code c.silent.self.core.state.wants (over c.silent.self.core (g.S.ValueStack.seen c.silent.self.stack)).state c.requires.running.sound c.silent.invariant.run.fits c.silent.invariant.run.moving

pub moves-requires-clause-classes : goal.moves-requires-clause-classes
moves-requires-clause-classes g c = classes_stay _ _ c.silent.invariant.grows c.requires.classes

pub moves-requires-clause-safe : goal.moves-requires-clause-safe
moves-requires-clause-safe g c =
    can_move c.args.scene.now.names c.args.scene.now.code c.requires.running.sound (over c.silent.self.core (g.S.ValueStack.seen c.silent.self.stack)) (omega (arith, c.requires.running.room, c.silent.invariant.run.same.room)) (omega (arith, c.requires.running.block_room, c.silent.invariant.run.same.block_room))
    c.silent.store.made c.silent.invariant.run.fits c.silent.invariant.run.below c.silent.invariant.run.moving

pub returns-in_err-moves-clause-cut : goal.returns-in_err-moves-clause-cut
returns-in_err-moves-clause-cut g c =
    erred c.from_residual.result _
    (cut_short c.args.scene.now.names c.args.scene.now.code c.requires.running.sound c.silent.store.made c.moves.new.store.made (over c.args.self.now.core (g.S.ValueStack.seen c.args.self.now.stack)) (over c.silent.self.core (g.S.ValueStack.seen c.silent.self.stack)) (over c.moves.new.self.core (g.S.ValueStack.seen c.moves.new.self.stack)) c.silent.invariant.run (adds_grow _ _ c.in_err-moves.ensures.objects) c.in_err-moves.ensures.err)

pub returns-in_err-moves-clause-objects : goal.returns-in_err-moves-clause-objects
returns-in_err-moves-clause-objects g c = adds_on _ _ _ c.silent.invariant.grows c.in_err-moves.ensures.objects

pub silent-smaller : goal.silent-smaller
silent-smaller g c =
    let there = unit_there c.silent.store.made c.args.scene.now.names c.args.scene.now.code c.silent.self.core.state.wants (over c.silent.self.core (g.S.ValueStack.seen c.silent.self.stack)).state c.requires.running.sound c.silent.invariant.run.fits c.silent.invariant.run.moving in
    let later : c.silent.self.core.state.at < c.moves.new.self.core.state.at =
    silent_falls c.args.scene.now.names c.args.scene.now.code c.requires.running.sound c.silent.store.made c.moves.new.store.made (over c.args.self.now.core (g.S.ValueStack.seen c.args.self.now.stack)) (over c.silent.self.core (g.S.ValueStack.seen c.silent.self.stack)) (over c.moves.new.self.core (g.S.ValueStack.seen c.moves.new.self.stack)) c.silent.invariant.run (adds_grow _ _ c.in_ok-moves.ensures.objects) c.in_ok-moves.ensures.row.same
    (row_goes c.moves.new.store.made _ c.silent.self.core.state.at c.in_ok-moves.field-0 (over c.moves.new.self.core (g.S.ValueStack.seen c.moves.new.self.stack)).state c.in-Goes.is c.in_ok-moves.ensures.row.row) in
    omega (arith, there, later)

pub silent-preserved : goal.silent-preserved
silent-preserved g c = record {
  run = silent_on c.args.scene.now.names c.args.scene.now.code c.requires.running.sound c.silent.store.made c.moves.new.store.made (over c.args.self.now.core (g.S.ValueStack.seen c.args.self.now.stack)) (over c.silent.self.core (g.S.ValueStack.seen c.silent.self.stack)) (over c.moves.new.self.core (g.S.ValueStack.seen c.moves.new.self.stack)) c.silent.invariant.run (adds_grow _ _ c.in_ok-moves.ensures.objects) c.in_ok-moves.ensures.row.same
      (row_goes c.moves.new.store.made _ c.silent.self.core.state.at c.in_ok-moves.field-0 (over c.moves.new.self.core (g.S.ValueStack.seen c.moves.new.self.stack)).state c.in-Goes.is c.in_ok-moves.ensures.row.row);
  grows = adds_on _ _ _ c.silent.invariant.grows c.in_ok-moves.ensures.objects;
  unchanged = store_on c.args.store.now c.silent.store c.moves.new.store c.silent.invariant.unchanged c.in_ok-moves.ensures.unchanged;
}

pub returns-in-Tells-clause-told : goal.returns-in-Tells-clause-told
returns-in-Tells-clause-told g c =
    let grows = adds_grow _ _ c.in_ok-moves.ensures.objects in
    let (x, is, may) = told_there c.args.scene.now.names c.args.scene.now.code c.requires.running.sound c.silent.store.made c.moves.new.store.made (over c.args.self.now.core (g.S.ValueStack.seen c.args.self.now.stack)) (over c.silent.self.core (g.S.ValueStack.seen c.silent.self.stack)) (over c.moves.new.self.core (g.S.ValueStack.seen c.moves.new.self.stack)) c.silent.invariant.run grows c.in-Tells.step
    (row_tells c.moves.new.store.made _ c.silent.self.core.state.at c.in_ok-moves.field-0 c.in-Tells.step (over c.moves.new.self.core (g.S.ValueStack.seen c.moves.new.self.stack)).state c.in-Tells.is c.in_ok-moves.ensures.row.row) in
    tells_on c.args.scene.now.names c.args.scene.now.code c.requires.running.sound c.silent.store.made c.moves.new.store.made (over c.args.self.now.core (g.S.ValueStack.seen c.args.self.now.stack)) (over c.silent.self.core (g.S.ValueStack.seen c.silent.self.stack)) (over c.moves.new.self.core (g.S.ValueStack.seen c.moves.new.self.stack)) c.silent.invariant.run grows c.in_ok-moves.ensures.row.same c.args.store.now.made c.requires.running c.in-Tells.step x is may

pub returns-in-Tells-clause-traceback : goal.returns-in-Tells-clause-traceback
returns-in-Tells-clause-traceback g c =
    step_told c.args.store.now c.silent.store c.moves.new.store c.silent.invariant.grows (ap (λ (s : Kept). s.changes) c.silent.invariant.unchanged) c.in_ok-moves.ensures.objects c.args.scene.now.names c.args.scene.now.code c.requires.running.sound
    (over c.args.self.now.core (g.S.ValueStack.seen c.args.self.now.stack)) (over c.silent.self.core (g.S.ValueStack.seen c.silent.self.stack)) (over c.moves.new.self.core (g.S.ValueStack.seen c.moves.new.self.stack)).state
    c.silent.invariant.run c.in_ok-moves.field-0 c.in-Tells.step c.in-Tells.is c.in_ok-moves.ensures.row.row c.in_ok-moves.ensures.traceback

pub returns-in-Tells-clause-objects : goal.returns-in-Tells-clause-objects
returns-in-Tells-clause-objects g c = adds_on _ _ _ c.silent.invariant.grows c.in_ok-moves.ensures.objects
