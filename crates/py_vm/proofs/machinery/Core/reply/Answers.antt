use Rattle.py_frame.proofs.RunningLemmas.{erred}
use Rattle.py_objects.proofs.GrownLemmas.{grown_longer, objects_grow}
use Rattle.py_vm.specs.declared.machinery.Core.{Core}
use Rattle.py_vm.proofs.JournalLemmas.{readable_on}
use Rattle.py_vm.proofs.RaisingLemmas.{traceable_grown}
use Rattle.py_vm.proofs.LeavingLemmas.{caller_replied}
use Rattle.py_vm.proofs.PartsLemmas.{halted_on, halts_trans, noted_halts}
use Rattle.py_vm.proofs.machinery.Core.reply.Goals as goal

pub note-requires-clause-asked : goal.note-requires-clause-asked
note-requires-clause-asked c = (rw c.in-Some.ensures at c.requires.first).0

pub note-requires-clause-traceable : goal.note-requires-clause-traceable
note-requires-clause-traceable c =
    let m : Core = c.args.self.now in
    traceable_grown m.world.codes m.world.store.made c.answer.new.store.made c.in-Some.halted.running (objects_grow m.world.store c.answer.new.store c.in_ok-answer-in-Some.ensures.grows) (rw c.in-Some.ensures at c.requires.first).1

pub note-requires-clause-readable : goal.note-requires-clause-readable
note-requires-clause-readable c =
    let m : Core = c.args.self.now in
    readable_on m.world.store c.answer.new.store (grown_longer m.world.store c.answer.new.store c.in_ok-answer-in-Some.ensures.grows) c.requires.readable

pub note-requires-clause-raises : goal.note-requires-clause-raises
note-requires-clause-raises c =
    (rw c.in-Some.ensures at c.requires.raises) c.answer.new.store c.in_ok-answer-in-Some.answer (c.in_ok-answer-in-Some.ensures.grows, c.in_ok-answer-in-Some.ensures.value, c.in_ok-answer-in-Some.ensures.given)

pub returns-in_ok-got-in-Some-clause-ok : goal.returns-in_ok-got-in-Some-clause-ok
returns-in_ok-got-in-Some-clause-ok c =
    caller_replied c.args.self.now c.args.reply c.args.self.now.callers c.pop.new.self c.in-Some.halted c.answer.new.store c.in_ok-answer-in-Some.answer c.note.new.self c.got.new.self c.in-Some.ensures
    (c.in_ok-answer-in-Some.ensures.grows, c.in_ok-answer-in-Some.ensures.value, c.in_ok-answer-in-Some.ensures.given) c.in_ok-note-in-Some.ensures.ok c.in_ok-got-in-Some.ensures.ok

pub returns-in_err-note-in-Some-clause-err : goal.returns-in_err-note-in-Some-clause-err
returns-in_err-note-in-Some-clause-err c =
    let m : Core = c.args.self.now in
    erred _ _ (halted_on m c.note.new.self c.answer.new.store m.world.generators m.frames c.pop.new.self m.slots m.stage c.in_ok-answer-in-Some.ensures.grows c.in_err-note-in-Some.ensures.err)

pub returns-in_err-got-in-Some-clause-err : goal.returns-in_err-got-in-Some-clause-err
returns-in_err-got-in-Some-clause-err c =
    let m : Core = c.args.self.now in
    let popped : Core = record m { world = record m.world { store = c.answer.new.store }; callers = c.pop.new.self } in
    erred _ _ (halted_on m c.got.new.self c.answer.new.store m.world.generators m.frames c.pop.new.self m.slots m.stage c.in_ok-answer-in-Some.ensures.grows
    (halts_trans popped c.note.new.self c.got.new.self (noted_halts popped c.note.new.self c.in-Some.halted c.in_ok-answer-in-Some.answer c.in_ok-note-in-Some.ensures.ok) c.in_err-got-in-Some.ensures.err))
