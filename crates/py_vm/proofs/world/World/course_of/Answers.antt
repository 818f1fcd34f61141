use Rattle.std.proofs.Common.{refl, sym, subst}
use Rattle.py_objects.specs.Edits.{Kept}
use Rattle.py_objects.proofs.GrownLemmas.{objects_grow}
use Rattle.py_exceptions.proofs.ClassesLemmas.{classes_grown}
use Rattle.py_vm.specs.declared.calls.Course.TheVariants as course
use Rattle.py_vm.specs.Worlds.{setting_in, IsSound}
use Rattle.py_vm.proofs.CallsLemmas.{done_course, fault_course}
use Rattle.py_vm.proofs.WorldLemmas.{course_leaves, goes_after, grows_to, same_generators}
use Rattle.py_vm.proofs.world.World.course_of.Goals as goal

pub returns-in-Done-clause-course : goal.returns-in-Done-clause-course
returns-in-Done-clause-course c =
    let (reply, replies, value) = c.in-Done.ensures.answered in
    done_course _ c.args.self.now.store c.answer.new.store c.args.self.now.generators c.args.request.now reply c.in-Done.value c.requires.sound.readable.fit replies value

pub raised-requires : goal.raised-requires
raised-requires c = classes_grown c.args.self.now.zoo c.args.self.now.store.made c.answer.new.store.made (objects_grow _ _ c.in-Fault.ensures.grows) c.requires.sound.classes

pub returns-in_err-raised-in-Fault-clause-grows : goal.returns-in_err-raised-in-Fault-clause-grows
returns-in_err-raised-in-Fault-clause-grows c =
    goes_after c.args.self.now c.raised.new.self c.answer.new.store c.in-Fault.ensures.grows (grows_to _ c.raised.new.self c.in_err-raised-in-Fault.ensures.grows)

pub returns-in_ok-raised-in-Fault-clause-grows : goal.returns-in_ok-raised-in-Fault-clause-grows
returns-in_ok-raised-in-Fault-clause-grows c =
    goes_after c.args.self.now c.raised.new.self c.answer.new.store c.in-Fault.ensures.grows (grows_to _ c.raised.new.self c.in_ok-raised-in-Fault.ensures.grows)

pub returns-in_ok-raised-in-Fault-clause-course : goal.returns-in_ok-raised-in-Fault-clause-course
returns-in_ok-raised-in-Fault-clause-course c =
    course_leaves c.args.self.now c.raised.new.self c.args.at c.args.request.now (course.Says c.in_ok-raised-in-Fault.field-0) (same_generators _ c.raised.new.self c.in_ok-raised-in-Fault.ensures.grows)
    (fault_course (setting_in c.args.self.now c.args.at) c.args.self.now.store c.answer.new.store c.raised.new.self.store c.args.self.now.generators c.args.request.now c.in-Fault.fault _ c.in-Fault.ensures.answered
    c.in-Fault.ensures.grows c.requires.sound.readable.fit c.in_ok-raised-in-Fault.ensures.given)

pub course_by_machine-requires-clause-sound : goal.course_by_machine-requires-clause-sound
course_by_machine-requires-clause-sound c =
    subst (λ (s : Kept). IsSound (record c.args.self.now { store = s })) (sym (c.in-Machine.ensures.untouched refl)) c.requires.sound
