use Rattle.std.proofs.lemmas.Result.{IfOk-weaker}
use Rattle.py_objects.proofs.GrownLemmas.{grown_longer, objects_grow}
use Rattle.py_exceptions.proofs.ClassesLemmas.{classes_grown}
use Rattle.py_vm.specs.declared.calls.Course.TheVariants as course
use Rattle.py_vm.proofs.JournalLemmas.{readable_on}
use Rattle.py_vm.proofs.ThrowingLemmas.{args_called, class_called, generator_on, throw_done, throw_faulty, throw_made, throw_refused, unless_err, value_parts}
use Rattle.py_vm.proofs.WorldLemmas.{goes_after, grows_to, same_generators, throw_leaves}
use Rattle.py_vm.proofs.world.World.throw.Goals as goal

pub returns-in-Err-clause-grows : goal.returns-in-Err-clause-grows
returns-in-Err-clause-grows c = grows_to c.args.self.now c.refused_by.new.self c.refused_by.ensures.grows

pub returns-in-Err-clause-course : goal.returns-in-Err-clause-course
returns-in-Err-clause-course c =
    IfOk-weaker c.refused_by.result _ _
    (λ course said. throw_leaves c.args.self.now c.refused_by.new.self c.args.depth c.args.generator c.args.thrown c.args.value course (same_generators _ c.refused_by.new.self c.refused_by.ensures.grows)
    (throw_refused c.args.depth c.args.self.now.store c.refused_by.new.self.store c.args.self.now.generators c.args.generator c.args.thrown c.args.value c.generator_kind-kind.result c.in-Err.refusal c.requires.generator
    c.requires.readable.fit c.generator_kind-kind.ensures c.in-Err.ensures.running c.in-Err.ensures.refusal course said)) c.refused_by.ensures.refused

pub normalized-requires-clause-value : goal.normalized-requires-clause-value
normalized-requires-clause-value c = value_parts c.args.self.now.store c.args.value c.requires.readable c.requires.value

pub make_exception-requires-clause-class : goal.make_exception-requires-clause-class
make_exception-requires-clause-class c = class_called c.args.self.now.store c.args.thrown c.args.value c.in-Make.class c.in-Make.args c.requires.readable c.in-Make.ensures

pub make_exception-requires-clause-args : goal.make_exception-requires-clause-args
make_exception-requires-clause-args c = args_called c.args.self.now.store c.args.thrown c.args.value c.in-Make.class c.in-Make.args c.requires.readable c.in-Make.ensures

pub thrown_into-requires-in-Make-clause-generator : goal.thrown_into-requires-in-Make-clause-generator
thrown_into-requires-in-Make-clause-generator c =
    generator_on c.args.self.now.store c.make_exception.new.store c.args.generator c.in_ok-exception-in-Make.ensures.grows c.requires.generator

pub thrown_into-requires-in-Make-clause-readable : goal.thrown_into-requires-in-Make-clause-readable
thrown_into-requires-in-Make-clause-readable c = readable_on c.args.self.now.store c.make_exception.new.store (grown_longer _ _ c.in_ok-exception-in-Make.ensures.grows) c.requires.readable

pub thrown_into-requires-in-Make-clause-classes : goal.thrown_into-requires-in-Make-clause-classes
thrown_into-requires-in-Make-clause-classes c =
    classes_grown c.args.self.now.zoo c.args.self.now.store.made c.make_exception.new.store.made (objects_grow _ _ c.in_ok-exception-in-Make.ensures.grows) c.requires.classes

pub returns-in-Done-clause-course : goal.returns-in-Done-clause-course
returns-in-Done-clause-course c =
    IfOk-weaker c.thrown_into.result _ _
    (throw_done c.args.depth c.args.self.now.store c.thrown_into.new.self.store c.args.self.now.generators c.thrown_into.new.self.generators c.args.generator c.args.thrown c.args.value c.in-Done.exception
    c.requires.generator c.requires.readable c.in-Done.ensures) c.thrown_into.ensures.course

pub returns-in_ok-exception-in-Make-clause-grows : goal.returns-in_ok-exception-in-Make-clause-grows
returns-in_ok-exception-in-Make-clause-grows c =
    goes_after c.args.self.now c.thrown_into-in-Make.new.self c.make_exception.new.store c.in_ok-exception-in-Make.ensures.grows c.thrown_into-in-Make.ensures.grows

pub returns-in_ok-exception-in-Make-clause-course : goal.returns-in_ok-exception-in-Make-clause-course
returns-in_ok-exception-in-Make-clause-course c =
    IfOk-weaker c.thrown_into-in-Make.result _ _
    (throw_made c.args.depth c.args.self.now.store c.make_exception.new.store c.thrown_into-in-Make.new.self.store c.args.self.now.generators c.thrown_into-in-Make.new.self.generators c.args.generator
    c.args.thrown c.args.value
    c.in-Make.class c.in-Make.args c.in_ok-exception-in-Make.exception c.requires.generator c.requires.readable c.in-Make.ensures c.in_ok-exception-in-Make.ensures.grows
    c.in_ok-exception-in-Make.ensures.made) c.thrown_into-in-Make.ensures.course

pub returns-in_err-raised-in-Fault-clause-grows : goal.returns-in_err-raised-in-Fault-clause-grows
returns-in_err-raised-in-Fault-clause-grows c = grows_to c.args.self.now c.raised.new.self c.in_err-raised-in-Fault.ensures.grows

pub returns-in_ok-raised-in-Fault-clause-grows : goal.returns-in_ok-raised-in-Fault-clause-grows
returns-in_ok-raised-in-Fault-clause-grows c = grows_to c.args.self.now c.raised.new.self c.in_ok-raised-in-Fault.ensures.grows

pub returns-in_ok-raised-in-Fault-clause-course : goal.returns-in_ok-raised-in-Fault-clause-course
returns-in_ok-raised-in-Fault-clause-course c =
    throw_leaves c.args.self.now c.raised.new.self c.args.depth c.args.generator c.args.thrown c.args.value (course.Says c.in_ok-raised-in-Fault.field-0) (same_generators _ c.raised.new.self c.in_ok-raised-in-Fault.ensures.grows)
    (throw_faulty c.args.depth c.args.self.now.store c.raised.new.self.store c.args.self.now.generators c.args.generator c.args.thrown c.args.value c.in-Fault.fault _ c.requires.generator c.requires.readable
    c.in-Fault.ensures (unless_err c.throw_check.result c.throw_check.ensures.free c.in_default.not-Err) c.in_ok-raised-in-Fault.ensures.given)
