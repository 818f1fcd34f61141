use Rattle.std.proofs.lemmas.Result.{IfOk-weaker}
use Rattle.py_vm.specs.declared.calls.Course.TheVariants as course
use Rattle.py_vm.specs.Worlds.{setting_in}
use Rattle.py_vm.proofs.CallsLemmas.{asked_course, handled_course, call_course, entry_course, exit_course, machine_call, machine_send, machine_throw, machine_close, machine_enter, machine_exit, never_other}
use Rattle.py_vm.proofs.WorldLemmas.{course_leaves, grows_to, same_generators}
use Rattle.py_vm.proofs.world.World.course_by_machine.Goals as goal

pub returns-in_err-reraised-in-Handled-clause-grows : goal.returns-in_err-reraised-in-Handled-clause-grows
returns-in_err-reraised-in-Handled-clause-grows c = grows_to c.args.self.now c.reraised.new.self c.in_err-reraised-in-Handled.ensures.grows

pub returns-in_ok-reraised-in-Handled-clause-grows : goal.returns-in_ok-reraised-in-Handled-clause-grows
returns-in_ok-reraised-in-Handled-clause-grows c = grows_to c.args.self.now c.reraised.new.self c.in_ok-reraised-in-Handled.ensures.grows

pub returns-in_ok-reraised-in-Handled-clause-course : goal.returns-in_ok-reraised-in-Handled-clause-course
returns-in_ok-reraised-in-Handled-clause-course c =
    course_leaves c.args.self.now c.reraised.new.self c.args.at c.args.request.now (course.Says c.in_ok-reraised-in-Handled.field-0) (same_generators _ c.reraised.new.self c.in_ok-reraised-in-Handled.ensures.grows)
    (handled_course (setting_in c.args.self.now c.args.at) c.args.self.now.store c.reraised.new.self.store c.args.self.now.generators c.args.request.now _ c.in-Handled.is c.in_ok-reraised-in-Handled.ensures.given)

pub called-requires-clause-function : goal.called-requires-clause-function
called-requires-clause-function c = (machine_call c.args.self.now.store.made c.args.request.now _ _ _ c.in-Call.is c.requires.machine).1

pub returns-in-Call-clause-grows : goal.returns-in-Call-clause-grows
returns-in-Call-clause-grows c = grows_to c.args.self.now c.called.new.self c.called.ensures.grows

pub returns-in-Call-clause-course : goal.returns-in-Call-clause-course
returns-in-Call-clause-course c =
    IfOk-weaker c.called.result _ _
    (λ course made. course_leaves c.args.self.now c.called.new.self c.args.at c.args.request.now course (same_generators _ c.called.new.self c.called.ensures.grows)
    (call_course _ c.args.self.now.store c.called.new.self.store c.args.self.now.generators c.args.request.now _ _ course
    (machine_call c.args.self.now.store.made c.args.request.now _ _ _ c.in-Call.is c.requires.machine).0 made)) c.called.ensures.course

pub send-requires-clause-generator : goal.send-requires-clause-generator
send-requires-clause-generator c = machine_send c.args.self.now.store.made c.args.request.now _ _ c.in-Send.is c.requires.machine

pub send-requires-clause-value : goal.send-requires-clause-value
send-requires-clause-value c = (rw c.in-Send.is at c.requires.below).1.0

pub returns-in-Send-clause-course : goal.returns-in-Send-clause-course
returns-in-Send-clause-course c =
    IfOk-weaker c.send.result _ _
    (λ course made. asked_course c.args.self.now.codes c.args.at c.args.self.now.store c.send.new.self.store c.args.self.now.generators c.send.new.self.generators c.args.request.now _ course
    c.in-Send.is made) c.send.ensures.course

pub throw-requires-clause-generator : goal.throw-requires-clause-generator
throw-requires-clause-generator c = (machine_throw c.args.self.now.store.made c.args.request.now _ _ _ _ c.in-Throw.is c.requires.machine).1

pub returns-in-Throw-clause-course : goal.returns-in-Throw-clause-course
returns-in-Throw-clause-course c =
    IfOk-weaker c.throw.result _ _
    (λ course made. asked_course c.args.self.now.codes c.args.at c.args.self.now.store c.throw.new.self.store c.args.self.now.generators c.throw.new.self.generators c.args.request.now _ course
    (machine_throw c.args.self.now.store.made c.args.request.now _ _ _ _ c.in-Throw.is c.requires.machine).0 made) c.throw.ensures.course

pub close-requires-clause-generator : goal.close-requires-clause-generator
close-requires-clause-generator c = machine_close c.args.self.now.store.made c.args.request.now _ c.in-Close.is c.requires.machine

pub returns-in-Close-clause-course : goal.returns-in-Close-clause-course
returns-in-Close-clause-course c =
    IfOk-weaker c.close.result _ _
    (λ course made. asked_course c.args.self.now.codes c.args.at c.args.self.now.store c.close.new.self.store c.args.self.now.generators c.close.new.self.generators c.args.request.now _ course
    c.in-Close.is made) c.close.ensures.course

pub entered-requires-clause-manager : goal.entered-requires-clause-manager
entered-requires-clause-manager c = machine_enter c.args.self.now.store.made c.args.request.now _ c.in-Enter.is c.requires.machine

pub returns-in-Enter-clause-grows : goal.returns-in-Enter-clause-grows
returns-in-Enter-clause-grows c = grows_to c.args.self.now c.entered.new.self c.entered.ensures.grows

pub returns-in-Enter-clause-course : goal.returns-in-Enter-clause-course
returns-in-Enter-clause-course c =
    IfOk-weaker c.entered.result _ _
    (λ course made. course_leaves c.args.self.now c.entered.new.self c.args.at c.args.request.now course (same_generators _ c.entered.new.self c.entered.ensures.grows)
    (entry_course _ c.args.self.now.store c.entered.new.self.store c.args.self.now.generators c.args.request.now _ course c.in-Enter.is made)) c.entered.ensures.course

pub exited-requires-clause-exit : goal.exited-requires-clause-exit
exited-requires-clause-exit c = machine_exit c.args.self.now.store.made c.args.request.now _ _ _ _ c.in-Exit.is c.requires.machine

pub returns-in_ok-told-in-Exit-clause-grows : goal.returns-in_ok-told-in-Exit-clause-grows
returns-in_ok-told-in-Exit-clause-grows c = grows_to c.args.self.now c.exited.new.self c.exited.ensures.grows

pub returns-in_ok-told-in-Exit-clause-course : goal.returns-in_ok-told-in-Exit-clause-course
returns-in_ok-told-in-Exit-clause-course c =
    IfOk-weaker c.exited.result _ _
    (λ course made. course_leaves c.args.self.now c.exited.new.self c.args.at c.args.request.now course (same_generators _ c.exited.new.self c.exited.ensures.grows)
    (exit_course _ c.args.self.now.store c.exited.new.self.store c.args.self.now.generators c.args.request.now _ _ _ _ course c.in-Exit.is (rw c.in_ok-told-in-Exit.ensures at made))) c.exited.ensures.course

pub unreachable-requires : goal.unreachable-requires
unreachable-requires c =
    never_other c.args.self.now.store.made c.args.request.now c.requires.machine c.in_default.not-Handled (λ f vs named. c.in_default.not-Call f vs named) (λ g v. c.in_default.not-Send g v)
    (λ g k v t. c.in_default.not-Throw g k v t) (λ g. c.in_default.not-Close g) (λ m. c.in_default.not-Enter m) (λ x k v t. c.in_default.not-Exit x k v t)
