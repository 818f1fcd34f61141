use Rattle.std.proofs.Common.{List, subst, sym}
use Rattle.std.proofs.lemmas.Result.{IfOk-weaker}
use Rattle.py_objects.specs.declared.request.Request.TheVariants as request
use Rattle.py_coro.specs.Modes.{sent}
use Rattle.py_coro.specs.Coros.{State}
use Rattle.py_vm.specs.declared.generators.KeptGenerator.{KeptGenerator}
use Rattle.py_vm.specs.Courses.{IsCourseAt}
use Rattle.py_vm.proofs.SendingLemmas.{send_absent, send_gives, send_never}
use Rattle.py_vm.proofs.WorldLemmas.{grows_after, same_generators}
use Rattle.py_vm.proofs.world.World.send.Goals as goal

pub returns-in_default-clause-course : goal.returns-in_default-clause-course
returns-in_default-clause-course c =
    send_absent c.args.depth c.args.self.now.store c.args.self.now.store c.args.self.now.generators c.send.new.self c.args.generator c.args.value
    (λ (s : State). sent s.mode c.is_none-none.result c.args.depth) c.requires.generator c.is_none-none.ensures.0 c.is_none-none.ensures.1 (rw c.in_default.is at c.send.ensures)

pub returns-in-Stop-clause-course : goal.returns-in-Stop-clause-course
returns-in-Stop-clause-course c =
    rw c.in-Stop.is at (send_gives c.args.depth c.args.self.now.store c.args.self.now.store c.args.self.now.generators c.send.new.self c.args.generator c.args.value c.generator_kind-kind.result
    c.is_none-none.result c.in-Some.begin
    c.requires.generator c.requires.readable.fit c.generator_kind-kind.ensures c.is_none-none.ensures c.in-Some.ensures)

pub returns-in-Refused-clause-grows : goal.returns-in-Refused-clause-grows
returns-in-Refused-clause-grows c = grows_after c.args.self.now c.refused_by.new.self c.send.new.self c.refused_by.ensures.grows

pub returns-in-Refused-clause-course : goal.returns-in-Refused-clause-course
returns-in-Refused-clause-course c =
    IfOk-weaker c.refused_by.result _ _
    (λ course said. subst (λ (l : List KeptGenerator). IsCourseAt c.args.depth c.args.self.now.store c.refused_by.new.self.store c.args.self.now.generators l (request.Send c.args.generator c.args.value) course)
    (sym (same_generators _ c.refused_by.new.self c.refused_by.ensures.grows))
    ((rw c.in-Refused.is at (send_gives c.args.depth c.args.self.now.store c.refused_by.new.self.store c.args.self.now.generators c.send.new.self c.args.generator c.args.value c.generator_kind-kind.result
    c.is_none-none.result c.in-Some.begin
    c.requires.generator c.requires.readable.fit c.generator_kind-kind.ensures c.is_none-none.ensures c.in-Some.ensures)) course said)) c.refused_by.ensures.refused

pub returns-in-EnterStart-clause-course : goal.returns-in-EnterStart-clause-course
returns-in-EnterStart-clause-course c =
    rw c.in-EnterStart.is at (send_gives c.args.depth c.args.self.now.store c.args.self.now.store c.args.self.now.generators c.send.new.self c.args.generator c.args.value c.generator_kind-kind.result
    c.is_none-none.result c.in-Some.begin
    c.requires.generator c.requires.readable.fit c.generator_kind-kind.ensures c.is_none-none.ensures c.in-Some.ensures)

pub returns-in-EnterSend-clause-course : goal.returns-in-EnterSend-clause-course
returns-in-EnterSend-clause-course c =
    (rw c.in-EnterSend.is at (send_gives c.args.depth c.args.self.now.store c.args.self.now.store c.args.self.now.generators c.send.new.self c.args.generator c.args.value c.generator_kind-kind.result
    c.is_none-none.result c.in-Some.begin
    c.requires.generator c.requires.readable.fit c.generator_kind-kind.ensures c.is_none-none.ensures c.in-Some.ensures)) c.requires.value

pub unreachable-requires : goal.unreachable-requires
unreachable-requires c =
    send_never c.args.depth c.args.self.now.store c.args.self.now.store c.args.self.now.generators c.send.new.self c.args.generator c.args.value c.generator_kind-kind.result c.in-Some.begin
    (send_gives c.args.depth c.args.self.now.store c.args.self.now.store c.args.self.now.generators c.send.new.self c.args.generator c.args.value c.generator_kind-kind.result c.is_none-none.result c.in-Some.begin
    c.requires.generator c.requires.readable.fit c.generator_kind-kind.ensures c.is_none-none.ensures c.in-Some.ensures) c.in_default-begin.not-Stop
    (λ r. c.in_default-begin.not-Refused r) c.in_default-begin.not-EnterStart c.in_default-begin.not-EnterSend
