use Rattle.std.proofs.lemmas.Result.{IfOk-weaker}
use Rattle.py_coro.specs.Modes.{closed}
use Rattle.py_coro.specs.Coros.{State}
use Rattle.py_vm.proofs.SendingLemmas.{close_absent, close_gives, close_never}
use Rattle.py_vm.proofs.WorldLemmas.{grows_after, same_generators}
use Rattle.py_vm.proofs.world.World.close.Goals as goal

pub returns-in_default-clause-course : goal.returns-in_default-clause-course
returns-in_default-clause-course c =
    close_absent c.args.depth c.args.self.now.store c.args.self.now.store c.args.self.now.generators c.close.new.self c.args.generator (λ (s : State). closed s.mode c.args.depth) c.requires.generator
    (rw c.in_default.is at c.close.ensures)

pub returns-in-Done-clause-course : goal.returns-in-Done-clause-course
returns-in-Done-clause-course c =
    (rw c.in-Done.is at (close_gives c.args.depth c.args.self.now.store c.args.self.now.store c.args.self.now.generators c.close.new.self c.take-activation.new.self c.args.generator
    c.generator_kind-kind.result c.in-Some.begin
    c.requires.generator c.requires.readable.fit c.generator_kind-kind.ensures c.in-Some.ensures)) c.take-activation.ensures.left

pub returns-in-Refused-clause-grows : goal.returns-in-Refused-clause-grows
returns-in-Refused-clause-grows c = grows_after c.args.self.now c.refused_by.new.self c.close.new.self c.refused_by.ensures.grows

pub returns-in-Refused-clause-course : goal.returns-in-Refused-clause-course
returns-in-Refused-clause-course c =
    IfOk-weaker c.refused_by.result _ _
    ((rw c.in-Refused.is at (close_gives c.args.depth c.args.self.now.store c.refused_by.new.self.store c.args.self.now.generators c.close.new.self c.refused_by.new.self.generators c.args.generator
    c.generator_kind-kind.result c.in-Some.begin
    c.requires.generator c.requires.readable.fit c.generator_kind-kind.ensures c.in-Some.ensures)) (same_generators _ c.refused_by.new.self c.refused_by.ensures.grows)) c.refused_by.ensures.refused

pub returns-in_err-exit-in-EnterExit-clause-grows : goal.returns-in_err-exit-in-EnterExit-clause-grows
returns-in_err-exit-in-EnterExit-clause-grows c = grows_after c.args.self.now c.exit.new.self c.close.new.self c.in_err-exit-in-EnterExit.ensures.grows

pub returns-in_ok-exit-in-EnterExit-clause-grows : goal.returns-in_ok-exit-in-EnterExit-clause-grows
returns-in_ok-exit-in-EnterExit-clause-grows c = grows_after c.args.self.now c.exit.new.self c.close.new.self c.in_ok-exit-in-EnterExit.ensures.grows

pub returns-in_ok-exit-in-EnterExit-clause-course : goal.returns-in_ok-exit-in-EnterExit-clause-course
returns-in_ok-exit-in-EnterExit-clause-course c =
    (rw c.in-EnterExit.is at (close_gives c.args.depth c.args.self.now.store c.exit.new.self.store c.args.self.now.generators c.close.new.self c.exit.new.self.generators c.args.generator
    c.generator_kind-kind.result c.in-Some.begin
    c.requires.generator c.requires.readable.fit c.generator_kind-kind.ensures c.in-Some.ensures)) (same_generators _ c.exit.new.self c.in_ok-exit-in-EnterExit.ensures.grows)
    c.args.self.now.zoo c.in_ok-exit-in-EnterExit.exit c.requires.classes c.in_ok-exit-in-EnterExit.ensures.grows.grows.objects c.in_ok-exit-in-EnterExit.ensures.made

pub unreachable-requires : goal.unreachable-requires
unreachable-requires c =
    close_never c.args.depth c.args.self.now.store c.args.self.now.store c.args.self.now.generators c.close.new.self c.close.new.self c.args.generator c.generator_kind-kind.result c.in-Some.begin
    (close_gives c.args.depth c.args.self.now.store c.args.self.now.store c.args.self.now.generators c.close.new.self c.close.new.self c.args.generator c.generator_kind-kind.result c.in-Some.begin
    c.requires.generator c.requires.readable.fit c.generator_kind-kind.ensures c.in-Some.ensures) c.in_default-begin.not-Done (λ r. c.in_default-begin.not-Refused r) c.in_default-begin.not-EnterExit
