use Rattle.std.proofs.Common.{List, refl, subst, sym}
use Rattle.std.proofs.lemmas.Result.{IfOk-weaker}
use Rattle.py_vm.specs.declared.generators.KeptGenerator.{KeptGenerator}
use Rattle.py_vm.specs.Courses.{IsThrownCourse}
use Rattle.py_vm.proofs.ThrowingLemmas.{into_nowhere, throw_gives, throw_never}
use Rattle.py_vm.proofs.WorldLemmas.{grows_after, same_generators}
use Rattle.py_vm.proofs.world.World.thrown_into.Goals as goal

pub returns-in_default-clause-course : goal.returns-in_default-clause-course
returns-in_default-clause-course c =
    let (none, same) = rw c.in_default.is at c.throw.ensures in
    into_nowhere c.args.depth c.args.self.now.store.made c.args.self.now.store.made c.args.self.now.generators c.throw.new.self c.args.generator c.args.exception c.args.raise none refl same

pub returns-in-Raise-clause-course : goal.returns-in-Raise-clause-course
returns-in-Raise-clause-course c =
    (rw c.in-Raise.is at (throw_gives c.args.depth c.args.self.now.store.made c.args.self.now.store.made c.args.self.now.generators c.throw.new.self c.args.generator c.args.exception c.args.raise
    c.generator_kind-kind.result c.in-Some.begin
    c.generator_kind-kind.ensures c.in-Some.ensures)) refl

pub returns-in-Refused-clause-grows : goal.returns-in-Refused-clause-grows
returns-in-Refused-clause-grows c = grows_after c.args.self.now c.refused_by.new.self c.throw.new.self c.refused_by.ensures.grows

pub returns-in-Refused-clause-course : goal.returns-in-Refused-clause-course
returns-in-Refused-clause-course c =
    IfOk-weaker c.refused_by.result _ _
    (λ course said. subst (λ (l : List KeptGenerator). IsThrownCourse c.args.depth c.args.self.now.store.made c.refused_by.new.self.store.made c.args.self.now.generators l c.args.generator c.args.exception c.args.raise course)
    (sym (same_generators _ c.refused_by.new.self c.refused_by.ensures.grows))
    ((rw c.in-Refused.is at (throw_gives c.args.depth c.args.self.now.store.made c.refused_by.new.self.store.made c.args.self.now.generators c.throw.new.self c.args.generator c.args.exception c.args.raise
    c.generator_kind-kind.result c.in-Some.begin
    c.generator_kind-kind.ensures c.in-Some.ensures)) course said)) c.refused_by.ensures.refused

pub returns-in-EnterThrow-clause-course : goal.returns-in-EnterThrow-clause-course
returns-in-EnterThrow-clause-course c =
    (rw c.in-EnterThrow.is at (throw_gives c.args.depth c.args.self.now.store.made c.args.self.now.store.made c.args.self.now.generators c.throw.new.self c.args.generator c.args.exception c.args.raise
    c.generator_kind-kind.result c.in-Some.begin
    c.generator_kind-kind.ensures c.in-Some.ensures)) refl

pub unreachable-requires : goal.unreachable-requires
unreachable-requires c =
    throw_never c.args.depth c.args.self.now.store.made c.args.self.now.store.made c.args.self.now.generators c.throw.new.self c.args.generator c.args.exception c.args.raise c.generator_kind-kind.result c.in-Some.begin
    (throw_gives c.args.depth c.args.self.now.store.made c.args.self.now.store.made c.args.self.now.generators c.throw.new.self c.args.generator c.args.exception c.args.raise c.generator_kind-kind.result c.in-Some.begin
    c.generator_kind-kind.ensures c.in-Some.ensures) (λ x. c.in_default-begin.not-Raise x) (λ r. c.in_default-begin.not-Refused r) c.in_default-begin.not-EnterThrow
