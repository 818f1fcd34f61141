use Rattle.std.proofs.Common.{refl, sym, subst, ap, ◌∙◌}
use Rattle.py_coro.specs.Coros.{State}
use Rattle.py_coro.specs.Leaving.{Finishes}
use Rattle.py_vm.specs.declared.generators.KeptGenerator.{KeptGenerator}
use Rattle.py_vm.proofs.LeavingLemmas.{finishes_kept}
use Rattle.py_vm.proofs.PlacesLemmas.{nowhere_runs, numbers_kept, read_one, runs_there, settled_there}
use Rattle.py_vm.proofs.generators.GeneratorList.finish.Goals as goal

pub unreachable-requires : goal.unreachable-requires
unreachable-requires c = nowhere_runs c.args.object c.args.self.now c.in_default.ensures.place c.requires.runs

pub finish-answer-requires-clause-running : goal.finish-answer-requires-clause-running
finish-answer-requires-clause-running c =
    runs_there c.args.object c.self.inside.items.items c.args.self.now c.in-Some.at c.index_mut-item.result.now c.self.view_is (sym c.in-Some.ensures.place)
    c.index_mut-item.ensures.value c.requires.runs

pub invariant_of-self : goal.invariant_of-self
invariant_of-self c =
    numbers_kept c.args.object c.self.inside.items.items c.args.self.now c.self.inside.objects.keys c.in-Some.at c.index_mut-item.result.now _ c.self.view_is c.self.invariant
    (sym c.in-Some.ensures.place)
    c.index_mut-item.ensures.value refl

pub returns-clause-answer : goal.returns-clause-answer
returns-clause-answer c x kept =
    subst (λ (t : State). Finishes c.args.store.now.made t.kind t.closing c.args.how c.finish-answer.result)
    (ap (λ (k : KeptGenerator). k.generator)
    (read_one c.args.object c.self.inside.items.items c.args.self.now c.in-Some.at c.index_mut-item.result.now x c.self.view_is (sym c.in-Some.ensures.place) c.index_mut-item.ensures.value kept))
    c.finish-answer.ensures.answer

pub returns-clause-left : goal.returns-clause-left
returns-clause-left c =
    settled_there c.args.object c.args.left c.args.how c.self.inside.items.items c.args.self.now c.in-Some.at c.index_mut-item.result.now c.finish-answer.new.self c.kept_by.result
    c.self.view_is (sym c.in-Some.ensures.place) c.index_mut-item.ensures.value c.finish-answer.ensures.left
    (c.kept_by.ensures ∙ finishes_kept c.args.store.now.made c.index_mut-item.result.now.generator.kind c.index_mut-item.result.now.generator.closing c.args.how c.finish-answer.result c.args.left c.finish-answer.ensures.answer)
