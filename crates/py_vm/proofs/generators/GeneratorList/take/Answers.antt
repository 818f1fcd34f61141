use Rattle.std.proofs.Common.{refl, sym, ap, ◌∙◌}
use Rattle.std.proofs.lemmas.Option.{none-some}
use Rattle.py_vm.specs.declared.generators.KeptGenerator.{KeptGenerator}
use Rattle.py_vm.specs.Generators.{without_activation}
use Rattle.py_vm.proofs.PlacesLemmas.{changed_nowhere, numbers_kept, read_one, stands_nowhere, taken_there}
use Rattle.py_vm.proofs.generators.GeneratorList.take.Goals as goal

pub returns-in_err-at-clause-taken : goal.returns-in_err-at-clause-taken
returns-in_err-at-clause-taken c x kept = absurd (none-some _ (sym (stands_nowhere c.args.object c.args.self.now (sym c.in_err-at.ensures.place)) ∙ kept))

pub returns-in_err-at-clause-left : goal.returns-in_err-at-clause-left
returns-in_err-at-clause-left c =
    sym (changed_nowhere c.args.object without_activation c.args.self.now (stands_nowhere c.args.object c.args.self.now (sym c.in_err-at.ensures.place)))

pub invariant_of-self : goal.invariant_of-self
invariant_of-self c =
    numbers_kept c.args.object c.self.inside.items.items c.args.self.now c.self.inside.objects.keys c.in_ok-at.at c.index_mut.result.now _ c.self.view_is c.self.invariant
    (sym c.in_ok-at.ensures.place)
    c.index_mut.ensures.value refl

pub returns-clause-taken : goal.returns-clause-taken
returns-clause-taken c x kept =
    c.take.ensures.value
    ∙ ap (λ (k : KeptGenerator). k.suspended)
    (read_one c.args.object c.self.inside.items.items c.args.self.now c.in_ok-at.at c.index_mut.result.now x c.self.view_is (sym c.in_ok-at.ensures.place) c.index_mut.ensures.value kept)

pub returns-clause-left : goal.returns-clause-left
returns-clause-left c =
    taken_there c.args.object c.self.inside.items.items c.args.self.now c.in_ok-at.at c.index_mut.result.now c.take.new.self c.self.view_is (sym c.in_ok-at.ensures.place)
    c.index_mut.ensures.value c.take.ensures.after
