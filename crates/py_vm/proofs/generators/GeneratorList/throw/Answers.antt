use Rattle.std.proofs.Common.{refl, sym}
use Rattle.py_vm.proofs.PlacesLemmas.{numbers_kept, thrown_nowhere, thrown_there}
use Rattle.py_vm.proofs.generators.GeneratorList.throw.Goals as goal

pub returns-in_err-at : goal.returns-in_err-at
returns-in_err-at c = thrown_nowhere c.args.object c.args.exception c.args.depth c.args.self.now c.from_residual.result c.in_err-at.ensures.place c.from_residual.ensures

pub invariant_of-self : goal.invariant_of-self
invariant_of-self c =
    numbers_kept c.args.object c.self.inside.items.items c.args.self.now c.self.inside.objects.keys c.in_ok-at.at c.index_mut.result.now _ c.self.view_is c.self.invariant
    (sym c.in_ok-at.ensures.place)
    c.index_mut.ensures.value refl

pub returns : goal.returns
returns c =
    thrown_there c.args.object c.args.exception c.args.depth c.self.inside.items.items c.args.self.now c.in_ok-at.at c.index_mut.result.now c.throw.new.self
    c.throw.result c.self.view_is (sym c.in_ok-at.ensures.place) c.index_mut.ensures.value c.throw.ensures.row c.throw.ensures.behind
