use Rattle.std.proofs.Common.{refl, sym}
use Rattle.py_coro.specs.Modes.{closed}
use Rattle.py_coro.specs.Coros.{State}
use Rattle.py_vm.proofs.PlacesLemmas.{called_nowhere, called_there, numbers_kept}
use Rattle.py_vm.proofs.generators.GeneratorList.close.Goals as goal

pub returns-in_err-at : goal.returns-in_err-at
returns-in_err-at c = called_nowhere c.args.object (λ (s : State). closed s.mode c.args.depth) c.args.self.now c.from_residual.result c.in_err-at.ensures.place c.from_residual.ensures

pub invariant_of-self : goal.invariant_of-self
invariant_of-self c =
    numbers_kept c.args.object c.self.inside.items.items c.args.self.now c.self.inside.objects.keys c.in_ok-at.at c.index_mut.result.now _ c.self.view_is c.self.invariant
    (sym c.in_ok-at.ensures.place)
    c.index_mut.ensures.value refl

pub returns : goal.returns
returns c =
    called_there c.args.object (λ (s : State). closed s.mode c.args.depth) c.self.inside.items.items c.args.self.now c.in_ok-at.at c.index_mut.result.now c.close.new.self
    c.close.result c.self.view_is (sym c.in_ok-at.ensures.place) c.index_mut.ensures.value c.close.ensures.row c.close.ensures.behind
