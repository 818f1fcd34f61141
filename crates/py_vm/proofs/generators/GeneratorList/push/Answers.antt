use Rattle.std.proofs.Common.{◌≡◌, ◌++◌, ◌∷◌, [], ap, sym, subst, ◌∙◌}
use Rattle.std.specs.Prelude.{None, map}
use Rattle.py_vm.specs.Generators.{kept_at}
use Rattle.py_vm.proofs.PlacesLemmas.{numbers_more, number_of}
use Rattle.py_vm.proofs.generators.GeneratorList.push.Goals as goal

pub invariant_of-self-2 : goal.invariant_of-self-2
invariant_of-self-2 c =
    numbers_more c.self.inside.items.items c.args.generator c.self.inside.objects.keys c.insert.new.self.keys c.self.invariant
    (subst (λ l. kept_at l c.args.generator.object ≡ None) (sym c.self.view_is) c.requires.other) c.in_ok-insert.ensures.keys
    ∙ ap (map number_of) (sym (c.push_reserved.ensures.items ∙ ap (λ l. l ++ c.args.generator ∷ []) c.in_ok-reserve.ensures.items))
