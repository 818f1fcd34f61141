use Rattle.std.proofs.Common.{ap, ◌∙◌}
use Rattle.py_vm.specs.Generators.{place_of}
use Rattle.py_vm.proofs.PlacesLemmas.{place_among}
use Rattle.py_vm.proofs.generators.GeneratorList.find.Goals as goal

pub returns : goal.returns
returns c =
    record {
      place = c.get_index_of.ensures.index ∙ place_among c.args.object c.self.inside.items.items c.self.inside.objects.keys c.self.invariant
          ∙ ap (λ l. place_of l c.args.object) c.self.view_is;
    }
