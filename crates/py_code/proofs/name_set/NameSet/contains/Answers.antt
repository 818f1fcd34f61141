use Rattle.std.proofs.Common.{ap, ◌∙◌}
use Rattle.std.specs.Prelude.{bytes_eq}
use Rattle.std.specs.List.{list_any}
use Rattle.py_code.proofs.NamesLemmas.{list_any-view}
use Rattle.py_code.proofs.name_set.NameSet.contains.Goals as goal

pub returns : goal.returns
returns c =
    list_any-view (λ k. k.items) _ _ c.self.view_is _ _ (c.contains.ensures ∙ ap (λ x. list_any (λ k. bytes_eq x k.items) c.self.inside.names.keys) c.as_slice.ensures)
