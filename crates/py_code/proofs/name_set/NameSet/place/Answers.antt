use Rattle.std.proofs.Common.{ap, ◌∙◌}
use Rattle.std.specs.Prelude.{bytes_eq, position}
use Rattle.py_code.proofs.NamesLemmas.{found_if, place_of-view}
use Rattle.py_code.proofs.name_set.NameSet.place.Goals as goal

pub returns-clause-place : goal.returns-clause-place
returns-clause-place c =
    place_of-view (λ k. k.items) _ _ c.self.view_is _ _ (c.get_index_of.ensures.index ∙ ap (λ x. position (λ k. bytes_eq x k.items) c.self.inside.names.keys) c.as_slice.ensures)

pub returns-clause-found : goal.returns-clause-found
returns-clause-found c =
    found_if _ _ _
    (place_of-view (λ k. k.items) _ _ c.self.view_is _ _ (c.get_index_of.ensures.index ∙ ap (λ x. position (λ k. bytes_eq x k.items) c.self.inside.names.keys) c.as_slice.ensures))
