use Rattle.std.proofs.Common.{◌∙◌}
use Rattle.py_objects.proofs.AttrsLemmas.{attrs_of-clones}
use Rattle.std.proofs.lemmas.List.Elements.{same_from_all_zip}
use Rattle.py_objects.proofs.attr_map.AttrMap.copy.Goals as goal

pub returns : goal.returns
returns c =
    attrs_of-clones _ _ (λ k l h. same_from_all_zip _ _ _ h.0 (λ x y e. e)) (λ v w e. e) c.self.inside.entries.entries _ c.in_ok-clone.ensures.cases
    ∙ c.self.view_is
