use Rattle.std.proofs.Common.{refl, sym, subst, ◌∙◌}
use Rattle.py_code.proofs.NamesLemmas.{found_text, interned-known, interned-view, place_of-inserted, TextsDiffer-interned}
use Rattle.py_code.specs.Names.{TextsDiffer}
use Rattle.py_code.proofs.name_set.NameSet.insert.Goals as goal

pub returns-in-Some-clause-names : goal.returns-in-Some-clause-names
returns-in-Some-clause-names c = sym (interned-known _ _ _ (sym c.in-Some.ensures.place))

pub invariant_of-self-2 : goal.invariant_of-self-2
invariant_of-self-2 c =
    subst TextsDiffer (sym (interned-view (λ k. k.items) _ _ refl _ _ _ (c.into_vec-characters.ensures ∙ c.in_ok-copy.ensures) c.in_ok-at.ensures.keys)) (TextsDiffer-interned _ _ c.self.invariant)

pub returns-clause-names : goal.returns-clause-names
returns-clause-names c = interned-view (λ k. k.items) _ _ c.self.view_is _ _ _ (c.into_vec-characters.ensures ∙ c.in_ok-copy.ensures) c.in_ok-at.ensures.keys

pub returns-clause-place : goal.returns-clause-place
returns-clause-place c =
    place_of-inserted (λ k. k.items) _ _ c.self.view_is _ _ _ (c.into_vec-characters.ensures ∙ c.in_ok-copy.ensures) c.in_ok-at.ensures.keys _ c.in_ok-at.ensures.index

pub returns-clause-found : goal.returns-clause-found
returns-clause-found c =
    found_text _ _ _
    (place_of-inserted (λ k. k.items) _ _ c.self.view_is _ _ _ (c.into_vec-characters.ensures ∙ c.in_ok-copy.ensures) c.in_ok-at.ensures.keys _ c.in_ok-at.ensures.index)
