use Rattle.std.proofs.Common.{refl, sym, subst}
use Rattle.py_code.proofs.NamesLemmas.{found_text, interned-known, interned-view, place_of-inserted, TextsDiffer-interned}
use Rattle.std.specs.Prelude.{string_bytes}
use Rattle.py_code.specs.Names.{TextsDiffer}
use Rattle.py_code.proofs.names.Names.intern.Goals as goal

pub returns-in-Some-clause-texts : goal.returns-in-Some-clause-texts
returns-in-Some-clause-texts c = sym (interned-known _ _ _ (sym c.in-Some.ensures.place))

pub invariant_of-self-2 : goal.invariant_of-self-2
invariant_of-self-2 c =
    subst TextsDiffer (sym (interned-view string_bytes _ _ refl _ _ _ c.in_ok-text.ensures.ok c.in_ok-index.ensures.keys)) (TextsDiffer-interned _ _ c.self.invariant)

pub returns-clause-texts : goal.returns-clause-texts
returns-clause-texts c = interned-view string_bytes _ _ c.self.view_is _ _ _ c.in_ok-text.ensures.ok c.in_ok-index.ensures.keys

pub returns-clause-place : goal.returns-clause-place
returns-clause-place c = place_of-inserted string_bytes _ _ c.self.view_is _ _ _ c.in_ok-text.ensures.ok c.in_ok-index.ensures.keys _ c.in_ok-index.ensures.index

pub returns-clause-found : goal.returns-clause-found
returns-clause-found c = found_text _ _ _ (place_of-inserted string_bytes _ _ c.self.view_is _ _ _ c.in_ok-text.ensures.ok c.in_ok-index.ensures.keys _ c.in_ok-index.ensures.index)
