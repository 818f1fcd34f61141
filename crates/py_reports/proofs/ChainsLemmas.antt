-- The exceptions of a report, as a list.
use Rattle.std.proofs.Common.{◌≡◌, ℕ, zero, suc, List, [], ◌∷◌, Some, sym, ap, ◌∙◌}
use Rattle.std.specs.Prelude.{slice_get}
use Rattle.std.proofs.lemmas.Option.{same_Some, slice_get_within}
use Rattle.py_objects.specs.declared.payload.Payload.{Payload}
use Rattle.py_objects.specs.Objects.{Obj}
use Rattle.py_reports.specs.declared.chain.Chained.{Chained}
use Rattle.py_reports.specs.Chains.{before_at, chained, IsChain}
use Rattle.py_reports.specs.Laws.{OneStandsOnce}
use Rattle.py_reports.proofs.WalkLemmas.{one_order}

-- each stands where it was met
chained_at : (objects : List Payload) (vs : List Obj) (i : ℕ) (c : Chained) → slice_get (chained objects vs) i ≡ Some c → slice_get vs i ≡ Some c.exception
chained_at objects [] i c at = cc
chained_at objects (v ∷ vs) zero c at = ap (λ (d : Chained). Some d.exception) (same_Some _ c at)
chained_at objects (v ∷ vs) (suc i) c at = chained_at objects vs i c at

pub stands_once : OneStandsOnce
stands_once objects v cs i j c d (met, order, are) at on same =
    let first = chained_at objects met i c (ap (λ (l : List Chained). slice_get l i) (sym are) ∙ at) in
    let second = chained_at objects met j d (ap (λ (l : List Chained). slice_get l j) (sym are) ∙ on) in
    order.once i j (slice_get_within met i _ first) (slice_get_within met j _ second) (first ∙ ap Some same ∙ sym second)

-- there is one such list
pub one_chain : (objects : List Payload) (v : Obj) (one other : List Chained) → IsChain objects v one → IsChain objects v other → one ≡ other
one_chain objects v one other (met, order, are) (again, same, also) = are ∙ ap (chained objects) (one_order (before_at objects) v met again order same) ∙ sym also
