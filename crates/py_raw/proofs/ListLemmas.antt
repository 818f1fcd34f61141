-- Lists and the items at their places.
use Rattle.std.proofs.Common.{◌≡◌, ℕ, zero, suc, List, [], ◌∷◌, ◌++◌, Some, None, refl, sym, ap, ◌∙◌, drop, map, reverse}
use Rattle.std.specs.Prelude.{slice_get}
use Rattle.std.proofs.lemmas.List.{append_assoc, reverse-append}

pub drop-slice_get : {A : Type 0} (xs : List A) (at : ℕ) (x : A) → slice_get xs at ≡ Some x → drop at xs ≡ x ∷ drop (suc at) xs
drop-slice_get [] zero x there = cc
drop-slice_get [] (suc at) x there = cc
drop-slice_get (y ∷ xs) zero x there = let same : y ≡ x = cc in ap (λ z. z ∷ xs) same
drop-slice_get (y ∷ xs) (suc at) x there = drop-slice_get xs at x there

pub drop-past : {A : Type 0} (xs : List A) (at : ℕ) → slice_get xs at ≡ None → drop (suc at) xs ≡ []
drop-past [] at past = refl
drop-past (x ∷ xs) zero past = cc
drop-past (x ∷ xs) (suc at) past = drop-past xs at past

-- what a list that was mapped has at a place
pub from_map : {A B : Type 0} (f : A → B) (xs : List A) (at : ℕ) (y : B) → slice_get (map f xs) at ≡ Some y → (x : A) × (slice_get xs at ≡ Some x) × (f x ≡ y)
from_map f [] at y there = absurd (cc)
from_map f (x ∷ xs) zero y there = (x, refl, cc)
from_map f (x ∷ xs) (suc at) y there = from_map f xs at y there

-- of a list that is turned around, one more item
pub turned_more : {A : Type 0} (all rest below made more : List A) (top : A) → rest ≡ below ++ top ∷ [] → made ++ reverse rest ≡ all → more ≡ made ++ top ∷ []
    → more ++ reverse below ≡ all
turned_more all rest below made more top last turned grown =
    ap (λ xs. xs ++ reverse below) grown ∙ append_assoc made (top ∷ []) (reverse below)
    ∙ ap (λ xs. made ++ xs) (sym (ap reverse last ∙ reverse-append below (top ∷ []))) ∙ turned
