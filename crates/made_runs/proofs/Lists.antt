-- What holds of each element of a list, and how long a list with one element more is.
use Rattle.std.proofs.Common.{◌≡◌, ◌++◌, ℕ, zero, suc, List, [], ◌∷◌, Some, subst, length, length-append, arith}
use Rattle.std.specs.Prelude.{slice_get}
use Rattle.std.proofs.lemmas.Option.{same_Some}

-- P holds of each element
abbrev pub Each : {X : Type 0} → (X → Type 0) → List X → Type 0
Each P [] = Unit {0}
Each P (x ∷ xs) = P x × Each P xs

-- so it holds of the element at a place
pub each_at : {X : Type 0} (P : X → Type 0) (xs : List X) → Each P xs → (i : ℕ) (x : X)
    → slice_get xs i ≡ Some x → P x
each_at P [] h i x e = absurd (cc e)
each_at P (y ∷ ys) h zero x e = subst P (same_Some y x e) h.0
each_at P (y ∷ ys) h (suc i) x e = each_at P ys h.1 i x e

-- it holds of the elements of two lists, one behind the other
pub each_both : {X : Type 0} (P : X → Type 0) (xs ys : List X) → Each P xs → Each P ys → Each P (xs ++ ys)
each_both P [] ys front back = back
each_both P (x ∷ xs) ys front back = (front.0, each_both P xs ys front.1 back)

-- what follows from it holds of each element, too
pub each_so : {X : Type 0} (P Q : X → Type 0) → ((x : X) → P x → Q x) → (xs : List X) → Each P xs → Each Q xs
each_so P Q f [] h = tt
each_so P Q f (x ∷ xs) h = (f x h.0, each_so P Q f xs h.1)

-- a list with one element more is longer by one
pub length_on : {X : Type 0} (xs : List X) (x : X) → length (xs ++ x ∷ []) ≡ suc (length xs)
length_on xs x = let all = length-append xs (x ∷ []) in omega (arith, all)
