-- What is shown with commas between, one after another.
use Rattle.std.proofs.Common.{◌≡◌, ◌≤◌, List, ℕ, [], ◌∷◌, ◌++◌, ap, sym, ◌∙◌, length, take, take_all, append_assoc, append-nil}
use Rattle.std.specs.Prelude.{codes, flat_map}
use Rattle.py_exceptions.specs.Repr.{joined}

-- all but the first one stand behind a comma
joined-cons : {A : Type 0} (f : A → List ℕ) (v : A) (vs : List A) → joined f (v ∷ vs) ≡ f v ++ flat_map (λ w. codes ", " ++ f w) vs
joined-cons f v [] = sym (append-nil (f v))
joined-cons f v (w ∷ vs) = ap (λ rest. f v ++ (codes ", " ++ rest)) (joined-cons f w vs) ∙ ap (λ rest. f v ++ rest) (sym (append_assoc (codes ", ") (f w) (flat_map (λ u. codes ", " ++ f u) vs)))

-- a loop that wrote the first one, and then the others, has written them all
pub all_joined : {A : Type 0} (f : A → List ℕ) (out first all : List ℕ) (vs : List A) (v : A) (rest : List A) (count : ℕ) → vs ≡ v ∷ rest → first ≡ out ++ f v
    → all ≡ first ++ flat_map (λ w. codes ", " ++ f w) (take count rest) → length rest ≤ count → all ≡ out ++ joined f vs
all_joined f out first all vs v rest count is one others low =
    rw (is, joined-cons f v rest, others, one, take_all count rest low) (append_assoc out (f v) (flat_map (λ w. codes ", " ++ f w) rest))
