-- Lists and words that print the same tokens.
use Rattle.std.proofs.Common.{◌≡◌, ◌≢◌, ℕ, List, [], ◌∷◌, true, false, refl, sym, ◌∙◌, map, bytes_eq}
use Rattle.std.proofs.lemmas.Slice.Eq.{bytes_eq-Decides}
use Rattle.py_tree.specs.Tree.{Name}
use Rattle.py_lines.specs.Meaning.{Meaning, Word}

-- lists are the same where their elements print the same
pub same_all : {X T : Type 0} (printing : X → T) → ((x y : X) → printing x ≡ printing y → x ≡ y) → (xs ys : List X) → map printing xs ≡ map printing ys → xs ≡ ys
same_all printing same [] [] e = refl
same_all printing same [] (y ∷ ys) e = cc
same_all printing same (x ∷ xs) [] e = cc
same_all printing same (x ∷ xs) (y ∷ ys) e = let h : x ≡ y = same x y (cc) in let t : xs ≡ ys = same_all printing same xs ys (cc) in cc

pub same_names : (xs ys : List Name) → map Word xs ≡ map Word ys → xs ≡ ys
same_names = same_all Word (λ x y e. cc)

-- words that differ begin tokens that do
pub other_word : (v w : List ℕ) → bytes_eq v w ≡ false → (ts us : List Meaning) → Word v ∷ ts ≢ Word w ∷ us
other_word v w other ts us e = let same : v ≡ w = cc in let h : false ≡ true = sym other ∙ (bytes_eq-Decides v w).1 same in cc h
