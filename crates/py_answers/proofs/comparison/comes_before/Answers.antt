use Rattle.std.proofs.Common.{◌≡◌, List, ℕ, ◌∷◌, Ordering, Less, Equal, Greater, refl, sym, ap}
use Rattle.std.specs.Ordering.{MatchOrdering, nat_cmp, is_lt, ordering_then}
use Rattle.std.specs.Cmp.Lexicographic.{slice_cmp}
use Rattle.std.proofs.lemmas.Cmp.{same_from_slice_cmp_tested}
use Rattle.py_answers.specs.Answers.{text_less}
use Rattle.py_answers.proofs.comparison.comes_before.Goals as goal

-- by the first characters, then by the others
by_first : (x y : ℕ) (xs ys : List ℕ) (o : Ordering) → o ≡ nat_cmp x y
    → MatchOrdering o (text_less (x ∷ xs) (y ∷ ys) ≡ is_lt Less) (text_less (x ∷ xs) (y ∷ ys) ≡ text_less xs ys) (text_less (x ∷ xs) (y ∷ ys) ≡ is_lt Greater)
by_first x y xs ys Less is = ap (λ o. is_lt (ordering_then o (slice_cmp nat_cmp xs ys))) (sym is)
by_first x y xs ys Equal is = ap (λ o. is_lt (ordering_then o (slice_cmp nat_cmp xs ys))) (sym is)
by_first x y xs ys Greater is = ap (λ o. is_lt (ordering_then o (slice_cmp nat_cmp xs ys))) (sym is)

pub returns : goal.returns
returns c =
    let by = same_from_slice_cmp_tested nat_cmp is_lt text_less refl (λ _ _. refl) (λ _ _. refl) by_first in
    rw (c.as_slice.ensures, c.as_slice-2.ensures) at (by c.as_slice.result.now c.as_slice-2.result.now c.lt.result c.lt.ensures)
