-- Constants in rows, and how large they are.
use Rattle.std.proofs.Common.{◌≡◌, ℕ, zero, suc, ◌+◌, ◌<◌, List, [], ◌∷◌, Bool, true, false, ◌&&◌, Some, slice_get, take, refl, ap, sym, subst, ◌∙◌, arith, rules}
use Rattle.std.proofs.Math.Bool.{and-false}
use Rattle.std.proofs.lemmas.Bool.{and_from, and_parts}
use Rattle.std.specs.List.{list_all}
use Rattle.py_code.specs.declared.literal.Literal.{Literal, Tuple, Tuple' as TupleLiteral, Row_of-Literal, end_of-Literal, more_of-Literal, items-the_row-Literal, the_lemmas}
use Rattle.py_code.specs.declared.literal.LiteralList.{LiteralList}
use Rattle.py_code.specs.Literals.{literals_of}
use Rattle.py_check.specs.Constants.{is_earlier, are_earlier}

-- a row of constants by its list
pub earlier_in_list : {m : _} (count : ℕ) (row : Row_of-Literal m) → list_all (is_earlier count) (items-the_row-Literal _ row) ≡ are_earlier count row
earlier_in_list count end_of-Literal = refl
earlier_in_list count (more_of-Literal item items) = ap (λ (b : Bool). is_earlier count item && b) (earlier_in_list count items)

abbrev mutual
  -- how much a constant holds
  pub weight : Literal → ℕ
  weight (TupleLiteral shape items) = suc (weights items)
  weight _ = 0

  pub weights : {m : _} → Row_of-Literal m → ℕ
  weights end_of-Literal = 0
  weights (more_of-Literal item items) = suc (weight item + weights items)

-- the same of a list
abbrev pub weigh : List Literal → ℕ
weigh [] = 0
weigh (x ∷ xs) = suc (weight x + weigh xs)

pub weights_weigh : {m : _} (row : Row_of-Literal m) → weigh (items-the_row-Literal _ row) ≡ weights row
weights_weigh end_of-Literal = refl
weights_weigh (more_of-Literal item items) = ap (λ (n : ℕ). suc (weight item + n)) (weights_weigh items)

-- one that is there weighs less
pub weighs_less : (xs : List Literal) (i : ℕ) (x : Literal) → slice_get xs i ≡ Some x → weight x < weigh xs
weighs_less [] i x there = cc
weighs_less (y ∷ ys) zero x there = let same : weight y ≡ weight x = ap weight (cc there) in omega (arith, same)
weighs_less (y ∷ ys) (suc i) x there = omega (arith, weighs_less ys i x there)

-- not all pass a test where one doesn't
pub all_but : (test : Literal → Bool) (xs : List Literal) (i : ℕ) (x : Literal) → slice_get xs i ≡ Some x → test x ≡ false → list_all test xs ≡ false
all_but test [] i x there not = cc
all_but test (y ∷ ys) zero x there not = let same : test y ≡ false = ap test (cc there) ∙ not in rw same refl
all_but test (y ∷ ys) (suc i) x there not = ap (λ (b : Bool). test y && b) (all_but test ys i x there not) ∙ and-false (test y)

-- one more does
pub one_more : (test : Literal → Bool) (xs : List Literal) (i : ℕ) (x : Literal) → slice_get xs i ≡ Some x → list_all test (take i xs) ≡ true → test x ≡ true → list_all test (take (i + 1) xs) ≡ true
one_more test [] i x there all pass = cc
one_more test (y ∷ ys) zero x there all pass = let same : test y ≡ true = ap test (cc there) ∙ pass in rw same refl
one_more test (y ∷ ys) (suc i) x there all pass =
    let parts = and_parts (test y) (list_all test (take i ys)) all in
    let next : suc i + 1 ≡ suc (i + 1) = omega arith in
    subst (λ (n : ℕ). list_all test (take n (y ∷ ys)) ≡ true) (sym next)
    (and_from (test y) (list_all test (take (i + 1) ys)) parts.0 (one_more test ys i x there parts.1 pass))

-- the items of a tuple
tuple_items : Literal → List Literal
tuple_items (TupleLiteral shape items) = items-the_row-Literal _ items
tuple_items _ = []

module _ (list : LiteralList) where
  items_are : tuple_items (Tuple list) ≡ literals_of list
  unfolding tuple_items
  items_are = search (rules, the_lemmas)

  pub earlier_tuple : (count : ℕ) (x : Literal) → x ≡ Tuple list → is_earlier count x ≡ list_all (is_earlier count) (literals_of list)
  unfolding tuple_items
  earlier_tuple count (TupleLiteral shape items) is = sym (earlier_in_list count items) ∙ ap (list_all (is_earlier count)) (ap tuple_items is ∙ items_are)
  earlier_tuple count _ is = absurd (cc is)

  pub heavy_tuple : (x : Literal) → x ≡ Tuple list → weight x ≡ suc (weigh (literals_of list))
  unfolding tuple_items
  heavy_tuple (TupleLiteral shape items) is = ap suc (sym (weights_weigh items)) ∙ ap (λ (xs : List Literal). suc (weigh xs)) (ap tuple_items is ∙ items_are)
  heavy_tuple _ is = absurd (cc is)
