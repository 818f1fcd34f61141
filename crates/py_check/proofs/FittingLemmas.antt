-- Kinds that fit as many equal ones, with others after them.
use Rattle.std.proofs.Common.{◌≡◌, ◌⊎◌, ⊎_elim, ◌<◌, ◌≤◌, ◌+◌, ◌-◌, ℕ, zero, suc, List, [], ◌∷◌, ◌++◌, length, take, drop, replicate, ◌==◌, Bool, false, ◌&&◌, refl, sym, ap, subst, ◌∙◌, arith, inl, inr, length-append}
use Rattle.std.proofs.Math.Bool.{and-false, and-true, and_assoc}
use Rattle.std.proofs.lemmas.Bool.{cases_lt}
use Rattle.std.proofs.lemmas.Bool.Decides.{nat_tests}
use Rattle.std.specs.List.{list_all}
use Rattle.std.proofs.lemmas.List.{take-append-le, drop-append-le}
use Rattle.std.proofs.lemmas.List.Folds.{list_all-append}
use Rattle.std.proofs.Math.Seq.{take-append-add, drop-append-add, take-length, drop-length}
use Rattle.py_check.specs.declared.note.Kind.{Kind}
use Rattle.py_check.specs.Notes.{kind_fits, kinds_fit}

-- whether kinds are all as wanted
abbrev pub are : Kind → List Kind → Bool
are k xs = list_all (λ x. kind_fits x k) xs

-- too few don't
pub too_few : (ks : List Kind) (n : ℕ) (k : Kind) (more : List Kind) → length ks < n → kinds_fit ks (replicate n k ++ more) ≡ false
too_few ks zero k more few = absurd (omega (arith, few))
too_few [] (suc n) k more few = refl
too_few (x ∷ ks) (suc n) k more few = ap (λ (b : Bool). kind_fits x k && b) (too_few ks n k more (omega (arith, few))) ∙ and-false (kind_fits x k)

-- enough of them do where each of so many does, and the others what comes after
so_many : (ks : List Kind) (n : ℕ) (k : Kind) (more : List Kind) → n ≤ length ks → kinds_fit ks (replicate n k ++ more) ≡ (are k (take n ks) && kinds_fit (drop n ks) more)
so_many ks zero k more some = refl
so_many [] (suc n) k more some = absurd (omega (arith, some))
so_many (x ∷ ks) (suc n) k more some =
    ap (λ (b : Bool). kind_fits x k && b) (so_many ks n k more (omega (arith, some))) ∙ sym (and_assoc (kind_fits x k) (are k (take n ks)) (kinds_fit (drop n ks) more))

-- the same of kinds before others: of the others none is needed, or all of the first ones are
pub both_so_many : (ks ls : List Kind) (a b : ℕ) (k : Kind) (more : List Kind) → a ≤ length ks → b ≤ length ls → (b ≡ 0) ⊎ (a ≡ length ks)
    → kinds_fit (ks ++ ls) (replicate (a + b) k ++ more) ≡ ((are k (take a ks) && are k (take b ls)) && kinds_fit (drop a ks ++ drop b ls) more)
both_so_many ks ls a b k more first others split = ⊎_elim (λ none. by_none none) (λ all. by_all all) split
  where
    by_none : b ≡ 0 → kinds_fit (ks ++ ls) (replicate (a + b) k ++ more) ≡ ((are k (take a ks) && are k (take b ls)) && kinds_fit (drop a ks ++ drop b ls) more)
    by_none none =
        let sum : a + b ≡ a = omega (arith, none) in
        rw (sum, none)
        (so_many (ks ++ ls) a k more (omega (arith, first, length-append ks ls)) ∙ rw (take-append-le a ks ls first, drop-append-le a ks ls first, and-true (are k (take a ks))) refl)

    by_all : a ≡ length ks → kinds_fit (ks ++ ls) (replicate (a + b) k ++ more) ≡ ((are k (take a ks) && are k (take b ls)) && kinds_fit (drop a ks ++ drop b ls) more)
    by_all all =
        rw (all)
        (so_many (ks ++ ls) (length ks + b) k more (omega (arith, others, length-append ks ls))
        ∙ rw (take-append-add ks ls b, drop-append-add ks ls b, list_all-append (λ x. kind_fits x k) ks (take b ls), take-length ks, drop-length ks) refl)

-- the first ones are the smaller of two numbers
by_min : (n m a : ℕ) → a ≡ Prim.Native.Nat.min n m → ((n - a) ≡ 0) ⊎ (a ≡ m)
by_min n m a is = ⊎_elim (λ lt. inl (omega (arith, is, lt))) (λ ge. inr (omega (arith, is, ge))) (cases_lt n m)

-- a run in two parts: of the first kinds as many as there are, and of the others the rest
pub in_two : (ks ls : List Kind) (n a : ℕ) (k : Kind) (more : List Kind) → a ≡ Prim.Native.Nat.min n (length ks) → n - a ≤ length ls
    → kinds_fit (ks ++ ls) (replicate n k ++ more) ≡ ((are k (take a ks) && are k (take (n - a) ls)) && kinds_fit (drop a ks ++ drop (n - a) ls) more)
in_two ks ls n a k more is others =
    let sum : a + (n - a) ≡ n = omega (arith, is) in
    let first : a ≤ length ks = omega (arith, is) in
    subst (λ (m : ℕ). kinds_fit (ks ++ ls) (replicate m k ++ more) ≡ ((are k (take a ks) && are k (take (n - a) ls)) && kinds_fit (drop a ks ++ drop (n - a) ls) more)) sum
    (both_so_many ks ls a (n - a) k more first others (by_min n (length ks) a is))

-- only no kinds fit none
pub nothing_fits : (xs ys : List Kind) → kinds_fit (xs ++ ys) [] ≡ ((length xs == 0) && (length ys == 0))
nothing_fits [] [] = refl
nothing_fits [] (y ∷ ys) = let no : (length (y ∷ ys) == 0) ≡ false = grind (arith, nat_tests) in sym no
nothing_fits (x ∷ xs) ys = let no : (length (x ∷ xs) == 0) ≡ false = grind (arith, nat_tests) in rw no refl
