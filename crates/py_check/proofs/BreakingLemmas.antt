-- A code keeps the rules, or exactly one unit is the first that breaks one.
use Rattle.std.proofs.Common.{◌≡◌, ◌⊎◌, ⊎_elim, inl, inr, ℕ, List, zero, suc, ◌<◌, Bool, true, false, ◌&&◌, refl, sym, subst, length, arith}
use Rattle.std.proofs.lemmas.Bool.{and_parts, and_from, both_ways, cases_lt}
use Rattle.py_check.specs.Sheet.{Sheet}
use Rattle.py_check.specs.WholeCode.{keeps_whole}
use Rattle.py_check.specs.Typing.{keeps_at, IsTyped}
use Rattle.py_check.specs.Breaking.{keeps, BreaksFirst}

-- a code that keeps the rules has a unit
not_empty : (shapes : List ℕ) (sheet : Sheet) → keeps_whole shapes sheet ≡ true → 0 < length sheet.units
not_empty shapes sheet whole =
    ⊎_elim
    (λ lt. lt)
    (λ le. let none : length sheet.units ≡ 0 = omega arith in let clash : false ≡ true = rw none at whole in absurd (cc clash))
    (cases_lt 0 (length sheet.units))

keeps_each : (shapes : List ℕ) (sheet : Sheet) (at : ℕ) → IsTyped shapes sheet → (at ≡ 0) ⊎ (at < length sheet.units) → keeps shapes sheet at ≡ true
keeps_each shapes sheet zero typed within = and_from (keeps_whole shapes sheet) (keeps_at shapes sheet 0) typed.whole (typed.each 0 (not_empty shapes sheet typed.whole))
keeps_each shapes sheet (suc at) typed within = ⊎_elim (λ e. absurd (omega arith)) (typed.each (suc at)) within

pub none_breaks : (shapes : List ℕ) (sheet : Sheet) (n : ℕ) → IsTyped shapes sheet → BreaksFirst shapes sheet n → ⊥
none_breaks shapes sheet n typed b = both_ways (keeps shapes sheet n) b.breaks (keeps_each shapes sheet n typed b.within)

pub one_breaks : (shapes : List ℕ) (sheet : Sheet) (m n : ℕ) → BreaksFirst shapes sheet m → BreaksFirst shapes sheet n → m ≡ n
one_breaks shapes sheet m n x y =
    ⊎_elim
    (λ lt. absurd (both_ways (keeps shapes sheet m) x.breaks (y.before m lt)))
    (λ le. ⊎_elim (λ lt. absurd (both_ways (keeps shapes sheet n) y.breaks (x.before n lt))) (λ ge. omega arith) (cases_lt n m))
    (cases_lt m n)

-- the first of some places that breaks a rule, if any does
abbrev FirstBelow : List ℕ → Sheet → ℕ → Type 0
FirstBelow shapes sheet n = (m : ℕ) × (m < n) × (keeps shapes sheet m ≡ false) × ((k : ℕ) → k < m → keeps shapes sheet k ≡ true)

all_or_first : (shapes : List ℕ) (sheet : Sheet) (n : ℕ) → ((k : ℕ) → k < n → keeps shapes sheet k ≡ true) ⊎ FirstBelow shapes sheet n
all_or_first shapes sheet zero = inl (λ k below. absurd (omega (arith, below)))
all_or_first shapes sheet (suc n) = ⊎_elim (λ all. by_test all (keeps shapes sheet n) refl) (λ (m, below, breaks, before). inr (m, omega (arith, below), breaks, before)) (all_or_first shapes sheet n)
  where
    last_or_below : ((k : ℕ) → k < n → keeps shapes sheet k ≡ true) → keeps shapes sheet n ≡ true → (k : ℕ) → k < suc n → keeps shapes sheet k ≡ true
    last_or_below all is k below =
        ⊎_elim (λ lt. all k lt) (λ ge. let same : n ≡ k = omega (arith, ge, below) in subst (λ (m : ℕ). keeps shapes sheet m ≡ true) same is) (cases_lt k n)

    by_test : ((k : ℕ) → k < n → keeps shapes sheet k ≡ true) → (b : Bool) → keeps shapes sheet n ≡ b → ((k : ℕ) → k < suc n → keeps shapes sheet k ≡ true) ⊎ FirstBelow shapes sheet (suc n)
    by_test all true is = inl (last_or_below all is)
    by_test all false is = inr (n, omega arith, is, all)

-- a code whose units all keep the rules does
pub keeps_typed : (shapes : List ℕ) (sheet : Sheet) → keeps_whole shapes sheet ≡ true → ((k : ℕ) → k < length sheet.units → keeps shapes sheet k ≡ true) → IsTyped shapes sheet
keeps_typed shapes sheet whole all = record { whole = whole; each = λ at below. by_place at below (all at below) }
  where
    by_place : (at : ℕ) → at < length sheet.units → keeps shapes sheet at ≡ true → keeps_at shapes sheet at ≡ true
    by_place zero below is = (and_parts (keeps_whole shapes sheet) (keeps_at shapes sheet 0) is).1
    by_place (suc at) below is = is

pub some_breaks : (shapes : List ℕ) (sheet : Sheet) → IsTyped shapes sheet ⊎ ((n : ℕ) × BreaksFirst shapes sheet n)
some_breaks shapes sheet = by_whole (keeps_whole shapes sheet) refl
  where
    by_whole : (b : Bool) → keeps_whole shapes sheet ≡ b → IsTyped shapes sheet ⊎ ((n : ℕ) × BreaksFirst shapes sheet n)
    by_whole true is =
        ⊎_elim
        (λ all. inl (keeps_typed shapes sheet is all))
        (λ (m, below, breaks, before). inr (m, record { within = inr below; breaks = breaks; before = before }))
        (all_or_first shapes sheet (length sheet.units))
    by_whole false is = inr (0, record { within = inl refl; breaks = subst (λ (b : Bool). (b && keeps_at shapes sheet 0) ≡ false) (sym is) refl; before = λ k below. absurd (omega (arith, below)) })
