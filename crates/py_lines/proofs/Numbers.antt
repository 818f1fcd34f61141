-- The number that a word spells, against what the standard library reads.
use Rattle.std.proofs.Common.{◌≡◌, ◌≢◌, ◌<◌, ◌≤◌, ◌+◌, ◌-◌, ◌*◌, ◌^◌, ℕ, suc, zero, rules, List, [], ◌∷◌, length, Bool, true, false, Some, None, Ok, Err}
use Rattle.std.proofs.Common.{refl, sym, ap, ◌∙◌, subst, nat_le, arith, get_or}
use Rattle.std.specs.Prelude.{◌==◌, ◌&&◌, if◌then◌else◌, Option, option_map, Result, ℤ, pos, neg_ℤ}
use Rattle.std.specs.Result.{OkIff, result_ok}
use Rattle.std.specs.Int.{w128}
use Rattle.std.specs.List.{fold, list_all, starts_with}
use Rattle.std.specs.Str.{IsAscii, IsUtf8}
use Rattle.std.specs.Str.Parse.{ParsesSigned, ParsesUnsigned}
use Rattle.std.proofs.Math.Bool.{and-true}
use Rattle.std.proofs.Math.Dec.{eqb}
use Rattle.std.proofs.lemmas.Bool.{le-leb, leb-true, lt-ltb, ltb-true, eqb-true, eqb-false}
use Rattle.std.proofs.lemmas.Fmt.{IsAscii-from_digits}
use Rattle.std.proofs.lemmas.Str.{IsUtf8-from_ascii}
use Rattle.std.proofs.lemmas.Str.Parse.{IsNumeralModel, numerals_by_fold, parse_plain, parse_signed_minus, parse_signed_plain}
use Rattle.py_code.specs.Range.{in_range}
use Rattle.py_lines.specs.Words.{is_digit, value_of, digits_number, passing, number_of, is_short, short_number}

-- the grammar's digits are the library's
digits : IsNumeralModel (λ ds. list_all is_digit ds ≡ true) value_of
digits = numerals_by_fold (λ ds. list_all is_digit ds ≡ true) (search rules) (fold (λ n b. n * 10 + (b - 48))) (search rules)

-- which numbers have 128 bits
pos_whole : (n : ℕ) → n < 2 ^ 127 → in_range (pos n) ≡ true
pos_whole n h = le-leb n (2 ^ 127 - 1) (omega (arith, h))

whole_pos : (n : ℕ) → in_range (pos n) ≡ true → n < 2 ^ 127
whole_pos n h = omega (arith, leb-true n (2 ^ 127 - 1) h)

neg_whole : (n : ℕ) → n ≤ 2 ^ 127 → in_range (neg_ℤ (pos n)) ≡ true
neg_whole zero h = refl
neg_whole (suc n) h = rw (le-leb n (2 ^ 127 - 1) (omega (arith, h))) refl

whole_neg : (n : ℕ) → in_range (neg_ℤ (pos n)) ≡ true → n ≤ 2 ^ 127
whole_neg zero h = omega arith
whole_neg (suc n) h = omega (arith, leb-true n (2 ^ 127 - 1) (sym (and-true _) ∙ h))

-- digits, which spell a number where it passes a test
module _ {X : Type 0} (fits : X → Bool) (f : ℕ → X) where
  abbrev spelled : List ℕ → Option X
  spelled ds = passing fits (option_map f (digits_number ds))

  taken : (ds : List ℕ) → list_all is_digit ds ≡ true → 0 < length ds → fits (f (value_of ds)) ≡ true → Some (f (value_of ds)) ≡ spelled ds
  taken ds all some whole = rw (le-leb 1 (length ds) (omega (arith, some)), all, whole) refl

  refused_by : (p q : Bool) (n : ℕ) → (q ≡ true → p ≡ true → fits (f n) ≡ true → ⊥) → None ≡ passing fits (option_map f (if p && q then Some n else None))
  refused_by false q n bad = refl
  refused_by true false n bad = refl
  refused_by true true n bad = go (fits (f n)) (bad refl refl)
    where
      go : (w : Bool) → (w ≡ true → ⊥) → None ≡ (if w then Some (f n) else None)
      go true large = absurd (large refl)
      go false large = refl

  refused : (ds : List ℕ) → (list_all is_digit ds ≡ true → 0 < length ds → fits (f (value_of ds)) ≡ true → ⊥) → None ≡ spelled ds
  refused ds bad = refused_by (nat_le 1 (length ds)) (list_all is_digit ds) (value_of ds) (λ all some. bad all (omega (arith, leb-true 1 (length ds) some)))

  read : {E : Type 0} (Fit : ℕ → Type 0) → ((n : ℕ) → Fit n → fits (f n) ≡ true) → ((n : ℕ) → fits (f n) ≡ true → Fit n) → (ds : List ℕ) (r : Result X E)
      → OkIff r ((list_all is_digit ds ≡ true) × (0 < length ds) × Fit (value_of ds)) (f (value_of ds)) → result_ok r ≡ spelled ds
  read Fit to from ds (Ok x) h = ap Some h.1 ∙ taken ds (h.0).0 (h.0).1 (to _ (h.0).2)
  read Fit to from ds (Err e) h = refused ds (λ all some whole. h (all, some, from _ whole))

no_plus : (word : List ℕ) → starts_with eqb word (43 ∷ []) ≡ false → get_or word 0 0 ≢ 43
no_plus [] h e = omega (arith, e)
no_plus (b ∷ bs) h e = let k : true ≡ false = subst (λ x. starts_with eqb (x ∷ bs) (43 ∷ []) ≡ false) e h in cc k

-- what the library reads of a word with no plus in front
pub number_read : {E : Type 0} (word : List ℕ) (r : Result ℤ E) → starts_with eqb word (43 ∷ []) ≡ false → ParsesSigned w128 10 word r → result_ok r ≡ number_of word
number_read [] r plus h = read in_range pos (λ n. n < 2 ^ 127) pos_whole whole_pos [] r (parse_signed_plain digits w128 [] r h (no_plus [] plus) (λ e. omega (arith, e)))
number_read (b ∷ bs) r plus h = go (b == 45) refl
  where
    go : (m : Bool) → (b == 45) ≡ m → result_ok r ≡ number_of (b ∷ bs)
    go true e = rw e (read in_range (λ n. neg_ℤ (pos n)) (λ n. n ≤ 2 ^ 127) neg_whole whole_neg bs r (parse_signed_minus digits w128 (b ∷ bs) r h (eqb-true b 45 e)))
    go false e = rw e (read in_range pos (λ n. n < 2 ^ 127) pos_whole whole_pos (b ∷ bs) r (parse_signed_plain digits w128 (b ∷ bs) r h (no_plus (b ∷ bs) plus) (eqb-false b 45 e)))

digits_ascii : (ds : List ℕ) → list_all is_digit ds ≡ true → IsAscii ds
digits_ascii ds all = IsAscii-from_digits ds (digits.to ds all)

sign_ascii : (b : ℕ) (bs : List ℕ) → b ≡ 45 → IsAscii bs → IsAscii (b ∷ bs)
sign_ascii b bs e h zero = omega (arith, e)
sign_ascii b bs e h (suc i) = h i

-- what is no UTF-8 spells no number
pub not_text : (word : List ℕ) → ¬ (IsUtf8 word) → None ≡ number_of word
not_text [] bad = refl
not_text (b ∷ bs) bad = go (b == 45) refl
  where
    go : (m : Bool) → (b == 45) ≡ m → None ≡ number_of (b ∷ bs)
    go true e = rw e (refused in_range (λ n. neg_ℤ (pos n)) bs (λ all some whole. bad (IsUtf8-from_ascii (b ∷ bs) (sign_ascii b bs (eqb-true b 45 e) (digits_ascii bs all)))))
    go false e = rw e (refused in_range pos (b ∷ bs) (λ all some whole. bad (IsUtf8-from_ascii (b ∷ bs) (digits_ascii (b ∷ bs) all))))

-- ---- digits without a sign, of 64 bits

as_they_are : {X : Type 0} (o : Option X) → option_map (λ x. x) o ≡ o
as_they_are None = refl
as_they_are (Some x) = refl

pub short_read : {E : Type 0} (word : List ℕ) (r : Result ℕ E) → starts_with eqb word (43 ∷ []) ≡ false → ParsesUnsigned 64 10 word r → result_ok r ≡ short_number word
short_read word r plus h =
    read is_short (λ n. n) (λ n. n < 2 ^ 64) (λ n low. lt-ltb n (2 ^ 64) low) (λ n low. ltb-true n (2 ^ 64) low) word r (parse_plain digits 64 word r h (no_plus word plus))
    ∙ ap (passing is_short) (as_they_are (digits_number word))

pub short_not_text : (word : List ℕ) → ¬ (IsUtf8 word) → None ≡ short_number word
short_not_text word bad =
    refused is_short (λ n. n) word (λ all some short. bad (IsUtf8-from_ascii word (digits_ascii word all))) ∙ ap (passing is_short) (as_they_are (digits_number word))
