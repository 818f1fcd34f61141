-- What decimal digits mean in a line.
use Rattle.std.proofs.Common.{◌≡◌, ◌<◌, ◌≤◌, ◌+◌, ◌-◌, ◌*◌, ◌/◌, ◌%◌, ◌^◌, ◌∙◌, ◌++◌, ◌∷◌, [], List, ℕ, zero, suc, Bool, true, false, Some, inl, inr, length, length-append, refl, sym, ap, subst, arith}
use Rattle.std.specs.Prelude.{Option, None, map, option_map, pos, neg_ℤ, decimal, if◌then◌else◌, ◌==◌, ◌&&◌, ◌||◌, nat_le, bytes_eq}
use Rattle.std.specs.List.{find, fold, list_all}
use Rattle.std.proofs.lemmas.Bool.{and_from, and_left, and_parts, cases_lt, cond-false, cond-true, false_from_ne_true, le-leb, leb-true, lt-leb, ne_eqb, or_from}
use Rattle.std.proofs.lemmas.Fmt.{decimal_digit, decimal_step}
use Rattle.std.proofs.lemmas.List.Sums.{fold-append}
use Rattle.std.proofs.lemmas.Slice.Eq.{bytes_eq-Decides}
use Rattle.py_code.specs.Range.{in_range}
use Rattle.py_lines.specs.declared.keyword.Keyword.{Keyword}
use Rattle.py_lines.specs.Keywords.{all_keywords, keyword_text}
use Rattle.py_lines.specs.Meaning.{Key, Meaning, Number, Word, literal_meaning, meaning, meant, other_meaning}
use Rattle.py_lines.specs.Tokens.{Cut, Inside, Word as Spelled, cut, cut_from, is_blank, is_mark, is_quote, longer, started, tokens_of}
use Rattle.py_lines.specs.Words.{are_digits, digits_number, is_digit, is_spelled_as_name, number_of, passing, starts_name, value_of}

-- a digit's byte
pub record IsDigit (b : ℕ) : Type 0 where
  pub low : 48 ≤ b
  pub high : b ≤ 57

-- each of these is one
abbrev pub AreDigits : List ℕ → Type 0
AreDigits [] = Unit {0}
AreDigits (b ∷ bs) = IsDigit b × AreDigits bs

-- the digits of a number
pub record AreDigitsOf (ds : List ℕ) (n : ℕ) : Type 0 where
  pub digits : AreDigits ds
  pub value : value_of ds ≡ n
  pub some : 0 < length ds

digits_append : (xs ys : List ℕ) → AreDigits xs → AreDigits ys → AreDigits (xs ++ ys)
digits_append [] ys front back = back
digits_append (x ∷ xs) ys (digit, front) back = (digit, digits_append xs ys front back)

-- ---- the digits that are written of a number

more_digits : (n : ℕ) → 10 ≤ n → n < 2 ^ 64 → AreDigitsOf (decimal (n / 10)) (n / 10) → AreDigitsOf (decimal n) n
more_digits n more small front =
    let last : ℕ = 48 + n % 10 in
    let value : value_of (decimal (n / 10) ++ last ∷ []) ≡ value_of (decimal (n / 10)) * 10 + (last - 48) = fold-append (λ (m b : ℕ). m * 10 + (b - 48)) 0 (decimal (n / 10)) (last ∷ []) in
    subst (λ (ds : List ℕ). AreDigitsOf ds n) (sym (decimal_step n more small)) (record {
      digits = digits_append (decimal (n / 10)) (last ∷ []) front.digits (record { low = omega arith; high = omega arith }, tt);
      value = value ∙ ap (λ (m : ℕ). m * 10 + (last - 48)) front.value ∙ omega arith;
      some = omega (arith, length-append (decimal (n / 10)) (last ∷ []));
    })

digits_below : (most n : ℕ) → n < most → n < 2 ^ 64 → AreDigitsOf (decimal n) n
digits_below zero n low small = absurd (omega arith)
digits_below (suc most) n low small = elim (cases_lt n 10) [
  | inl one ↦ subst (λ (ds : List ℕ). AreDigitsOf ds n) (sym (decimal_digit n one)) (record { digits = (record { low = omega arith; high = omega arith }, tt); value = omega arith; some = omega arith })
  | inr more ↦ more_digits n more small (digits_below most (n / 10) (omega arith) (omega arith))
]

pub digits_of : (n : ℕ) → n < 2 ^ 64 → AreDigitsOf (decimal n) n
digits_of n small = digits_below (suc n) n (omega arith) small

-- ---- a digit is no other byte

module _ (b : ℕ) (digit : IsDigit b) where
  pub no_blank : is_blank b ≡ false
  no_blank = or_from _ _ (ne_eqb b 32 (λ is. omega (arith, digit.low, is))) (ne_eqb b 9 (λ is. omega (arith, digit.low, is)))

  pub no_mark : is_mark b ≡ false
  no_mark = or_from _ _ (or_from _ _ (ne_eqb b 40 (λ is. omega (arith, digit.low, is))) (ne_eqb b 41 (λ is. omega (arith, digit.low, is)))) (ne_eqb b 61 (λ is. omega (arith, digit.high, is)))

  pub no_quote : is_quote b ≡ false
  no_quote = ne_eqb b 39 (λ is. omega (arith, digit.low, is))

  pub no_minus : (b == 45) ≡ false
  no_minus = ne_eqb b 45 (λ is. omega (arith, digit.low, is))

  pub no_letter : starts_name b ≡ false
  no_letter = or_from _ _ (or_from _ _ (and_left _ _ (lt-leb 65 b (omega (arith, digit.high)))) (and_left _ _ (lt-leb 97 b (omega (arith, digit.high))))) (ne_eqb b 95 (λ is. omega (arith, digit.high, is)))

  pub passes : is_digit b ≡ true
  passes = and_from (nat_le 48 b) (nat_le b 57) (le-leb 48 b digit.low) (le-leb b 57 digit.high)

-- ---- digits are one token

-- what is neither of two is the third
neither : {A : Type 0} (x y : Bool) (p q r : A) → x ≡ false → y ≡ false → (if x then p else if y then q else r) ≡ r
neither true y p q r is also = absurd (cc is)
neither false true p q r is also = absurd (cc also)
neither false false p q r is also = refl

none_of : {A : Type 0} (x y z : Bool) (p q r s : A) → x ≡ false → y ≡ false → z ≡ false → (if x then p else if y then q else if z then r else s) ≡ s
none_of true y z p q r s a b c = absurd (cc a)
none_of false y z p q r s a b c = neither y z q r s b c

cut_digits : (ds : List ℕ) → AreDigits ds → cut_from Inside ds ≡ cut ds []
cut_digits [] digits = refl
cut_digits (b ∷ bs) (digit, digits) = neither (is_blank b) (is_mark b) _ _ _ (no_blank b digit) (no_mark b digit) ∙ ap (longer b) (cut_digits bs digits)

pub one_token : (b : ℕ) (bs : List ℕ) → IsDigit b → AreDigits bs → tokens_of (b ∷ bs) ≡ Spelled (b ∷ bs) ∷ []
one_token b bs digit digits =
    ap (λ (c : Cut). c.behind) (none_of (is_blank b) (is_mark b) (is_quote b) _ _ _ _ (no_blank b digit) (no_mark b digit) (no_quote b digit))
    ∙ ap (λ (c : Cut). (started b c).behind) (cut_digits bs digits)

-- ---- which means the number

-- the first byte of a word, and whether that of each keyword is above the digits
abbrev first_byte : List ℕ → ℕ
first_byte [] = 0
first_byte (b ∷ bs) = b

abbrev begins_above : Keyword → Bool
begins_above k = nat_le 58 (first_byte (keyword_text k))

abbrev begin_above : List Keyword → Bool
begin_above [] = true
begin_above (k ∷ ks) = begins_above k && begin_above ks

module _ (b : ℕ) (bs : List ℕ) (digit : IsDigit b) where
  -- so digits are none of them
  no_keyword : (k : Keyword) → begins_above k ≡ true → bytes_eq (b ∷ bs) (keyword_text k) ≡ false
  no_keyword k above = false_from_ne_true (bytes_eq (b ∷ bs) (keyword_text k)) (λ is. no (ap first_byte ((bytes_eq-Decides (b ∷ bs) (keyword_text k)).0 is)))
    where
      no : b ≡ first_byte (keyword_text k) → ⊥
      no is = omega (arith, leb-true 58 (first_byte (keyword_text k)) above, digit.high, is)

  none_found : (ks : List Keyword) → begin_above ks ≡ true → find (λ k. bytes_eq (b ∷ bs) (keyword_text k)) ks ≡ None
  none_found [] above = refl
  none_found (k ∷ ks) above =
      let (first, rest) = and_parts (begins_above k) (begin_above ks) above in
      cond-false (bytes_eq (b ∷ bs) (keyword_text k)) (Some k) (find (λ k. bytes_eq (b ∷ bs) (keyword_text k)) ks) (no_keyword k first) ∙ none_found ks rest

  no_name : is_spelled_as_name (b ∷ bs) ≡ false
  no_name = and_left (starts_name b) _ (no_letter b digit)

all_pass : (ds : List ℕ) → AreDigits ds → list_all is_digit ds ≡ true
all_pass [] digits = refl
all_pass (b ∷ bs) (digit, digits) = and_from (is_digit b) (list_all is_digit bs) (passes b digit) (all_pass bs digits)

-- digits are taken for the number
counted : (ds : List ℕ) (n : ℕ) → AreDigitsOf ds n → digits_number ds ≡ Some n
counted ds n are =
    cond-true (are_digits ds) (Some (value_of ds)) None (and_from (nat_le 1 (length ds)) (list_all is_digit ds) (le-leb 1 (length ds) are.some) (all_pass ds are.digits)) ∙ ap Some are.value

small_in_range : (n : ℕ) → n < 2 ^ 64 → in_range (pos n) ≡ true
small_in_range n small = le-leb n (2 ^ 127 - 1) (omega arith)

number_spelled : (b : ℕ) (bs : List ℕ) (n : ℕ) → n < 2 ^ 64 → IsDigit b → AreDigitsOf (b ∷ bs) n → number_of (b ∷ bs) ≡ Some (pos n)
number_spelled b bs n small digit are =
    ap (λ (x : Bool). passing in_range (if x then option_map (λ m. neg_ℤ (pos m)) (digits_number bs) else option_map pos (digits_number (b ∷ bs)))) (no_minus b digit)
    ∙ ap (λ (o : Option ℕ). passing in_range (option_map pos o)) (counted (b ∷ bs) n are)
    ∙ cond-true (in_range (pos n)) (Some (pos n)) None (small_in_range n small)

-- the tokens of digits mean the number
pub digits_mean : (ds : List ℕ) (n : ℕ) → n < 2 ^ 64 → AreDigitsOf ds n → map meaning (tokens_of ds) ≡ Number (pos n) ∷ []
digits_mean [] n small are = absurd (omega (arith, are.some))
digits_mean (b ∷ bs) n small are =
    let w : List ℕ = b ∷ bs in
    let digit : IsDigit b = are.digits.0 in
    ap (map meaning) (one_token b bs digit are.digits.1)
    ∙ ap (λ (m : Meaning). m ∷ [])
    (ap (λ (k : Option Keyword). meant (option_map Key k) (if is_spelled_as_name w then Word w else literal_meaning w)) (none_found b bs digit all_keywords refl)
    ∙ ap (λ (x : Bool). if x then Word w else literal_meaning w) (no_name b bs digit)
    ∙ ap (λ o. meant (option_map Number o) (other_meaning w)) (number_spelled b bs n small digit are))
