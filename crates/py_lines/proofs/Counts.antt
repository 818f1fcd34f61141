-- Numbers from 0 on: one that fits its place is printed as the number that it is, and another one as what no token means.
use Rattle.std.proofs.Common.{◌≡◌, ◌≢◌, ℕ, Bool, true, false, Some, refl, sym, ap, ◌∙◌}
use Rattle.std.specs.Prelude.{Option, None, pos, if◌then◌else◌}
use Rattle.py_lines.specs.Meaning.{Meaning, Number, Beyond, number_within}
use Rattle.py_lines.proofs.Finders.{Finds, Found, Missing}

-- how a number is printed that fits, or that doesn't
abbrev pub printed : Bool → ℕ → Meaning
printed short n = if short then Number (pos n) else Beyond n

-- the number that prints a token
abbrev pub count_of : Meaning → Option ℕ
count_of (Number (pos n)) = Some n
count_of (Beyond n) = Some n
count_of t = None

printed_back : (short : Bool) (n : ℕ) → count_of (printed short n) ≡ Some n
printed_back true n = refl
printed_back false n = refl

-- for each test of what fits
module _ (fits : ℕ → Bool) where
  pub count_back : (n : ℕ) → count_of (number_within fits n) ≡ Some n
  count_back n = printed_back (fits n) n

  -- no two numbers are printed alike
  pub same_count : (m n : ℕ) → number_within fits m ≡ number_within fits n → m ≡ n
  same_count m n e = let h : Some m ≡ Some n = sym (count_back m) ∙ ap count_of e ∙ count_back n in cc

  -- no number prints a token that none has
  pub no_count : (t : Meaning) → count_of t ≡ None → (m : ℕ) → t ≢ number_within fits m
  no_count t none m e = let h : None ≡ Some m = sym none ∙ ap count_of e ∙ count_back m in cc h

  -- nor one that is printed the other way
  pub no_other : (short : Bool) (n : ℕ) → fits n ≡ short → (t : Meaning) → count_of t ≡ Some n → t ≢ printed short n → (m : ℕ) → t ≢ number_within fits m
  no_other short n is t counts other m e =
      let h : Some n ≡ Some m = sym counts ∙ ap count_of e ∙ count_back m in
      let same : m ≡ n = cc in
      other (e ∙ ap (number_within fits) same ∙ ap (λ p. printed p n) is)

  pub find_count : (t : Meaning) → Finds (number_within fits) t
  find_count (Number (pos n)) = at (fits n) refl
    where
      at : (short : Bool) → fits n ≡ short → Finds (number_within fits) (Number (pos n))
      at true is = Found n (sym (ap (λ p. printed p n) is))
      at false is = Missing (no_other false n is (Number (pos n)) refl (λ e. cc))
  find_count (Beyond n) = at (fits n) refl
    where
      at : (short : Bool) → fits n ≡ short → Finds (number_within fits) (Beyond n)
      at true is = Missing (no_other true n is (Beyond n) refl (λ e. cc))
      at false is = Found n (sym (ap (λ p. printed p n) is))
  find_count t = Missing (no_count t refl)
