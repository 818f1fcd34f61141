-- The flags of words, each a bit of one number.
use Rattle.std.proofs.Common.{◌≡◌, ◌+◌, ◌*◌, ◌^◌, ◌<◌, ℕ, zero, suc, List, [], ◌∷◌, ◌++◌, Bool, true, false, cond, ◌||◌, max, eqb, map, take, length, get_or, refl, sym, ap, ap₂, ◌∙◌, arith}
use Rattle.std.specs.Prelude.{◌==◌, bit_and, bit_or}
use Rattle.std.specs.Int.{bit_at}
use Rattle.std.specs.List.{list_any}
use Rattle.std.proofs.lemmas.Bool.{eq-eqb, ne_eqb, cond-true, cond-false, false≢true}
use Rattle.std.proofs.lemmas.List.{map_more}
use Rattle.std.proofs.lemmas.Nat.{pow_pos}
use Rattle.std.proofs.lemmas.Nat.Bits.{and_pow, bit_at-lt, bit_at_or, bit_at-zero, same_from_bits}
use Rattle.py_code.specs.declared.flags.CodeFlags.{CodeFlags}
use Rattle.py_code.specs.declared.flags.TheConstants.CodeFlags.{IS_GENERATOR, IS_COROUTINE, HAS_VARARGS, HAS_VARKEYWORDS}
use Rattle.py_code.specs.Flags.{all_of}
use Rattle.py_check.specs.WholeCode.{counts_if}
use Rattle.py_lines.specs.declared.flag.RawFlag.{RawFlag}
use Rattle.py_raw.specs.RawSheet.{flag_of, flags_of}

-- ---- one more set

or_comm : (a b : ℕ) → bit_or a b ≡ bit_or b a
or_comm a b = same_from_bits _ _ (λ i. bit_at_or a b i ∙ max_comm (bit_at a i) (bit_at b i) ∙ sym (bit_at_or b a i))
  where
    max_comm : (m n : ℕ) → max m n ≡ max n m
    max_comm m n = omega arith

or_assoc : (a b c : ℕ) → bit_or a (bit_or b c) ≡ bit_or (bit_or a b) c
or_assoc a b c =
    same_from_bits _ _
    (λ i. bit_at_or a (bit_or b c) i ∙ ap (max (bit_at a i)) (bit_at_or b c i) ∙ max_assoc (bit_at a i) (bit_at b i) (bit_at c i)
    ∙ sym (bit_at_or (bit_or a b) c i ∙ ap (λ (n : ℕ). max n (bit_at c i)) (bit_at_or a b i)))
  where
    max_assoc : (l m n : ℕ) → max l (max m n) ≡ max (max l m) n
    max_assoc l m n = omega arith

-- the flags of sets with one more behind them
all_of-push : (sets : List CodeFlags) (f : CodeFlags) → (all_of (sets ++ f ∷ [])).0 ≡ bit_or (all_of sets).0 f.0
all_of-push [] f = or_comm f.0 0
all_of-push (g ∷ sets) f = ap (bit_or g.0) (all_of-push sets f) ∙ or_assoc g.0 (all_of sets).0 f.0

-- the flags of the first words with that of one more
pub flags_of-more : (words : List RawFlag) (i : ℕ) (d : RawFlag) (f one more : CodeFlags) → i < length words → f ≡ flags_of (take i words)
    → one ≡ flag_of (get_or words i d) → more.0 ≡ bit_or f.0 one.0 → more ≡ flags_of (take (i + 1) words)
flags_of-more words i d f one more low first last is =
    let both : more.0 ≡ bit_or (flags_of (take i words)).0 (flag_of (get_or words i d)).0 = is ∙ ap₂ (λ (g h : CodeFlags). bit_or g.0 h.0) first last in
    let all : (flags_of (take (i + 1) words)).0 ≡ bit_or (flags_of (take i words)).0 (flag_of (get_or words i d)).0 =
    ap (λ (sets : List CodeFlags). (all_of sets).0) (map_more flag_of words i d low) ∙ all_of-push (map flag_of (take i words)) (flag_of (get_or words i d)) in
    λ k. record { 0 = (both ∙ sym all) k }

-- ---- whether a flag is among others

-- a flag counts as its bit does
counts_bit : (k n : ℕ) → counts_if (record { 0 = n }) (record { 0 = 2 ^ k }) ≡ bit_at n k
counts_bit k n = ap (λ (m : ℕ). cond (eqb m 0) 0 1) (and_pow n k) ∙ by (bit_at n k) (2 ^ k) (bit_at-lt n k) (pow_pos k)
  where
    by : (b p : ℕ) → b < 2 → 0 < p → cond (eqb (b * p) 0) 0 1 ≡ b
    by zero p low high = cond-true _ 0 1 (eq-eqb (0 * p) 0 (omega arith))
    by (suc zero) p low high = cond-false _ 0 1 (ne_eqb (1 * p) 0 (λ e. omega arith))
    by (suc (suc b)) p low high = absurd (omega (arith, low))

one_of_both : (a b : ℕ) → a < 2 → b < 2 → eqb (max a b) 1 ≡ (eqb a 1 || eqb b 1)
one_of_both zero zero low below = refl
one_of_both zero (suc zero) low below = refl
one_of_both zero (suc (suc b)) low below = absurd (omega (arith, below))
one_of_both (suc zero) zero low below = refl
one_of_both (suc zero) (suc zero) low below = refl
one_of_both (suc zero) (suc (suc b)) low below = absurd (omega (arith, below))
one_of_both (suc (suc a)) b low below = absurd (omega (arith, low))

module _ (k : ℕ) where
  abbrev flag : CodeFlags
  flag = record { 0 = 2 ^ k }

  -- a flag is among two sets where it is among one
  any_of_two : (f g : CodeFlags) → (counts_if (record { 0 = bit_or f.0 g.0 }) flag == 1) ≡ ((counts_if f flag == 1) || (counts_if g flag == 1))
  any_of_two f g =
      rw (counts_bit k (bit_or f.0 g.0), counts_bit k f.0, counts_bit k g.0, bit_at_or f.0 g.0 k)
      (one_of_both (bit_at f.0 k) (bit_at g.0 k) (bit_at-lt f.0 k) (bit_at-lt g.0 k))

  -- it is among the flags of words where a word is that of it
  any_flag : (words : List RawFlag) → (counts_if (flags_of words) flag == 1) ≡ list_any (λ w. counts_if (flag_of w) flag == 1) words
  any_flag [] = ap (λ (n : ℕ). n == 1) (counts_bit k 0 ∙ bit_at-zero k)
  any_flag (w ∷ words) = any_of_two (flag_of w) (flags_of words) ∙ ap (λ (b : Bool). (counts_if (flag_of w) flag == 1) || b) (any_flag words)

-- whether words have a flag
abbrev pub have_flag : CodeFlags → List RawFlag → Bool
have_flag f words = list_any (λ w. counts_if (flag_of w) f == 1) words

pub any_generator : (words : List RawFlag) → (counts_if (flags_of words) IS_GENERATOR == 1) ≡ have_flag IS_GENERATOR words
any_generator = any_flag 1

pub any_coroutine : (words : List RawFlag) → (counts_if (flags_of words) IS_COROUTINE == 1) ≡ have_flag IS_COROUTINE words
any_coroutine = any_flag 2

pub any_varargs : (words : List RawFlag) → (counts_if (flags_of words) HAS_VARARGS == 1) ≡ have_flag HAS_VARARGS words
any_varargs = any_flag 3

pub any_varkeywords : (words : List RawFlag) → (counts_if (flags_of words) HAS_VARKEYWORDS == 1) ≡ have_flag HAS_VARKEYWORDS words
any_varkeywords = any_flag 4

-- a flag that isn't counted once isn't counted
pub none_counted : (flags f : CodeFlags) → (counts_if flags f == 1) ≡ false → counts_if flags f ≡ 0
none_counted flags f none = by (eqb (bit_and flags.0 f.0) 0) none
  where
    by : (b : Bool) → (cond b 0 1 == 1) ≡ false → ◌≡◌ {A = ℕ} (cond b 0 1) 0
    by true none = refl
    by false none = absurd (false≢true (sym none))

pub no_generator : (words : List RawFlag) → have_flag IS_GENERATOR words ≡ false → counts_if (flags_of words) IS_GENERATOR ≡ 0
no_generator words none = none_counted (flags_of words) IS_GENERATOR (any_generator words ∙ none)

pub no_coroutine : (words : List RawFlag) → have_flag IS_COROUTINE words ≡ false → counts_if (flags_of words) IS_COROUTINE ≡ 0
no_coroutine words none = none_counted (flags_of words) IS_COROUTINE (any_coroutine words ∙ none)

pub no_varargs : (words : List RawFlag) → have_flag HAS_VARARGS words ≡ false → counts_if (flags_of words) HAS_VARARGS ≡ 0
no_varargs words none = none_counted (flags_of words) HAS_VARARGS (any_varargs words ∙ none)

pub no_varkeywords : (words : List RawFlag) → have_flag HAS_VARKEYWORDS words ≡ false → counts_if (flags_of words) HAS_VARKEYWORDS ≡ 0
no_varkeywords words none = none_counted (flags_of words) HAS_VARKEYWORDS (any_varkeywords words ∙ none)
