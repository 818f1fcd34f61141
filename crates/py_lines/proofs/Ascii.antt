-- Words that mean something are ASCII.
use Rattle.std.proofs.Common.{◌≡◌, ◌<◌, ◌≤◌, ℕ, zero, suc, List, [], ◌∷◌, Bool, true, false, cond, Some, None, refl, sym, ap, ◌∙◌, subst, arith}
use Rattle.std.specs.Prelude.{◌==◌, ◌&&◌, ◌||◌, Option, option_map, bytes_eq, nat_le, nat_lt, not, ℤ, pos, neg_ℤ}
use Rattle.std.specs.List.{find, list_all}
use Rattle.std.specs.Str.{IsAscii}
use Rattle.std.proofs.lemmas.Bool.{and_parts, eqb-true, leb-true, ltb-true}
use Rattle.std.proofs.lemmas.Slice.Eq.{bytes_eq-Decides}
use Rattle.py_code.specs.Range.{in_range}
use Rattle.py_lines.specs.declared.keyword.Keyword.{Keyword}
use Rattle.py_lines.specs.Keywords.{keyword_of, keyword_text, all_keywords}
use Rattle.py_lines.specs.Meaning.{is_name, code_name}
use Rattle.py_lines.specs.Words.{between, is_digit, is_short, value_of, starts_name, continues_name, is_spelled_as_name, are_digits, digits_number, passing, signed_number, number_of, short_number, drive_number, stands_in_text, closed_text, quoted_text}

-- ---- bytes of ASCII

abbrev pub Low : ℕ → Type 0
Low b = b < 128

abbrev pub Lows : List ℕ → Type 0
Lows [] = Unit {0}
Lows (b ∷ bs) = Low b × Lows bs

pub lows_ascii : (bs : List ℕ) → Lows bs → IsAscii bs
lows_ascii [] low i = omega arith
lows_ascii (b ∷ bs) low zero = low.0
lows_ascii (b ∷ bs) low (suc i) = lows_ascii bs low.1 i

pub either_low : (x y : Bool) (b : ℕ) → (x ≡ true → Low b) → (y ≡ true → Low b) → (x || y) ≡ true → Low b
either_low true y b f g h = f refl
either_low false y b f g h = g h

pub same_low : (b n : ℕ) → n < 128 → (b == n) ≡ true → Low b
same_low b n low h = let same : b ≡ n = eqb-true b n h in omega (arith, same, low)

between_low : (low high b : ℕ) → high < 128 → between low high b ≡ true → Low b
between_low low high b few h = let most : b ≤ high = leb-true b high (and_parts (nat_le low b) (nat_le b high) h).1 in omega (arith, most, few)

each_low : (p : ℕ → Bool) → ((b : ℕ) → p b ≡ true → Low b) → (bs : List ℕ) → list_all p bs ≡ true → Lows bs
each_low p f [] h = tt
each_low p f (b ∷ bs) h = let (here, more) = and_parts (p b) _ h in (f b here, each_low p f bs more)

digit_low : (b : ℕ) → is_digit b ≡ true → Low b
digit_low b h = between_low 48 57 b (omega arith) h

starts_low : (b : ℕ) → starts_name b ≡ true → Low b
starts_low b h =
    either_low (between 65 90 b || between 97 122 b) (b == 95) b
    (λ k. either_low (between 65 90 b) (between 97 122 b) b (between_low 65 90 b (omega arith)) (between_low 97 122 b (omega arith)) k) (same_low b 95 (omega arith)) h

continues_low : (b : ℕ) → continues_name b ≡ true → Low b
continues_low b h = either_low (starts_name b) (is_digit b) b (starts_low b) (digit_low b) h

-- ---- words that mean something

pub name_low : (w : List ℕ) → is_spelled_as_name w ≡ true → Lows w
name_low [] h = tt
name_low (b ∷ bs) h = let (here, more) = and_parts (starts_name b) _ h in (starts_low b here, each_low continues_name continues_low bs more)

pub digits_low : (w : List ℕ) (n : ℕ) → digits_number w ≡ Some n → Lows w
digits_low w n h = go (are_digits w) refl h
  where
    go : (p : Bool) → are_digits w ≡ p → cond p (Some (value_of w)) None ≡ Some n → Lows w
    go true e h = each_low is_digit digit_low w (and_parts _ (list_all is_digit w) e).1
    go false e h = absurd (cc h)

pub passed : {X : Type 0} (p : X → Bool) (o : Option X) (x : X) → passing p o ≡ Some x → (y : X) × (o ≡ Some y)
passed p None x h = absurd (cc h)
passed p (Some y) x h = (y, refl)

pub mapped : {X Y : Type 0} (f : X → Y) (o : Option X) (y : Y) → option_map f o ≡ Some y → (x : X) × (o ≡ Some x)
mapped f None y h = absurd (cc h)
mapped f (Some x) y h = (x, refl)

signed_low : (w : List ℕ) (n : ℤ) → signed_number w ≡ Some n → Lows w
signed_low [] n h = tt
signed_low (b ∷ bs) n h = go (b == 45) refl h
  where
    go : (p : Bool) → (b == 45) ≡ p → cond p (option_map (λ k. neg_ℤ (pos k)) (digits_number bs)) (option_map pos (digits_number (b ∷ bs))) ≡ Some n → Lows (b ∷ bs)
    go true e h = let (k, is) = mapped _ (digits_number bs) n h in (same_low b 45 (omega arith) e, digits_low bs k is)
    go false e h = let (k, is) = mapped pos (digits_number (b ∷ bs)) n h in digits_low (b ∷ bs) k is

pub number_low : (w : List ℕ) (n : ℤ) → number_of w ≡ Some n → Lows w
number_low w n h = let (m, is) = passed in_range (signed_number w) n h in signed_low w m is

pub drive_low : (w : List ℕ) (n : ℕ) → drive_number w ≡ Some n → Lows w
drive_low [] n h = tt
drive_low (b ∷ bs) n h = go (b == 36) refl h
  where
    go : (p : Bool) → (b == 36) ≡ p → cond p (short_number bs) None ≡ Some n → Lows (b ∷ bs)
    go true e h = let (m, is) = passed is_short (digits_number bs) n h in (same_low b 36 (omega arith) e, digits_low bs m is)
    go false e h = absurd (cc h)

text_low : (b : ℕ) → stands_in_text b ≡ true → Low b
text_low b h = between_low 32 126 b (omega arith) (and_parts (between 32 126 b) (not (b == 39)) (and_parts (between 32 126 b && not (b == 39)) (not (b == 92)) h).0).0

closed_low : (w text : List ℕ) → closed_text w ≡ Some text → Lows w
closed_low [] text h = tt
closed_low (b ∷ []) text h = go (b == 39) refl h
  where
    go : (p : Bool) → (b == 39) ≡ p → cond p (Some []) None ≡ Some text → Lows (b ∷ [])
    go true e h = (same_low b 39 (omega arith) e, tt)
    go false e h = absurd (cc h)
closed_low (b ∷ c ∷ bs) text h = go (stands_in_text b) refl h (closed_low (c ∷ bs))
  where
    go : (p : Bool) → stands_in_text b ≡ p → cond p (option_map (λ t. b ∷ t) (closed_text (c ∷ bs))) None ≡ Some text → ((t : List ℕ) → closed_text (c ∷ bs) ≡ Some t → Lows (c ∷ bs)) → Lows (b ∷ c ∷ bs)
    go true e h more = let (t, is) = mapped (λ t. b ∷ t) (closed_text (c ∷ bs)) text h in (text_low b e, more t is)
    go false e h more = absurd (cc h)

pub quoted_low : (w text : List ℕ) → quoted_text w ≡ Some text → Lows w
quoted_low [] text h = tt
quoted_low (b ∷ bs) text h = go (b == 39) refl h
  where
    go : (p : Bool) → (b == 39) ≡ p → cond p (closed_text bs) None ≡ Some text → Lows (b ∷ bs)
    go true e h = (same_low b 39 (omega arith) e, closed_low bs text h)
    go false e h = absurd (cc h)

found : (p q : Keyword → Bool) (ks : List Keyword) (k : Keyword) → list_all q ks ≡ true → find p ks ≡ Some k → (p k ≡ true) × (q k ≡ true)
found p q [] k all h = absurd (cc h)
found p q (j ∷ ks) k all h = go (p j) refl h (found p q ks k (and_parts (q j) _ all).1)
  where
    go : (b : Bool) → p j ≡ b → cond b (Some j) (find p ks) ≡ Some k → (find p ks ≡ Some k → (p k ≡ true) × (q k ≡ true)) → (p k ≡ true) × (q k ≡ true)
    go true e h more = let same : j ≡ k = cc h in (ap p (sym same) ∙ e, ap q (sym same) ∙ (and_parts (q j) _ all).0)
    go false e h more = more h

all_low : list_all (λ k. list_all (λ b. nat_lt b 128) (keyword_text k)) all_keywords ≡ true
all_low = refl

pub key_low : (w : List ℕ) (k : Keyword) → keyword_of w ≡ Some k → Lows w
key_low w k h =
    let (is, low) = found (λ j. bytes_eq w (keyword_text j)) (λ j. list_all (λ b. nat_lt b 128) (keyword_text j)) all_keywords k all_low h in
    let same : w ≡ keyword_text k = (bytes_eq-Decides w (keyword_text k)).0 is in
    subst Lows (sym same) (each_low (λ b. nat_lt b 128) (λ b e. ltb-true b 128 e) (keyword_text k) low)

pub code_low : (w x : List ℕ) → code_name w ≡ Some x → Lows w
code_low [] x h = absurd (cc h)
code_low (b ∷ bs) x h = go ((b == 64) && is_name bs) refl h
  where
    go : (p : Bool) → ((b == 64) && is_name bs) ≡ p → cond p (Some bs) None ≡ Some x → Lows (b ∷ bs)
    go true e h =
        let (at, named) = and_parts (b == 64) (is_name bs) e in
        (same_low b 64 (omega arith) at, name_low bs (and_parts (is_spelled_as_name bs) _ named).0)
    go false e h = absurd (cc h)
