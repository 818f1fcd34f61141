-- How the front of a line is cut into tokens.
use Rattle.std.proofs.Common.{◌≡◌, ◌<◌, ◌≤◌, ◌+◌, ℕ, suc, List, [], ◌∷◌, Bool, true, false, cond, refl, sym, ap, ◌∙◌, length, take, drop, arith, length-drop, one-add}
use Rattle.std.specs.List.{prefix_len}
use Rattle.std.proofs.lemmas.List.Sums.{prefix_len-le-length}
use Rattle.py_lines.specs.Tokens.{Word, is_blank, is_mark, is_quote, cut_from, Between, Quoted, Inside, cut, longer, started, tokens_of}
use Rattle.py_lines.specs.Pieces.{is_plain, quoted_len, word_size}

pub plain_within : (bs : List ℕ) → prefix_len is_plain bs ≤ length bs
plain_within bs = prefix_len-le-length is_plain bs

-- what each byte does to the cut, by its kind and place
plain_size : (b : ℕ) (bs : List ℕ) → is_blank b ≡ false → is_mark b ≡ false → prefix_len is_plain (b ∷ bs) ≡ suc (prefix_len is_plain bs)
plain_size b bs h k = rw (h, k) (one-add _)

inside_plain : (b : ℕ) (bs : List ℕ) → is_blank b ≡ false → is_mark b ≡ false → cut_from Inside (b ∷ bs) ≡ longer b (cut_from Inside bs)
inside_plain b bs h k = rw (h, k) refl

inside_mark : (b : ℕ) (bs : List ℕ) → is_blank b ≡ false → is_mark b ≡ true → cut_from Inside (b ∷ bs) ≡ cut_from Between (b ∷ bs)
inside_mark b bs h k = rw (h, k) refl

inside_blank : (b : ℕ) (bs : List ℕ) → is_blank b ≡ true → cut_from Inside (b ∷ bs) ≡ cut [] (cut_from Between (b ∷ bs)).behind
inside_blank b bs h = rw h refl

between_mark : (b : ℕ) (bs : List ℕ) → is_blank b ≡ false → is_mark b ≡ true → cut_from Between (b ∷ bs) ≡ cut [] (cut_from Between (b ∷ bs)).behind
between_mark b bs h k = rw (h, k) refl

between_quoted : (b : ℕ) (bs : List ℕ) → is_blank b ≡ false → is_mark b ≡ false → is_quote b ≡ true → cut_from Between (b ∷ bs) ≡ started b (cut_from Quoted bs)
between_quoted b bs h k q = rw (h, k, q) refl

between_word : (b : ℕ) (bs : List ℕ) → is_blank b ≡ false → is_mark b ≡ false → is_quote b ≡ false → cut_from Between (b ∷ bs) ≡ started b (cut_from Inside bs)
between_word b bs h k q = rw (h, k, q) refl

no_size : (b : ℕ) (bs : List ℕ) → is_plain b ≡ false → prefix_len is_plain (b ∷ bs) ≡ 0
no_size b bs h = rw h refl

-- the rest of a word ends at a blank or a mark
inside_cut : (bs : List ℕ) → cut_from Inside bs ≡ cut (take (prefix_len is_plain bs) bs) (tokens_of (drop (prefix_len is_plain bs) bs))
inside_cut [] = refl
inside_cut (b ∷ bs) = go (is_blank b) refl (is_mark b) refl (inside_cut bs)
  where
    go : (p : Bool) → is_blank b ≡ p → (q : Bool) → is_mark b ≡ q → cut_from Inside bs ≡ cut (take (prefix_len is_plain bs) bs) (tokens_of (drop (prefix_len is_plain bs) bs))
        → cut_from Inside (b ∷ bs) ≡ cut (take (prefix_len is_plain (b ∷ bs)) (b ∷ bs)) (tokens_of (drop (prefix_len is_plain (b ∷ bs)) (b ∷ bs)))
    go true h q k ih = inside_blank b bs h ∙ sym (ap (λ n. cut (take n (b ∷ bs)) (tokens_of (drop n (b ∷ bs)))) (no_size b bs (rw h refl)))
    go false h true k ih = inside_mark b bs h k ∙ between_mark b bs h k ∙ sym (ap (λ n. cut (take n (b ∷ bs)) (tokens_of (drop n (b ∷ bs)))) (no_size b bs (rw (h, k) refl)))
    go false h false k ih = inside_plain b bs h k ∙ ap (longer b) ih ∙ sym (ap (λ n. cut (take n (b ∷ bs)) (tokens_of (drop n (b ∷ bs)))) (plain_size b bs h k))

-- the rest of a quoted text ends at its quote and what is joined to it
quoted_cut : (bs : List ℕ) → cut_from Quoted bs ≡ cut (take (quoted_len bs) bs) (tokens_of (drop (quoted_len bs) bs))
quoted_cut [] = refl
quoted_cut (b ∷ bs) = go (is_quote b) refl (quoted_cut bs)
  where
    go : (p : Bool) → is_quote b ≡ p → cut_from Quoted bs ≡ cut (take (quoted_len bs) bs) (tokens_of (drop (quoted_len bs) bs))
        → cut_from Quoted (b ∷ bs) ≡ cut (take (quoted_len (b ∷ bs)) (b ∷ bs)) (tokens_of (drop (quoted_len (b ∷ bs)) (b ∷ bs)))
    go true h ih = rw h (ap (longer b) (inside_cut bs))
    go false h ih = rw h (ap (longer b) ih)

-- a word stands in front where the first byte is neither a blank nor a mark
word_front : (b : ℕ) (bs : List ℕ) → is_blank b ≡ false → is_mark b ≡ false → tokens_of (b ∷ bs) ≡ Word (b ∷ take (word_size b bs) bs) ∷ tokens_of (drop (word_size b bs) bs)
word_front b bs h k = go (is_quote b) refl
  where
    quoted_size : is_quote b ≡ true → word_size b bs ≡ quoted_len bs
    quoted_size q = ap (λ p. cond p (quoted_len bs) (prefix_len is_plain bs)) q

    plain_word_size : is_quote b ≡ false → word_size b bs ≡ prefix_len is_plain bs
    plain_word_size q = ap (λ p. cond p (quoted_len bs) (prefix_len is_plain bs)) q

    go : (p : Bool) → is_quote b ≡ p → tokens_of (b ∷ bs) ≡ Word (b ∷ take (word_size b bs) bs) ∷ tokens_of (drop (word_size b bs) bs)
    go true q = ap (λ c. c.behind) (between_quoted b bs h k q) ∙ ap (λ c. (started b c).behind) (quoted_cut bs) ∙ sym (ap (λ n. Word (b ∷ take n bs) ∷ tokens_of (drop n bs)) (quoted_size q))
    go false q = ap (λ c. c.behind) (between_word b bs h k q) ∙ ap (λ c. (started b c).behind) (inside_cut bs) ∙ sym (ap (λ n. Word (b ∷ take n bs) ∷ tokens_of (drop n bs)) (plain_word_size q))

pub not_blank : (b : ℕ) (bs : List ℕ) → prefix_len is_blank (b ∷ bs) ≡ 0 → is_blank b ≡ false
not_blank b bs h = go (is_blank b) h
  where
    go : (p : Bool) → cond p (1 + prefix_len is_blank bs) 0 ≡ 0 → p ≡ false
    go true k = absurd (omega (arith, k))
    go false k = refl

-- the same for what the program has cut off
pub word_cut : (bytes rest more word back : List ℕ) (b n m : ℕ) → rest ≡ b ∷ more → tokens_of rest ≡ tokens_of bytes → length rest ≤ length bytes → prefix_len is_blank rest ≡ 0 → is_mark b ≡ false
    → n ≡ word_size b more → m ≡ suc n → word ≡ take m rest → back ≡ drop m rest
    → (tokens_of bytes ≡ Word word ∷ tokens_of back) × (length back < length bytes)
word_cut bytes rest more word back b n m e same short front mark size one w d =
    let f : word ≡ b ∷ take n more = w ∙ ap (λ k. take k rest) one ∙ ap (take (suc n)) e in
    let g : back ≡ drop n more = d ∙ ap (λ k. drop k rest) one ∙ ap (drop (suc n)) e in (
      sym same ∙ ap tokens_of e ∙ word_front b more (not_blank b more (ap (prefix_len is_blank) (sym e) ∙ front)) mark ∙ ap (λ k. Word (b ∷ take k more) ∷ tokens_of (drop k more)) (sym size)
          ∙ ap (λ x. Word x ∷ tokens_of (drop n more)) (sym f) ∙ ap (λ x. Word word ∷ tokens_of x) (sym g),
      omega (arith, ap length e, ap length g, length-drop n more, short),
    )
