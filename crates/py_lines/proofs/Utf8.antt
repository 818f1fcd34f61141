-- Lines that are read are UTF-8: all but comments are ASCII.
use Rattle.std.proofs.Common.{◌≡◌, ℕ, zero, suc, List, [], ◌∷◌, Bool, true, false, cond, Some, None, refl, sym, ap, ◌∙◌, subst, length, take, take_all, arith}
use Rattle.std.specs.Prelude.{◌==◌, ◌||◌, Option, bytes_eq, codes, option_map, map, ℤ}
use Rattle.std.specs.List.{list_all}
use Rattle.std.specs.Str.{IsUtf8, is_utf8 as is_text}
use Rattle.std.specs.Str.Lossy.{utf8_valid_len, valid_len_up_to}
use Rattle.std.proofs.lemmas.Bool.{and_parts, eqb-true}
use Rattle.std.proofs.lemmas.Slice.Eq.{bytes_eq-Decides}
use Rattle.std.proofs.lemmas.Str.{IsUtf8-from_ascii, IsUtf8-from_is_utf8}
use Rattle.py_lines.specs.declared.keyword.Keyword.{Keyword}
use Rattle.py_lines.specs.Line.{LineRead, Blank, Said, Malformed}
use Rattle.py_lines.specs.Comments.{is_comment, is_utf8}
use Rattle.py_lines.specs.Keywords.{keyword_of}
use Rattle.py_lines.specs.Meaning.{Meaning, Key, Number, Text, Drive, Ref, Dash, Parts, Word as Named, code_name, joined_meaning, other_meaning, literal_meaning, word_meaning, meaning, meant}
use Rattle.py_lines.specs.Parts.{Piece, parts_of}
use Rattle.py_lines.specs.Reading.{IsReadAs, are_none}
use Rattle.py_lines.specs.Tokens.{Lexeme, Word, Open, Close, Equals, is_blank, is_mark, is_quote, mark_of, cut_from, Between, Quoted, Inside, tokens_of, word_end, started, longer}
use Rattle.py_lines.specs.Words.{drive_number, is_spelled_as_name, number_of, quoted_text}
use Rattle.py_lines.proofs.Ascii.{Low, Lows, lows_ascii, either_low, same_low, name_low, number_low, drive_low, quoted_low, key_low, code_low}
use Rattle.py_lines.proofs.Known.{is_known, line_known}
use Rattle.py_lines.proofs.PartsAscii.{parts_low}

-- ---- words that mean something

joined_low : (w : List ℕ) → is_known (joined_meaning w) ≡ true → Lows w
joined_low w h = dash (bytes_eq w (codes "-")) refl h
  where
    parts : (o : Option (List (List Piece))) → parts_of w ≡ o → is_known (Parts o) ≡ true → Lows w
    parts None e h = absurd (cc h)
    parts (Some ps) e h = parts_low w ps e

    dash : (p : Bool) → bytes_eq w (codes "-") ≡ p → is_known (cond p Dash (Parts (parts_of w))) ≡ true → Lows w
    dash true e h = let same : w ≡ codes "-" = (bytes_eq-Decides w (codes "-")).0 e in subst Lows (sym same) (omega arith, tt)
    dash false e h = parts (parts_of w) refl h

abbrev behind_drive : List ℕ → Meaning
behind_drive w = meant (option_map Ref (code_name w)) (joined_meaning w)

abbrev behind_text : List ℕ → Meaning
behind_text w = meant (option_map Drive (drive_number w)) (behind_drive w)

literal_low : (w : List ℕ) → is_known (literal_meaning w) ≡ true → Lows w
literal_low w h = number (number_of w) refl h
  where
    code : (o : Option (List ℕ)) → code_name w ≡ o → is_known (meant (option_map Ref o) (joined_meaning w)) ≡ true → Lows w
    code None e h = joined_low w h
    code (Some x) e h = code_low w x e

    last : (o : Option ℕ) → drive_number w ≡ o → is_known (meant (option_map Drive o) (behind_drive w)) ≡ true → Lows w
    last None e h = code (code_name w) refl h
    last (Some n) e h = drive_low w n e

    text : (o : Option (List ℕ)) → quoted_text w ≡ o → is_known (meant (option_map Text o) (behind_text w)) ≡ true → Lows w
    text None e h = last (drive_number w) refl h
    text (Some t) e h = quoted_low w t e

    number : (o : Option ℤ) → number_of w ≡ o → is_known (meant (option_map Number o) (other_meaning w)) ≡ true → Lows w
    number None e h = text (quoted_text w) refl h
    number (Some n) e h = number_low w n e

word_low : (w : List ℕ) → is_known (word_meaning w) ≡ true → Lows w
word_low w h = key (keyword_of w) refl h
  where
    named : (p : Bool) → is_spelled_as_name w ≡ p → is_known (cond p (Named w) (literal_meaning w)) ≡ true → Lows w
    named true e h = name_low w e
    named false e h = literal_low w h

    key : (o : Option Keyword) → keyword_of w ≡ o → is_known (meant (option_map Key o) (cond (is_spelled_as_name w) (Named w) (literal_meaning w))) ≡ true → Lows w
    key None e h = named (is_spelled_as_name w) refl h
    key (Some k) e h = key_low w k e

-- ---- lines of such words

abbrev LexemeLow : Lexeme → Type 0
LexemeLow (Word w) = Lows w
LexemeLow _ = Unit {0}

abbrev LexemesLow : List Lexeme → Type 0
LexemesLow [] = Unit {0}
LexemesLow (t ∷ ts) = LexemeLow t × LexemesLow ts

lexeme_low : (t : Lexeme) → is_known (meaning t) ≡ true → LexemeLow t
lexeme_low Open h = tt
lexeme_low Close h = tt
lexeme_low Equals h = tt
lexeme_low (Word w) h = word_low w h

lexemes_low : (ts : List Lexeme) → list_all is_known (map meaning ts) ≡ true → LexemesLow ts
lexemes_low [] h = tt
lexemes_low (t ∷ ts) h = let (here, more) = and_parts (is_known (meaning t)) _ h in (lexeme_low t here, lexemes_low ts more)

blank_low : (b : ℕ) → is_blank b ≡ true → Low b
blank_low b h = either_low (b == 32) (b == 9) b (same_low b 32 (omega arith)) (same_low b 9 (omega arith)) h

mark_low : (b : ℕ) → is_mark b ≡ true → Low b
mark_low b h =
    either_low ((b == 40) || (b == 41)) (b == 61) b (λ k. either_low (b == 40) (b == 41) b (same_low b 40 (omega arith)) (same_low b 41 (omega arith)) k) (same_low b 61 (omega arith)) h

-- one byte in front of others, by where it stands and what it is
at_between : (b : ℕ) (bs : List ℕ) (x y z : Bool) → is_blank b ≡ x → is_mark b ≡ y
    → LexemesLow (cond x (cut_from Between bs) (cond y (word_end (mark_of b ∷ (cut_from Between bs).behind)) (cond z (started b (cut_from Quoted bs)) (started b (cut_from Inside bs))))).behind
    → (LexemesLow (cut_from Between bs).behind → Lows bs) → (Lows (cut_from Inside bs).word → LexemesLow (cut_from Inside bs).behind → Lows bs)
    → (Lows (cut_from Quoted bs).word → LexemesLow (cut_from Quoted bs).behind → Lows bs) → Lows (b ∷ bs)
at_between b bs true y z is_x is_y low f g h = (blank_low b is_x, f low)
at_between b bs false true z is_x is_y low f g h = (mark_low b is_y, f low.1)
at_between b bs false false true is_x is_y low f g h = (low.0.0, h low.0.1 low.1)
at_between b bs false false false is_x is_y low f g h = (low.0.0, g low.0.1 low.1)

at_inside : (b : ℕ) (bs : List ℕ) (x y : Bool) → is_blank b ≡ x → is_mark b ≡ y
    → Lows (cond x (word_end (cut_from Between bs).behind) (cond y (word_end (mark_of b ∷ (cut_from Between bs).behind)) (longer b (cut_from Inside bs)))).word
    → LexemesLow (cond x (word_end (cut_from Between bs).behind) (cond y (word_end (mark_of b ∷ (cut_from Between bs).behind)) (longer b (cut_from Inside bs)))).behind
    → (LexemesLow (cut_from Between bs).behind → Lows bs) → (Lows (cut_from Inside bs).word → LexemesLow (cut_from Inside bs).behind → Lows bs) → Lows (b ∷ bs)
at_inside b bs true y is_x is_y word low f g = (blank_low b is_x, f low)
at_inside b bs false true is_x is_y word low f g = (mark_low b is_y, f low.1)
at_inside b bs false false is_x is_y word low f g = (word.0, g word.1 low)

at_quoted : (b : ℕ) (bs : List ℕ) (x : Bool) → Lows (cond x (longer b (cut_from Inside bs)) (longer b (cut_from Quoted bs))).word
    → LexemesLow (cond x (longer b (cut_from Inside bs)) (longer b (cut_from Quoted bs))).behind → (Lows (cut_from Inside bs).word → LexemesLow (cut_from Inside bs).behind → Lows bs)
    → (Lows (cut_from Quoted bs).word → LexemesLow (cut_from Quoted bs).behind → Lows bs) → Lows (b ∷ bs)
at_quoted b bs true word low f g = (word.0, f word.1 low)
at_quoted b bs false word low f g = (word.0, g word.1 low)

mutual
  between_lows : (bs : List ℕ) → LexemesLow (cut_from Between bs).behind → Lows bs
  between_lows [] low = tt
  between_lows (b ∷ bs) low = at_between b bs (is_blank b) (is_mark b) (is_quote b) refl refl low (between_lows bs) (inside_lows bs) (quoted_lows bs)

  inside_lows : (bs : List ℕ) → Lows (cut_from Inside bs).word → LexemesLow (cut_from Inside bs).behind → Lows bs
  inside_lows [] word low = tt
  inside_lows (b ∷ bs) word low = at_inside b bs (is_blank b) (is_mark b) refl refl word low (between_lows bs) (inside_lows bs)

  quoted_lows : (bs : List ℕ) → Lows (cut_from Quoted bs).word → LexemesLow (cut_from Quoted bs).behind → Lows bs
  quoted_lows [] word low = tt
  quoted_lows (b ∷ bs) word low = at_quoted b bs (is_quote b) word low (inside_lows bs) (quoted_lows bs)

-- ---- lines

-- a front as long as the longest that is UTF-8 is so
valid_front : (bs : List ℕ) (n : ℕ) → IsUtf8 (take (valid_len_up_to bs n) bs)
valid_front bs zero = IsUtf8-from_ascii [] (lows_ascii [] tt)
valid_front bs (suc n) = go (is_text (take (suc n) bs)) refl (valid_front bs n)
  where
    go : (p : Bool) → is_text (take (suc n) bs) ≡ p → IsUtf8 (take (valid_len_up_to bs n) bs) → IsUtf8 (take (cond p (suc n) (valid_len_up_to bs n)) bs)
    go true e more = IsUtf8-from_is_utf8 (take (suc n) bs) e
    go false e more = more

-- what passes the test is
tested : (bs : List ℕ) → is_utf8 bs ≡ true → IsUtf8 bs
unfolding utf8_valid_len
tested bs h = let whole : utf8_valid_len bs ≡ length bs = eqb-true _ _ h in subst IsUtf8 (ap (λ n. take n bs) whole ∙ take_all (length bs) bs (omega arith)) (valid_front bs (length bs))

-- each line that is read is UTF-8
pub line_is_utf8 : (bytes : List ℕ) (read : LineRead) → IsReadAs bytes read → (read ≡ Malformed → ⊥) → IsUtf8 bytes
line_is_utf8 bytes Malformed is good = absurd (good refl)
line_is_utf8 bytes (Said l) is good = IsUtf8-from_ascii bytes (lows_ascii bytes (between_lows bytes (lexemes_low (tokens_of bytes) (ap (list_all is_known) is.0 ∙ line_known l))))
line_is_utf8 bytes Blank is good = go (is_comment bytes) is
  where
    empty : (ts : List Lexeme) → are_none ts ≡ true → LexemesLow ts
    empty [] h = tt
    empty (t ∷ ts) h = absurd (cc h)

    go : (p : Bool) → cond p (is_utf8 bytes) (are_none (tokens_of bytes)) ≡ true → IsUtf8 bytes
    go true h = tested bytes h
    go false h = IsUtf8-from_ascii bytes (lows_ascii bytes (between_lows bytes (empty (tokens_of bytes) h)))
