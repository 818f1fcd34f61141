-- How lines read, by their tokens.
use Rattle.std.proofs.Common.{◌≡◌, ◌≢◌, ℕ, List, [], ◌∷◌, Bool, true, false, cond, refl, sym, ap, ◌∙◌, map, length, nat_le, subst}
use Rattle.std.specs.Prelude.{◌==◌, ◌&&◌, Some, None, option_map, if◌then◌else◌, pos}
use Rattle.std.proofs.lemmas.Bool.{eqb-true}
use Rattle.py_code.specs.Range.{in_range}
use Rattle.py_lines.specs.Line.{Line, LineRead, Blank, Said, Malformed}
use Rattle.py_lines.specs.Comments.{is_comment, is_utf8}
use Rattle.py_lines.specs.Meaning.{Parts, word_meaning, meaning}
use Rattle.py_lines.specs.Parts.{parts_of}
use Rattle.py_lines.specs.Printing.{line_tokens}
use Rattle.py_lines.specs.Reading.{meanings, are_none, says_nothing, IsReadAs, LineIsLow}
use Rattle.py_lines.specs.Tokens.{Lexeme, is_blank, cut_from, Between, Inside, tokens_of}
use Rattle.py_lines.specs.Words.{number_of, passing}
use Rattle.py_lines.proofs.Classes.{no_class, tokens_class}
use Rattle.py_lines.proofs.Finders.{Finds, Found, Missing}
use Rattle.py_lines.proofs.OneToOne.{same_line}
use Rattle.py_lines.proofs.Totals.{find_line}

-- what begins with # is no number
no_digits : (p : Bool) (n : ℕ) → passing in_range (option_map pos (if p && false then Some n else None)) ≡ None
no_digits true n = refl
no_digits false n = refl

no_number : (w : List ℕ) → number_of (35 ∷ w) ≡ None
no_number w = no_digits (nat_le 1 (length (35 ∷ w))) _

-- a word that begins with # is none that begins a line
no_meaning : (w : List ℕ) → word_meaning (35 ∷ w) ≡ Parts (parts_of (35 ∷ w))
no_meaning w = rw (no_number w) refl

-- nor is the first token of a comment
comment_unknown : (bytes : List ℕ) → is_comment bytes ≡ true → tokens_class (meanings bytes) ≡ None
comment_unknown [] e = refl
comment_unknown (b ∷ bs) e = go (is_blank b) refl (comment_unknown bs)
  where
    hash : is_blank b ≡ false → b ≡ 35
    hash blank = eqb-true b 35 (sym (ap (λ p. cond p (is_comment bs) (b == 35)) blank) ∙ e)

    skipped : is_blank b ≡ true → cut_from Between (b ∷ bs) ≡ cut_from Between bs
    skipped blank = rw blank refl

    here : b ≡ 35 → tokens_class (meanings (b ∷ bs)) ≡ None
    here h = subst (λ (x : ℕ). tokens_class (meanings (x ∷ bs)) ≡ None) (sym h) (ap (λ m. tokens_class (m ∷ map meaning (cut_from Inside bs).behind)) (no_meaning (cut_from Inside bs).word))

    go : (p : Bool) → is_blank b ≡ p → (is_comment bs ≡ true → tokens_class (meanings bs) ≡ None) → tokens_class (meanings (b ∷ bs)) ≡ None
    go true blank rest = ap (λ c. tokens_class (map meaning c.behind)) (skipped blank) ∙ rest (sym (ap (λ p. cond p (is_comment bs) (b == 35)) blank) ∙ e)
    go false blank rest = here (hash blank)

-- so no line has the tokens of a comment
pub no_comment : (bytes : List ℕ) → is_comment bytes ≡ true → (l : Line) → meanings bytes ≢ line_tokens l
no_comment bytes e = no_class (meanings bytes) (comment_unknown bytes e)

-- a comment that is no UTF-8
pub bad_comment : (bytes : List ℕ) → is_comment bytes ≡ true → false ≡ is_utf8 bytes → IsReadAs bytes Malformed
bad_comment bytes e bad = (rw e (sym bad), λ l low. no_comment bytes e l)

-- a line that says nothing has the tokens of no line
blank_says_none : (bytes : List ℕ) → says_nothing bytes ≡ true → (l : Line) → meanings bytes ≢ line_tokens l
blank_says_none bytes e l same = go (is_comment bytes) refl
  where
    none_left : (ts : List Lexeme) → are_none ts ≡ true → map meaning ts ≢ line_tokens l
    none_left [] h k = no_class [] refl l k
    none_left (t ∷ ts) h k = cc

    go : (p : Bool) → is_comment bytes ≡ p → ⊥
    go true comment = no_comment bytes comment l same
    go false plain = none_left (tokens_of bytes) (sym (ap (λ p. cond p (is_utf8 bytes) (are_none (tokens_of bytes))) plain) ∙ e) same

-- no bytes read in two ways
pub one_way : (bytes : List ℕ) (r s : LineRead) → IsReadAs bytes r → IsReadAs bytes s → r ≡ s
one_way bytes Blank Blank h k = refl
one_way bytes Blank (Said m) h k = absurd (blank_says_none bytes h m k.0)
one_way bytes Blank Malformed h k = let e : true ≡ false = sym h ∙ k.0 in cc e
one_way bytes (Said l) Blank h k = absurd (blank_says_none bytes k l h.0)
one_way bytes (Said l) (Said m) h k = ap Said (same_line l m (sym h.0 ∙ k.0))
one_way bytes (Said l) Malformed h k = absurd (k.1 l h.1 h.0)
one_way bytes Malformed Blank h k = let e : true ≡ false = sym k ∙ h.0 in cc e
one_way bytes Malformed (Said m) h k = absurd (h.1 m k.1 k.0)
one_way bytes Malformed Malformed h k = refl

-- all bytes read in some way
pub some_way : (bytes : List ℕ) → (r : LineRead) × IsReadAs bytes r
some_way bytes = go (says_nothing bytes) refl (find_line (meanings bytes))
  where
    go : (p : Bool) → says_nothing bytes ≡ p → Finds (λ (z : (l : Line) × LineIsLow l). line_tokens z.0) (meanings bytes) → (r : LineRead) × IsReadAs bytes r
    go true nothing found = (Blank, nothing)
    go false something (Found z e) = (Said z.0, (e, z.1))
    go false something (Missing none) = (Malformed, (something, λ l low. none (l, low)))
