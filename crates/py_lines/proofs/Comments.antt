-- Comments, and whether they are text.
use Rattle.std.proofs.Common.{◌≡◌, ℕ, List, ◌∷◌, arith, sym, ap, ◌∙◌, Ok, Err, Bor}
use Rattle.std.specs.Prelude.{◌==◌, Result, cond, is_ok}
use Rattle.std.specs.List.{prefix_len}
use Rattle.std.specs.Result.{MatchResult}
use Rattle.std.specs.Str.{IsUtf8, IsValidUpTo, valid_up_to}
use Rattle.std.specs.declared.str.Utf8Error.{Utf8Error}
use Rattle.std.proofs.lemmas.Bool.{eq-eqb, ne_eqb}
use Rattle.std.proofs.lemmas.Str.{utf8_valid_len-IsUtf8, utf8_valid_len-IsValidUpTo}
use Rattle.py_lines.specs.Tokens.{is_blank}
use Rattle.py_lines.specs.Comments.{is_comment, is_utf8}
use Rattle.py_lines.proofs.Lexing.{not_blank}

-- the library's reading of some bytes as text
pub utf8_read : (bs : List ℕ) (r : Result (Bor (List ℕ)) Utf8Error)
    → MatchResult r (λ s. (s.now ≡ bs) × IsUtf8 bs) (λ e. ¬ (IsUtf8 bs) × IsValidUpTo bs (valid_up_to e)) → is_ok r ≡ is_utf8 bs
utf8_read bs (Ok s) h = sym (eq-eqb _ _ (utf8_valid_len-IsUtf8 bs h.1))
utf8_read bs (Err e) h = sym (ne_eqb _ _ (λ whole. omega (arith, whole, utf8_valid_len-IsValidUpTo bs _ h.1, h.1.short)))

-- the first byte behind the blanks of a line
pub comment_first : (line rest more : List ℕ) (b : ℕ) → is_comment rest ≡ is_comment line → prefix_len is_blank rest ≡ 0 → rest ≡ b ∷ more → (b == 35) ≡ is_comment line
comment_first line rest more b same front e =
    let first = not_blank b more (ap (prefix_len is_blank) (sym e) ∙ front) in
    sym (ap (λ p. cond p (is_comment more) (b == 35)) first) ∙ (ap is_comment (sym e) ∙ same)
