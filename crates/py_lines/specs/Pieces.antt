-- The pieces of texts and lines, as the functions that cut them promise each other.
use Rattle.std.specs.Prelude.{ℕ, suc, ◌<◌, List, [], ◌∷◌, length, Bool, true, false, not, ◌||◌, if◌then◌else◌, Option, MatchOption, ◌≡◌}
use Rattle.std.specs.Borrow.{Bor}
use Rattle.std.specs.List.{prefix_len}
use Rattle.py_lines.specs.declared.token.Token.{Token}
use Rattle.py_lines.specs.declared.token.Token.TheVariants as token
use Rattle.py_lines.specs.Tokens.{Lexeme, Open, Close, Equals, Word, is_blank, is_mark, is_quote, mark_of, tokens_of}

-- a byte that stands in a word
abbrev pub is_plain : ℕ → Bool
is_plain b = not (is_blank b || is_mark b)

-- a token of the program apart from where it stands
abbrev pub lexeme_of : Token → Lexeme
lexeme_of token.Open = Open
lexeme_of token.Close = Close
lexeme_of token.Equals = Equals
lexeme_of (token.Word w) = Word w.now

-- how long the rest of a quoted text is, with what is joined to its closing quote
abbrev pub quoted_len : List ℕ → ℕ
quoted_len [] = 0
quoted_len (b ∷ bs) = suc (if is_quote b then prefix_len is_plain bs else quoted_len bs)

-- how long a word is behind its first byte
abbrev pub word_size : ℕ → List ℕ → ℕ
word_size b bs = if is_quote b then quoted_len bs else prefix_len is_plain bs

-- the token that a byte is by itself, if it is one
abbrev pub IsMarkOf : ℕ → Option Token → Type 0
IsMarkOf b result = MatchOption result (is_mark b ≡ false) (λ token. (is_mark b ≡ true) × (lexeme_of token ≡ mark_of b))

-- the first token of a line, and the bytes after it, if there is one
abbrev pub IsFirstToken : List ℕ → Option (Token × Bor (List ℕ)) → Type 0
IsFirstToken bytes result =
    MatchOption result (tokens_of bytes ≡ []) (λ p. (tokens_of bytes ≡ lexeme_of p.0 ∷ tokens_of p.1.now) × (length p.1.now < length bytes))
