-- The tokens of a line.
use Rattle.std.specs.Prelude.{ℕ, List, [], ◌∷◌, Bool, ◌||◌, if◌then◌else◌, ◌==◌}

-- a token apart from where it stands; a word in quotes keeps its quotes
pub data Lexeme : Type 0 where
  Open : Lexeme
  Close : Lexeme
  Equals : Lexeme
  Word : (bytes : List ℕ) → Lexeme

-- a space or a tab
abbrev pub is_blank : ℕ → Bool
is_blank b = (b == 32) || (b == 9)

-- a byte that is a token by itself: ( ) =
abbrev pub is_mark : ℕ → Bool
is_mark b = (b == 40) || (b == 41) || (b == 61)

-- a single quote
abbrev pub is_quote : ℕ → Bool
is_quote b = b == 39

-- the token that a mark is
abbrev pub mark_of : ℕ → Lexeme
mark_of b = if b == 40 then Open else if b == 41 then Close else Equals

-- where a byte stands: between tokens, in a text up to its closing quote, or in the rest of a word
pub data Place : Type 0 where
  Between Quoted Inside : Place

-- the rest of the word that is open, and the tokens behind it
pub record Cut : Type 0 where
  pub word : List ℕ
  pub behind : List Lexeme

abbrev pub cut : List ℕ → List Lexeme → Cut
cut w ts = record { word = w; behind = ts }

-- the open word ends here
abbrev pub word_end : List Lexeme → Cut
word_end ts = cut [] ts

-- one more byte of the open word
abbrev pub longer : ℕ → Cut → Cut
longer b c = cut (b ∷ c.word) c.behind

-- the first byte of a word
abbrev pub started : ℕ → Cut → Cut
started b c = cut [] (Word (b ∷ c.word) ∷ c.behind)

-- how the bytes are cut, of which the first stands at this place
abbrev pub cut_from : Place → List ℕ → Cut
cut_from p [] = word_end []
cut_from Between (b ∷ bs) =
    if is_blank b then cut_from Between bs
    else if is_mark b then word_end (mark_of b ∷ (cut_from Between bs).behind)
    else if is_quote b then started b (cut_from Quoted bs)
    else started b (cut_from Inside bs)
cut_from Inside (b ∷ bs) =
    if is_blank b then word_end ((cut_from Between bs).behind)
    else if is_mark b then word_end (mark_of b ∷ (cut_from Between bs).behind)
    else longer b (cut_from Inside bs)
cut_from Quoted (b ∷ bs) = if is_quote b then longer b (cut_from Inside bs) else longer b (cut_from Quoted bs)

-- the tokens of a line: blanks part them, ( ) and = need none, and blanks within quotes part nothing
abbrev pub tokens_of : List ℕ → List Lexeme
tokens_of bs = (cut_from Between bs).behind
