-- What the tokens of a line mean, whichever way they are spelled.
use Rattle.std.specs.Prelude.{ℕ, List, [], ◌∷◌, Bool, ◌&&◌, ◌==◌, Option, Some, None, is_none, bytes_eq, codes, option_map, ℤ, pos, if◌then◌else◌}
use Rattle.py_tree.specs.Tree.{Name}
use Rattle.py_lines.specs.declared.keyword.Keyword.{Keyword}
use Rattle.py_lines.specs.Tokens.{Lexeme}
use Rattle.py_lines.specs.Tokens as lexeme
use Rattle.py_lines.specs.Keywords.{keyword_of}
use Rattle.py_lines.specs.Parts.{Piece, parts_of}
use Rattle.py_lines.specs.Words.{is_spelled_as_name, number_of, quoted_text, drive_number}

-- a token as it is understood
pub data Meaning : Type 0 where
  Open : Meaning  -- (
  Close : Meaning  -- )
  Equals : Meaning  -- =
  Key : Keyword → Meaning  -- a word of the language
  Word : Name → Meaning  -- any other word that is spelled as a name is; operators are such words
  Number : ℤ → Meaning  -- a whole number
  Text : List ℕ → Meaning  -- the characters between two quotes
  Drive : ℕ → Meaning  -- the drive that $ and a number name
  Ref : Name → Meaning  -- the code that @ and a name name
  Beyond : ℕ → Meaning  -- a number of more bits than its place has, which no token means
  Dash : Meaning  -- -
  Parts : Option (List (List Piece)) → Meaning  -- any other word, by its pieces; none, where it is none that a line has

-- a number from 0 on where it passes a test, as it has to at its place
abbrev pub number_within : (ℕ → Bool) → ℕ → Meaning
number_within fits n = if fits n then Number (pos n) else Beyond n

-- a meaning where there is one, or else another
abbrev pub meant : Option Meaning → Meaning → Meaning
meant (Some m) other = m
meant None other = other

-- the code that a word names: @, then a name, which no keyword is
abbrev pub is_name : List ℕ → Bool
is_name w = is_spelled_as_name w && is_none (keyword_of w)

abbrev pub code_name : List ℕ → Option Name
code_name [] = None
code_name (b ∷ bs) = if (b == 64) && is_name bs then Some bs else None

-- what a word means that commas and dots join
abbrev pub joined_meaning : List ℕ → Meaning
joined_meaning w = if bytes_eq w (codes "-") then Dash else Parts (parts_of w)

-- what a word means that is no number either
abbrev pub other_meaning : List ℕ → Meaning
other_meaning w = meant (option_map Text (quoted_text w)) (meant (option_map Drive (drive_number w)) (meant (option_map Ref (code_name w)) (joined_meaning w)))

-- what a word means that is neither a keyword nor spelled as a name
abbrev pub literal_meaning : List ℕ → Meaning
literal_meaning w = meant (option_map Number (number_of w)) (other_meaning w)

abbrev pub word_meaning : List ℕ → Meaning
word_meaning w = meant (option_map Key (keyword_of w)) (if is_spelled_as_name w then Word w else literal_meaning w)

-- what a token means
abbrev pub meaning : Lexeme → Meaning
meaning lexeme.Open = Open
meaning lexeme.Close = Close
meaning lexeme.Equals = Equals
meaning (lexeme.Word w) = word_meaning w
