-- What holds of every line.
use Rattle.std.specs.Prelude.{◌≡◌, ◌≢◌, ℕ, List, Some}
use Rattle.std.specs.Str.{IsUtf8}
use Rattle.py_lines.specs.declared.keyword.Keyword.{Keyword}
use Rattle.py_lines.specs.Line.{Line, LineRead, Malformed}
use Rattle.py_lines.specs.Keywords.{keyword_of, keyword_text}
use Rattle.py_lines.specs.Printing.{line_tokens}
use Rattle.py_lines.specs.Reading.{IsReadAs}

-- each keyword is the one that its text is read as
abbrev pub ReadsKeywords : Type 0
ReadsKeywords = (k : Keyword) → keyword_of (keyword_text k) ≡ Some k

-- no two lines print the same tokens
abbrev pub PrintsOneLine : Type 0
PrintsOneLine = (l m : Line) → line_tokens l ≡ line_tokens m → l ≡ m

-- no bytes read in two ways
abbrev pub ReadsOneWay : Type 0
ReadsOneWay = (bytes : List ℕ) (r s : LineRead) → IsReadAs bytes r → IsReadAs bytes s → r ≡ s

-- all bytes read in one
abbrev pub ReadsSomeWay : Type 0
ReadsSomeWay = (bytes : List ℕ) → (r : LineRead) × IsReadAs bytes r

-- what reads well is UTF-8
abbrev pub ReadsText : Type 0
ReadsText = (bytes : List ℕ) (r : LineRead) → IsReadAs bytes r → r ≢ Malformed → IsUtf8 bytes
