-- What a line of bytes says.
use Rattle.std.specs.Prelude.{◌≡◌, ◌≢◌, ◌≤◌, ℕ, List, [], ◌∷◌, Bool, true, false, if◌then◌else◌, map}
use Rattle.py_tree.specs.Tree.{Expr, Operate}
use Rattle.py_tree.specs.Compilable.{deep}
use Rattle.py_lines.specs.Statements.{Plain, Head}
use Rattle.py_lines.specs.Statements as said
use Rattle.py_lines.specs.Line.{Line, LineRead, Blank, Said, Malformed}
use Rattle.py_lines.specs.Line as line
use Rattle.py_lines.specs.Comments.{is_comment, is_utf8}
use Rattle.py_lines.specs.Meaning.{Meaning, meaning}
use Rattle.py_lines.specs.Printing.{line_tokens}
use Rattle.py_lines.specs.Tokens.{Lexeme, tokens_of}

-- what the tokens of a line mean
abbrev pub meanings : List ℕ → List Meaning
meanings bytes = map meaning (tokens_of bytes)

abbrev pub are_none : List Lexeme → Bool
are_none [] = true
are_none (t ∷ ts) = false

-- whether a line says nothing: it has no tokens, or is a comment, in whatever characters
abbrev pub says_nothing : List ℕ → Bool
says_nothing bytes = if is_comment bytes then is_utf8 bytes else are_none (tokens_of bytes)

-- at most 64 operators stand inside of one another in each expression of a line
abbrev pub ExprIsLow : Expr → Type 0
ExprIsLow e = deep e ≤ 64

abbrev pub PlainIsLow : Plain → Type 0
PlainIsLow (said.Assign x e) = ExprIsLow e
PlainIsLow (said.Do o es) = ExprIsLow (Operate o es)
PlainIsLow (said.Show e) = ExprIsLow e
PlainIsLow (said.Return e) = ExprIsLow e
PlainIsLow (said.Raise e) = ExprIsLow e
PlainIsLow p = Unit {0}

abbrev pub HeadIsLow : Head → Type 0
HeadIsLow (said.If e) = ExprIsLow e
HeadIsLow (said.While e) = ExprIsLow e
HeadIsLow said.Try = Unit {0}
HeadIsLow (said.With e x) = ExprIsLow e

abbrev pub LineIsLow : Line → Type 0
LineIsLow (line.Plain p) = PlainIsLow p
LineIsLow (line.Opens h) = HeadIsLow h
LineIsLow l = Unit {0}

-- how a line of bytes reads; it says a line whose tokens are those that its own mean
abbrev pub IsReadAs : List ℕ → LineRead → Type 0
IsReadAs bytes Blank = says_nothing bytes ≡ true
IsReadAs bytes (Said l) = (meanings bytes ≡ line_tokens l) × LineIsLow l
IsReadAs bytes Malformed = (says_nothing bytes ≡ false) × ((l : Line) → LineIsLow l → meanings bytes ≢ line_tokens l)
