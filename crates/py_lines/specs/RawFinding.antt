-- What readers of raw codes find, as they promise each other.
use Rattle.std.specs.Prelude.{◌≡◌, ◌≢◌, ◌≤◌, ℕ, List, [], ◌∷◌, drop, length, map, Option, MatchOption}
use Rattle.py_check.specs.declared.note.BlockNote.{BlockNote}
use Rattle.py_tree.specs.Tree.{Name}
use Rattle.py_lines.specs.declared.piece.Piece.{Piece as OwnPiece}
use Rattle.py_lines.specs.declared.unit.RawNote.{RawNote}
use Rattle.py_lines.specs.Finding.{Prints}
use Rattle.py_lines.specs.Meaning.{Meaning}
use Rattle.py_lines.specs.Parts.{Letters, Count}
use Rattle.py_lines.specs.RawLines.{block_pieces, note_tokens}
use Rattle.py_lines.specs.Senses.{piece_view}

-- no such thing stands in front of others
abbrev pub NoneBefore : {X : Type 0} → (X → List Meaning → List Meaning) → List Meaning → Type 0
NoneBefore {X = X} printing ts = (x : X) (rest : List Meaning) → ts ≢ printing x rest

-- this does, and is so many tokens
abbrev pub IsBefore : {X : Type 0} → (X → List Meaning → List Meaning) → List Meaning → X → ℕ → Type 0
IsBefore printing ts x n = (ts ≡ printing x (drop n ts)) × (1 ≤ n) × (n ≤ length ts)

-- what stands in front, and how many tokens it is
abbrev pub FindsBefore : {X : Type 0} → (X → List Meaning → List Meaning) → List Meaning → Option (X × ℕ) → Type 0
FindsBefore printing ts found = MatchOption found (NoneBefore printing ts) (λ p. IsBefore printing ts p.0 p.1)

-- what the token in front is
abbrev pub FindsFirst : {X : Type 0} → (X → Meaning) → List Meaning → Option X → Type 0
FindsFirst {X = X} printing ts found = MatchOption found (NoneBefore (λ x rest. printing x ∷ rest) ts) (λ x. ts ≡ printing x ∷ drop 1 ts)

-- the block that a word and its level name with the pieces behind them, if any
abbrev pub ReadsBlock : Name → ℕ → List OwnPiece → Option BlockNote → Type 0
ReadsBlock w level rest found = Prints block_pieces (Letters w ∷ Count level ∷ map piece_view rest) found

-- the note that two tokens are, if any
abbrev pub ReadsLive : Meaning → Meaning → Option RawNote → Type 0
ReadsLive kinds blocks found = Prints note_tokens (kinds ∷ blocks ∷ []) found
