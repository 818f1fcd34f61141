-- How words are cut into pieces, as the functions that cut them promise each other.
use Rattle.std.specs.Prelude.{◌≡◌, ◌<◌, ◌==◌, ℕ, List, [], ◌∷◌, Bool, not, map, length, Option, MatchOption, option_map}
use Rattle.std.specs.Borrow.{Bor}
use Rattle.std.specs.Global.{Vec}
use Rattle.py_lines.specs.declared.piece.Piece.{Piece as OwnPiece}
use Rattle.py_lines.specs.Parts.{Piece, cut_at, each}
use Rattle.py_lines.specs.Senses.{pieces_view}

-- a byte that is not this one
abbrev pub is_other : ℕ → ℕ → Bool
is_other mark b = not (b == mark)

-- words apart from where their bytes stand
abbrev pub words_view : List (Bor (List ℕ)) → List (List ℕ)
words_view ws = map (λ (w : Bor (List ℕ)). w.now) ws

-- lists of pieces, likewise
abbrev pub parts_view : Vec (Vec OwnPiece) → List (List Piece)
parts_view ps = map pieces_view ps.items

-- a word is cut at the first such byte, or has none
abbrev pub CutsOnce : ℕ → List ℕ → Option (Bor (List ℕ) × Bor (List ℕ)) → Type 0
CutsOnce mark w result =
    MatchOption result (cut_at mark w ≡ w ∷ []) (λ p. (cut_at mark w ≡ p.0.now ∷ cut_at mark p.1.now) × (length p.1.now < length w))

-- what each of some words means, where each means something
abbrev pub ReadsEach : {X Y : Type 0} → (Y → List X) → (List ℕ → Option X) → List (Bor (List ℕ)) → Option Y → Type 0
ReadsEach view f words found = option_map view found ≡ each f (words_view words)
