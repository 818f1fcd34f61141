-- The lines of a text.
use Rattle.std.specs.Prelude.{ℕ, List, [], ◌∷◌, ◌==◌, ◌&&◌, Bool, false, if◌then◌else◌}

-- a byte at the front of the first line
abbrev pub in_first : ℕ → List (List ℕ) → List (List ℕ)
in_first b [] = (b ∷ []) ∷ []
in_first b (l ∷ ls) = (b ∷ l) ∷ ls

-- whether an LF comes next
abbrev pub at_lf : List ℕ → Bool
at_lf [] = false
at_lf (b ∷ bs) = b == 10

-- the lines, each without its LF and without one CR before that; a last line counts if it isn't empty
abbrev pub lines : List ℕ → List (List ℕ)
lines [] = []
lines (b ∷ bs) = if b == 10 then [] ∷ lines bs else if at_lf bs && b == 13 then lines bs else in_first b (lines bs)
