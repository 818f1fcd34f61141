-- The pieces of a text, as the functions that cut it into lines promise each other.
use Rattle.std.specs.Prelude.{ℕ, ◌<◌, List, [], ◌∷◌, length, Bool, not, if◌then◌else◌, ◌==◌, Option, MatchOption, ◌≡◌}
use Rattle.std.specs.Borrow.{Bor}
use Rattle.py_grammar.specs.Lines.{lines}

-- whether a byte stands before the LF of its line
abbrev pub is_within : ℕ → Bool
is_within b = not (b == 10)

-- a line without a CR at its end
abbrev pub without_cr : List ℕ → List ℕ
without_cr [] = []
without_cr (b ∷ []) = if b == 13 then [] else b ∷ []
without_cr (b ∷ c ∷ bs) = b ∷ without_cr (c ∷ bs)

-- the first line, and the bytes after it, if there is one
abbrev pub IsFirstLine : List ℕ → Option (Bor (List ℕ) × Bor (List ℕ)) → Type 0
IsFirstLine bytes result =
    MatchOption result (lines bytes ≡ []) (λ p. (lines bytes ≡ p.0.now ∷ lines p.1.now) × (length p.1.now < length bytes))
