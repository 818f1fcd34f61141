-- Codes by what later ones ask of them.
use Rattle.std.specs.Prelude.{ℕ, [], ◌∷◌, ◌++◌}
use Rattle.py_tree.specs.Tree.{Name}
use Rattle.py_raw.specs.declared.earlier.Earlier.{Earlier}

abbrev pub no_codes : Earlier
no_codes = record { names = []; shapes = [] }

-- with one more, of this name and so many free names
abbrev pub with_code : Earlier → Name → ℕ → Earlier
with_code earlier f free = record { names = earlier.names ++ f ∷ []; shapes = earlier.shapes ++ free ∷ [] }
