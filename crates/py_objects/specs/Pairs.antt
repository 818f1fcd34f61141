-- The pairs of a dict, in the order in which their keys came (Python Language Reference, 6.2.7).
use Rattle.std.specs.Prelude.{ℕ, zero, suc, List, [], ◌∷◌}
use Rattle.py_objects.specs.Refs.{Obj}

abbrev pub Pairs : Type 0
Pairs = List (Obj × Obj)

-- with the value of the pair at a place set
abbrev pub with_value : Pairs → ℕ → Obj → Pairs
with_value [] i v = []
with_value (p ∷ ps) zero v = (p.0, v) ∷ ps
with_value (p ∷ ps) (suc i) v = p ∷ with_value ps i v
