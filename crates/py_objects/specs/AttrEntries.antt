-- The entries of the map that holds attributes.
use Rattle.std.specs.Prelude.{ℕ, List, map, Vec}
use Rattle.py_objects.specs.Refs.{Obj}
use Rattle.py_objects.specs.Attrs.{Attrs}

-- the entries of a map whose keys are the names' characters
abbrev pub attrs_of : {A : Type 0} → List (Vec ℕ A × Obj) → Attrs
attrs_of {A} entries = map (λ e. (e.0.items, e.1)) entries
