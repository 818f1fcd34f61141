-- The keys of a dict among its pairs.
use Rattle.std.specs.Prelude.{ℕ, Option, Some, None, List, [], ◌∷◌, ◌++◌, position, remove}
use Rattle.py_objects.specs.declared.payload.Payload.{Payload}
use Rattle.py_objects.specs.Objects.{Obj}
use Rattle.py_objects.specs.Pairs.{Pairs, with_value}
use Rattle.py_objects.specs.Values.{same_key}

-- the place of a key
abbrev pub place_of_key : List Payload → Obj → Pairs → Option ℕ
place_of_key objects k ps = position (λ p. same_key objects k p.0) ps

-- with a key's value set at its place, behind the others where there is none
abbrev pub put_at : Option ℕ → Obj → Obj → Pairs → Pairs
put_at None k v ps = ps ++ (k, v) ∷ []
put_at (Some i) k v ps = with_value ps i v

-- without the pair at a place
abbrev pub dropped_at : Option ℕ → Pairs → Pairs
dropped_at None ps = ps
dropped_at (Some i) ps = remove ps i

-- a key that is known keeps its first place, and takes the later value
abbrev pub put : List Payload → Obj → Obj → Pairs → Pairs
put objects k v ps = put_at (place_of_key objects k ps) k v ps

abbrev pub dropped : List Payload → Obj → Pairs → Pairs
dropped objects k ps = dropped_at (place_of_key objects k ps) ps
