-- None, False and True among objects (Python Language Reference, 3.2).
use Rattle.std.specs.Prelude.{Option, option_map, List, [], ◌∷◌, Bool, true, false, not, if◌then◌else◌}
use Rattle.std.specs.List.{position_from}
use Rattle.py_objects.specs.declared.payload.Payload.{Payload}
use Rattle.py_objects.specs.declared.payload.Payload.TheVariants as payload
use Rattle.py_objects.specs.Objects.{Obj}

-- one of each, in the order in which a machine makes them
abbrev pub singletons : List Payload
singletons = payload.None ∷ payload.Bool false ∷ payload.Bool true ∷ []

-- the store's own None, which was there first
abbrev pub none_object : Obj
none_object = record { number = 0 }

-- whether an entry is this truth value
abbrev pub is_truth : Bool → Payload → Bool
is_truth b (payload.Bool c) = if b then c else not c
is_truth b _ = false

-- the first object that is this truth value, where there is one
abbrev pub own_truth : Bool → List Payload → Option Obj
own_truth b objects = option_map (λ n. record { number = n }) (position_from (is_truth b) 0 objects)
