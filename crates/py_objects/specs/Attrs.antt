-- The attributes of an object: names with their values, each name once.
use Rattle.std.specs.Prelude.{Option, Some, None, List, [], ◌∷◌, bytes_eq, if◌then◌else◌}
use Rattle.py_objects.specs.Refs.{Obj, Name}

abbrev pub Attrs : Type 0
Attrs = List (Name × Obj)

-- with a name's value set; a new name goes last
abbrev pub inserted : Name → Obj → Attrs → Attrs
inserted x v [] = (x, v) ∷ []
inserted x v (a ∷ attrs) = if bytes_eq x a.0 then (a.0, v) ∷ attrs else a ∷ inserted x v attrs

-- without a name
abbrev pub without : Name → Attrs → Attrs
without x [] = []
without x (a ∷ attrs) = if bytes_eq x a.0 then attrs else a ∷ without x attrs

-- the value of a name
abbrev pub value_of : Name → Attrs → Option Obj
value_of x [] = None
value_of x (a ∷ attrs) = if bytes_eq x a.0 then Some a.1 else value_of x attrs
