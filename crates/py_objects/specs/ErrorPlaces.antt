-- The places of the built-in exception classes among all of them.
use Rattle.std.specs.Prelude.{ℕ, suc, List, [], ◌∷◌, bytes_eq, if◌then◌else◌}
use Rattle.py_objects.specs.Refs.{Name}
use Rattle.py_objects.specs.declared.error_kind.ErrorKind.{ErrorKind}
use Rattle.py_objects.specs.ErrorKinds.{name_of, error_kinds}

-- the place of the first class of a name among these
abbrev pub place_in : Name → List ErrorKind → ℕ
place_in n [] = 0
place_in n (kind ∷ kinds) = if bytes_eq n (name_of kind) then 0 else suc (place_in n kinds)

-- a class's place among all of them
abbrev pub place_of : ErrorKind → ℕ
place_of kind = place_in (name_of kind) error_kinds
