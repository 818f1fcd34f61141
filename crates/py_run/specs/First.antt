-- What the objects of a run begin with, and what a host may add to them.
use Rattle.std.specs.Prelude.{ℕ, ◌<◌, List, [], ◌∷◌, ◌++◌}
use Rattle.py_objects.specs.declared.payload.Payload.{Payload}
use Rattle.py_objects.specs.declared.payload.Payload.TheVariants as payload
use Rattle.py_objects.specs.Objects.{Obj}
use Rattle.py_objects.specs.Singletons.{singletons}
use Rattle.py_exceptions.specs.Classes.{class_payloads, first_classes}

-- what they begin with: None, False and True, the built-in exception classes, and the dict of the globals, which is empty
abbrev pub first_objects : List Payload
first_objects = singletons ++ (class_payloads first_classes ++ payload.Dict [] ∷ [])

-- where the dict of the globals stands among them
abbrev pub first_globals : Obj
first_globals = record { number = 70 }

-- an entry that a host may add: the code that it names is there; functions of the machine's own and codes come of constants alone, and frames
-- and generators of runs
abbrev pub IsAddable : ℕ → Payload → Type 0
IsAddable codes payload.None = Unit {0}
IsAddable codes (payload.Bool b) = Unit {0}
IsAddable codes (payload.Int n) = Unit {0}
IsAddable codes (payload.Str s) = Unit {0}
IsAddable codes (payload.Tuple vs) = Unit {0}
IsAddable codes (payload.Dict ps) = Unit {0}
IsAddable codes (payload.Class c) = Unit {0}
IsAddable codes (payload.Function b) = b.code < codes
IsAddable codes (payload.Builtin f) = ⊥
IsAddable codes (payload.Code n) = ⊥
IsAddable codes (payload.Manager b) = Unit {0}
IsAddable codes (payload.Frame n) = ⊥
IsAddable codes (payload.Generator b) = ⊥
IsAddable codes (payload.Exception b) = Unit {0}
IsAddable codes (payload.Traceback b) = Unit {0}
