-- Which calls have no keyword arguments, and which throws no traceback.
use Rattle.std.specs.Prelude.{Bool, true, false, Option, Some, None}
use Rattle.py_objects.specs.declared.request.Keywords.{Keywords}
use Rattle.py_objects.specs.declared.request.Keywords.TheVariants as keywords
use Rattle.py_objects.specs.Objects.{Obj}

-- whether there are no keyword arguments
abbrev pub is_positional : Keywords → Bool
is_positional keywords.None = true
is_positional _ = false

-- whether a throw has no traceback beside its value
abbrev pub is_bare : Option Obj → Bool
is_bare None = true
is_bare (Some t) = false
