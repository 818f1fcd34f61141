-- Where names are looked up.
use Rattle.std.specs.Prelude.{Option, Some, None}
use Rattle.py_objects.specs.declared.scope.Scope.{Scope}
use Rattle.py_objects.specs.Objects.{Obj}

-- the scope of these dicts; without locals the globals are both
abbrev pub scope_of : Option Obj → Obj → Scope
scope_of None globals = record { locals = globals; globals = globals }
scope_of (Some locals) globals = record { locals = locals; globals = globals }
