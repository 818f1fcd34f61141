-- Where a body runs.
use Rattle.std.specs.Prelude.{ℕ, Bool, true, List}
use Rattle.py_objects.specs.declared.payload.Payload.{Payload}
use Rattle.py_objects.specs.Objects.{Obj}
use Rattle.py_objects.specs.Telling.{ThrowTest, under_any}

-- the objects of the run, the dict of the globals, whether a unit may ask for a statement of a line, and whether the event of a number
-- may throw an exception in while this is handled
pub record Scene : Type 0 where
  pub objects : List Payload
  pub globals : Obj
  pub is_of : (at line : ℕ) → Bool
  pub throws_under : ThrowTest

-- whatever unit asks, and whatever is handled where an exception is thrown in
abbrev pub anywhere : List Payload → Obj → Scene
anywhere objects globals = record { objects = objects; globals = globals; is_of = λ at line. true; throws_under = under_any }
