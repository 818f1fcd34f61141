-- What a machine begins with.
use Rattle.std.specs.Prelude.{◌≡◌, [], ◌∷◌}
use Rattle.py_objects.specs.declared.payload.Payload.TheVariants as payload
use Rattle.py_objects.specs.Objects.{Obj, HasPayload}
use Rattle.py_objects.specs.Edits.{Kept}
use Rattle.py_exceptions.specs.declared.zoo.ExceptionZoo.{ExceptionZoo}
use Rattle.py_exceptions.specs.Classes.{first_classes}
use Rattle.py_run.specs.First.{first_objects, first_globals}

-- a store of None alone, of which nothing changed
pub record IsFresh (store : Kept) : Type 0 where
  pub made : store.made ≡ payload.None ∷ []
  pub unchanged : store.changes ≡ []
  pub mark : store.mark ≡ 0

-- the store that a machine begins with, the built-in classes, and the dict of its globals
pub record Begins (store : Kept) (zoo : ExceptionZoo) (globals : Obj) : Type 0 where
  pub objects : store.made ≡ first_objects
  pub unchanged : store.changes ≡ []
  pub mark : store.mark ≡ 0
  pub classes : zoo ≡ first_classes
  pub globals_are : HasPayload store.made globals (payload.Dict [])
  pub place : globals ≡ first_globals
