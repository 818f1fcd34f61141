-- A store worked by hand: a GeneratorExit, whose one argument is a number, and a class that derives from nothing.
use Rattle.std.specs.Prelude.{ℕ, List, [], ◌∷◌, ◌++◌, ◌≡◌, pos, codes}
use Rattle.py_objects.specs.declared.payload.Payload.{Payload}
use Rattle.py_objects.specs.declared.payload.Payload.TheVariants as payload
use Rattle.py_objects.specs.declared.payload.ClassBody.{ClassBody}
use Rattle.py_objects.specs.declared.payload.ExceptionBody.{ExceptionBody}
use Rattle.py_objects.specs.declared.error_kind.ErrorKind.TheVariants.{BaseException, GeneratorExit}
use Rattle.py_objects.specs.ErrorKinds.{name_of}
use Rattle.py_objects.specs.Objects.{Obj}
use Rattle.py_objects.specs.Singletons.{singletons}
use Rattle.py_objects.specs.Values.{new_exception}
use Rattle.py_objects.specs.Edits.{Kept}

-- the object of this number
abbrev pub object : ℕ → Obj
object n = record { number = n }

-- its classes: BaseException
abbrev pub base_class : ClassBody
base_class = record { name = name_of BaseException; mro = [] }

-- GeneratorExit, which derives from that
abbrev pub exit_class : ClassBody
exit_class = record { name = name_of GeneratorExit; mro = object 3 ∷ [] }

-- a class that derives from nothing
abbrev pub bare_class : ClassBody
bare_class = record { name = codes "spam"; mro = [] }

-- its exception
abbrev pub exit_body : ExceptionBody
exit_body = new_exception (record { number = 4 }) (object 6)

-- its objects
abbrev pub exit_objects : List Payload
exit_objects =
    singletons ++ payload.Class base_class ∷ payload.Class exit_class ∷ payload.Int (pos 3) ∷ payload.Tuple (object 5 ∷ []) ∷ payload.Exception exit_body
    ∷ payload.Class bare_class ∷ []

-- a store of these, in which nothing was changed
pub record IsExit (store : Kept) : Type 0 where
  pub made : store.made ≡ exit_objects
  pub unchanged : store.changes ≡ []
