-- Stores worked by hand, whose exceptions are written: three classes, and exceptions of them.
use Rattle.std.specs.Prelude.{List, [], ◌∷◌, ◌++◌, pos, codes}
use Rattle.py_objects.specs.declared.payload.Payload.{Payload}
use Rattle.py_objects.specs.declared.payload.Payload.TheVariants as payload
use Rattle.py_objects.specs.declared.payload.ExceptionBody.{ExceptionBody}
use Rattle.py_objects.specs.Values.{new_exception}
use Rattle.crate_tests.specs.Exit.{object}

-- None, and the classes ValueError, KeyError and OSError, none of which derives from another one
abbrev pub three_classes : List Payload
three_classes =
    payload.None ∷ payload.Class (record { name = codes "ValueError"; mro = [] }) ∷ payload.Class (record { name = codes "KeyError"; mro = [] })
    ∷ payload.Class (record { name = codes "OSError"; mro = [] }) ∷ []

-- with ValueError('a') as object 6, and KeyError('k') as object 9
abbrev pub two_said : List Payload
two_said =
    three_classes ++ payload.Str (codes "a") ∷ payload.Tuple (object 4 ∷ []) ∷ payload.Exception (new_exception (record { number = 1 }) (object 5))
    ∷ payload.Str (codes "k") ∷ payload.Tuple (object 7 ∷ []) ∷ payload.Exception (new_exception (record { number = 2 }) (object 8)) ∷ []

-- what a call of OSError with 1, 2 and 3 keeps
abbrev pub os_body : ExceptionBody
os_body = record (new_exception (record { number = 3 }) (object 13)) { attrs = (codes "filename", object 12) ∷ [] }

-- with OSError(1, 2, 3) as object 14 too
abbrev pub three_said : List Payload
three_said =
    two_said ++ payload.Int (pos 1) ∷ payload.Int (pos 2) ∷ payload.Int (pos 3) ∷ payload.Tuple (object 10 ∷ object 11 ∷ []) ∷ payload.Exception os_body ∷ []
