-- A store worked by hand: a StopAsyncIteration without arguments.
use Rattle.std.specs.Prelude.{List, [], ◌∷◌}
use Rattle.py_objects.specs.declared.payload.Payload.{Payload}
use Rattle.py_objects.specs.declared.payload.Payload.TheVariants as payload
use Rattle.py_objects.specs.declared.payload.ClassBody.{ClassBody}
use Rattle.py_objects.specs.declared.payload.ExceptionBody.{ExceptionBody}
use Rattle.py_objects.specs.declared.error_kind.ErrorKind.TheVariants.{StopAsyncIteration}
use Rattle.py_objects.specs.ErrorKinds.{name_of}
use Rattle.py_objects.specs.Values.{new_exception}
use Rattle.crate_tests.specs.Exit.{object}

-- its class
abbrev pub stop_class : ClassBody
stop_class = record { name = name_of StopAsyncIteration; mro = [] }

-- its exception
abbrev pub stop_body : ExceptionBody
stop_body = new_exception (record { number = 1 }) (object 2)

-- its objects
abbrev pub stop_objects : List Payload
stop_objects = payload.None ∷ payload.Class stop_class ∷ payload.Tuple [] ∷ payload.Exception stop_body ∷ []
