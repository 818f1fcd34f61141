-- The objects that are there at first.
use Rattle.std.specs.Prelude.{ℕ, false, None, List, [], ◌++◌, map, codes}
use Rattle.py_objects.specs.declared.payload.Payload.{Payload}
use Rattle.py_objects.specs.declared.payload.Payload.TheVariants as payload
use Rattle.py_objects.specs.declared.payload.ExceptionBody.{ExceptionBody}
use Rattle.py_objects.specs.Objects.{Obj}
use Rattle.py_objects.specs.Singletons.{singletons}
use Rattle.frame_tests.specs.declared.tables.First.{First}
use Rattle.frame_tests.specs.declared.tables.First.TheVariants as first
use Rattle.frame_tests.specs.declared.tables.TheConstants.{FIRST}

abbrev pub object_at : ℕ → Obj
object_at n = record { number = n }

-- an exception of class 3 with the arguments 4
abbrev pub exception_body : ExceptionBody
exception_body = record { class = record { number = 3 }; args = object_at 4; cause = None; context = None; suppress = false; traceback = None; attrs = [] }

abbrev pub payload_of : First → Payload
payload_of first.Class = payload.Class (record { name = codes "x"; mro = [] })
payload_of first.Arguments = payload.Tuple []
payload_of first.Exception = payload.Exception exception_body
payload_of first.Frame = payload.Frame 0
payload_of first.Manager = payload.Manager (record { name = codes "x"; enter = object_at 7; exit = object_at 7 })
payload_of first.Traceback = payload.Traceback (record { next = None; frame = record { number = 7 }; lasti = 0; lineno = 0 })

abbrev pub first_objects : List Payload
first_objects = singletons ++ map payload_of FIRST
