-- The arguments of exceptions.
use Rattle.std.specs.Prelude.{ℕ, Option, List, ◌≡◌, slice_get}
use Rattle.py_objects.specs.declared.refs.PyBaseExceptionRef.{PyBaseExceptionRef}
use Rattle.py_objects.specs.declared.payload.Payload.{Payload}
use Rattle.py_objects.specs.declared.payload.Payload.TheVariants as payload
use Rattle.py_objects.specs.declared.payload.ExceptionBody.{ExceptionBody}
use Rattle.py_objects.specs.Objects.{Obj, HasPayload, as_object}

-- an object is a tuple
abbrev pub IsTuple : List Payload → Obj → Type 0
IsTuple objects v = (items : List Obj) × HasPayload objects v (payload.Tuple items)

-- an exception has this object for its arguments
abbrev pub HasArgs : List Payload → PyBaseExceptionRef → Obj → Type 0
HasArgs objects exc args = (e : ExceptionBody) × HasPayload objects (as_object exc) (payload.Exception e) × (args ≡ e.args)

-- it has these arguments, in a tuple
abbrev pub HasArguments : List Payload → PyBaseExceptionRef → List Obj → Type 0
HasArguments objects exc items = (args : Obj) × HasArgs objects exc args × HasPayload objects args (payload.Tuple items)

-- what it has for an argument at a place, from 0, where it has so many
abbrev pub IsArgument : List Payload → PyBaseExceptionRef → ℕ → Option Obj → Type 0
IsArgument objects exc idx arg = (items : List Obj) × HasArguments objects exc items × (arg ≡ slice_get items idx)
