-- What comes of what is thrown into a generator: an exception or a class of exceptions, with a value or without one.
use Rattle.std.specs.Prelude.{Option, Some, None, Ok, Err, List, ◌≡◌, ◌⊎◌}
use Rattle.py_objects.specs.declared.payload.Payload.{Payload}
use Rattle.py_objects.specs.declared.payload.Fault.{Fault}
use Rattle.py_objects.specs.Objects.{Obj}
use Rattle.py_exceptions.specs.declared.ctor.ExceptionCtor.{ExceptionCtor}
use Rattle.py_exceptions.specs.declared.ctor.CtorFault.TheVariants as ctor_fault
use Rattle.py_exceptions.specs.declared.ctor.Instantiate.{Instantiate}
use Rattle.py_exceptions.specs.declared.ctor.Instantiate.TheVariants as comes
use Rattle.py_exceptions.specs.Raisable.{IsTaken}
use Rattle.py_exceptions.specs.Instantiating.{instantiated, Instantiates}

-- what comes of a class or an exception, without a value or with one
abbrev pub NormalizesWith : List Payload → ExceptionCtor → Option Obj → Instantiate → Type 0
NormalizesWith objects taken None outcome = outcome ≡ instantiated taken
NormalizesWith objects taken (Some w) outcome = Instantiates objects taken w outcome

-- what comes of an object that is thrown (Python Language Reference, 6.2.9.1): what may be raised comes to what it does with the value, and all
-- else is refused, whatever the value
abbrev pub Normalizes : List Payload → Obj → Option Obj → Instantiate → Type 0
Normalizes objects c v outcome =
    ((taken : ExceptionCtor) × IsTaken objects c (Ok taken) × NormalizesWith objects taken v outcome)
    ⊎ ((f : Fault) × IsTaken objects c (Err (ctor_fault.NotException f)) × (outcome ≡ comes.Fault f))
