-- What is said where memory may run out.
use Rattle.py_exceptions.specs.declared.ctor.Instantiate.{Instantiate}
use Rattle.py_exceptions.specs.declared.ctor.Instantiate.TheVariants as comes

-- what is said of an outcome, unless memory ran out
abbrev pub UnlessNoMemory : (Instantiate → Type 0) → Instantiate → Type 0
UnlessNoMemory P (comes.Done e) = P (comes.Done e)
UnlessNoMemory P (comes.Make class args) = P (comes.Make class args)
UnlessNoMemory P (comes.Fault f) = P (comes.Fault f)
UnlessNoMemory P comes.NoMemory = Unit {0}
