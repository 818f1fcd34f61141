-- Exceptions that the machine makes.
use Rattle.std.specs.Prelude.{ℕ, Option, List, [], ◌++◌, chars}
use Rattle.py_objects.specs.declared.error_kind.ErrorKind.TheVariants.{GeneratorExit, RecursionError, StopIteration}
use Rattle.py_objects.specs.declared.refs.PyBaseExceptionRef.{PyBaseExceptionRef}
use Rattle.py_objects.specs.Edits.{Kept}
use Rattle.py_objects.specs.Objects.{Obj}
use Rattle.py_exceptions.specs.declared.zoo.ExceptionZoo.{ExceptionZoo}
use Rattle.py_exceptions.specs.Classes.{class_of}
use Rattle.py_exceptions.specs.Making.{IsNewCalled, IsNewException}
use Rattle.py_answers.specs.Answers.{stop_args}
use Rattle.py_coro.specs.Refusals.{too_deep}

-- a new RecursionError, whose text names a place
abbrev pub IsNewTooDeep : ExceptionZoo → (old new : Kept) → (place : List ℕ) → PyBaseExceptionRef → Type 0
IsNewTooDeep zoo old new place e =
    IsNewException old.made new.made (class_of zoo RecursionError) (too_deep ++ chars place) e

-- a new StopIteration of a generator's value, where it has one
abbrev pub IsNewStop : ExceptionZoo → (old new : Kept) → Option Obj → PyBaseExceptionRef → Type 0
IsNewStop zoo old new value e = IsNewCalled old.made new.made (class_of zoo StopIteration) (stop_args value) e

-- a new GeneratorExit
abbrev pub IsNewExit : ExceptionZoo → (old new : Kept) → PyBaseExceptionRef → Type 0
IsNewExit zoo old new e = IsNewCalled old.made new.made (class_of zoo GeneratorExit) [] e
