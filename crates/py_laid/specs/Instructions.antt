-- The instructions of the code of bodies.
use Rattle.std.specs.Prelude.{ℕ, ◌%◌, Bool, true, false, Option, Some, ◌≡◌, slice_get}
use Rattle.py_code.specs.declared.code.PyCode.{PyCode}
use Rattle.py_code.specs.declared.unit.CodeUnit.{CodeUnit}
use Rattle.py_code.specs.declared.instruction.Instruction.{Instruction}
use Rattle.py_code.specs.declared.instruction.Instruction.TheVariants.{LoadConst, LoadFast, StoreFast, DeleteFast, LoadGlobal, Pop, Duplicate, BinaryOperation, CompareOperation, TestOperation}
use Rattle.py_code.specs.declared.instruction.Instruction.TheVariants.{CallFunctionPositional, PrintExpr, Jump, JumpIfFalse, SetupLoop, SetupExcept, SetupFinally, EnterFinally, EndFinally, SetupWith}
use Rattle.py_code.specs.declared.instruction.Instruction.TheVariants.{WithCleanupStart, WithCleanupFinish, PopBlock, PopException, Raise, Break, Continue, YieldValue, ReturnValue, ReturnConst, ExtendedArg}
use Rattle.py_code.specs.declared.operator.TestOperator.{TestOperator}
use Rattle.py_code.specs.declared.operator.TestOperator.TheVariants as test
use Rattle.py_code.specs.declared.operator.RaiseKind.{RaiseKind}
use Rattle.py_code.specs.declared.operator.RaiseKind.TheVariants as raise
use Rattle.py_code.specs.Operators.{test_operators}
use Rattle.py_rows.specs.Questions.{raise_of}

-- whether a body may raise so: no statement says a cause
abbrev pub is_compiled_raise : Option RaiseKind → Bool
is_compiled_raise (Some raise.Reraise) = true
is_compiled_raise (Some raise.Raise) = true
is_compiled_raise _ = false

-- the test that a unit with this argument is: prefixes in front of it change nothing of its low byte
abbrev pub test_of : ℕ → Option TestOperator
test_of arg = slice_get test_operators (arg % 256)

-- whether a body may test so: clauses alone test, whether an exception is of their class
abbrev pub is_compiled_test : Option TestOperator → Bool
is_compiled_test (Some test.ExceptionMatch) = true
is_compiled_test _ = false

-- whether a unit of the code of a body may be of an instruction, with this argument
abbrev pub is_compiled : Instruction → ℕ → Bool
is_compiled LoadConst arg = true
is_compiled LoadFast arg = true
is_compiled StoreFast arg = true
is_compiled DeleteFast arg = true
is_compiled LoadGlobal arg = true
is_compiled Pop arg = true
is_compiled Duplicate arg = true
is_compiled BinaryOperation arg = true
is_compiled CompareOperation arg = true
is_compiled TestOperation arg = is_compiled_test (test_of arg)
is_compiled CallFunctionPositional arg = true
is_compiled PrintExpr arg = true
is_compiled Jump arg = true
is_compiled JumpIfFalse arg = true
is_compiled SetupLoop arg = true
is_compiled SetupExcept arg = true
is_compiled SetupFinally arg = true
is_compiled EnterFinally arg = true
is_compiled EndFinally arg = true
is_compiled SetupWith arg = true
is_compiled WithCleanupStart arg = true
is_compiled WithCleanupFinish arg = true
is_compiled PopBlock arg = true
is_compiled PopException arg = true
is_compiled Raise arg = is_compiled_raise (raise_of arg)
is_compiled Break arg = true
is_compiled Continue arg = true
is_compiled YieldValue arg = true
is_compiled ReturnValue arg = true
is_compiled ReturnConst arg = true
is_compiled ExtendedArg arg = true
is_compiled _ arg = false

-- each unit of a code is of such an instruction
abbrev pub UsesCompiled : PyCode → Type 0
UsesCompiled code = (at : ℕ) (u : CodeUnit) → slice_get code.code.instructions.items at ≡ Some u → is_compiled u.op u.arg ≡ true
