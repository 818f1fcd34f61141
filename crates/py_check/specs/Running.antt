-- What runs so far: the rules are for each instruction, and frames carry out these. A raise with a cause is run by frames, and no
-- machine answers what it asks yet.
use Rattle.std.specs.Prelude.{◌≡◌, ◌<◌, ℕ, Bool, true, false, ◌&&◌, ◌==◌, Option, Some, None, slice_get, length}
use Rattle.py_code.specs.declared.unit.CodeUnit.{CodeUnit}
use Rattle.py_code.specs.declared.instruction.Instruction.{Instruction}
use Rattle.py_code.specs.declared.instruction.Instruction.TheVariants as op
use Rattle.py_code.specs.declared.literal.Literal.{Literal, None as NoneLiteral, Bool as BoolLiteral, Int as IntLiteral, Str as StrLiteral, Tuple' as TupleLiteral, Code as CodeLiteral, Builtin as BuiltinLiteral, Row_of-Literal, end_of-Literal, more_of-Literal}
use Rattle.py_code.specs.declared.literal.BuiltinFn.{BuiltinFn}
use Rattle.py_code.specs.declared.literal.BuiltinFn.TheVariants.{Send, Throw, Close}
use Rattle.py_code.specs.declared.operator.BinaryOperator.{BinaryOperator}
use Rattle.py_code.specs.declared.operator.ComparisonOperator.{ComparisonOperator}
use Rattle.py_code.specs.declared.operator.TestOperator.{TestOperator}
use Rattle.py_code.specs.declared.operator.TestOperator.TheVariants as test
use Rattle.py_code.specs.declared.flags.CodeFlags.{CodeFlags}
use Rattle.py_code.specs.declared.flags.TheConstants.CodeFlags.{IS_GENERATOR, IS_COROUTINE}
use Rattle.py_code.specs.Operators.{binary_operators, comparison_operators, test_operators, is_asked, is_compared}
use Rattle.py_check.specs.declared.note.Note.{Note}
use Rattle.py_check.specs.declared.note.Note.TheVariants.{Dead, Live}
use Rattle.py_check.specs.Operands.{operand}
use Rattle.py_check.specs.WholeCode.{counts_if}
use Rattle.py_check.specs.Sheet.{Sheet}

-- the functions of the machine's own that drive a generator (Python Language Reference, 6.2.9.1)
abbrev pub is_driving : BuiltinFn → Bool
is_driving Send = true
is_driving Throw = true
is_driving Close = true
is_driving _ = false

abbrev mutual
  -- the constants that are loaded: a tuple is where its items are, and a code always
  pub is_loaded : Literal → Bool
  is_loaded NoneLiteral = true
  is_loaded (BoolLiteral b) = true
  is_loaded (IntLiteral n) = true
  is_loaded (StrLiteral s) = true
  is_loaded (TupleLiteral shape items) = are_loaded items
  is_loaded (CodeLiteral n) = true
  is_loaded (BuiltinLiteral f) = is_driving f

  pub are_loaded : {m : _} → Row_of-Literal m → Bool
  are_loaded end_of-Literal = true
  are_loaded (more_of-Literal item items) = is_loaded item && are_loaded items

-- a constant is there, and is loaded
abbrev pub loads_constant : Option Literal → Bool
loads_constant None = false
loads_constant (Some literal) = is_loaded literal

-- an operator of two operands is there, and is asked
abbrev pub asks_operator : Option BinaryOperator → Bool
asks_operator None = false
asks_operator (Some op) = is_asked op

-- a comparison is there, and is asked
abbrev pub asks_comparison : Option ComparisonOperator → Bool
asks_comparison None = false
asks_comparison (Some op) = is_compared op

-- the only test is that of the classes of exceptions
abbrev pub is_tested : Option TestOperator → Bool
is_tested (Some test.ExceptionMatch) = true
is_tested _ = false

-- a generator yields; a coroutine doesn't: one that does is an asynchronous generator, whose values nothing wraps
abbrev pub is_generator : CodeFlags → Bool
is_generator flags = (counts_if flags IS_GENERATOR == 1) && (counts_if flags IS_COROUTINE == 0)

-- whether an instruction runs so far, with its operand
abbrev pub runs : Sheet → Instruction → ℕ → Bool
runs sheet op.LoadConst i = loads_constant (slice_get sheet.constants i)
runs sheet op.LoadFast i = true
runs sheet op.StoreFast i = true
runs sheet op.DeleteFast i = true
runs sheet op.LoadGlobal i = true
runs sheet op.Pop i = true
runs sheet op.Duplicate i = true
runs sheet op.Rotate2 i = true
runs sheet op.Rotate3 i = true
runs sheet op.BinaryOperation i = asks_operator (slice_get binary_operators i)
runs sheet op.CompareOperation i = asks_comparison (slice_get comparison_operators i)
runs sheet op.TestOperation i = is_tested (slice_get test_operators i)
runs sheet op.CallFunctionPositional n = true
runs sheet op.Jump to = true
runs sheet op.JumpIfTrue to = true
runs sheet op.JumpIfFalse to = true
runs sheet op.SetupLoop i = true
runs sheet op.SetupExcept to = true
runs sheet op.SetupFinally to = true
runs sheet op.EnterFinally i = true
runs sheet op.EndFinally i = true
runs sheet op.SetupWith to = true
runs sheet op.WithCleanupStart i = true
runs sheet op.WithCleanupFinish i = true
runs sheet op.PopBlock i = true
runs sheet op.PopException i = true
runs sheet op.Raise i = true
runs sheet op.Break to = true
runs sheet op.Continue to = true
runs sheet op.ReturnValue i = true
runs sheet op.ReturnConst i = loads_constant (slice_get sheet.constants i)
runs sheet op.YieldValue i = is_generator sheet.flags
runs sheet op.PrintExpr i = true
runs sheet op.ExtendedArg i = true
runs sheet _ i = false

-- the same of a unit with the note before it: what control never comes to need not run
abbrev pub runs_behind : Sheet → ℕ → CodeUnit → Note → Bool
runs_behind sheet at unit Dead = true
runs_behind sheet at unit (Live kinds blocks) = runs sheet unit.op (operand sheet.units at unit)

abbrev pub runs_both : Sheet → ℕ → Option CodeUnit → Option Note → Bool
runs_both sheet at (Some unit) (Some note) = runs_behind sheet at unit note
runs_both sheet at _ _ = false

-- the unit at a place runs so far
abbrev pub runs_at : Sheet → ℕ → Bool
runs_at sheet at = runs_both sheet at (slice_get sheet.units at) (slice_get sheet.notes at)

-- each unit of a code does
abbrev pub AllRun : Sheet → Type 0
AllRun sheet = (at : ℕ) → at < length sheet.units → runs_at sheet at ≡ true
