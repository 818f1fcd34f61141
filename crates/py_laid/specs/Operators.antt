-- Which unit stands behind the operands of an operator: a line an operator.
use Rattle.std.specs.Prelude.{ℕ, zero, suc, Option, Some, None}
use Rattle.py_code.specs.declared.instruction.Instruction.{Instruction}
use Rattle.py_code.specs.declared.instruction.Instruction.TheVariants as op
use Rattle.py_code.specs.declared.literal.BuiltinFn.{BuiltinFn}
use Rattle.py_code.specs.declared.literal.BuiltinFn.TheVariants as builtin
use Rattle.py_code.specs.declared.operator.BinaryOperator.TheVariants as binary
use Rattle.py_code.specs.declared.operator.ComparisonOperator.TheVariants as comparison
use Rattle.py_code.specs.Numbers.{binary_number, comparison_number}
pub use Rattle.py_laid.specs.declared.coding.Coding.{Coding}
pub use Rattle.py_laid.specs.declared.coding.Coding.TheVariants.{By, Driven, Called, Yielded}
use Rattle.py_tree.specs.declared.expr.Operator.{Operator}
use Rattle.py_tree.specs.declared.expr.Operator.TheVariants as operator

-- what each is compiled to
abbrev pub coding_of : Operator → Coding
coding_of operator.Add = By op.BinaryOperation (binary_number binary.Add)
coding_of operator.Sub = By op.BinaryOperation (binary_number binary.Subtract)
coding_of operator.Lt = By op.CompareOperation (comparison_number comparison.Less)
coding_of operator.Eq = By op.CompareOperation (comparison_number comparison.Equal)
coding_of operator.Send = Driven builtin.Send
coding_of operator.Throw = Driven builtin.Throw
coding_of operator.Close = Driven builtin.Close
coding_of operator.Yield = Yielded
coding_of operator.Call = Called

-- the function that stands in front of the operands
abbrev pub callee_of : Coding → Option BuiltinFn
callee_of (By i arg) = None
callee_of (Driven fn) = Some fn
callee_of Called = None
callee_of Yielded = None

-- the unit, and its operand behind so many operands
abbrev pub instruction_of : Coding → Instruction
instruction_of (By i arg) = i
instruction_of (Driven fn) = op.CallFunctionPositional
instruction_of Called = op.CallFunctionPositional
instruction_of Yielded = op.YieldValue

abbrev pub argument_of : Coding → ℕ → ℕ
argument_of (By i arg) n = arg
argument_of (Driven fn) n = n
argument_of Called zero = 0
argument_of Called (suc n) = n
argument_of Yielded n = 0
