-- The operators, tests and kinds of raises that an argument names and units run, in the order of their numbers.
use Rattle.std.specs.Prelude.{Bool, true, false, List, [], ◌∷◌}
use Rattle.py_code.specs.declared.operator.BinaryOperator.{BinaryOperator}
use Rattle.py_code.specs.declared.operator.ComparisonOperator.{ComparisonOperator}
use Rattle.py_code.specs.declared.operator.TestOperator.{TestOperator}
use Rattle.py_code.specs.declared.operator.RaiseKind.{RaiseKind}
use Rattle.py_code.specs.declared.operator.BinaryOperator.TheVariants as Binary
use Rattle.py_code.specs.declared.operator.ComparisonOperator.TheVariants as Comparison
use Rattle.py_code.specs.declared.operator.TestOperator.TheVariants as Test
use Rattle.py_code.specs.declared.operator.RaiseKind.TheVariants as Raise

-- each binary operator, at its number
abbrev pub binary_operators : List BinaryOperator
binary_operators = Binary.Power ∷ Binary.Multiply ∷ Binary.MatrixMultiply ∷ Binary.Divide ∷ Binary.FloorDivide ∷ Binary.Modulo ∷ Binary.Add ∷ Binary.Subtract ∷ Binary.Lshift ∷ Binary.Rshift ∷ Binary.And ∷ Binary.Xor ∷ Binary.Or ∷ []

-- each comparison, at its number
abbrev pub comparison_operators : List ComparisonOperator
comparison_operators = Comparison.Less ∷ Comparison.Greater ∷ Comparison.Equal ∷ Comparison.LessOrEqual ∷ Comparison.GreaterOrEqual ∷ Comparison.NotEqual ∷ []

-- each test, at its number
abbrev pub test_operators : List TestOperator
test_operators = Test.In ∷ Test.NotIn ∷ Test.Is ∷ Test.IsNot ∷ Test.ExceptionMatch ∷ []

-- each kind of raise, at its number
abbrev pub raise_kinds : List RaiseKind
raise_kinds = Raise.Reraise ∷ Raise.Raise ∷ Raise.RaiseCause ∷ []

-- the operators of two operands that run so far
abbrev pub is_asked : BinaryOperator → Bool
is_asked Binary.Add = true
is_asked Binary.Subtract = true
is_asked _ = false

-- the comparisons that run so far
abbrev pub is_compared : ComparisonOperator → Bool
is_compared Comparison.Less = true
is_compared Comparison.Equal = true
is_compared _ = false
