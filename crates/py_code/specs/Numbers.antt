-- The numbers by which an argument names an operator.
use Rattle.std.specs.Prelude.{◌≡◌, ℕ, List, [], ◌∷◌, Some, None, Result, MatchResult, slice_get}
use Rattle.py_code.specs.declared.operator.NoOperator.{NoOperator}
use Rattle.py_code.specs.declared.operator.BinaryOperator.{BinaryOperator}
use Rattle.py_code.specs.declared.operator.ComparisonOperator.{ComparisonOperator}
use Rattle.py_code.specs.declared.operator.UnaryOperator.{UnaryOperator}
use Rattle.py_code.specs.declared.operator.TestOperator.{TestOperator}
use Rattle.py_code.specs.declared.operator.ConversionFlag.{ConversionFlag}
use Rattle.py_code.specs.declared.operator.RaiseKind.{RaiseKind}
use Rattle.py_code.specs.declared.operator.BinaryOperator.TheVariants as Binary
use Rattle.py_code.specs.declared.operator.ComparisonOperator.TheVariants as Comparison
use Rattle.py_code.specs.declared.operator.UnaryOperator.TheVariants as Unary
use Rattle.py_code.specs.declared.operator.TestOperator.TheVariants as Test
use Rattle.py_code.specs.declared.operator.ConversionFlag.TheVariants as Conversion
use Rattle.py_code.specs.declared.operator.RaiseKind.TheVariants as Raise

-- the number of an operator, at which it stands among them
abbrev pub Numbers : {A : Type 0} → List A → (A → ℕ) → A → ℕ → Type 0
Numbers operators number_of operator number = (number ≡ number_of operator) × (slice_get operators number ≡ Some operator)

-- what a number is read as: the operator that stands at it and has it, or a refusal where none stands there
abbrev pub Reads : {A : Type 0} → List A → (A → ℕ) → ℕ → Result A NoOperator → Type 0
Reads operators number_of number r =
    MatchResult r (λ operator. (slice_get operators number ≡ Some operator) × (number_of operator ≡ number)) (λ e. (e.0 ≡ number) × (slice_get operators number ≡ None))

-- the number of a binary operator
abbrev pub binary_number : BinaryOperator → ℕ
binary_number Binary.Power = 0
binary_number Binary.Multiply = 1
binary_number Binary.MatrixMultiply = 2
binary_number Binary.Divide = 3
binary_number Binary.FloorDivide = 4
binary_number Binary.Modulo = 5
binary_number Binary.Add = 6
binary_number Binary.Subtract = 7
binary_number Binary.Lshift = 8
binary_number Binary.Rshift = 9
binary_number Binary.And = 10
binary_number Binary.Xor = 11
binary_number Binary.Or = 12

-- the number of a comparison
abbrev pub comparison_number : ComparisonOperator → ℕ
comparison_number Comparison.Less = 0
comparison_number Comparison.Greater = 1
comparison_number Comparison.Equal = 2
comparison_number Comparison.LessOrEqual = 3
comparison_number Comparison.GreaterOrEqual = 4
comparison_number Comparison.NotEqual = 5

-- each unary operator, at its number
abbrev pub unary_operators : List UnaryOperator
unary_operators = Unary.Not ∷ Unary.Invert ∷ Unary.Minus ∷ Unary.Plus ∷ []

-- its number
abbrev pub unary_number : UnaryOperator → ℕ
unary_number Unary.Not = 0
unary_number Unary.Invert = 1
unary_number Unary.Minus = 2
unary_number Unary.Plus = 3

-- the number of a test
abbrev pub test_number : TestOperator → ℕ
test_number Test.In = 0
test_number Test.NotIn = 1
test_number Test.Is = 2
test_number Test.IsNot = 3
test_number Test.ExceptionMatch = 4

-- each conversion, at its number
abbrev pub conversion_flags : List ConversionFlag
conversion_flags = Conversion.None ∷ Conversion.Str ∷ Conversion.Ascii ∷ Conversion.Repr ∷ []

-- its number
abbrev pub conversion_number : ConversionFlag → ℕ
conversion_number Conversion.None = 0
conversion_number Conversion.Str = 1
conversion_number Conversion.Ascii = 2
conversion_number Conversion.Repr = 3

-- the number of a kind of raise
abbrev pub raise_number : RaiseKind → ℕ
raise_number Raise.Reraise = 0
raise_number Raise.Raise = 1
raise_number Raise.RaiseCause = 2
