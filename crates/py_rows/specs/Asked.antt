-- What instructions ask of the operands that they take.
use Rattle.std.specs.Prelude.{ℕ, Option, Some, None, List, [], ◌∷◌, slice_get, option_map, chars, if◌then◌else◌}
use Rattle.py_code.specs.declared.instruction.Instruction.{Instruction}
use Rattle.py_code.specs.declared.instruction.Instruction.TheVariants.{LoadGlobal, BinaryOperation, CompareOperation, TestOperation, PrintExpr}
use Rattle.py_code.specs.declared.operator.TestOperator.{TestOperator}
use Rattle.py_code.specs.declared.operator.TestOperator.TheVariants as test
use Rattle.py_code.specs.declared.names.NameId.{NameId}
use Rattle.py_code.specs.Operators.{binary_operators, comparison_operators, test_operators, is_asked, is_compared}
use Rattle.py_objects.specs.declared.request.Request.{Request}
use Rattle.py_objects.specs.declared.request.Request.TheVariants as request
use Rattle.py_objects.specs.Objects.{Obj, Name}
use Rattle.py_rows.specs.States.{Setting}
use Rattle.py_code.specs.declared.operator.BinaryOperator.{BinaryOperator}
use Rattle.py_code.specs.declared.operator.ComparisonOperator.{ComparisonOperator}

-- the characters of a name
abbrev pub name_in : List (List ℕ) → Option NameId → Option Name
name_in names None = None
name_in names (Some id) = option_map chars (slice_get names id.index)

-- the name of a local
abbrev pub name_of_local : Setting → ℕ → Option Name
name_of_local setting i = name_in setting.names (slice_get setting.code.code.varnames.items i)

-- the name of a global
abbrev pub name_of_global : Setting → ℕ → Option Name
name_of_global setting i = name_in setting.names (slice_get setting.code.code.names.items i)

-- a request that takes no operands
abbrev pub on_none : Option Request → List Obj → Option Request
on_none r [] = r
on_none r (v ∷ vs) = None

-- the same on one
abbrev pub on_one : (Obj → Option Request) → List Obj → Option Request
on_one f [] = None
on_one f (a ∷ []) = f a
on_one f (a ∷ b ∷ vs) = None

-- the same on two
abbrev pub on_two : (Obj → Obj → Option Request) → List Obj → Option Request
on_two f [] = None
on_two f (b ∷ []) = None
on_two f (b ∷ a ∷ []) = f a b
on_two f (b ∷ a ∷ v ∷ vs) = None

-- a test, where it runs so far
abbrev pub tests : Option TestOperator → Obj → Obj → Option Request
tests (Some test.ExceptionMatch) a b = Some (request.Match a b)
tests _ a b = None

-- an operator that runs so far
abbrev pub asked_operator : Option BinaryOperator → Option BinaryOperator
asked_operator None = None
asked_operator (Some op) = if is_asked op then Some op else None

-- a comparison that runs so far
abbrev pub asked_comparison : Option ComparisonOperator → Option ComparisonOperator
asked_comparison None = None
asked_comparison (Some op) = if is_compared op then Some op else None

-- what an instruction asks of the operands that it took, the top first
abbrev pub asked : Setting → Instruction → ℕ → List Obj → Option Request
asked setting LoadGlobal i vs = on_none (option_map (λ x. request.Global setting.globals x) (name_of_global setting i)) vs
asked setting BinaryOperation i vs = on_two (λ a b. option_map (λ op. request.Binary op a b) (asked_operator (slice_get binary_operators i))) vs
asked setting CompareOperation i vs = on_two (λ a b. option_map (λ op. request.Compare op a b) (asked_comparison (slice_get comparison_operators i))) vs
asked setting TestOperation i vs = on_two (λ a b. tests (slice_get test_operators i) a b) vs
asked setting PrintExpr i vs = on_one (λ v. Some (request.Show v)) vs
asked setting _ i vs = None
