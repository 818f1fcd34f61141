-- Rows by the table of effects.
use Rattle.std.specs.Prelude.{ℕ}
use Rattle.py_code.specs.declared.instruction.Instruction.{Instruction}
use Rattle.py_code.specs.declared.instruction.Instruction.TheVariants.{LoadGlobal, Pop, Duplicate, Rotate2, Rotate3, BinaryOperation, CompareOperation, TestOperation, PrintExpr}
use Rattle.py_check.specs.Effects.{Effect, Other, effect}

-- what the table of effects says of the instructions that have their rows by it so far
abbrev pub row_effect : Instruction → ℕ → Effect
row_effect LoadGlobal i = effect LoadGlobal i
row_effect Pop i = effect Pop i
row_effect Duplicate i = effect Duplicate i
row_effect Rotate2 i = effect Rotate2 i
row_effect Rotate3 i = effect Rotate3 i
row_effect BinaryOperation i = effect BinaryOperation i
row_effect CompareOperation i = effect CompareOperation i
row_effect TestOperation i = effect TestOperation i
row_effect PrintExpr i = effect PrintExpr i
row_effect _ i = Other
