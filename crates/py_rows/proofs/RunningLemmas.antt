-- What runs so far, by the table of effects.
use Rattle.std.proofs.Common.{◌≡◌, ℕ, Bool, true, false, refl}
use Rattle.py_code.specs.declared.instruction.Instruction.{Instruction}
use Rattle.py_code.specs.declared.instruction.Instruction.TheVariants.{LoadGlobal}
use Rattle.py_check.specs.Effects.{Effect, Takes, effect}
use Rattle.py_check.specs.Sheet.{Sheet}
use Rattle.py_check.specs.Running.{runs}
use Rattle.py_rows.specs.Table.{row_effect}

-- what runs so far has its row as the table says
pub row_is : (sheet : Sheet) (op : Instruction) (i : ℕ) → runs sheet op i ≡ true → effect op i ≡ row_effect op i
row_is sheet LoadGlobal i run = refl
row_is sheet _ i run = cc

-- whether entries are taken in a way of the instruction's own
abbrev pub is_taken : Effect → Bool
is_taken (Takes n pushes) = true
is_taken _ = false

-- no instruction has such a row yet
pub none_taken : (op : Instruction) (i : ℕ) → is_taken (row_effect op i) ≡ false
none_taken LoadGlobal i = refl
none_taken _ i = refl
