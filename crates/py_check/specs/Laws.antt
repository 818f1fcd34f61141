-- What follows from the rules.
use Rattle.std.specs.Prelude.{ℕ, ◌+◌, ◌-◌, List, drop, Some, false, slice_get, ◌≡◌, ◌⊎◌}
use Rattle.py_code.specs.declared.unit.CodeUnit.{CodeUnit}
use Rattle.py_code.specs.Units.{decoded_from, is_prefix}
use Rattle.py_check.specs.Sheet.{Sheet}
use Rattle.py_check.specs.Operands.{operand, prefixes}
use Rattle.py_check.specs.Typing.{IsTyped}
use Rattle.py_check.specs.Breaking.{BreaksFirst}

-- a code keeps the rules, or a unit breaks one first
abbrev pub KeepsOrBreaks : Type 0
KeepsOrBreaks = (shapes : List ℕ) (sheet : Sheet) → IsTyped shapes sheet ⊎ ((n : ℕ) × BreaksFirst shapes sheet n)

-- at most one unit is the first that breaks a rule
abbrev pub OneBreaksFirst : Type 0
OneBreaksFirst = (shapes : List ℕ) (sheet : Sheet) (m n : ℕ) → BreaksFirst shapes sheet m → BreaksFirst shapes sheet n → m ≡ n

-- in a code that keeps the rules no unit breaks one
abbrev pub NoneBreaks : Type 0
NoneBreaks = (shapes : List ℕ) (sheet : Sheet) (n : ℕ) → IsTyped shapes sheet → BreaksFirst shapes sheet n → ⊥

-- the operand that is looked back for from a unit is the one that a run of the unit's prefixes builds
abbrev pub OperandsAreDecoded : Type 0
OperandsAreDecoded = (units : List CodeUnit) (at : ℕ) (u : CodeUnit) → slice_get units at ≡ Some u → is_prefix u.op ≡ false
    → decoded_from 0 (at - prefixes units at) (drop (at - prefixes units at) units)
    ≡ Some (record { op = u.op; arg = record { 0 = operand units at u }; next = at + 1 })
