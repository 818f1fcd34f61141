-- Which unit is the first that breaks a rule.
use Rattle.std.specs.Prelude.{◌≡◌, ◌⊎◌, ℕ, List, zero, suc, ◌<◌, length, Bool, true, false, ◌&&◌}
use Rattle.py_check.specs.declared.annotated.Annotated.{Annotated}
use Rattle.py_check.specs.Sheet.{Sheet, sheet_of}
use Rattle.py_check.specs.WholeCode.{keeps_whole}
use Rattle.py_check.specs.Typing.{keeps_at}

-- a unit keeps the rules; those on the whole code count as unit 0's
abbrev pub keeps : List ℕ → Sheet → ℕ → Bool
keeps shapes sheet zero = keeps_whole shapes sheet && keeps_at shapes sheet 0
keeps shapes sheet (suc at) = keeps_at shapes sheet (suc at)

-- the first unit that breaks a rule
pub record BreaksFirst (shapes : List ℕ) (sheet : Sheet) (at : ℕ) : Type 0 where
  pub within : (at ≡ 0) ⊎ (at < length sheet.units)
  pub breaks : keeps shapes sheet at ≡ false
  pub before : (k : ℕ) → k < at → keeps shapes sheet k ≡ true

-- each unit of which this is said is the first of a code that breaks a rule
abbrev pub BreaksWhere : (ℕ → Type 0) → List ℕ → Annotated → Type 0
BreaksWhere says shapes code = (at : ℕ) → says at → BreaksFirst shapes (sheet_of code) at
