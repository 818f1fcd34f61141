-- What the checker goes by.
use Rattle.std.specs.Prelude.{◌≡◌, List, length, true}
use Rattle.py_code.specs.declared.unit.CodeUnit.{CodeUnit}
use Rattle.py_check.specs.declared.check.Checking.{Checking}
use Rattle.py_check.specs.Innermost.{InnermostLand}
use Rattle.py_check.specs.Sheet.{sheet_of}

-- the units of the code that is checked
abbrev pub units_of : Checking → List CodeUnit
units_of checking = checking.code.now.code.code.instructions.items

-- where it is held for known that control may come to the innermost handler from each unit, it may
abbrev pub KnowsInnermost : Checking → Type 0
KnowsInnermost checking = checking.all_land ≡ true → InnermostLand (sheet_of checking.code.now) (length checking.code.now.notes)
