-- Codes that frames can run.
use Rattle.std.specs.Prelude.{ℕ, ◌<◌, Some, List, ◌≡◌, slice_get, length}
use Rattle.py_code.specs.declared.code.PyCode.{PyCode}
use Rattle.py_code.specs.declared.names.NameId.{NameId}
use Rattle.py_check.specs.declared.annotated.Annotated.{Annotated}
use Rattle.py_check.specs.Sheet.{sheet_of}
use Rattle.py_check.specs.Typing.{IsTyped}
use Rattle.py_check.specs.Running.{AllRun}

-- each of these names is a place in the table
abbrev pub ArePlaces : List (List ℕ) → List NameId → Type 0
ArePlaces names ids = (i : ℕ) (id : NameId) → slice_get ids i ≡ Some id → id.index < length names

-- the names of a code's locals and globals are places in the table
pub record AreNames (names : List (List ℕ)) (code : PyCode) : Type 0 where
  pub locals : ArePlaces names code.code.varnames.items
  pub globals : ArePlaces names code.code.names.items

-- a code that frames can run: it keeps the rules, behind codes of these shapes; each of its units runs so far; and its names are in the table
pub record IsSound (names : List (List ℕ)) (code : Annotated) : Type 0 where
  pub shapes : List ℕ
  pub typed : IsTyped shapes (sheet_of code)
  pub runs : AllRun (sheet_of code)
  pub named : AreNames names code.code
