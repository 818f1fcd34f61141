-- The innermost handler alone of those that are open at a unit.
use Rattle.std.specs.Prelude.{◌≡◌, ℕ, ◌<◌, if◌then◌else◌, List, [], ◌∷◌, slice_get, Bool, true, false, Some}
use Rattle.py_code.specs.Bottom.{bottom}
use Rattle.py_check.specs.declared.note.Kind.{Kind}
use Rattle.py_check.specs.declared.note.BlockNote.{BlockNote}
use Rattle.py_check.specs.declared.note.BlockNote.TheVariants.{Loop, TryExcept, Finally, FinallyHandler, ExceptHandler}
use Rattle.py_check.specs.declared.note.Note.TheVariants.{Live}
use Rattle.py_check.specs.Notes.{level_of}
use Rattle.py_check.specs.Landing.{handler_lands}
use Rattle.py_check.specs.Sheet.{Sheet}

-- whether what leaves a block may come to a handler
abbrev pub has_handler : BlockNote → Bool
has_handler (Loop level) = false
has_handler (TryExcept level handler) = true
has_handler (Finally level handler) = true
has_handler (FinallyHandler level pending) = false
has_handler (ExceptHandler level) = false

-- what leaves the innermost block that has a handler may come to it
abbrev pub innermost_lands : Sheet → List Kind → List BlockNote → Bool
innermost_lands sheet kinds [] = true
innermost_lands sheet kinds (b ∷ blocks) =
    if has_handler b then handler_lands sheet b (bottom (level_of b) kinds) blocks else innermost_lands sheet (bottom (level_of b) kinds) blocks

-- the same at a place, if its note is live
abbrev pub InnermostLandsAt : Sheet → ℕ → Type 0
InnermostLandsAt sheet at = (kinds : List Kind) (blocks : List BlockNote) → slice_get sheet.notes at ≡ Some (Live kinds blocks) → innermost_lands sheet kinds blocks ≡ true

-- at each of so many places
abbrev pub InnermostLand : Sheet → ℕ → Type 0
InnermostLand sheet n = (at : ℕ) → at < n → InnermostLandsAt sheet at
