-- What a live unit asks.
use Rattle.std.proofs.Common.{◌≡◌, ℕ, List, length, true, Some, slice_get, refl}
use Rattle.py_code.specs.declared.unit.CodeUnit.{CodeUnit}
use Rattle.py_check.specs.declared.note.Kind.{Kind}
use Rattle.py_check.specs.declared.note.BlockNote.{BlockNote}
use Rattle.py_check.specs.declared.note.Note.TheVariants.{Live}
use Rattle.py_check.specs.Sheet.{Sheet}
use Rattle.py_check.specs.Operands.{operand}
use Rattle.py_check.specs.Landing.{has_room, levels_nest, handlers_land}
use Rattle.py_check.specs.Typing.{keeps_at, keeps_op}

pub keeps_live : (shapes : List ℕ) (sheet : Sheet) (at : ℕ) (u : CodeUnit) (kinds : List Kind) (blocks : List BlockNote)
    → slice_get sheet.units at ≡ Some u → slice_get sheet.notes at ≡ Some (Live kinds blocks) → has_room sheet kinds ≡ true
    → levels_nest (length kinds) blocks ≡ true → handlers_land sheet kinds blocks ≡ true
    → keeps_at shapes sheet at ≡ keeps_op shapes sheet at u.op (operand sheet.units at u) kinds blocks
keeps_live shapes sheet at u kinds blocks unit note room nest land = rw (unit, note, room, nest, land) refl
