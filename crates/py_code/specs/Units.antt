-- Units of code behind their prefixes.
use Rattle.std.specs.Prelude.{ℕ, ◌+◌, List, [], ◌∷◌, Option, Some, None, if◌then◌else◌}
use Rattle.py_code.specs.declared.unit.CodeUnit.{CodeUnit}
use Rattle.py_code.specs.declared.code.Decoded.{Decoded}
pub use Rattle.py_code.specs.Arguments.{with_byte, is_prefix}

-- the unit behind the prefixes that the units begin with, where the argument so far and the
-- place of the first unit are given
abbrev pub decoded_from : ℕ → ℕ → List CodeUnit → Option Decoded
decoded_from state at [] = None
decoded_from state at (unit ∷ units) =
    if is_prefix unit.op
    then decoded_from (with_byte state unit.arg) (at + 1) units
    else Some (record { op = unit.op; arg = record { 0 = with_byte state unit.arg }; next = at + 1 })
