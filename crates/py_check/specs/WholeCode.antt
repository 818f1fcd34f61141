-- The rules on a whole code: its counts, its first note, its parameters, cells and constants.
use Rattle.std.specs.Prelude.{ℕ, ◌+◌, ◌^◌, nat_lt, nat_le, List, [], ◌∷◌, length, slice_get, Bool, true, false, ◌&&◌, ◌==◌, Option, Some, if◌then◌else◌, ℤ, pos, negsuc, bit_and}
use Rattle.std.specs.List.{list_all}
use Rattle.py_code.specs.declared.flags.CodeFlags.{CodeFlags}
use Rattle.py_code.specs.declared.flags.TheConstants.CodeFlags.{HAS_VARARGS, HAS_VARKEYWORDS}
use Rattle.py_check.specs.declared.note.Note.{Note}
use Rattle.py_check.specs.declared.note.Note.TheVariants.{Live}
use Rattle.py_check.specs.Constants.{is_earlier}
use Rattle.py_check.specs.Sheet.{Sheet}

-- a code is entered without values and blocks
abbrev pub is_start : Option Note → Bool
is_start (Some (Live [] [])) = true
is_start _ = false

-- there are as many locations and notes as units, at least one, and not too many for labels
abbrev pub counts_match : Sheet → Bool
counts_match sheet =
    let count = length sheet.units in
    nat_lt 0 count && nat_lt count (2 ^ 32) && (sheet.locations == count) && (length sheet.notes == count)

-- 1 where the flag, which is one bit, is among these
abbrev pub counts_if : (flags flag : CodeFlags) → ℕ
counts_if flags flag = if bit_and flags.0 flag.0 == 0 then 0 else 1

-- how many parameters there are, with those that take the further arguments
abbrev pub parameters : Sheet → ℕ
parameters sheet = sheet.arg_count + sheet.kwonlyarg_count + counts_if sheet.flags HAS_VARARGS + counts_if sheet.flags HAS_VARKEYWORDS

-- the parameters by position alone are among those by position, and all parameters are among the locals
abbrev pub parameters_fit : Sheet → Bool
parameters_fit sheet = nat_le sheet.posonlyarg_count sheet.arg_count && nat_le (parameters sheet) sheet.varnames

-- a cell takes over a parameter, or none (-1)
abbrev pub names_parameter : ℕ → ℤ → Bool
names_parameter count (pos n) = nat_lt n count
names_parameter count (negsuc n) = n == 0

-- no cell is spoken of, or each of the code's own
abbrev pub cells_fit : Sheet → List ℤ → Bool
cells_fit sheet [] = true
cells_fit sheet (n ∷ more) = (length (n ∷ more) == sheet.cellvars) && list_all (names_parameter (parameters sheet)) (n ∷ more)

-- the rules on the whole code; how many free names each code before it has is given
abbrev pub keeps_whole : List ℕ → Sheet → Bool
keeps_whole shapes sheet =
    counts_match sheet && is_start (slice_get sheet.notes 0) && parameters_fit sheet && cells_fit sheet sheet.cell2arg
    && nat_le sheet.max_stackdepth 65535 && list_all (is_earlier (length shapes)) sheet.constants
