-- The arguments that prefixes build.
use Rattle.std.specs.Prelude.{ℕ, ◌+◌, ◌*◌, ◌%◌, ◌^◌, Bool, true, false}
use Rattle.py_code.specs.declared.instruction.Instruction.{Instruction}
use Rattle.py_code.specs.declared.instruction.Instruction.TheVariants.{ExtendedArg}

-- an argument with one more byte behind it: the low 32 bits
abbrev pub with_byte : ℕ → ℕ → ℕ
with_byte state arg = (state * 256 + arg) % 2 ^ 32

-- whether a unit only carries a part of the next one's argument
abbrev pub is_prefix : Instruction → Bool
is_prefix ExtendedArg = true
is_prefix _ = false
