-- Sets of the flags of a code.
use Rattle.std.specs.Prelude.{ℕ, List, [], ◌∷◌, bit_and, bit_or}
use Rattle.py_code.specs.declared.flags.CodeFlags.{CodeFlags}
use Rattle.py_code.specs.declared.flags.TheConstants.CodeFlags.{NEW_LOCALS, IS_GENERATOR, IS_COROUTINE, HAS_VARARGS, HAS_VARKEYWORDS, IS_OPTIMIZED}

-- the flags that stand in any of these sets
abbrev pub all_of : List CodeFlags → CodeFlags
all_of [] = record { 0 = 0 }
all_of (flags ∷ more) = record { 0 = bit_or flags.0 (all_of more).0 }

-- every flag that there is
abbrev pub every_flag : CodeFlags
every_flag = all_of (NEW_LOCALS ∷ IS_GENERATOR ∷ IS_COROUTINE ∷ HAS_VARARGS ∷ HAS_VARKEYWORDS ∷ IS_OPTIMIZED ∷ [])

-- the flags that a number stands for; its other bits stand for none
abbrev pub known_flags : ℕ → CodeFlags
known_flags bits = record { 0 = bit_and bits every_flag.0 }
