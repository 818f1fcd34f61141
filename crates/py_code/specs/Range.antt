-- Which whole numbers there are.
use Rattle.std.specs.Prelude.{◌-◌, ◌^◌, ℤ, pos, negsuc, int_le, Bool, ◌&&◌}

-- whole numbers have 128 bits with a sign
abbrev pub in_range : ℤ → Bool
in_range n = int_le (negsuc (2 ^ 127 - 1)) n && int_le n (pos (2 ^ 127 - 1))
