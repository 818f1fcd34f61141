-- What lies lowest on a stack, whose top stands first.
use Rattle.std.specs.Prelude.{ℕ, ◌-◌, List, length, drop}

-- the lowest n entries
abbrev pub bottom : {A : Type 0} → ℕ → List A → List A
bottom n list = drop (length list - n) list
