-- Stacks as lists with the top first, and their entries counted from the bottom.
use Rattle.std.specs.Prelude.{ℕ, ◌+◌, ◌-◌, Option, List, [], length, take, reverse, slice_get, slice_set}
pub use Rattle.py_code.specs.Bottom.{bottom}
use Rattle.py_objects.specs.Objects.{Obj}

-- a stack
pub record Stack : Type 0 where
  pub list : List Obj  -- the top first
  pub room : ℕ  -- the places that are left

-- a stack without entries
abbrev pub empty : ℕ → Stack
empty size = record { list = []; room = size }

-- the entries above the lowest n, the lowest of them first
abbrev pub above : ℕ → List Obj → List Obj
above n list = reverse (take (length list - n) list)

-- the place, from the top, of the entry that has n others below it, in a list of more than n
abbrev pub from_bottom : ℕ → List Obj → ℕ
from_bottom n list = length list - 1 - n

-- the entry that has n others below it, where there are more than n
abbrev pub entry_at : ℕ → List Obj → Option Obj
entry_at n list = slice_get list (from_bottom n list)

-- with this value as the entry that has n others below it
abbrev pub with_entry : ℕ → Obj → List Obj → List Obj
with_entry n v list = slice_set list (from_bottom n list) v

-- all of a stack's places, those that are taken and those that are left
abbrev pub places : Stack → ℕ
places s = length s.list + s.room
