-- What the literals stand for that a body has loaded. Each has a number of its own, past those of the objects, and a cell that says what is known of it.
use Rattle.std.specs.Prelude.{ℕ, suc, ◌+◌, ◌-◌, Bool, true, false, Option, Some, None, List, [], ◌∷◌, bytes_eq, length, nat_lt, slice_get, slice_set, if◌then◌else◌}
use Rattle.py_objects.specs.declared.payload.Payload.{Payload}
use Rattle.py_objects.specs.declared.payload.Payload.TheVariants as payload
use Rattle.py_objects.specs.Objects.{Obj}
use Rattle.py_objects.specs.Values.{same_number}

-- what a literal stands for: any object with the payload of this one, or this one, which an event has named
pub data Cell : Type 0 where
  Like : Obj → Cell
  Is : Obj → Cell

-- cells in order, the first of which is that of the number behind the objects
abbrev pub Cells : Type 0
Cells = List Cell

-- whether two payloads are of the same literal
abbrev pub same_literal : Payload → Payload → Bool
same_literal payload.None payload.None = true
same_literal (payload.Bool true) (payload.Bool true) = true
same_literal (payload.Bool false) (payload.Bool false) = true
same_literal (payload.Int m) (payload.Int n) = same_number m n
same_literal (payload.Str s) (payload.Str t) = bytes_eq s t
same_literal _ _ = false

-- whether there is a payload, and it is of this literal
abbrev pub is_literal : Payload → Option Payload → Bool
is_literal p None = false
is_literal p (Some q) = same_literal q p

-- the first object of a literal, where the first of these entries has this number
abbrev pub first_from : ℕ → List Payload → Payload → Option Obj
first_from i [] p = None
first_from i (q ∷ qs) p = if same_literal q p then Some (record { number = i }) else first_from (suc i) qs p

module _ (objects : List Payload) where
  -- the first object of a literal
  abbrev pub first_of : Payload → Option Obj
  first_of p = first_from 0 objects p

  -- the cell of a number, if it has one
  abbrev pub cell_at : Cells → Obj → Option Cell
  cell_at cells v = if nat_lt v.number (length objects) then None else slice_get cells (v.number - length objects)

  -- the number of the next literal
  abbrev pub next_number : Cells → Obj
  next_number cells = record { number = length objects + length cells }

  -- the cell of a number is this by now
  abbrev pub with_cell : Obj → Cell → Cells → Cells
  with_cell v x cells = slice_set cells (v.number - length objects) x

  -- the payload of what a number stands for
  abbrev pub entry_by : Option Cell → Obj → Option Payload
  entry_by None v = slice_get objects v.number
  entry_by (Some (Like u)) v = slice_get objects u.number
  entry_by (Some (Is u)) v = slice_get objects u.number

  abbrev pub entry_of : Cells → Obj → Option Payload
  entry_of cells v = entry_by (cell_at cells v) v
