-- Changes in the order of their events.
use Rattle.std.specs.Prelude.{ℕ, nat_lt, List, filter}
use Rattle.std.specs.List.Sorted.{IsNonDecreasingBy}
use Rattle.py_objects.specs.declared.edit.Change.{Change}

-- no change is of an earlier event than one before it
abbrev pub AreInOrder : List Change → Type 0
AreInOrder changes = IsNonDecreasingBy (λ c. c.after) changes

-- the changes of later events than one
abbrev pub later : ℕ → List Change → List Change
later k changes = filter (λ c. nat_lt k c.after) changes
