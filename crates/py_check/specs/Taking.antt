-- Entries that are taken off a stack, or moved on it.
use Rattle.std.specs.Prelude.{ℕ, zero, suc, ◌-◌, nat_lt, nat_le, List, [], ◌∷◌, ◌++◌, length, slice_get, replicate, Bool, false, ◌&&◌, if◌then◌else◌, Option, Some, None}
use Rattle.std.specs.List.{list_all}
use Rattle.py_check.specs.declared.note.Kind.{Kind}
use Rattle.py_check.specs.declared.note.Kind.TheVariants as kind
use Rattle.py_check.specs.declared.note.BlockNote.{BlockNote}
use Rattle.py_check.specs.Notes.{kind_fits, same_kind}
use Rattle.py_check.specs.Landing.{top_level}

-- operands of these kinds are there, the top first, and what lies below them is as it should be
abbrev pub takes : List Kind → List Kind → List BlockNote → (List Kind → Bool) → Bool
takes [] kinds blocks rest = nat_le (top_level blocks) (length kinds) && rest kinds
takes (k ∷ wanted) [] blocks rest = false
takes (k ∷ wanted) (l ∷ kinds) blocks rest = kind_fits l k && takes wanted kinds blocks rest

-- an entry is there, and what lies below it is as it should be
abbrev pub takes_top : List Kind → List BlockNote → (List Kind → Bool) → Bool
takes_top kinds blocks rest = takes (kind.Any ∷ []) kinds blocks rest

-- what is there, as a list of one
abbrev pub at_place : {A : Type 0} → Option A → List A
at_place None = []
at_place (Some x) = x ∷ []

-- the entries at these places
abbrev pub picked : {A : Type 0} → List ℕ → List A → List A
picked [] xs = []
picked (p ∷ ps) xs = at_place (slice_get xs p) ++ picked ps xs

-- the kinds of the entries that come: entries that are moved keep theirs, and a copy, for which none goes, is of any kind
abbrev pub moved_kinds : ℕ → List ℕ → List Kind → List Kind
moved_kinds zero places kinds = replicate (length places) kind.Any
moved_kinds (suc n) places kinds = picked places kinds

-- the places are there, and the entries that go are above the top block
abbrev pub may_move : ℕ → List ℕ → ℕ → ℕ → Bool
may_move n places depth level = nat_le n depth && nat_le level (depth - n) && list_all (λ p. nat_lt p depth) places

-- an entry is there, of this kind
abbrev pub is_at : Option Kind → Kind → Bool
is_at None wanted = false
is_at (Some k) wanted = kind_fits k wanted

-- an entry so far below the top is read, which may lie under the top block
abbrev pub reads : ℕ → Kind → List Kind → Bool
reads place wanted kinds = is_at (slice_get kinds place) wanted

-- a tuple of so many names, of which there are at most as many
abbrev pub names_at_most : ℕ → Kind → Bool
names_at_most n (kind.Names m) = nat_le m n
names_at_most n _ = false

-- names of at most n arguments are taken, and so many entries below them
abbrev pub takes_named : ℕ → ℕ → List Kind → List BlockNote → (List Kind → Bool) → Bool
takes_named n below [] blocks rest = false
takes_named n below (k ∷ kinds) blocks rest = names_at_most n k && takes (replicate below kind.Any) kinds blocks rest

-- a tuple of so many cells is one of cells
abbrev pub tuple_of : ℕ → List Kind → Kind
tuple_of n items = if list_all (λ k. same_kind k kind.Cell) items then kind.Cells n else kind.Tuple
