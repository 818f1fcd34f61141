-- Objects that come behind others, which stay where they are.
use Rattle.std.specs.Prelude.{ℕ, Some, None, List, ◌++◌, ◌≡◌, slice_get, [], ◌∷◌}
use Rattle.py_objects.specs.declared.payload.Payload.{Payload}
use Rattle.py_objects.specs.Objects.{declares, AllFit}
use Rattle.py_objects.specs.FrameEntries.{frames_in}
use Rattle.py_objects.specs.Edits.{Kept}

-- what stays where it is as more comes
abbrev pub Grows : List Payload → List Payload → Type 0
Grows old new = (more : List Payload) × (new ≡ old ++ more)

-- more objects came, none of which is a declaration
pub record GrowsPlainly (old new : List Payload) : Type 0 where
  pub more : List Payload
  pub is : new ≡ old ++ more
  pub plain : (i : ℕ) (p : Payload) → slice_get more i ≡ Some p → declares p ≡ None
  pub fit : AllFit old → AllFit new

-- a store with one more object
abbrev pub with_object : Kept → Payload → Kept
with_object s p = record s { made = s.made ++ p ∷ [] }

-- more objects came to a store, none of which is a declaration, and all else stayed
pub record IsLonger (old new : Kept) : Type 0 where
  pub objects : GrowsPlainly old.made new.made
  pub others : new ≡ record old { made = new.made }

-- the same, and none of them is a frame
pub record IsGrown (old new : Kept) : Type 0 where
  pub objects : GrowsPlainly old.made new.made
  pub frames : frames_in new.made ≡ frames_in old.made
  pub others : new ≡ record old { made = new.made }
