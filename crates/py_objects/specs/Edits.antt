-- Which edits fit which payloads, and what a store keeps of them.
use Rattle.std.specs.Prelude.{ℕ, ◌≤◌, Some, None, List, [], ◌∷◌, ◌++◌, ◌≡◌, slice_get}
use Rattle.py_objects.specs.declared.payload.Payload.{Payload}
use Rattle.py_objects.specs.declared.payload.Payload.TheVariants as payload
use Rattle.py_objects.specs.declared.edit.Edit.{Edit}
use Rattle.py_objects.specs.declared.edit.Edit.TheVariants as edit
use Rattle.py_objects.specs.declared.edit.LinkField.TheVariants as link
use Rattle.py_objects.specs.declared.edit.Change.{Change}
use Rattle.py_objects.specs.Objects.{Obj, numbers_if}
use Rattle.py_objects.specs.Pairs.{Pairs}
pub use Rattle.py_objects.specs.Changes.{linked, led_on, with_attr, attr_set, edited_exception, edited_traceback, edited_pairs, edited, edited_entry, with_edit, changed_by, store_at}

-- the edits that fit an exception
abbrev pub FitsException : Edit → Type 0
FitsException (edit.Link link.Cause v) = Unit {0}
FitsException (edit.Link link.Context v) = Unit {0}
FitsException (edit.Link link.Traceback v) = Unit {0}
FitsException (edit.Link link.Next v) = ⊥
FitsException (edit.Flag b) = Unit {0}
FitsException (edit.Args v) = Unit {0}
FitsException (edit.Attr x v) = Unit {0}
FitsException (edit.Append v) = ⊥
FitsException (edit.SetAt i v) = ⊥
FitsException (edit.RemoveAt i) = ⊥
FitsException (edit.Put k v) = ⊥
FitsException (edit.Drop k) = ⊥
FitsException (edit.Cell v) = ⊥
FitsException (edit.Place n) = ⊥
FitsException (edit.State s) = ⊥

-- the edits that fit a traceback
abbrev pub FitsTraceback : Edit → Type 0
FitsTraceback (edit.Link link.Cause v) = ⊥
FitsTraceback (edit.Link link.Context v) = ⊥
FitsTraceback (edit.Link link.Traceback v) = ⊥
FitsTraceback (edit.Link link.Next v) = Unit {0}
FitsTraceback (edit.Flag b) = ⊥
FitsTraceback (edit.Args v) = ⊥
FitsTraceback (edit.Attr x v) = ⊥
FitsTraceback (edit.Append v) = ⊥
FitsTraceback (edit.SetAt i v) = ⊥
FitsTraceback (edit.RemoveAt i) = ⊥
FitsTraceback (edit.Put k v) = ⊥
FitsTraceback (edit.Drop k) = ⊥
FitsTraceback (edit.Cell v) = ⊥
FitsTraceback (edit.Place n) = ⊥
FitsTraceback (edit.State s) = ⊥

-- the edits that fit a dict
abbrev pub FitsDict : Edit → Type 0
FitsDict (edit.Link field v) = ⊥
FitsDict (edit.Flag b) = ⊥
FitsDict (edit.Args v) = ⊥
FitsDict (edit.Attr x v) = ⊥
FitsDict (edit.Append v) = ⊥
FitsDict (edit.SetAt i v) = ⊥
FitsDict (edit.RemoveAt i) = ⊥
FitsDict (edit.Put k v) = Unit {0}
FitsDict (edit.Drop k) = Unit {0}
FitsDict (edit.Cell v) = ⊥
FitsDict (edit.Place n) = ⊥
FitsDict (edit.State s) = ⊥

-- an edit fits a payload that has the field which it sets; the kinds that the other edits need are still to come
abbrev pub EditFits : Edit → Payload → Type 0
EditFits x payload.None = ⊥
EditFits x (payload.Bool b) = ⊥
EditFits x (payload.Int n) = ⊥
EditFits x (payload.Str s) = ⊥
EditFits x (payload.Tuple vs) = ⊥
EditFits x (payload.Dict ps) = FitsDict x
EditFits x (payload.Class c) = ⊥
EditFits x (payload.Function f) = ⊥
EditFits x (payload.Builtin f) = ⊥
EditFits x (payload.Code n) = ⊥
EditFits x (payload.Manager m) = ⊥
EditFits x (payload.Frame c) = ⊥
EditFits x (payload.Generator g) = ⊥
EditFits x (payload.Exception e) = FitsException x
EditFits x (payload.Traceback t) = FitsTraceback x

-- a payload is another one after an edit, whatever the objects are
abbrev pub Becomes : Edit → Payload → Payload → Type 0
Becomes x p q = (objects : List Payload) → q ≡ edited objects x p

-- an edit leaves a payload as it is
abbrev pub Leaves : Edit → Payload → Type 0
Leaves x p = (objects : List Payload) → edited objects x p ≡ p

-- an edit leaves the pairs of each dict as they are
abbrev pub LeavesPairs : Edit → Type 0
LeavesPairs x = (objects : List Payload) → (ps : Pairs) → edited_pairs objects x ps ≡ ps

-- the numbers that an edit names
abbrev pub edit_numbers : Edit → List ℕ
edit_numbers (edit.Link field v) = numbers_if v
edit_numbers (edit.Args v) = v.number ∷ []
edit_numbers (edit.Attr x v) = numbers_if v
edit_numbers (edit.Append v) = v.number ∷ []
edit_numbers (edit.SetAt i v) = v.number ∷ []
edit_numbers (edit.Put k v) = k.number ∷ v.number ∷ []
edit_numbers (edit.Drop k) = k.number ∷ []
edit_numbers (edit.Cell v) = numbers_if v
edit_numbers _ = []

-- an edit that takes no memory
abbrev pub IsInPlace : Edit → Type 0
IsInPlace (edit.Link field v) = Unit {0}
IsInPlace (edit.Flag b) = Unit {0}
IsInPlace (edit.Args v) = Unit {0}
IsInPlace (edit.Attr x None) = Unit {0}
IsInPlace (edit.Attr x (Some v)) = ⊥
IsInPlace (edit.Append v) = ⊥
IsInPlace (edit.SetAt i v) = Unit {0}
IsInPlace (edit.RemoveAt i) = Unit {0}
IsInPlace (edit.Put k v) = ⊥
IsInPlace (edit.Drop k) = Unit {0}
IsInPlace (edit.Cell v) = Unit {0}
IsInPlace (edit.Place n) = Unit {0}
IsInPlace (edit.State s) = Unit {0}

-- a store
pub record Kept : Type 0 where
  pub made : List Payload  -- each object as it was made
  pub changes : List Change  -- in order
  pub mark : ℕ  -- how many events there were, for changes to come
  pub spare : ℕ  -- how many changes there is a place for

-- its objects as they are
abbrev pub objects_of : Kept → List Payload
objects_of s = changed_by s.made s.changes

-- an edit fits what an object is now
abbrev pub FitsNow : Kept → Obj → Edit → Type 0
FitsNow s v x = (p : Payload) → slice_get (objects_of s) v.number ≡ Some p → EditFits x p

-- an object is this at each event from the last mark on
abbrev pub IsFromMark : Kept → Obj → Payload → Type 0
IsFromMark s v p = (k : ℕ) → s.mark ≤ k → slice_get (store_at s.made s.changes k) v.number ≡ Some p

-- the same objects, made and changed alike, with no fewer places for changes
pub record IsAsBefore (old new : Kept) : Type 0 where
  pub made : new.made ≡ old.made
  pub changes : new.changes ≡ old.changes
  pub mark : new.mark ≡ old.mark
  pub spare : old.spare ≤ new.spare

-- one edit was made and noted
pub record IsEdited (old new : Kept) (o : Obj) (x : Edit) : Type 0 where
  pub made : new.made ≡ old.made
  pub changes : new.changes ≡ old.changes ++ record { after = old.mark; object = o; edit = x } ∷ []
  pub mark : new.mark ≡ old.mark
