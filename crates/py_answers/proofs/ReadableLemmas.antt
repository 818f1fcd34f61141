-- Objects that answers can read: as they grow, and behind one more change.
use Rattle.std.proofs.Common.{List, [], ◌∷◌, ◌++◌, Some, inl, inr, subst}
use Rattle.std.specs.Prelude.{Option, None}
use Rattle.py_objects.specs.declared.payload.Payload.{Payload}
use Rattle.py_objects.specs.declared.payload.Payload.TheVariants as payload
use Rattle.py_objects.specs.declared.edit.Edit.{Edit}
use Rattle.py_objects.specs.declared.edit.LinkField.{LinkField}
use Rattle.py_objects.specs.declared.edit.LinkField.TheVariants as link
use Rattle.py_objects.specs.declared.edit.Change.{Change}
use Rattle.py_objects.specs.Objects.{Obj, IfThere, IsException, IsTraceback}
use Rattle.py_objects.specs.Growth.{Grows}
use Rattle.py_objects.proofs.GrowthLemmas.{one_entry, payload_grown, slice_get_split}
use Rattle.py_answers.specs.Readable.{ChangeUnread, IsUnread, SetsField, SetsLink}

-- a traceback, where there is one, is one among more objects
traceback_stays : (objects objects' : List Payload) (t : Option Obj) → Grows objects objects' → IfThere (IsTraceback objects) t → IfThere (IsTraceback objects') t
traceback_stays objects objects' None grows is = tt
traceback_stays objects objects' (Some v) grows (b, has) = (b, payload_grown objects objects' v (payload.Traceback b) grows has)

-- so is an exception
exception_stays : (objects objects' : List Payload) (v : Option Obj) → Grows objects objects' → IfThere (IsException objects) v → IfThere (IsException objects') v
exception_stays objects objects' None grows is = tt
exception_stays objects objects' (Some v) grows (e, has) = (e, payload_grown objects objects' v (payload.Exception e) grows has)

-- an edit of a link is one among more objects
field_stays : (objects objects' : List Payload) (field : LinkField) (v : Option Obj) → Grows objects objects' → SetsField objects field v → SetsField objects' field v
field_stays objects objects' link.Cause v grows is = exception_stays objects objects' v grows is
field_stays objects objects' link.Context v grows is = exception_stays objects objects' v grows is
field_stays objects objects' link.Traceback v grows is = traceback_stays objects objects' v grows is
field_stays objects objects' link.Next v grows is = is

pub link_stays : (objects objects' : List Payload) (x : Edit) → Grows objects objects' → SetsLink objects x → SetsLink objects' x
link_stays objects objects' x grows (inl (field, v, is, sets)) = inl (field, v, is, field_stays objects objects' field v grows sets)
link_stays objects objects' x grows (inr flag) = inr flag

-- a change of what no answer reads is one among more objects
pub unread_grown : (objects objects' : List Payload) (c : Change) → Grows objects objects' → IsUnread objects c → IsUnread objects' c
unread_grown objects objects' c grows (inl (ps, has)) = inl (ps, payload_grown objects objects' c.object (payload.Dict ps) grows has)
unread_grown objects objects' c grows (inr ((e, has), sets)) =
    inr ((e, payload_grown objects objects' c.object (payload.Exception e) grows has), link_stays objects objects' c.edit grows sets)

-- so are changes
pub changes_grown : (objects objects' : List Payload) (cs : List Change) → Grows objects objects' → ChangeUnread objects cs → ChangeUnread objects' cs
changes_grown objects objects' cs grows unread i c here = unread_grown objects objects' c grows (unread i c here)

-- and with one more behind them
pub change_unread : (objects : List Payload) (cs : List Change) (c : Change) → IsUnread objects c → ChangeUnread objects cs → ChangeUnread objects (cs ++ c ∷ [])
change_unread objects cs c one unread i d here = elim (slice_get_split cs (c ∷ []) i d here) [
  | inl front ↦ unread i d front
  | inr back ↦ subst (IsUnread objects) (one_entry c d _ back) one
]
