-- What changes make of objects: one change more, and one object more.
use Rattle.std.proofs.Common.{◌≡◌, ℕ, ◌<◌, Option, Some, None, List, [], ◌∷◌, ◌++◌, length, set, slice_get, refl, ap, sym, ◌∙◌, subst}
use Rattle.std.specs.List.{position_or_len}
use Rattle.std.proofs.lemmas.List.{length-set, set-append_left}
use Rattle.py_code.proofs.NamesLemmas.{slice_get-append_before}
use Rattle.py_objects.specs.declared.payload.Payload.{Payload}
use Rattle.py_objects.specs.declared.payload.Payload.TheVariants as payload
use Rattle.py_objects.specs.declared.edit.Edit.{Edit}
use Rattle.py_objects.specs.declared.edit.Edit.TheVariants as edit
use Rattle.py_objects.specs.declared.edit.Change.{Change}
use Rattle.py_objects.specs.Objects.{Obj, AllBelow, pair_numbers}
use Rattle.py_objects.specs.Pairs.{Pairs}
use Rattle.py_objects.specs.Keys.{place_of_key, put_at, dropped_at}
use Rattle.py_objects.specs.Values.{same_key}
use Rattle.py_objects.specs.Edits.{edited, edited_pairs, edited_entry, edit_numbers, with_edit, changed_by}
use Rattle.py_objects.specs.Originals.{dict_numbers, DictsBelow, ChangesBelow}
use Rattle.py_objects.proofs.Slots.{there}
use Rattle.py_objects.proofs.BelowLemmas.{dict_below, DictsBelow-with_edit}

-- ---- one change more

pub changed_by-append : (objects : List Payload) (cs : List Change) (c : Change)
    → changed_by objects (cs ++ c ∷ []) ≡ with_edit (changed_by objects cs) c.object c.edit
changed_by-append objects [] c = refl
changed_by-append objects (d ∷ cs) c = changed_by-append (with_edit objects d.object d.edit) cs c

-- ---- as many objects

pub length-with_edit : (objects : List Payload) (o : Obj) (x : Edit) → length (with_edit objects o x) ≡ length objects
length-with_edit objects o x = by (slice_get objects o.number)
  where
    by : (p : Option Payload) → length (edited_entry objects x o.number p) ≡ length objects
    by None = refl
    by (Some p) = length-set objects o.number (edited objects x p)

-- ---- one object more

module _ (objects : List Payload) (p : Payload) where
  -- keys that were there are the same as before
  same_key-append : (k j : Obj) → k.number < length objects → j.number < length objects → same_key (objects ++ p ∷ []) k j ≡ same_key objects k j
  same_key-append k j first second =
      rw (slice_get-append_before objects p k.number first, slice_get-append_before objects p j.number second)

  first_place : (k : Obj) (ps : Pairs) → k.number < length objects → AllBelow (length objects) (pair_numbers ps)
      → position_or_len (λ q. same_key (objects ++ p ∷ []) k q.0) ps ≡ position_or_len (λ q. same_key objects k q.0) ps
  first_place k [] first below = refl
  first_place k (q ∷ ps) first below =
      rw (same_key-append k q.0 first below.0, first_place k ps first below.1.1)

  place_of_key-append : (k : Obj) (ps : Pairs) → k.number < length objects → AllBelow (length objects) (pair_numbers ps)
      → place_of_key (objects ++ p ∷ []) k ps ≡ place_of_key objects k ps
  place_of_key-append k ps first below = rw (first_place k ps first below)

  pairs_append : (x : Edit) (ps : Pairs) → AllBelow (length objects) (edit_numbers x) → AllBelow (length objects) (pair_numbers ps)
      → edited_pairs (objects ++ p ∷ []) x ps ≡ edited_pairs objects x ps
  pairs_append (edit.Link field v) ps named below = refl
  pairs_append (edit.Flag b) ps named below = refl
  pairs_append (edit.Args v) ps named below = refl
  pairs_append (edit.Attr x v) ps named below = refl
  pairs_append (edit.Append v) ps named below = refl
  pairs_append (edit.SetAt i v) ps named below = refl
  pairs_append (edit.RemoveAt i) ps named below = refl
  pairs_append (edit.Put k v) ps named below = ap (λ place. put_at place k v ps) (place_of_key-append k ps named.0 below)
  pairs_append (edit.Drop k) ps named below = ap (λ place. dropped_at place ps) (place_of_key-append k ps named.0 below)
  pairs_append (edit.Cell v) ps named below = refl
  pairs_append (edit.Place i) ps named below = refl
  pairs_append (edit.State s) ps named below = refl

  edited_append : (x : Edit) (q : Payload) → AllBelow (length objects) (edit_numbers x) → AllBelow (length objects) (dict_numbers q)
      → edited (objects ++ p ∷ []) x q ≡ edited objects x q
  edited_append x (payload.Dict ps) named below = ap payload.Dict (pairs_append x ps named below)
  edited_append x _ named below = refl

  with_edit-append : (o : Obj) (x : Edit) → o.number < length objects → AllBelow (length objects) (edit_numbers x) → DictsBelow (length objects) objects
      → with_edit (objects ++ p ∷ []) o x ≡ with_edit objects o x ++ p ∷ []
  with_edit-append o x within named below =
      let entry = there objects o.number within in
      ap (edited_entry (objects ++ p ∷ []) x o.number) (slice_get-append_before objects p o.number within ∙ entry.1)
      ∙ ap (set (objects ++ p ∷ []) o.number) (edited_append x entry.0 named (dict_below _ objects o.number entry.0 below entry.1))
      ∙ set-append_left objects (p ∷ []) o.number (edited objects x entry.0) within
      ∙ ap (λ l. edited_entry objects x o.number l ++ p ∷ []) (sym entry.1)

-- an object that comes stays as it is behind those that earlier changes are of
pub changed_by-add : (n : ℕ) (objects : List Payload) (p : Payload) (cs : List Change) → length objects ≡ n → DictsBelow n objects → ChangesBelow n cs
    → changed_by (objects ++ p ∷ []) cs ≡ changed_by objects cs ++ p ∷ []
changed_by-add n objects p [] long dicts below = refl
changed_by-add n objects p (c ∷ cs) long dicts below =
    let first = subst (λ (m : ℕ). c.object.number < m) (sym long) below.0 in
    let named = subst (λ (m : ℕ). AllBelow m (edit_numbers c.edit)) (sym long) below.1 in
    let fitting = subst (λ (m : ℕ). DictsBelow m objects) (sym long) dicts in
    ap (λ l. changed_by l cs) (with_edit-append objects p c.object c.edit first named fitting)
    ∙ changed_by-add n (with_edit objects c.object c.edit) p cs (length-with_edit objects c.object c.edit ∙ long)
    (DictsBelow-with_edit n objects c.object c.edit dicts below.1) below.2
