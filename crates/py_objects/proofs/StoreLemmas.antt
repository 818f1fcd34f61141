-- A store as its callers see it, over what it keeps.
use Rattle.std.proofs.Common.{◌≡◌, ℕ, suc, ◌+◌, ◌<◌, ◌≤◌, Bool, true, false, cond, Option, Some, None, List, [], ◌∷◌, ◌++◌, length, set, slice_get, get_or, refl, ap, sym, ◌∙◌, subst, Vec}
use Rattle.std.specs.Vec.{with_items}
use Rattle.std.proofs.lemmas.List.{length-set, with_items_is}
use Rattle.std.proofs.lemmas.Option.{slice_get_read, slice_get_within}
use Rattle.py_code.proofs.NamesLemmas.{slice_get-append_before}
use Rattle.py_objects.specs.declared.payload.Payload.{Payload}
use Rattle.py_objects.specs.declared.payload.Payload.TheVariants as payload
use Rattle.py_objects.specs.declared.edit.Edit.{Edit}
use Rattle.py_objects.specs.declared.edit.Change.{Change}
use Rattle.py_objects.specs.declared.store.Original.{Original}
use Rattle.py_objects.specs.Objects.{Obj, Name, HasPayload, AllBelow, payload_numbers}
use Rattle.py_objects.specs.Singletons.{own_truth}
use Rattle.py_objects.specs.Ancestry.{derives_from}
use Rattle.py_objects.specs.Edits.{Kept, objects_of, store_at, changed_by, with_edit, edit_numbers, EditFits, IsEdited}
use Rattle.py_objects.specs.Originals.{may_change, original_of, with_copy, restored, AreMarked, AreWithin, IsKept, FitsEntry}
use Rattle.py_objects.proofs.AncestryLemmas.{changed_derives}
use Rattle.py_objects.proofs.SingletonsLemmas.{changed_truth}
use Rattle.py_objects.proofs.Slots.{there}
use Rattle.py_objects.proofs.EditsLemmas.{length-with_edit}
use Rattle.py_objects.proofs.OriginalsLemmas.{noted, filter-marked, length-restored, restored-noted, restored-with_edit, IsKept-add, IsKept-change}

-- the originals behind the copy of a payload that comes, which is one only where it may change
pub noted-copy : (os : List Original) (now : List Payload) (p : Payload) (os2 os3 : List Original) (n : ℕ) (copy : Option Payload)
    → os3 ≡ with_copy os2 n copy → os2 ≡ os → n ≡ length now → copy ≡ original_of p → os3 ≡ noted os now p (may_change p)
noted-copy os now p os2 os3 n copy put same last is = put ∙ cc (same, last, is) ∙ by (may_change p)
  where
    by : (b : Bool) → with_copy os (length now) (cond b (Some p) None) ≡ noted os now p b
    by true = refl
    by false = refl

-- one object is made again what it was made as, and those of the other originals are still to be
module _ {Z : Type 0} (v : Vec Payload Z) (os rest : List Original) (o : Original) (first : os ≡ o ∷ rest) (within : AreWithin os v.items)
    (ws : List Payload) (put : ws ≡ set v.items o.number o.payload) where
  items_put : (with_items v ws).items ≡ set v.items o.number o.payload
  items_put = with_items_is v ws (ap length put ∙ length-set v.items o.number o.payload ∙ sym v.ok.0) ∙ put

  pub restored_put : restored rest (with_items v ws).items ≡ restored os v.items
  restored_put = ap (restored rest) items_put ∙ ap (λ l. restored l v.items) (sym first)

  pub within_put : AreWithin rest (with_items v ws).items
  within_put i q at =
      let below = within (suc i) q (ap (λ l. slice_get l (suc i)) first ∙ at) in
      let long = ap length items_put ∙ length-set v.items o.number o.payload in
      subst (λ n. q.number < n) (sym long) below

module _ (os : List Original) (now : List Payload) (cs : List Change) (mark spare : ℕ) (kept : IsKept os now cs mark) (s : Kept)
    (view : record { made = restored os now; changes = cs; mark = mark; spare = spare } ≡ s) where
  pub length-made : length s.made ≡ length now
  length-made = ap (λ k. length k.made) (sym view) ∙ length-restored os now

  pub objects-now : objects_of s ≡ now
  objects-now = ap objects_of (sym view) ∙ sym kept.changed

  -- ---- what a class derives from

  pub derives_as_made : (v : Obj) (n : Name) → derives_from now v n ≡ derives_from s.made v n
  derives_as_made v n = ap (λ objects. derives_from objects v n) (sym objects-now) ∙ changed_derives s.made s.changes v n

  -- ---- the first object that is a truth value

  pub truth_as_made : (b : Bool) → own_truth b now ≡ own_truth b s.made
  truth_as_made b = ap (own_truth b) (sym objects-now) ∙ changed_truth b s.made s.changes

  -- ---- reading an object

  module _ (o : Obj) (p : Payload) (within : o.number < length s.made) (read : p ≡ get_or now o.number p) where
    pub read_now : slice_get (objects_of s) o.number ≡ Some p
    read_now = ap (λ l. slice_get l o.number) objects-now ∙ slice_get_read now (length now) o.number p refl (subst (λ n. o.number < n) length-made within) read

    pub read_at : (k : ℕ) → s.mark ≤ k → slice_get (store_at s.made s.changes k) o.number ≡ Some p
    read_at k le =
        let marked = subst (λ (r : Kept). AreMarked r.mark r.changes) view kept.marked in
        ap (λ l. slice_get (changed_by s.made l) o.number) (filter-marked s.mark k s.changes le marked) ∙ read_now

  -- ---- an object that comes

  module _ (none : Obj) (is_none : HasPayload (restored os now) none payload.None) (p : Payload) (b : Bool) (may : may_change p ≡ b)
      (named : AllBelow (length s.made + 1) (payload_numbers p)) (os' : List Original) (now' : List Payload)
      (originals : os' ≡ noted os now p b) (payloads : now' ≡ now ++ p ∷ []) where
    made_added : restored os' now' ≡ restored os now ++ p ∷ []
    made_added = rw (originals, payloads) (restored-noted os now cs mark kept p b)

    pub invariant_added : IsKept os' now' cs mark × HasPayload (restored os' now') none payload.None
    invariant_added = (
      rw (originals, payloads) (IsKept-add os now cs mark kept p b may (subst (λ (n : ℕ). AllBelow (n + 1) (payload_numbers p)) length-made named)),
      rw made_added (slice_get-append_before (restored os now) p none.number (slice_get_within (restored os now) none.number payload.None is_none) ∙ is_none),
    )

    pub view_added : record { made = restored os' now'; changes = cs; mark = mark; spare = spare } ≡ record s { made = s.made ++ p ∷ [] }
    view_added =
        let with_made : List Payload → Kept = λ m. record { made = m; changes = cs; mark = mark; spare = spare } in
        let grown : Kept → Kept = λ k. record k { made = k.made ++ p ∷ [] } in
        ap with_made made_added ∙ ap grown view

  -- ---- a change

  module _ (o : Obj) (x : Edit) (within : o.number < length s.made) (fits : (p : Payload) → slice_get (objects_of s) o.number ≡ Some p → EditFits x p) where
    pub fits_entry : FitsEntry now o x
    fits_entry =
        let entry = there now o.number (subst (λ n. o.number < n) length-made within) in
        (entry.0, entry.1, fits entry.0 (ap (λ l. slice_get l o.number) objects-now ∙ entry.1))

    module _ {Z : Type 0} (none : Obj) (is_none : HasPayload (restored os now) none payload.None) (named : AllBelow (length s.made) (edit_numbers x))
        (v : Vec Payload Z) (ws : List Payload) (cs' : List Change) (items : v.items ≡ now) (payloads : ws ≡ with_edit now o x)
        (changes : cs' ≡ cs ++ record { after = mark; object = o; edit = x } ∷ []) where
      items_edited : (with_items v ws).items ≡ with_edit now o x
      items_edited = with_items_is v ws (ap length payloads ∙ length-with_edit now o x ∙ ap length (sym items) ∙ sym v.ok.0) ∙ payloads

      made_edited : restored os (with_items v ws).items ≡ restored os now
      made_edited =
          let entry = fits_entry in
          ap (restored os) items_edited ∙ restored-with_edit os now cs mark kept o x entry.0 entry.1 entry.2

      pub invariant_edited : IsKept os (with_items v ws).items cs' mark × HasPayload (restored os (with_items v ws).items) none payload.None
      invariant_edited =
          let entry = fits_entry in
          let below = subst (λ (n : ℕ). AllBelow n (edit_numbers x)) length-made named in
          let kept' = IsKept-change os now cs mark kept o x entry.0 entry.1 entry.2 below in (
            rw (items_edited, changes) kept',
            ap (λ l. slice_get l none.number) made_edited ∙ is_none,
          )

      pub view_edited : (left : ℕ)
          → IsEdited s (record { made = restored os (with_items v ws).items; changes = cs'; mark = mark; spare = left }) o x
      view_edited left = record {
        made = made_edited ∙ ap (λ k. k.made) view;
        changes = changes ∙ ap (λ k. k.changes ++ record { after = k.mark; object = o; edit = x } ∷ []) view;
        mark = ap (λ k. k.mark) view;
      }
