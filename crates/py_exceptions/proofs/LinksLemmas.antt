-- Links of the objects of a store, and what edits make of exceptions and of the entries of tracebacks.
use Rattle.std.proofs.Common.{◌≡◌, ◌≢◌, ℕ, zero, suc, ◌<◌, ◌≤◌, List, [], ◌∷◌, length, refl, sym, ap, subst, ◌∙◌, arith, Some}
use Rattle.std.specs.Prelude.{Option, None, true, false, is_some, slice_get}
use Rattle.std.proofs.lemmas.Option.{same_Some, slice_get_within}
use Rattle.py_objects.specs.declared.refs.PyBaseExceptionRef.{PyBaseExceptionRef}
use Rattle.py_objects.specs.declared.payload.Payload.{Payload}
use Rattle.py_objects.specs.declared.payload.Payload.TheVariants as payload
use Rattle.py_objects.specs.declared.payload.ExceptionBody.{ExceptionBody}
use Rattle.py_objects.specs.declared.edit.Edit.{Edit}
use Rattle.py_objects.specs.declared.edit.Edit.TheVariants as edit
use Rattle.py_objects.specs.declared.edit.LinkField.{LinkField}
use Rattle.py_objects.specs.declared.edit.LinkField.TheVariants as link
use Rattle.py_objects.specs.declared.edit.Change.{Change}
use Rattle.py_objects.specs.Objects.{Obj, HasPayload, IsException, IsTraceback, IfThere, AllBelow, numbers_if}
use Rattle.py_objects.specs.Edits.{Kept, objects_of, linked, edited, edited_exception, edited_entry, EditFits, FitsException, FitsNow, IsEdited}
use Rattle.py_objects.proofs.ChangesLemmas.{changes_keep, now_within}
use Rattle.py_objects.proofs.Slots.{slice_get-set_same}
use Rattle.py_exceptions.specs.Walks.{context_of, link_of, link_in, link_at, on_link, led, IsFirstTo, Reaches}
use Rattle.py_exceptions.specs.Links.{exception_object, IsBetweenExceptions, IsExceptionEdited, HasLink}
use Rattle.py_exceptions.proofs.TracebacksLemmas.{edited_objects}
use Rattle.py_exceptions.proofs.WalksLemmas.{never}

-- what has a link is there
pub link_within : (s : Kept) (field : LinkField) (v w : Obj) → link_at field (objects_of s) v ≡ Some w → v.number < length s.made
link_within s field v w e = by (slice_get (objects_of s) v.number) refl e
  where
    by : (r : Option Payload) → slice_get (objects_of s) v.number ≡ r → link_in field r ≡ Some w → v.number < length s.made
    by None at e = cc
    by (Some p) at e = now_within s v p at

-- what has a context is an exception
pub context_is : (objects : List Payload) (v w : Obj) → link_at link.Context objects v ≡ Some w → IsException objects v
context_is objects v w e = by (slice_get objects v.number) refl e
  where
    by_payload : (p : Payload) → context_of p ≡ Some w → slice_get objects v.number ≡ Some p → IsException objects v
    by_payload (payload.Exception b) e at = (b, at)
    by_payload _ e at = cc

    by : (r : Option Payload) → slice_get objects v.number ≡ r → link_in link.Context r ≡ Some w → IsException objects v
    by None at e = cc
    by (Some p) at e = by_payload p e at

-- so is what a walk along contexts finds
pub found_is : (objects : List Payload) (from to : Obj) (found : Option Obj) → IsFirstTo (link_at link.Context objects) from to found → IfThere (IsException objects) found
found_is objects from to None first = tt
found_is objects from to (Some x) first = context_is objects x to first.2

-- nothing is found in as many steps as there are objects
pub spent : (s : Kept) (field : LinkField) (from to : Obj) (steps count : ℕ) → count ≤ steps → count ≡ length s.made
    → ((m : ℕ) → m < steps → led (link_at field (objects_of s)) (suc m) from ≢ Some to) → IsFirstTo (link_at field (objects_of s)) from to None
spent s field from to steps count enough all none =
    never (link_at field (objects_of s)) (length s.made) (link_within s field) from to (λ m lt. none m (omega arith))

-- whoever finds a link to an object reaches it
pub found_reaches : (step : Obj → Option Obj) (from to : Obj) (r : Option Obj) → IsFirstTo step from to r → is_some r ≡ true → Reaches step from to
found_reaches step from to None first is = cc
found_reaches step from to (Some x) (n, here, on, none) is = (suc n, ap (on_link step) here ∙ on)

-- whoever finds none reaches it only by being it
pub none_reaches : (step : Obj → Option Obj) (from to : Obj) (r : Option Obj) → IsFirstTo step from to r → is_some r ≡ false → (from.number ≡ to.number → ⊥) → Reaches step from to → ⊥
none_reaches step from to None first is other (zero, e) = other (ap (λ v. v.number) (same_Some from to e))
none_reaches step from to None first is other (suc n, e) = first n e
none_reaches step from to (Some x) first is other reaches = cc

-- ---- edits

-- an object is what an edit makes of it
pub edited_is : (old new : Kept) (o : Obj) (x : Edit) (p : Payload) → HasPayload (objects_of old) o p → IsEdited old new o x
    → HasPayload (objects_of new) o (edited (objects_of old) x p)
edited_is old new o x p has edit =
    let q : Payload = edited (objects_of old) x p in
    let is : objects_of new ≡ edited_entry (objects_of old) x o.number (Some p) = edited_objects old new o x edit ∙ ap (edited_entry (objects_of old) x o.number) has in
    subst (λ (l : List Payload). slice_get l o.number ≡ Some q) (sym is) (slice_get-set_same (objects_of old) o.number q (slice_get_within (objects_of old) o.number p has))

-- an exception stays one, whatever is edited
pub still_exception : (old new : Kept) (o v : Obj) (x : Edit) → IsEdited old new o x → IsException (objects_of old) v → IsException (objects_of new) v
still_exception old new o v x edit (b, has) =
    let c : Change = record { after = 0; object = o; edit = x } in
    let (p, at, holds) =
    changes_keep (λ (p : Payload). (e : ExceptionBody) × (p ≡ payload.Exception e)) (λ objects y p holds. (edited_exception y holds.0, ap (edited objects y) holds.1))
    (objects_of old) (c ∷ []) v.number (payload.Exception b, has, (b, refl)) in
    subst (λ (l : List Payload). IsException l v) (sym (edited_objects old new o x edit)) (holds.0, at ∙ ap Some holds.1)

-- an edit of an exception fits what it is now
pub fits_now : (s : Kept) (o : Obj) (x : Edit) → IsException (objects_of s) o → FitsException x → FitsNow s o x
fits_now s o x (b, has) fits p at = subst (EditFits x) (same_Some _ _ (sym has ∙ at)) fits

-- a link between exceptions fits one
pub fits_link : (field : LinkField) (v : Option Obj) → IsBetweenExceptions field → FitsException (edit.Link field v)
fits_link link.Cause v between = tt
fits_link link.Context v between = tt
fits_link link.Traceback v between = absurd between
fits_link link.Next v between = absurd between

-- and leads to what it was set to
linked_leads : (field : LinkField) (v : Option Obj) (e : ExceptionBody) → IsBetweenExceptions field → link_of field (payload.Exception (linked field v e)) ≡ v
linked_leads link.Cause v e between = refl
linked_leads link.Context v e between = refl
linked_leads link.Traceback v e between = absurd between
linked_leads link.Next v e between = absurd between

pub link_leads : (old new : List Payload) (exc : PyBaseExceptionRef) (field : LinkField) (v : Option PyBaseExceptionRef) (w : Option Obj)
    → IsBetweenExceptions field → w ≡ exception_object v → IsExceptionEdited old new exc (edit.Link field w) → HasLink field new exc v
link_leads old new exc field v w between is (e, was, has) = ap (link_in field) has ∙ linked_leads field w e between ∙ is

-- an exception, where there is one, is there; so is a traceback
pub exception_within : (s : Kept) (v : Option Obj) → IfThere (IsException (objects_of s)) v → AllBelow (length s.made) (numbers_if v)
exception_within s None is = tt
exception_within s (Some v) (b, has) = (now_within s v _ has, tt)

pub traceback_within : (s : Kept) (t : Option Obj) → IfThere (IsTraceback (objects_of s)) t → AllBelow (length s.made) (numbers_if t)
traceback_within s None is = tt
traceback_within s (Some t) (b, has) = (now_within s t _ has, tt)
