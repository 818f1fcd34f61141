-- What a change of a context does to links.
use Rattle.std.proofs.Common.{◌≡◌, ◌⊎◌, inl, inr, List, set, refl, sym, ap, subst, ◌∙◌, Some}
use Rattle.std.specs.Prelude.{Option, None, slice_get}
use Rattle.std.proofs.lemmas.Bool.{ne_eqb}
use Rattle.std.proofs.lemmas.Option.{slice_get_within}
use Rattle.py_objects.specs.declared.refs.PyBaseExceptionRef.{PyBaseExceptionRef}
use Rattle.py_objects.specs.declared.payload.Payload.{Payload}
use Rattle.py_objects.specs.declared.payload.Payload.TheVariants as payload
use Rattle.py_objects.specs.declared.payload.ExceptionBody.{ExceptionBody}
use Rattle.py_objects.specs.declared.edit.LinkField.TheVariants as link
use Rattle.py_objects.specs.Objects.{Obj, IsException, as_object}
use Rattle.py_objects.specs.Edits.{Kept, objects_of, edited, edited_entry, with_edit}
use Rattle.py_objects.proofs.Slots.{slice_get-set_same, slice_get-set_other}
use Rattle.py_exceptions.specs.Walks.{context_of, link_at, link_in}
use Rattle.py_exceptions.specs.Contexts.{context_edit, IsContextualized, LosesContext, IsLinked}
use Rattle.py_exceptions.proofs.LinksLemmas.{still_exception}

module _ (objects : List Payload) (o : Obj) (w : Option Obj) where
  abbrev after : List Payload
  after = with_edit objects o (context_edit w)

  -- its context is what it was set to
  pub context_set : IsException objects o → link_at link.Context after o ≡ w
  context_set (b, has) =
      let c : ExceptionBody = record b { context = w } in
      ap (λ r. link_at link.Context (edited_entry objects (context_edit w) o.number r) o) has
      ∙ ap (link_in link.Context) (slice_get-set_same objects o.number (payload.Exception c) (slice_get_within objects o.number _ has))

  -- it is what it was set to, or what it was
  pub context_kept : (link_at link.Context after o ≡ w) ⊎ (link_at link.Context after o ≡ link_at link.Context objects o)
  context_kept = by (slice_get objects o.number) refl
    where
      by_payload : (p : Payload) → slice_get objects o.number ≡ Some p → (context_of (edited objects (context_edit w) p) ≡ w) ⊎ (context_of (edited objects (context_edit w) p) ≡ context_of p)
      by_payload (payload.Exception b) at = inl refl
      by_payload (payload.Traceback b) at = inr refl
      by_payload _ at = inr refl

      by_place : (p : Payload) → slice_get objects o.number ≡ Some p → (context_of (edited objects (context_edit w) p) ≡ w) ⊎ (context_of (edited objects (context_edit w) p) ≡ context_of p)
          → (link_at link.Context (set objects o.number (edited objects (context_edit w) p)) o ≡ w) ⊎ (link_at link.Context (set objects o.number (edited objects (context_edit w) p)) o ≡ link_in link.Context (Some p))
      by_place p at told =
          let read = ap (link_in link.Context) (slice_get-set_same objects o.number (edited objects (context_edit w) p) (slice_get_within objects o.number p at)) in
          elim told [ inl e ↦ inl (read ∙ e) | inr e ↦ inr (read ∙ e) ]

      by : (r : Option Payload) → slice_get objects o.number ≡ r
          → (link_at link.Context (edited_entry objects (context_edit w) o.number r) o ≡ w) ⊎ (link_at link.Context (edited_entry objects (context_edit w) o.number r) o ≡ link_in link.Context r)
      by None at = inr (ap (link_in link.Context) at)
      by (Some p) at = by_place p at (by_payload p at)

  -- that of each other one stays
  pub context_stays : (v : Obj) → (o.number ≡ v.number → ⊥) → link_at link.Context after v ≡ link_at link.Context objects v
  context_stays v apart = by (slice_get objects o.number)
    where
      by : (r : Option Payload) → link_at link.Context (edited_entry objects (context_edit w) o.number r) v ≡ link_at link.Context objects v
      by None = refl
      by (Some p) = ap (link_in link.Context) (slice_get-set_other objects o.number v.number (edited objects (context_edit w) p) apart)

-- an exception is one still where a context was cut
pub still_cut : (old new : Kept) (found : Option Obj) (v : Obj) → LosesContext old new found → IsException (objects_of old) v → IsException (objects_of new) v
still_cut old new None v cut is = subst (λ (s : Kept). IsException (objects_of s) v) (sym cut) is
still_cut old new (Some x) v cut is = still_exception old new x v (context_edit None) cut is

-- two exceptions that aren't one were linked
pub linked_is : (old new : Kept) (t exc : PyBaseExceptionRef) → (t.number ≡ exc.number → ⊥) → IsLinked old new (as_object t) (as_object exc) → IsContextualized old new (Some t) exc
linked_is old new t exc apart linked = rw (ne_eqb t.number exc.number apart) linked
