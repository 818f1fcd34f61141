-- What a change of a traceback does, and what stands in a new entry.
use Rattle.std.proofs.Common.{◌≡◌, ℕ, List, refl, sym, ap, subst, ◌∙◌, length}
use Rattle.std.specs.Prelude.{Option, Some, None, slice_get}
use Rattle.std.proofs.lemmas.Option.{slice_get_within}
use Rattle.py_objects.specs.declared.refs.PyBaseExceptionRef.{PyBaseExceptionRef}
use Rattle.py_objects.specs.declared.refs.PyTracebackRef.{PyTracebackRef}
use Rattle.py_objects.specs.declared.refs.FrameRef.{FrameRef}
use Rattle.py_objects.specs.declared.payload.Payload.{Payload}
use Rattle.py_objects.specs.declared.payload.Payload.TheVariants as payload
use Rattle.py_objects.specs.declared.payload.ExceptionBody.{ExceptionBody}
use Rattle.py_objects.specs.declared.edit.Edit.{Edit}
use Rattle.py_objects.specs.declared.edit.Edit.TheVariants as edit
use Rattle.py_objects.specs.declared.edit.LinkField.TheVariants as link
use Rattle.py_objects.specs.declared.edit.Change.{Change}
use Rattle.py_objects.specs.Objects.{Obj, as_object, payload_numbers, numbers_if, AllBelow, IfThere, IsException, IsTraceback}
use Rattle.py_objects.specs.Edits.{Kept, objects_of, edited, edited_entry, with_edit, changed_by, IsEdited}
use Rattle.py_objects.specs.Growth.{IsGrown, with_object}
use Rattle.py_objects.proofs.EditsLemmas.{changed_by-append}
use Rattle.py_objects.proofs.GrownLemmas.{added_grown}
use Rattle.py_objects.proofs.Slots.{slice_get-set_same}
use Rattle.py_exceptions.specs.Tracebacks.{traceback_object, traceback_entry, HasTraceback, IsFrame, IsTracebackSet}

-- what is a traceback, where there is one, is among the objects
pub traceback_below : (objects : List Payload) (t : Option Obj) → IfThere (IsTraceback objects) t → AllBelow (length objects) (numbers_if t)
traceback_below objects None is = tt
traceback_below objects (Some t) (b, has) = (slice_get_within objects t.number _ has, tt)

-- so is what a new entry names
entry_below : (objects : List Payload) (next : Option PyTracebackRef) (frame : FrameRef) (lasti lineno : ℕ)
    → IfThere (IsTraceback objects) (traceback_object next) → IsFrame objects frame → AllBelow (length objects) (payload_numbers (traceback_entry next frame lasti lineno))
entry_below objects None frame lasti lineno leads (code, has) = (slice_get_within objects frame.number _ has, tt)
entry_below objects (Some t) frame lasti lineno (b, is) (code, has) = (slice_get_within objects t.number _ is, (slice_get_within objects frame.number _ has, tt))

-- a store with one more entry grew
pub entry_grows : (old new : Kept) (next : Option PyTracebackRef) (frame : FrameRef) (lasti lineno : ℕ)
    → IfThere (IsTraceback old.made) (traceback_object next) → IsFrame old.made frame → new ≡ with_object old (traceback_entry next frame lasti lineno) → IsGrown old new
entry_grows old new next frame lasti lineno leads is_frame added =
    added_grown old new (traceback_entry next frame lasti lineno) added refl refl (λ fit. entry_below old.made next frame lasti lineno leads is_frame) (λ fit. (leads, is_frame))

-- the objects behind an edit
pub edited_objects : (old new : Kept) (o : Obj) (x : Edit) → IsEdited old new o x → objects_of new ≡ with_edit (objects_of old) o x
edited_objects old new o x edited =
    let c : Change = record { after = old.mark; object = o; edit = x } in
    ap (λ (l : List Payload). changed_by l new.changes) edited.made ∙ ap (changed_by old.made) edited.changes ∙ changed_by-append old.made old.changes c

-- an edit of an exception's traceback sets it, and nothing else
pub link_sets : (old new : Kept) (exc : PyBaseExceptionRef) (tb : Option PyTracebackRef)
    → IsException (objects_of old) (as_object exc) → IsEdited old new (as_object exc) (edit.Link link.Traceback (traceback_object tb))
    → IsTracebackSet (objects_of old) (objects_of new) exc tb
link_sets old new exc tb (e, has) edited =
    let x : Edit = edit.Link link.Traceback (traceback_object tb) in
    record { before = e; was = has; is = edited_objects old new (as_object exc) x edited ∙ ap (edited_entry (objects_of old) x exc.number) has }

-- and it is what was set
pub set_has : (old new : List Payload) (exc : PyBaseExceptionRef) (tb : Option PyTracebackRef) → IsTracebackSet old new exc tb → HasTraceback new exc tb
set_has old new exc tb set =
    let e : ExceptionBody = set.before in
    let f : ExceptionBody = record e { traceback = traceback_object tb } in (
      f,
      subst (λ (l : List Payload). slice_get l exc.number ≡ Some (payload.Exception f)) (sym set.is)
          (slice_get-set_same old exc.number (payload.Exception f) (slice_get_within old exc.number _ set.was)),
      refl,
    )
