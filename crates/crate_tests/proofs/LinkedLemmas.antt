-- What holds of the store of linked exceptions, whatever is changed in it.
use Rattle.std.proofs.Common.{◌≡◌, ℕ, List, [], ◌∷◌, Some, refl, sym, ap, subst, ◌∙◌, slice_get}
use Rattle.std.specs.Prelude.{Option, None, Bool, true, false, ◌==◌}
use Rattle.py_objects.specs.declared.refs.PyBaseExceptionRef.{PyBaseExceptionRef}
use Rattle.py_objects.specs.declared.refs.PyTracebackRef.{PyTracebackRef}
use Rattle.py_objects.specs.declared.payload.Payload.{Payload}
use Rattle.py_objects.specs.declared.payload.Payload.TheVariants as payload
use Rattle.py_objects.specs.declared.payload.TracebackBody.{TracebackBody}
use Rattle.py_objects.specs.Objects.{Obj, HasPayload, as_object, IsException, IsTraceback}
use Rattle.py_objects.specs.Refs.{object_of_traceback}
use Rattle.py_objects.specs.Edits.{Kept, objects_of, changed_by, edited, edited_traceback}
use Rattle.py_objects.proofs.ChangesLemmas.{changes_keep, exception_now}
use Rattle.py_exceptions.specs.Arguments.{IsTuple}
use Rattle.py_exceptions.specs.Contexts.{IsContextualized, LosesContext, IsLinkedUnless}
use Rattle.py_exceptions.specs.Reducing.{IsReducible}
use Rattle.crate_tests.specs.Exit.{object, base_class}
use Rattle.crate_tests.specs.Linked.{bare_body, linked_objects, AreLinked, IsFresh, IsOneOfThree, IsOneOfTwo}

-- its exceptions are exceptions
pub exception_there : (s : Kept) (e : PyBaseExceptionRef) → AreLinked s → IsOneOfThree e → IsException (objects_of s) (as_object e)
exception_there s e made is =
    let (f, now, same) = exception_now s (as_object e) bare_body (subst (λ (os : List Payload). HasPayload os (as_object e) (payload.Exception bare_body)) (sym made) is) in
    (f, now)

-- its entries are entries
pub entry_there : (s : Kept) (t : PyTracebackRef) → AreLinked s → IsOneOfTwo t → IsTraceback (objects_of s) (object_of_traceback t)
entry_there s t made (b, has) =
    let (p, at, holds) =
    changes_keep (λ (p : Payload). (d : TracebackBody) × (p ≡ payload.Traceback d)) (λ objects x p holds. (edited_traceback x holds.0, ap (edited objects x) holds.1))
    s.made s.changes t.number
    (payload.Traceback b, subst (λ (os : List Payload). HasPayload os (object_of_traceback t) (payload.Traceback b)) (sym made) has, (b, refl)) in
    (holds.0, at ∙ ap Some holds.1)

-- and so is its other tuple of arguments a tuple
pub args_there : (s : Kept) → AreLinked s → IsTuple (objects_of s) (object 9)
args_there s made =
    let (p, at, is) =
    changes_keep (λ (p : Payload). p ≡ payload.Tuple (object 0 ∷ [])) (λ objects x p is. ap (edited objects x) is) s.made s.changes 9
    (payload.Tuple (object 0 ∷ []), ap (λ (os : List Payload). slice_get os 9) made, refl) in
    (object 0 ∷ [], at ∙ ap Some is)

-- an exception that comes adds no objects
pub contextualized_made : (old new : Kept) (handled : Option PyBaseExceptionRef) (exc : PyBaseExceptionRef) → IsContextualized old new handled exc → new.made ≡ old.made
contextualized_made old new None exc is = ap (λ (s : Kept). s.made) is
contextualized_made old new (Some t) exc is = by (t.number == exc.number) is
  where
    cut_made : (between : Kept) (found : Option Obj) → LosesContext old between found → between.made ≡ old.made
    cut_made between None cut = ap (λ (s : Kept). s.made) cut
    cut_made between (Some x) cut = cut.made

    by : (b : Bool) → IsLinkedUnless b old new (as_object t) (as_object exc) → new.made ≡ old.made
    by true same = ap (λ (s : Kept). s.made) same
    by false linked = linked.set.made ∙ cut_made linked.between linked.found linked.cut

-- the first exception can be reduced where nothing was changed
pub first_reducible : (s : Kept) → IsFresh s → IsReducible s (record { number = 3 })
first_reducible s fresh =
    let now : objects_of s ≡ linked_objects = ap (changed_by s.made) fresh.unchanged ∙ fresh.made in
    let at = λ (n : ℕ). ap (λ (os : List Payload). slice_get os n) now in
    (bare_body, at 3, record { class = (base_class, at 1); arguments = []; are_arguments = at 2; items = tt; values = tt })
