-- What is read of objects as they are now, said of them as they were made: whether one is None, and the class of an exception.
use Rattle.std.proofs.Common.{◌≡◌, ◌<◌, List, refl, sym, ap, ◌∙◌, length, get_or}
use Rattle.std.specs.Prelude.{Bool, false}
use Rattle.std.proofs.lemmas.Option.{slice_get-get_or, same_Some}
use Rattle.py_objects.specs.declared.refs.PyBaseExceptionRef.{PyBaseExceptionRef}
use Rattle.py_objects.specs.declared.refs.PyTypeRef.{PyTypeRef}
use Rattle.py_objects.specs.declared.error_kind.ErrorKind.{ErrorKind}
use Rattle.py_objects.specs.declared.payload.ExceptionBody.{ExceptionBody}
use Rattle.py_objects.specs.declared.payload.Payload.{Payload}
use Rattle.py_objects.specs.declared.payload.Payload.TheVariants as payload
use Rattle.py_objects.specs.declared.edit.Edit.{Edit}
use Rattle.py_objects.specs.Objects.{Obj, HasPayload, as_object, class_object, IsException, IsExceptionMade, AllFit}
use Rattle.py_objects.specs.ErrorKinds.{name_of}
use Rattle.py_objects.specs.Ancestry.{derives_from}
use Rattle.py_objects.specs.Values.{is_none}
use Rattle.py_objects.specs.Edits.{Kept, edited, objects_of}
use Rattle.py_objects.proofs.ChangesLemmas.{changes_keep, exception_now, exception_made}
use Rattle.py_coro.specs.Leaving.{IsOfClass}

-- an edit makes nothing None, and of None nothing else
edit_keeps_none : (objects : List Payload) (x : Edit) (p : Payload) → is_none (edited objects x p) ≡ is_none p
edit_keeps_none objects x payload.None = refl
edit_keeps_none objects x _ = refl

-- what isn't None isn't read as None
pub other_than_none : (p : Payload) → (p ≡ payload.None → ⊥) → false ≡ is_none p
other_than_none payload.None other = absurd (other refl)
other_than_none _ other = refl

-- whether an object is None now says whether it was made so
none_as_made : (s : Kept) (o : Obj) (p q : Payload) → HasPayload s.made o p → HasPayload (objects_of s) o q → is_none q ≡ is_none p
none_as_made s o p q has now =
    let (r, there, kept) =
    changes_keep (λ (x : Payload). is_none x ≡ is_none p) (λ objects x y is. edit_keeps_none objects x y ∙ is) s.made s.changes o.number (p, has, refl) in
    ap is_none (same_Some q r (sym now ∙ there)) ∙ kept

-- what is said of an object as it is now, as to whether it is None, is so of what it was made as
pub made_by_now : (s : Kept) (o : Obj) (q : Payload) (b : Bool) → o.number < length s.made → HasPayload (objects_of s) o q → b ≡ is_none q
    → (p : Payload) × HasPayload s.made o p × (b ≡ is_none p)
made_by_now s o q b within now is =
    let p = get_or s.made o.number payload.None in
    let has : HasPayload s.made o p = slice_get-get_or s.made o.number payload.None within in
    (p, has, is ∙ none_as_made s o p q has now)

-- the class that an exception has now
abbrev HasClass : Kept → PyBaseExceptionRef → PyTypeRef → Type 0
HasClass s e class = (body : ExceptionBody) × HasPayload (objects_of s) (as_object e) (payload.Exception body) × (class ≡ body.class)

-- what was made as an exception is one now
pub exception_is_now : (s : Kept) (e : PyBaseExceptionRef) → IsException s.made (as_object e) → IsException (objects_of s) (as_object e)
exception_is_now s e (body, has) =
    let (f, now, same) = exception_now s (as_object e) body has in
    (f, now)

-- the class that an exception was made with is the one that it has now
made_with : (s : Kept) (e : PyBaseExceptionRef) (class : PyTypeRef) → IsException s.made (as_object e) → HasClass s e class
    → (body : ExceptionBody) × HasPayload s.made (as_object e) (payload.Exception body) × (body.class ≡ class)
made_with s e class made (now, is, same) =
    let (body, has, kept) = exception_made s (as_object e) now made is in
    (body, has, kept ∙ sym same)

-- so, where objects fit, whether that class derives from a built-in one says whether the exception is of that
pub of_class : (s : Kept) (e : PyBaseExceptionRef) (class : PyTypeRef) (kind : ErrorKind) (b : Bool) → AllFit s.made → IsException s.made (as_object e) → HasClass s e class
    → b ≡ derives_from s.made (class_object class) (name_of kind) → IsOfClass s.made e kind b
of_class s e class kind b fit made has derived =
    let (body, is, same) = made_with s e class made has in
    let parts : IsExceptionMade s.made body = (fit e.number (payload.Exception body) is).1 in
    (body, is, (parts.class, parts.is_class, derived ∙ ap (λ (x : PyTypeRef). derives_from s.made (class_object x) (name_of kind)) (sym same)))
