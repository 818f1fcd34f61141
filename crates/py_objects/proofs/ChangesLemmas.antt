-- What changes leave as it was made: classes, and the classes of exceptions.
use Rattle.std.proofs.Common.{◌≡◌, ◌<◌, ℕ, List, [], ◌∷◌, Some, ◌⊎◌, inl, inr, refl, sym, ap, subst, ◌∙◌, length, set, slice_get}
use Rattle.std.specs.Prelude.{Option, None}
use Rattle.std.proofs.lemmas.Bool.{cases_eq}
use Rattle.std.proofs.lemmas.Option.{slice_get_within, same_Some}
use Rattle.py_objects.specs.declared.payload.Payload.{Payload}
use Rattle.py_objects.specs.declared.payload.Payload.TheVariants as payload
use Rattle.py_objects.specs.declared.payload.ClassBody.{ClassBody}
use Rattle.py_objects.specs.declared.payload.ExceptionBody.{ExceptionBody}
use Rattle.py_objects.specs.declared.edit.Edit.{Edit}
use Rattle.py_objects.specs.declared.edit.Edit.TheVariants as edit
use Rattle.py_objects.specs.declared.edit.LinkField.TheVariants as link
use Rattle.py_objects.specs.declared.edit.Change.{Change}
use Rattle.py_objects.specs.Objects.{Obj, HasPayload, IsClassObject, IsException}
use Rattle.py_objects.specs.Edits.{Kept, edited, edited_exception, edited_entry, with_edit, changed_by, objects_of}
use Rattle.py_objects.proofs.Slots.{slice_get-set_same, slice_get-set_other}
use Rattle.py_objects.proofs.EditsLemmas.{length-with_edit}

-- as many objects as before
length-changed_by : (objects : List Payload) (cs : List Change) → length (changed_by objects cs) ≡ length objects
length-changed_by objects [] = refl
length-changed_by objects (c ∷ cs) = length-changed_by (with_edit objects c.object c.edit) cs ∙ length-with_edit objects c.object c.edit

-- what is there now was made
pub now_within : (s : Kept) (o : Obj) (p : Payload) → HasPayload (objects_of s) o p → o.number < length s.made
now_within s o p has = subst (λ (n : ℕ). o.number < n) (length-changed_by s.made s.changes) (slice_get_within (objects_of s) o.number p has)

-- what is said of payloads, and edits keep
module _ (P : Payload → Type 0) (kept : (objects : List Payload) (x : Edit) (p : Payload) → P p → P (edited objects x p)) where
  abbrev Holds : List Payload → ℕ → Type 0
  Holds objects n = (p : Payload) × (slice_get objects n ≡ Some p) × P p

  edit_keeps : (objects : List Payload) (x : Edit) (i n : ℕ) (r : Option Payload) → slice_get objects i ≡ r → Holds objects n → Holds (edited_entry objects x i r) n
  edit_keeps objects x i n None at holds = holds
  edit_keeps objects x i n (Some q) at (p, has, holds) = by (cases_eq i n)
    where
      by : (i ≡ n) ⊎ (i ≡ n → ⊥) → Holds (set objects i (edited objects x q)) n
      by (inl same) = (
        edited objects x q,
        subst (λ (k : ℕ). slice_get (set objects i (edited objects x q)) k ≡ Some (edited objects x q)) same
            (slice_get-set_same objects i (edited objects x q) (slice_get_within objects i q at)),
        kept objects x q (subst P (same_Some p q (sym has ∙ ap (slice_get objects) (sym same) ∙ at)) holds),
      )
      by (inr apart) = (p, slice_get-set_other objects i n (edited objects x q) apart ∙ has, holds)

  pub changes_keep : (objects : List Payload) (cs : List Change) (n : ℕ) → Holds objects n → Holds (changed_by objects cs) n
  changes_keep objects [] n holds = holds
  changes_keep objects (c ∷ cs) n holds =
      changes_keep (with_edit objects c.object c.edit) cs n (edit_keeps objects c.edit c.object.number n (slice_get objects c.object.number) refl holds)

-- a class is what it was made as
pub class_now : (s : Kept) (o : Obj) (c : ClassBody) → HasPayload s.made o (payload.Class c) → HasPayload (objects_of s) o (payload.Class c)
class_now s o c has =
    let (p, now, is) = changes_keep (λ (p : Payload). p ≡ payload.Class c) (λ objects x p is. ap (edited objects x) is) s.made s.changes o.number (payload.Class c, has, refl) in
    now ∙ ap Some is

pub class_made : (s : Kept) (o : Obj) (b : ClassBody) → IsClassObject s.made o → HasPayload (objects_of s) o (payload.Class b) → HasPayload s.made o (payload.Class b)
class_made s o b (c, has) now =
    let same : payload.Class c ≡ payload.Class b = same_Some _ _ (sym (class_now s o c has) ∙ now) in
    has ∙ ap Some same

pub class_object_now : (s : Kept) (o : Obj) → IsClassObject s.made o → IsClassObject (objects_of s) o
class_object_now s o (c, has) = (c, class_now s o c has)

-- an edited exception is of the class that it was of
pub class_stays : (x : Edit) (e : ExceptionBody) → (edited_exception x e).class ≡ e.class
class_stays (edit.Link link.Cause v) e = refl
class_stays (edit.Link link.Context v) e = refl
class_stays (edit.Link link.Traceback v) e = refl
class_stays (edit.Link link.Next v) e = refl
class_stays (edit.Flag b) e = refl
class_stays (edit.Args v) e = refl
class_stays (edit.Attr x v) e = refl
class_stays _ e = refl

-- an exception stays one, of the class that it was made as
pub exception_now : (s : Kept) (o : Obj) (e : ExceptionBody) → HasPayload s.made o (payload.Exception e)
    → (f : ExceptionBody) × HasPayload (objects_of s) o (payload.Exception f) × (f.class ≡ e.class)
exception_now s o e has =
    let (p, now, (f, is, same)) =
    changes_keep (λ (p : Payload). (f : ExceptionBody) × (p ≡ payload.Exception f) × (f.class ≡ e.class))
    (λ objects x p (f, is, same). (edited_exception x f, ap (edited objects x) is, class_stays x f ∙ same)) s.made s.changes o.number (payload.Exception e, has, (e, refl, refl)) in
    (f, now ∙ ap Some is, same)

-- what is an exception now was made as one of its class
pub exception_made : (s : Kept) (o : Obj) (f : ExceptionBody) → IsException s.made o → HasPayload (objects_of s) o (payload.Exception f)
    → (e : ExceptionBody) × HasPayload s.made o (payload.Exception e) × (e.class ≡ f.class)
exception_made s o f (e, has) now =
    let (g, is, same) = exception_now s o e has in
    let one : payload.Exception g ≡ payload.Exception f = same_Some _ _ (sym is ∙ now) in
    let body : g ≡ f = cc in
    (e, has, sym same ∙ ap (λ (b : ExceptionBody). b.class) body)
