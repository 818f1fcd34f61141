-- What no edit changes: truth values stay such, and so do managers, functions of the machine's own, exceptions and their classes.
use Rattle.std.proofs.Common.{◌≡◌, ◌∙◌, ℕ, zero, suc, List, [], ◌∷◌, Bool, true, false, Some, refl, sym, ap}
use Rattle.std.specs.Prelude.{Option, None, slice_get, slice_set}
use Rattle.py_code.specs.declared.literal.BuiltinFn.{BuiltinFn}
use Rattle.py_objects.specs.declared.payload.Payload.{Payload}
use Rattle.py_objects.specs.declared.payload.Payload.TheVariants as payload
use Rattle.py_objects.specs.declared.payload.ExceptionBody.{ExceptionBody}
use Rattle.py_objects.specs.declared.payload.ManagerBody.{ManagerBody}
use Rattle.py_objects.specs.declared.payload.TracebackBody.{TracebackBody}
use Rattle.py_objects.specs.declared.refs.PyTypeRef.{PyTypeRef}
use Rattle.py_objects.specs.declared.edit.Edit.{Edit}
use Rattle.py_objects.specs.declared.edit.Edit.TheVariants as edit
use Rattle.py_objects.specs.declared.edit.LinkField.TheVariants as link
use Rattle.py_objects.specs.declared.edit.Change.{Change}
use Rattle.py_objects.specs.Objects.{Obj, HasPayload}
use Rattle.py_objects.specs.Callees.{builtin_of, is_manager}
use Rattle.py_objects.specs.Edits.{edited, edited_exception, edited_entry, with_edit, changed_by}

-- the same of every payload and every edit of it
module _ {A : Type 0} (view : Payload → A) (stays : (objects : List Payload) (x : Edit) (p : Payload) → view (edited objects x p) ≡ view p) where
  abbrev IsSeen : List Payload → ℕ → A → Type 0
  IsSeen objects i a = (p : Payload) × (slice_get objects i ≡ Some p) × (view p ≡ a)

  set_seen : (xs objects : List Payload) (x : Edit) (j i : ℕ) (p : Payload) (a : A) → slice_get xs j ≡ Some p → IsSeen xs i a → IsSeen (slice_set xs j (edited objects x p)) i a
  set_seen [] objects x j i p a here seen = seen
  set_seen (y ∷ ys) objects x zero zero p a here (q, is, view_is) = let same : p ≡ q = cc in (edited objects x p, refl, stays objects x p ∙ ap view same ∙ view_is)
  set_seen (y ∷ ys) objects x zero (suc i) p a here seen = seen
  set_seen (y ∷ ys) objects x (suc j) zero p a here seen = seen
  set_seen (y ∷ ys) objects x (suc j) (suc i) p a here seen = set_seen ys objects x j i p a here seen

  edit_seen : (objects : List Payload) (x : Edit) (j i : ℕ) (entry : Option Payload) (a : A) → slice_get objects j ≡ entry → IsSeen objects i a → IsSeen (edited_entry objects x j entry) i a
  edit_seen objects x j i None a here seen = seen
  edit_seen objects x j i (Some p) a here seen = set_seen objects objects x j i p a here seen

  changes_seen : (objects : List Payload) (cs : List Change) (i : ℕ) (a : A) → IsSeen objects i a → IsSeen (changed_by objects cs) i a
  changes_seen objects [] i a seen = seen
  changes_seen objects (c ∷ cs) i a seen =
      changes_seen (with_edit objects c.object c.edit) cs i a (edit_seen objects c.edit c.object.number i (slice_get objects c.object.number) a refl seen)

  -- an object is seen now as when it was made
  seen_now : (made : List Payload) (cs : List Change) (i : ℕ) (p found : Payload) → slice_get made i ≡ Some p → slice_get (changed_by made cs) i ≡ Some found → view found ≡ view p
  seen_now made cs i p found is here =
      let (q, now, seen) = changes_seen made cs i (view p) (p, is, refl) in
      let same : Some found ≡ Some q = sym here ∙ now in
      let found_is : found ≡ q = cc in
      ap view found_is ∙ seen

-- the truth value that a payload is
abbrev pub truth_of : Payload → Option Bool
truth_of (payload.Bool b) = Some b
truth_of _ = None

-- the class of an exception
abbrev pub class_of : Payload → Option PyTypeRef
class_of (payload.Exception e) = Some e.class
class_of _ = None

class_stays : (x : Edit) (e : ExceptionBody) → (edited_exception x e).class ≡ e.class
class_stays (edit.Link link.Cause v) e = refl
class_stays (edit.Link link.Context v) e = refl
class_stays (edit.Link link.Traceback v) e = refl
class_stays (edit.Link link.Next v) e = refl
class_stays _ e = refl

-- whether it is a traceback
abbrev pub is_traceback : Payload → Bool
is_traceback (payload.Traceback t) = true
is_traceback _ = false

-- all of these
abbrev Traits : Type 0
Traits = Option Bool × Bool × Option PyTypeRef × Bool × Option BuiltinFn

abbrev traits_of : Payload → Traits
traits_of p = (truth_of p, is_manager p, class_of p, is_traceback p, builtin_of p)

traits_stay : (objects : List Payload) (x : Edit) (p : Payload) → traits_of (edited objects x p) ≡ traits_of p
traits_stay objects x (payload.Exception e) = ap (λ (c : PyTypeRef). (None, false, Some c, false, None)) (class_stays x e)
traits_stay objects x _ = refl

traits_now : (made : List Payload) (cs : List Change) (v : Obj) (p found : Payload) → HasPayload made v p → slice_get (changed_by made cs) v.number ≡ Some found → traits_of found ≡ traits_of p
traits_now made cs v p found has here = seen_now traits_of traits_stay made cs v.number p found has here

-- a truth value is found as one, and as the one that it was made
pub truth_found : (made : List Payload) (cs : List Change) (v : Obj) (found : Payload) → ((b : Bool) × HasPayload made v (payload.Bool b)) → slice_get (changed_by made cs) v.number ≡ Some found
    → (b : Bool) × (truth_of found ≡ Some b) × HasPayload made v (payload.Bool b)
truth_found made cs v found (b, has) here = (b, ap (λ (t : Traits). t.0) (traits_now made cs v (payload.Bool b) found has here), has)

pub is_truth : (p : Payload) (b : Bool) → truth_of p ≡ Some b → p ≡ payload.Bool b
is_truth (payload.Bool c) b is = let same : c ≡ b = cc in ap (λ (x : Bool). payload.Bool x) same
is_truth _ b is = cc

-- a manager is found as one, and nothing else is
pub manager_found : (made : List Payload) (cs : List Change) (v : Obj) (found : Payload) → ((p : Payload) × HasPayload made v p) → slice_get (changed_by made cs) v.number ≡ Some found
    → (p : Payload) × HasPayload made v p × (is_manager p ≡ is_manager found)
manager_found made cs v found (p, has) here = (p, has, sym (ap (λ (t : Traits). t.1) (traits_now made cs v p found has here)))

-- a function of the machine's own is found as it was made, and nothing else is one
pub builtin_found : (made : List Payload) (cs : List Change) (v : Obj) (found : Payload) → ((p : Payload) × HasPayload made v p) → slice_get (changed_by made cs) v.number ≡ Some found
    → (p : Payload) × HasPayload made v p × (builtin_of p ≡ builtin_of found)
builtin_found made cs v found (p, has) here = (p, has, sym (ap (λ (t : Traits). t.4) (traits_now made cs v p found has here)))

pub no_builtin : (p : Payload) → ((f : BuiltinFn) → p ≡ payload.Builtin f → ⊥) → builtin_of p ≡ None
no_builtin (payload.Builtin f) not = absurd (not f refl)
no_builtin _ not = refl

-- an exception is found as one of its class
pub class_found : (made : List Payload) (cs : List Change) (v : Obj) (e : ExceptionBody) (found : Payload) → HasPayload made v (payload.Exception e) → slice_get (changed_by made cs) v.number ≡ Some found → class_of found ≡ Some e.class
class_found made cs v e found has here = ap (λ (t : Traits). t.2) (traits_now made cs v (payload.Exception e) found has here)

pub is_exception : (p : Payload) (c : PyTypeRef) → class_of p ≡ Some c → (e : ExceptionBody) × (p ≡ payload.Exception e) × (e.class ≡ c)
is_exception (payload.Exception e) c is = let same : e.class ≡ c = cc in (e, refl, same)
is_exception _ c is = cc

-- a traceback is found as one, and nothing else is
pub traceback_found : (made : List Payload) (cs : List Change) (v : Obj) (p found : Payload) → HasPayload made v p → slice_get (changed_by made cs) v.number ≡ Some found → is_traceback found ≡ is_traceback p
traceback_found made cs v p found has here = ap (λ (t : Traits). t.3) (traits_now made cs v p found has here)

pub traceback_is : (p : Payload) → is_traceback p ≡ true → (t : TracebackBody) × (p ≡ payload.Traceback t)
traceback_is (payload.Traceback t) is = (t, refl)
traceback_is _ is = cc

pub no_traceback : (p : Payload) → ((t : TracebackBody) → p ≡ payload.Traceback t → ⊥) → is_traceback p ≡ false
no_traceback (payload.Traceback t) not = absurd (not t refl)
no_traceback _ not = refl

pub no_manager : (p : Payload) → ((m : ManagerBody) → p ≡ payload.Manager m → ⊥) → is_manager p ≡ false
no_manager (payload.Manager m) not = absurd (not m refl)
no_manager _ not = refl
