-- No change makes a class of an object, or another one of it, so a class derives from the same ones at each event, and as more objects come.
use Rattle.std.proofs.Common.{◌≡◌, ◌+◌, ℕ, zero, suc, Option, Some, None, List, [], ◌∷◌, ◌++◌, Bool, false, cond, set, slice_get, refl, ap, sym, ◌∙◌}
use Rattle.std.specs.Prelude.{position}
use Rattle.std.specs.List.{position_from}
use Rattle.std.proofs.lemmas.Iterator.Adapters.{position_from-zero}
use Rattle.std.proofs.lemmas.Option.{same_Some}
use Rattle.py_objects.specs.declared.payload.Payload.{Payload}
use Rattle.py_objects.specs.declared.payload.Payload.TheVariants as payload
use Rattle.py_objects.specs.declared.payload.ClassBody.{ClassBody}
use Rattle.py_objects.specs.declared.edit.Edit.{Edit}
use Rattle.py_objects.specs.declared.edit.Change.{Change}
use Rattle.py_objects.specs.Objects.{Obj, Name, HasPayload, declares}
use Rattle.py_objects.specs.Growth.{GrowsPlainly}
use Rattle.py_objects.specs.Edits.{edited, edited_entry, with_edit, changed_by}
use Rattle.py_objects.specs.Ancestry.{class_in, class_at, has_name, first_class, derives_by, derives_from, IsDerived}
use Rattle.py_objects.proofs.Slots.{read_set}
use Rattle.py_objects.proofs.GrowthLemmas.{payload_grown, plainly_grows}

-- ---- changes

edited_class : (objects : List Payload) (x : Edit) (p : Payload) → class_in (Some (edited objects x p)) ≡ class_in (Some p)
edited_class objects x (payload.Class c) = refl
edited_class objects x _ = refl

with_edit_class : (objects : List Payload) (o : Obj) (x : Edit) (v : Obj) → class_at (with_edit objects o x) v ≡ class_at objects v
with_edit_class objects o x v = by (slice_get objects o.number) refl
  where
    by : (q : Option Payload) → slice_get objects o.number ≡ q
        → class_in (slice_get (edited_entry objects x o.number q) v.number) ≡ class_in (slice_get objects v.number)
    by None is = refl
    by (Some p) is = read_set class_in objects o.number v.number p (edited objects x p) is (edited_class objects x p)

-- an object is the same class after changes
changed_class : (objects : List Payload) (cs : List Change) (v : Obj) → class_at (changed_by objects cs) v ≡ class_at objects v
changed_class objects [] v = refl
changed_class objects (c ∷ cs) v = changed_class (with_edit objects c.object c.edit) cs v ∙ with_edit_class objects c.object c.edit v

-- ---- the first class of a name, after changes

-- whether an entry is a class of a name
abbrev is_class : Name → Payload → Bool
is_class n p = has_name n (class_in (Some p))

-- the first class of a name as a search finds it
pub first_position : (n : Name) (objects : List Payload) → position (is_class n) objects ≡ first_class n objects
first_position n objects = position_from-zero (is_class n) objects

-- an entry that a test tells as before is found as before
pub position_from-set : (test : Payload → Bool) (i : ℕ) (ps : List Payload) (j : ℕ) (p q : Payload) → slice_get ps j ≡ Some p → test q ≡ test p
    → position_from test i (set ps j q) ≡ position_from test i ps
position_from-set test i [] j p q here same = refl
position_from-set test i (r ∷ ps) zero p q here same =
    ap (λ b. cond b (Some i) (position_from test (i + 1) ps)) (same ∙ ap test (sym (same_Some r p here)))
position_from-set test i (r ∷ ps) (suc j) p q here same = ap (cond (test r) (Some i)) (position_from-set test (i + 1) ps j p q here same)

with_edit_first : (n : Name) (objects : List Payload) (o : Obj) (x : Edit) → first_class n (with_edit objects o x) ≡ first_class n objects
with_edit_first n objects o x = by (slice_get objects o.number) refl
  where
    by : (q : Option Payload) → slice_get objects o.number ≡ q → first_class n (edited_entry objects x o.number q) ≡ first_class n objects
    by None is = refl
    by (Some p) is = position_from-set (is_class n) 0 objects o.number p (edited objects x p) is (ap (has_name n) (edited_class objects x p))

-- the first class of a name is the same after changes
changed_first : (n : Name) (objects : List Payload) (cs : List Change) → first_class n (changed_by objects cs) ≡ first_class n objects
changed_first n objects [] = refl
changed_first n objects (c ∷ cs) = changed_first n (with_edit objects c.object c.edit) cs ∙ with_edit_first n objects c.object c.edit

-- a class derives from the same ones after changes
pub changed_derives : (objects : List Payload) (cs : List Change) (v : Obj) (n : Name) → derives_from (changed_by objects cs) v n ≡ derives_from objects v n
changed_derives objects cs v n =
    ap (λ c. derives_by v c (first_class n (changed_by objects cs))) (changed_class objects cs v)
    ∙ ap (derives_by v (class_at objects v)) (changed_first n objects cs)

-- ---- objects that come behind

-- what declares nothing is no class
plain_no_class : (n : Name) (p : Payload) → declares p ≡ None → is_class n p ≡ false
plain_no_class n (payload.Class c) plain = absurd (cc plain)
plain_no_class n _ plain = refl

-- a test that fails at each of these finds nothing among them
position_from-none : (test : Payload → Bool) (i : ℕ) (ps : List Payload) → ((j : ℕ) (p : Payload) → slice_get ps j ≡ Some p → test p ≡ false)
    → position_from test i ps ≡ None
position_from-none test i [] fails = refl
position_from-none test i (p ∷ ps) fails =
    ap (λ b. cond b (Some i) (position_from test (i + 1) ps)) (fails 0 p refl)
    ∙ position_from-none test (i + 1) ps (λ j q at. fails (suc j) q at)

-- and nothing else behind others
position_from-front : (test : Payload → Bool) (i : ℕ) (ps more : List Payload) → ((j : ℕ) (p : Payload) → slice_get more j ≡ Some p → test p ≡ false)
    → position_from test i (ps ++ more) ≡ position_from test i ps
position_from-front test i [] more fails = position_from-none test i more fails
position_from-front test i (p ∷ ps) more fails = ap (cond (test p) (Some i)) (position_from-front test (i + 1) ps more fails)

-- the first class of a name stays as objects come that declare nothing
pub first_stays : (n : Name) (objects objects' : List Payload) → GrowsPlainly objects objects' → first_class n objects' ≡ first_class n objects
first_stays n objects objects' grows =
    ap (first_class n) grows.is ∙ position_from-front (is_class n) 0 objects grows.more (λ j p at. plain_no_class n p (grows.plain j p at))

-- a class is there as what it is
class_there : (objects : List Payload) (v : Obj) (c : ClassBody) → HasPayload objects v (payload.Class c) → class_at objects v ≡ Some c
class_there objects v c has = ap class_in has

-- so a class that is there derives from the same ones
pub derived_grows : (objects objects' : List Payload) (v : Obj) (n : Name) (b : Bool) → GrowsPlainly objects objects'
    → IsDerived objects v n b → IsDerived objects' v n b
derived_grows objects objects' v n b grows (c, has, is) =
    let has' : HasPayload objects' v (payload.Class c) = payload_grown objects objects' v _ (plainly_grows objects objects' grows) has in
    let same : derives_from objects' v n ≡ derives_from objects v n =
    ap (λ d. derives_by v d (first_class n objects')) (class_there objects' v c has' ∙ sym (class_there objects v c has))
    ∙ ap (derives_by v (class_at objects v)) (first_stays n objects objects' grows) in
    (c, has', is ∙ sym same)
