-- Truth values among objects: no change makes or moves one, and what is found is one.
use Rattle.std.proofs.Common.{◌≡◌, ◌+◌, ℕ, suc, Option, Some, None, List, [], ◌∷◌, Bool, true, false, cond, slice_get, refl, ap, sym, ◌∙◌, arith}
use Rattle.std.specs.Prelude.{option_map, position, IfSome}
use Rattle.std.specs.List.{position_from}
use Rattle.std.proofs.lemmas.Iterator.Adapters.{position_from-zero}
use Rattle.py_objects.specs.declared.payload.Payload.{Payload}
use Rattle.py_objects.specs.declared.payload.Payload.TheVariants as payload
use Rattle.py_objects.specs.declared.edit.Edit.{Edit}
use Rattle.py_objects.specs.declared.edit.Change.{Change}
use Rattle.py_objects.specs.Objects.{Obj, HasPayload}
use Rattle.py_objects.specs.Edits.{edited, edited_entry, with_edit, changed_by}
use Rattle.py_objects.specs.Singletons.{is_truth, own_truth}
use Rattle.py_objects.proofs.AncestryLemmas.{position_from-set}

-- the first truth value as a search finds it
pub truth_position : (b : Bool) (objects : List Payload) → position (is_truth b) objects ≡ position_from (is_truth b) 0 objects
truth_position b objects = position_from-zero (is_truth b) objects

-- ---- changes

-- an edited entry is this truth value where it was
edited_truth : (b : Bool) (objects : List Payload) (x : Edit) (p : Payload) → is_truth b (edited objects x p) ≡ is_truth b p
edited_truth b objects x (payload.Bool c) = refl
edited_truth b objects x _ = refl

-- the first one stays where it is, by one change
with_edit_truth : (b : Bool) (objects : List Payload) (o : Obj) (x : Edit) → position_from (is_truth b) 0 (with_edit objects o x) ≡ position_from (is_truth b) 0 objects
with_edit_truth b objects o x = by (slice_get objects o.number) refl
  where
    by : (q : Option Payload) → slice_get objects o.number ≡ q → position_from (is_truth b) 0 (edited_entry objects x o.number q) ≡ position_from (is_truth b) 0 objects
    by None is = refl
    by (Some p) is = position_from-set (is_truth b) 0 objects o.number p (edited objects x p) is (edited_truth b objects x p)

-- and by several
changed_place : (b : Bool) (objects : List Payload) (cs : List Change) → position_from (is_truth b) 0 (changed_by objects cs) ≡ position_from (is_truth b) 0 objects
changed_place b objects [] = refl
changed_place b objects (c ∷ cs) = changed_place b (with_edit objects c.object c.edit) cs ∙ with_edit_truth b objects c.object c.edit

pub changed_truth : (b : Bool) (objects : List Payload) (cs : List Change) → own_truth b (changed_by objects cs) ≡ own_truth b objects
changed_truth b objects cs = ap (option_map (λ n. let o : Obj = record { number = n } in o)) (changed_place b objects cs)

-- ---- what is found

-- an entry was found by a test at its place
record IsFound (test : Payload → Bool) (i : ℕ) (ps : List Payload) (n : ℕ) : Type 0 where
  place : ℕ
  counted : n ≡ i + place
  entry : Payload
  there : slice_get ps place ≡ Some entry
  passes : test entry ≡ true

position_found : (test : Payload → Bool) (i : ℕ) (ps : List Payload) (n : ℕ) → position_from test i ps ≡ Some n → IsFound test i ps n
position_found test i [] n is = absurd (cc is)
position_found test i (p ∷ ps) n is = by (test p) refl is (λ found. position_found test (i + 1) ps n found)
  where
    by : (b : Bool) → test p ≡ b → cond b (Some i) (position_from test (i + 1) ps) ≡ Some n
        → (position_from test (i + 1) ps ≡ Some n → IsFound test (i + 1) ps n) → IsFound test i (p ∷ ps) n
    by true passes same rest = record { place = 0; counted = let one : i ≡ n = cc same in omega (arith, one); entry = p; there = refl; passes = passes }
    by false fails same rest =
        let later = rest same in
        record { place = suc later.place; counted = let far = later.counted in omega (arith, far); entry = later.entry; there = later.there; passes = later.passes }

-- what passes the test is that truth value
bool_is : (b c : Bool) → is_truth b (payload.Bool c) ≡ true → payload.Bool c ≡ payload.Bool b
bool_is true c is = ap payload.Bool is
bool_is false true is = absurd (cc is)
bool_is false false is = refl

truth_is : (b : Bool) (p : Payload) → is_truth b p ≡ true → p ≡ payload.Bool b
truth_is b (payload.Bool c) is = bool_is b c is
truth_is b _ is = absurd (cc is)

-- the first object that is a truth value is there, as that one
own_truth_has : (b : Bool) (objects : List Payload) (v : Obj) → own_truth b objects ≡ Some v → HasPayload objects v (payload.Bool b)
own_truth_has b objects v is = by (position_from (is_truth b) 0 objects) refl is
  where
    by : (n : Option ℕ) → position_from (is_truth b) 0 objects ≡ n → option_map (λ n. let o : Obj = record { number = n } in o) n ≡ Some v → HasPayload objects v (payload.Bool b)
    by None place none = absurd (cc none)
    by (Some n) place same =
        let found = position_found (is_truth b) 0 objects n place in
        let number : v.number ≡ found.place = let one : n ≡ v.number = cc same in omega (arith, one, found.counted) in
        ap (slice_get objects) number ∙ found.there ∙ ap Some (truth_is b found.entry found.passes)

-- where there is one
pub own_truth_if : (b : Bool) (objects : List Payload) (r : Option Obj) → r ≡ own_truth b objects → IfSome r (λ v. HasPayload objects v (payload.Bool b))
own_truth_if b objects None is = tt
own_truth_if b objects (Some v) is = own_truth_has b objects v (sym is)
