-- What the drives ask, by what events show, is what their lines ask.
use Rattle.std.proofs.Common.{◌≡◌, ℕ, zero, suc, List, [], ◌∷◌, Bool, true, false, Some, None, refl, sym, ap, subst}
use Rattle.std.specs.Prelude.{Option, if◌then◌else◌, option_map, slice_get}
use Rattle.py_objects.specs.declared.payload.Payload.{Payload}
use Rattle.py_objects.specs.declared.payload.Payload.TheVariants as payload
use Rattle.py_objects.specs.declared.request.Request.{Request}
use Rattle.py_objects.specs.declared.request.Request.TheVariants as request
use Rattle.py_objects.specs.declared.request.Keywords.TheVariants as keywords
use Rattle.py_objects.specs.declared.event.DriveAnswer.{DriveAnswer}
use Rattle.py_objects.specs.declared.event.DriveAnswer.TheVariants as answer
use Rattle.py_objects.specs.declared.event.Event.{Event}
use Rattle.py_objects.specs.declared.event.Event.TheVariants as event
use Rattle.py_objects.specs.Objects.{Obj, HasPayload, declared}
use Rattle.py_lines.specs.declared.drive.DriveAtom.{DriveAtom}
use Rattle.py_lines.specs.declared.drive.DriveAtom.TheVariants as atom
use Rattle.py_lines.specs.declared.drive.DriveLine.{DriveLine}
use Rattle.py_lines.specs.declared.drive.DriveLine.TheVariants as drive
use Rattle.py_run.specs.Run.{Posed}
use Rattle.py_places.specs.Cells.{is_literal, first_of}
use Rattle.py_places.proofs.Literals.{same_of, first_has}
use Rattle.py_meaning.specs.Whole.{IsLeft, IsLeftBy, IsOf, AreOf, IsThrown, AsksThis, Asks}
use Rattle.py_meaning.proofs.WorkedObjects.{some_is}
use Rattle.py_following.specs.Drives.{Sought, This, Any_of, left_by, left_at, sought, like_shown, object_of, object_if, in_front, objects_of, thrown_with, calls, sends, throws, request_by, posing, posed_by}

module _ (objects : List Payload) where
  -- an object that is sought
  abbrev pub IsSought : Sought → Obj → Type 0
  IsSought (This w) v = v ≡ w
  IsSought (Any_of p) v = HasPayload objects v p

  literal_has : (p : Payload) (q : Option Payload) → is_literal p q ≡ true → q ≡ Some p
  literal_has p None is = absurd (cc is)
  literal_has p (Some q) is = ap Some (same_of q p is)

  like_has : (answers : List DriveAnswer) (p : Payload) (shown : Option Obj) (v : Obj)
      → like_shown objects answers p shown ≡ Some v → HasPayload objects v p
  like_has answers p None v is = first_has objects p v is
  like_has answers p (Some w) v is = by (is_literal p (slice_get objects w.number)) refl is
    where
      by : (b : Bool) → is_literal p (slice_get objects w.number) ≡ b → (if b then Some w else first_of objects p) ≡ Some v
          → HasPayload objects v p
      by true one same =
          subst (λ (u : Obj). HasPayload objects u p) (some_is w v same) (literal_has p (slice_get objects w.number) one)
      by false other same = first_has objects p v same

  object_has : (answers : List DriveAnswer) (shown : Option Obj) (s : Sought) (v : Obj)
      → object_of objects answers shown s ≡ Some v → IsSought s v
  object_has answers shown (This w) v is = sym (some_is w v is)
  object_has answers shown (Any_of p) v is = like_has answers p shown v is

  -- what an answer leaves
  left_has : (w : DriveAnswer) (v : Obj) → IsSought (left_by w) v → IsLeft objects w v
  left_has (answer.Returns u) v is = is
  left_has (answer.Yields u) v is = is
  left_has (answer.Stops None) v is = is
  left_has (answer.Stops (Some u)) v is = is
  left_has answer.Closes v is = is
  left_has (answer.Raises e) v is = is
  left_has (answer.Reported text) v is = is

  module _ (answers : List DriveAnswer) (events : List Event)
      (results : (n : ℕ) (w : DriveAnswer) → slice_get answers n ≡ Some w → (i : ℕ) × (slice_get events i ≡ Some (event.Result (suc n) w))) where
    left_is : (n : ℕ) (shown : Option Obj) (v : Obj) → object_if objects answers shown (left_at objects answers n) ≡ Some v
        → IsLeftBy objects events n v
    left_is zero shown v is = absurd (cc is)
    left_is (suc n) shown v is = by (slice_get answers n) refl is
      where
        by : (w : Option DriveAnswer) → slice_get answers n ≡ w
            → object_if objects answers shown (option_map left_by w) ≡ Some v → IsLeftBy objects events (suc n) v
        by None at same = absurd (cc same)
        by (Some w) at same =
            let (i, here) = results n w at in (i, w, here, left_has w v (object_has answers shown (left_by w) v same))

    sought_is : (shown : Option Obj) (a : DriveAtom) (v : Obj)
        → object_if objects answers shown (sought objects answers a) ≡ Some v → IsOf objects events a v
    sought_is shown atom.None v is = like_has answers payload.None shown v is
    sought_is shown (atom.Bool b) v is = like_has answers (payload.Bool b) shown v is
    sought_is shown (atom.Int n) v is = like_has answers (payload.Int n) shown v is
    sought_is shown (atom.Str s) v is = like_has answers (payload.Str s) shown v is
    sought_is shown (atom.Name x) v is = by (declared objects x) is
      where
        by : (o : Option Obj) → object_if objects answers shown (option_map This o) ≡ Some v → o ≡ Some v
        by None same = absurd (cc same)
        by (Some w) same = same
    sought_is shown (atom.Drive n) v is = left_is n shown v is

    front_is : (o : Option Obj) (m : Option (List Obj)) (vs : List Obj) → in_front objects answers o m ≡ Some vs
        → (v : Obj) × (ws : List Obj) × (o ≡ Some v) × (m ≡ Some ws) × (vs ≡ v ∷ ws)
    front_is None m vs is = absurd (cc is)
    front_is (Some v) None vs is = absurd (cc is)
    front_is (Some v) (Some ws) vs is = (v, ws, refl, refl, sym (some_is (v ∷ ws) vs is))

    objects_are : (atoms : List DriveAtom) (shown vs : List Obj) → objects_of objects answers atoms shown ≡ Some vs
        → AreOf objects events atoms vs
    objects_are [] shown vs is = subst (AreOf objects events []) (some_is [] vs is) tt
    objects_are (a ∷ atoms) [] vs is =
        let (v, ws, one, more, same) = front_is (object_if objects answers None (sought objects answers a)) (objects_of objects answers atoms []) vs is in
        subst (AreOf objects events (a ∷ atoms)) (sym same) (sought_is None a v one, objects_are atoms [] ws more)
    objects_are (a ∷ atoms) (u ∷ us) vs is =
        let (v, ws, one, more, same) = front_is (object_if objects answers (Some u) (sought objects answers a)) (objects_of objects answers atoms us) vs is in
        subst (AreOf objects events (a ∷ atoms)) (sym same) (sought_is (Some u) a v one, objects_are atoms us ws more)

    thrown_is : (a : Option DriveAtom) (shown : List Obj) (v : Obj) → thrown_with objects answers a shown ≡ Some v
        → IsThrown objects events a v
    thrown_is None shown v is = first_has objects payload.None v is
    thrown_is (Some a) shown v is = sought_is (slice_get shown 0) a v is

    -- the request of a line is what the line asks
    request_is : (line : DriveLine) (shown : List Obj) (r : Request) → request_by objects answers line shown ≡ Some r
        → AsksThis objects events line r
    request_is (drive.Call f atoms) shown r is = by (declared objects f) refl (objects_of objects answers atoms shown) refl is
      where
        by : (o : Option Obj) → declared objects f ≡ o → (m : Option (List Obj)) → objects_of objects answers atoms shown ≡ m
            → calls objects answers o m ≡ Some r
            → AsksThis objects events (drive.Call f atoms) r
        by None at m are same = absurd (cc same)
        by (Some g) at None are same = absurd (cc same)
        by (Some g) at (Some vs) are same =
            (g, vs, sym (some_is (request.Call g vs keywords.None) r same), at, objects_are atoms shown vs are)
    request_is (drive.Next n) shown r is =
        by (object_if objects answers None (left_at objects answers n)) refl (like_shown objects answers payload.None (slice_get shown 0)) refl is
      where
        by : (o : Option Obj) → object_if objects answers None (left_at objects answers n) ≡ o → (m : Option Obj)
            → like_shown objects answers payload.None (slice_get shown 0) ≡ m
            → sends objects answers o m ≡ Some r → AsksThis objects events (drive.Next n) r
        by None at m has same = absurd (cc same)
        by (Some g) at None has same = absurd (cc same)
        by (Some g) at (Some v) has same =
            (g, v, sym (some_is (request.Send g v) r same), left_is n None g at, like_has answers payload.None (slice_get shown 0) v has)
    request_is (drive.Send n a) shown r is =
        by (object_if objects answers None (left_at objects answers n)) refl (object_if objects answers (slice_get shown 0) (sought objects answers a)) refl is
      where
        by : (o : Option Obj) → object_if objects answers None (left_at objects answers n) ≡ o → (m : Option Obj)
            → object_if objects answers (slice_get shown 0) (sought objects answers a) ≡ m
            → sends objects answers o m ≡ Some r → AsksThis objects events (drive.Send n a) r
        by None at m has same = absurd (cc same)
        by (Some g) at None has same = absurd (cc same)
        by (Some g) at (Some v) has same =
            (g, v, sym (some_is (request.Send g v) r same), left_is n None g at, sought_is (slice_get shown 0) a v has)
    request_is (drive.Throw n x a) shown r is =
        by (object_if objects answers None (left_at objects answers n)) refl (declared objects x) refl (thrown_with objects answers a shown) refl is
      where
        by : (o : Option Obj) → object_if objects answers None (left_at objects answers n) ≡ o → (c : Option Obj)
            → declared objects x ≡ c
            → (m : Option Obj) → thrown_with objects answers a shown ≡ m → throws objects answers o c m ≡ Some r
            → AsksThis objects events (drive.Throw n x a) r
        by None at c named m has same = absurd (cc same)
        by (Some g) at None named m has same = absurd (cc same)
        by (Some g) at (Some c) named None has same = absurd (cc same)
        by (Some g) at (Some c) named (Some v) has same =
            (g, c, v, sym (some_is (request.Throw g c (Some v) None) r same), left_is n None g at, named, thrown_is a shown v has)
    request_is (drive.Close n) shown r is = by (object_if objects answers None (left_at objects answers n)) refl is
      where
        by : (o : Option Obj) → object_if objects answers None (left_at objects answers n) ≡ o
            → option_map request.Close o ≡ Some r → AsksThis objects events (drive.Close n) r
        by None at same = absurd (cc same)
        by (Some g) at same = (g, sym (some_is (request.Close g) r same), left_is n None g at)
    request_is (drive.Report n) shown r is = absurd (cc is)

    -- so a script's drive asks what it poses
    pub posed_is : (line : Option DriveLine) (shown : List Obj) (q : Posed) → posed_by objects answers line shown ≡ Some q
        → (d : DriveLine) × (line ≡ Some d) × Asks objects events d q
    posed_is None shown q is = absurd (cc is)
    posed_is (Some d) shown q is = by (request_by objects answers d shown) refl is
      where
        by : (o : Option Request) → request_by objects answers d shown ≡ o → option_map (posing objects answers) o ≡ Some q
            → (c : DriveLine) × (Some d ≡ Some c) × Asks objects events c q
        by None at same = absurd (cc same)
        by (Some r) at same =
            (d, refl, subst (Asks objects events d) (some_is (posing objects answers r) q same) (request_is d shown r at, refl))
