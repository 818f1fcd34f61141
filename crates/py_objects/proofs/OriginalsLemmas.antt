-- A store's invariant through one object more, one change more and a later mark.
use Rattle.std.proofs.Common.{◌≡◌, ◌≢◌, ℕ, zero, suc, ◌+◌, ◌<◌, ◌≤◌, Bool, true, false, cond, eqb, ◌||◌, Some, List, [], ◌∷◌, ◌++◌, length, set, slice_get, refl, ap, sym, ◌∙◌, ◌⊎◌, inl, inr, add-one, filter, nat_le, arith}
use Rattle.std.proofs.lemmas.Bool.Decides.{nat_tests}
use Rattle.std.proofs.lemmas.Option.{slice_get_within}
use Rattle.std.proofs.lemmas.List.{length-append, length-set, set-append_left}
use Rattle.std.proofs.Math.Seq.{set-append_seam}
use Rattle.py_objects.specs.declared.payload.Payload.{Payload}
use Rattle.py_objects.specs.declared.payload.Payload.TheVariants as payload
use Rattle.py_objects.specs.declared.edit.Edit.{Edit}
use Rattle.py_objects.specs.declared.edit.Change.{Change}
use Rattle.py_objects.specs.declared.store.Original.{Original}
use Rattle.py_objects.specs.Objects.{Obj, AllBelow, payload_numbers}
use Rattle.py_objects.specs.Edits.{edited, edited_entry, edit_numbers, with_edit, changed_by, EditFits}
use Rattle.py_objects.specs.Originals.{may_change, restored, has_original, AreMarked, IsKept}
use Rattle.py_objects.proofs.Slots.{slice_get-set_other, set-set_same, set-set_other}
use Rattle.py_objects.proofs.BelowLemmas.{DictsBelow-more, ChangesBelow-more, DictsBelow-append, ChangesBelow-append, dict_numbers-payload}
use Rattle.py_objects.proofs.EditsLemmas.{changed_by-append, length-with_edit, changed_by-add}

-- ---- marks

-- at a mark or behind it, all changes have been made
pub filter-marked : (mark k : ℕ) (cs : List Change) → mark ≤ k → AreMarked mark cs → filter (λ c. nat_le c.after k) cs ≡ cs
filter-marked mark k [] le marked = refl
filter-marked mark k (c ∷ cs) le marked = by (nat_le c.after k) refl (filter-marked mark k cs le marked.1)
  where
    by : (b : Bool) → nat_le c.after k ≡ b → filter (λ d. nat_le d.after k) cs ≡ cs → cond b (c ∷ filter (λ d. nat_le d.after k) cs) (filter (λ d. nat_le d.after k) cs) ≡ c ∷ cs
    by true is rest = ap (λ l. c ∷ l) rest
    by false is rest = let early = marked.0 in absurd (grind (arith, nat_tests))

pub AreMarked-later : (mark later : ℕ) (cs : List Change) → mark ≤ later → AreMarked mark cs → AreMarked later cs
AreMarked-later mark later [] le marked = tt
AreMarked-later mark later (c ∷ cs) le marked = (omega (arith, marked.0), AreMarked-later mark later cs le marked.1)

AreMarked-append : (mark : ℕ) (cs : List Change) (c : Change) → AreMarked mark cs → c.after ≤ mark → AreMarked mark (cs ++ c ∷ [])
AreMarked-append mark [] c marked last = (last, tt)
AreMarked-append mark (d ∷ cs) c marked last = (marked.0, AreMarked-append mark cs c marked.1 last)

-- ---- the objects as they were made

pub length-restored : (os : List Original) (now : List Payload) → length (restored os now) ≡ length now
length-restored [] now = refl
length-restored (o ∷ os) now = length-restored os (set now o.number o.payload) ∙ length-set now o.number o.payload

-- what an object with an original is now tells nothing of them
restored-set : (os : List Original) (now : List Payload) (n : ℕ) (p : Payload) → has_original n os ≡ true → restored os (set now n p) ≡ restored os now
restored-set [] now n p has = absurd (cc)
restored-set (o ∷ os) now n p has = by (eqb n o.number) refl (restored-set os (set now o.number o.payload) n p) has
  where
    by : (b : Bool) → eqb n o.number ≡ b
        → (has_original n os ≡ true → restored os (set (set now o.number o.payload) n p) ≡ restored os (set now o.number o.payload))
        → (b || has_original n os) ≡ true → restored os (set (set now n p) o.number o.payload) ≡ restored os (set now o.number o.payload)
    by true is later _ =
        let same : o.number ≡ n = grind (arith, nat_tests) in
        ap (λ i. restored os (set (set now n p) i o.payload)) same ∙ ap (restored os) (set-set_same now n p o.payload)
        ∙ ap (λ i. restored os (set now i o.payload)) (sym same)
    by false is later rest =
        let apart : n ≢ o.number = λ e. absurd (grind (arith, nat_tests)) in
        ap (restored os) (set-set_other now n o.number p o.payload apart) ∙ later rest

-- an object that comes stands behind them
restored-add : (os : List Original) (now : List Payload) (p : Payload) → ((i : ℕ) (o : Original) → slice_get os i ≡ Some o → o.number < length now)
    → restored os (now ++ p ∷ []) ≡ restored os now ++ p ∷ []
restored-add [] now p within = refl
restored-add (o ∷ os) now p within =
    ap (restored os) (set-append_left now (p ∷ []) o.number o.payload (within 0 o refl))
    ∙ restored-add os (set now o.number o.payload) p (λ i q at. let below = within (i + 1) q (rw add-one at) in omega (arith, length-set now o.number o.payload))

-- and so it does with an original of its own
restored-append : (os : List Original) (now : List Payload) (o : Original) → restored (os ++ o ∷ []) now ≡ set (restored os now) o.number o.payload
restored-append [] now o = refl
restored-append (q ∷ os) now o = restored-append os (set now q.number q.payload) o

-- ---- who has an original

has_original-before : (n : ℕ) (os : List Original) (o : Original) → has_original n os ≡ true → has_original n (os ++ o ∷ []) ≡ true
has_original-before n [] o has = absurd (cc)
has_original-before n (q ∷ os) o has = by (eqb n q.number) (has_original-before n os o) has
  where
    by : (b : Bool) → (has_original n os ≡ true → has_original n (os ++ o ∷ []) ≡ true) → (b || has_original n os) ≡ true
        → (b || has_original n (os ++ o ∷ [])) ≡ true
    by true later has = refl
    by false later has = later has

has_original-last : (n : ℕ) (os : List Original) (o : Original) → n ≡ o.number → has_original n (os ++ o ∷ []) ≡ true
has_original-last n [] o is = grind (arith, nat_tests)
has_original-last n (q ∷ os) o is = by (eqb n q.number) (has_original-last n os o is)
  where
    by : (b : Bool) → has_original n (os ++ o ∷ []) ≡ true → (b || has_original n (os ++ o ∷ [])) ≡ true
    by true later = refl
    by false later = later

-- an entry of a list with one more is one of those before, or the last
older_or_last : {X : Type 0} (xs : List X) (y : X) (i : ℕ) (x : X) → slice_get (xs ++ y ∷ []) i ≡ Some x
    → (slice_get xs i ≡ Some x) ⊎ ((i ≡ length xs) × (x ≡ y))
older_or_last [] y zero x at = inr (refl, cc)
older_or_last [] y (suc i) x at = absurd (cc)
older_or_last (z ∷ xs) y zero x at = inl at
older_or_last (z ∷ xs) y (suc i) x at = by (older_or_last xs y i x at)
  where
    by : (slice_get xs i ≡ Some x) ⊎ ((i ≡ length xs) × (x ≡ y)) → (slice_get xs i ≡ Some x) ⊎ ((suc i ≡ suc (length xs)) × (x ≡ y))
    by (inl before) = inl before
    by (inr last) = inr (ap suc last.0, last.1)

-- what an edit fits may change
may_change-fits : (x : Edit) (p : Payload) → EditFits x p → may_change p ≡ true
may_change-fits x (payload.Dict ps) fits = refl
may_change-fits x (payload.Exception e) fits = refl
may_change-fits x (payload.Traceback t) fits = refl
may_change-fits x _ fits = absurd fits

-- ---- the invariant

more_than : {X : Type 0} (xs : List X) (y : X) → length (xs ++ y ∷ []) ≡ length xs + 1
more_than xs y = length-append xs (y ∷ [])

-- the originals after an object came, which has one if it may change
abbrev pub noted : List Original → List Payload → Payload → Bool → List Original
noted os now p b = cond b (os ++ record { number = length now; payload = p } ∷ []) os

module _ (os : List Original) (now : List Payload) (cs : List Change) (mark : ℕ) (kept : IsKept os now cs mark) where
  -- ---- an object that comes

  pub restored-noted : (p : Payload) (b : Bool) → restored (noted os now p b) (now ++ p ∷ []) ≡ restored os now ++ p ∷ []
  restored-noted p false = restored-add os now p kept.originals.within
  restored-noted p true =
      restored-append os (now ++ p ∷ []) (record { number = length now; payload = p })
      ∙ ap (λ l. set l (length now) p) (restored-add os now p kept.originals.within)
      ∙ ap (λ n. set (restored os now ++ p ∷ []) n p) (sym (length-restored os now))
      ∙ set-append_seam (restored os now) p [] p

  within_noted : (p : Payload) (b : Bool) (i : ℕ) (o : Original) → slice_get (noted os now p b) i ≡ Some o → o.number < length (now ++ p ∷ [])
  within_noted p false i o at = omega (arith, kept.originals.within i o at, more_than now p)
  within_noted p true i o at = by (older_or_last os (record { number = length now; payload = p }) i o at)
    where
      by : (slice_get os i ≡ Some o) ⊎ ((i ≡ length os) × (o ≡ record { number = length now; payload = p })) → o.number < length (now ++ p ∷ [])
      by (inl before) = omega (arith, kept.originals.within i o before, more_than now p)
      by (inr last) = let same : o.number ≡ length now = ap (λ r. r.number) last.1 in omega (arith, more_than now p)

  each_noted : (p : Payload) (b : Bool) → may_change p ≡ b → (n : ℕ) (q : Payload) → slice_get (now ++ p ∷ []) n ≡ Some q → may_change q ≡ true
      → has_original n (noted os now p b) ≡ true
  each_noted p b is n q at may = by (older_or_last now p n q at) b is
    where
      by : (slice_get now n ≡ Some q) ⊎ ((n ≡ length now) × (q ≡ p)) → (c : Bool) → may_change p ≡ c → has_original n (noted os now p c) ≡ true
      by (inl before) false _ = kept.originals.each n q before may
      by (inl before) true _ = has_original-before n os _ (kept.originals.each n q before may)
      by (inr last) false not = let same = ap may_change last.1 in absurd (cc)
      by (inr last) true _ = has_original-last n os _ last.0

  pub IsKept-add : (p : Payload) (b : Bool) → may_change p ≡ b → AllBelow (length now + 1) (payload_numbers p)
      → IsKept (noted os now p b) (now ++ p ∷ []) cs mark
  IsKept-add p b is named = record {
    originals = record { within = within_noted p b; each = each_noted p b is };
    marked = kept.marked;
    changed = ap (λ l. l ++ p ∷ []) kept.changed
        ∙ sym (changed_by-add (length now) (restored os now) p cs (length-restored os now) kept.dicts kept.changes)
        ∙ ap (λ l. changed_by l cs) (sym (restored-noted p b));
    dicts = rw (restored-noted p b, more_than now p)
        (DictsBelow-append _ (restored os now) p (DictsBelow-more _ _ (restored os now) (omega arith) kept.dicts) (dict_numbers-payload _ p named));
    changes = rw (more_than now p) (ChangesBelow-more _ _ cs (omega arith) kept.changes);
  }

  -- ---- a later mark

  pub IsKept-later : (later : ℕ) → mark ≤ later → IsKept os now cs later
  IsKept-later later le = record {
    originals = kept.originals;
    marked = AreMarked-later mark later cs le kept.marked;
    changed = kept.changed;
    dicts = kept.dicts;
    changes = kept.changes;
  }

  -- ---- a change

  module _ (o : Obj) (x : Edit) (p : Payload) (at : slice_get now o.number ≡ Some p) (fits : EditFits x p) where
    edited_at : with_edit now o x ≡ set now o.number (edited now x p)
    edited_at = ap (edited_entry now x o.number) at

    has : has_original o.number os ≡ true
    has = kept.originals.each o.number p at (may_change-fits x p fits)

    pub restored-with_edit : restored os (with_edit now o x) ≡ restored os now
    restored-with_edit = ap (restored os) edited_at ∙ restored-set os now o.number (edited now x p) has

    each_edited : (n : ℕ) (q : Payload) → slice_get (with_edit now o x) n ≡ Some q → may_change q ≡ true → has_original n os ≡ true
    each_edited n q there may = by (eqb n o.number) refl
      where
        by : (b : Bool) → eqb n o.number ≡ b → has_original n os ≡ true
        by true is = let same : n ≡ o.number = grind (arith, nat_tests) in ap (λ m. has_original m os) same ∙ has
        by false is =
            let apart : o.number ≢ n = λ e. absurd (grind (arith, nat_tests)) in
            kept.originals.each n q (sym (slice_get-set_other now o.number n (edited now x p) apart) ∙ sym (ap (λ l. slice_get l n) edited_at) ∙ there) may

    change : Change
    change = record { after = mark; object = o; edit = x }

    pub IsKept-change : AllBelow (length now) (edit_numbers x) → IsKept os (with_edit now o x) (cs ++ record { after = mark; object = o; edit = x } ∷ []) mark
    unfolding change
    IsKept-change named = record {
      originals = record { within = λ i r r_at. let below = kept.originals.within i r r_at in omega (arith, length-with_edit now o x); each = each_edited };
      marked = AreMarked-append mark cs change kept.marked (omega arith);
      changed = ap (λ l. with_edit l o x) kept.changed ∙ sym (changed_by-append (restored os now) cs change)
          ∙ ap (λ l. changed_by l (cs ++ change ∷ [])) (sym restored-with_edit);
      dicts = rw (restored-with_edit, length-with_edit now o x) kept.dicts;
      changes = rw (length-with_edit now o x) (ChangesBelow-append _ cs change kept.changes (slice_get_within now o.number p at) named);
    }
