-- New objects, and those that are declared.
use Rattle.std.proofs.Common.{◌≡◌, ◌<◌, ◌≤◌, ◌+◌, ◌++◌, ◌||◌, ℕ, suc, List, [], ◌∷◌, Bool, true, false, cond, Some, refl, sym, ap, subst, ◌∙◌, length, eqb, ne_eqb, arith}
use Rattle.std.specs.Prelude.{Option, None, slice_get}
use Rattle.py_objects.specs.declared.payload.Payload.{Payload}
use Rattle.py_objects.specs.declared.event.Event.{Event}
use Rattle.py_objects.specs.Objects.{Obj, Name, HasPayload, declares, is_name, declared_from, declared, is_among, event_numbers, IsNew, AllBelow, AreNamed}
use Rattle.py_objects.specs.Growth.{GrowsPlainly, with_object}
use Rattle.py_objects.specs.Edits.{Kept}
use Rattle.py_objects.proofs.GrowthLemmas.{declared_stays}
use Rattle.py_objects.proofs.GrownLemmas.{added_made}

-- the entry behind all others
pub newest : {A : Type 0} (xs : List A) (x : A) → slice_get (xs ++ x ∷ []) (length xs) ≡ Some x
newest [] x = refl
newest (y ∷ xs) x = newest xs x

-- an object that was added has its payload
pub added_has : (old new : Kept) (p : Payload) (v : Obj) → new ≡ with_object old p → v.number ≡ length old.made → HasPayload new.made v p
added_has old new p v added last =
    subst (λ os. slice_get os v.number ≡ Some p) (sym (added_made old new p added)) (subst (λ n. slice_get (old.made ++ p ∷ []) n ≡ Some p) (sym last) (newest old.made p))

-- a number past those that are named is named by none
pub not_among : (n m : ℕ) (ms : List ℕ) → AllBelow m ms → m ≤ n → is_among n ms ≡ false
not_among n m [] below past = refl
not_among n m (k ∷ ks) below past =
    let other : eqb n k ≡ false = ne_eqb n k (λ same. let low : k < m = below.0 in omega (arith, same, low, past)) in
    ap (λ b. b || is_among n ks) other ∙ not_among n m ks below.1 past

-- what is declared is among the objects
declared_from_within : (i : ℕ) (objects : List Payload) (n : Name) (v : Obj) → declared_from i objects n ≡ Some v → v.number < i + length objects
declared_from_within i [] n v is = absurd (cc is)
declared_from_within i (p ∷ ps) n v is =
    let P : Bool → Type 0 = λ b. cond b (Some (record { number = i })) (declared_from (suc i) ps n) ≡ Some v → v.number < i + suc (length ps) in
    let here : P true = λ h. let same : i ≡ v.number = ap (λ o. number_or o) h in omega (arith, same) in
    let there : P false = λ h. let rest = declared_from_within (suc i) ps n v h in omega (arith, rest) in
    let cases : (b : Bool) → P b = λ b. elim b as P [ true ↦ here | false ↦ there ] in
    cases (is_name n (declares p)) is
  where
    number_or : Option Obj → ℕ
    number_or None = 0
    number_or (Some o) = o.number

pub declared_within : (objects : List Payload) (n : Name) (v : Obj) → declared objects n ≡ Some v → v.number < length objects
declared_within objects n v is = let low = declared_from_within 0 objects n v is in omega (arith, low)

-- a number past the objects is new among more of them that declare nothing
pub past_is_new : (old new : List Payload) (before : List Event) (n : ℕ) → GrowsPlainly old new → AreNamed old before → length old ≤ n → IsNew new before n
past_is_new old new before n grows named past = record {
  unnamed = λ i e here. not_among n (length old) (event_numbers e) (named.in_events i e here) past;
  undeclared = λ x v is. ne_eqb n v.number (λ same. let low = declared_within old x v (sym (declared_stays old new x grows) ∙ is) in omega (arith, low, same, past));
}
