-- What the objects of a run begin with.
use Rattle.std.proofs.Common.{◌≡◌, ◌<◌, ◌≤◌, ◌+◌, ◌++◌, ℕ, zero, suc, List, [], ◌∷◌, true, false, Some, inl, inr, refl, sym, ap, subst, ◌∙◌, length, arith}
use Rattle.std.specs.Prelude.{Option, None, slice_get, option_map}
use Rattle.std.proofs.lemmas.Option.{same_Some, slice_get-map}
use Rattle.py_objects.specs.declared.payload.Payload.{Payload}
use Rattle.py_objects.specs.declared.payload.Payload.TheVariants as payload
use Rattle.py_objects.specs.declared.error_kind.ErrorKind.{ErrorKind}
use Rattle.py_objects.specs.ErrorKinds.{error_kinds}
use Rattle.py_objects.specs.ErrorPlaces.{place_of}
use Rattle.py_objects.specs.Objects.{declares, payload_numbers, AllBelow, IsMade, AllFit}
use Rattle.py_objects.specs.Singletons.{singletons}
use Rattle.py_objects.proofs.ErrorKindsLemmas.{place_at, place_below}
use Rattle.py_objects.proofs.GrowthLemmas.{below_more, slice_get_split, one_entry}
use Rattle.py_exceptions.specs.Classes.{class_of, class_payload, class_payloads, first_classes, DeclareNothing, HaveClasses}
use Rattle.py_exceptions.proofs.ClassesLemmas.{classes_there, mro_there, mro_below}
use Rattle.py_run.specs.First.{first_objects}

-- what holds of None, False and True, each at its place
pub each_single : (P : ℕ → Payload → Type 0) → P 0 payload.None → P 1 (payload.Bool false) → P 2 (payload.Bool true) → (i : ℕ) (p : Payload) → slice_get singletons i ≡ Some p → P i p
each_single P at_none at_false at_true zero p is = subst (P 0) (same_Some payload.None p is) at_none
each_single P at_none at_false at_true (suc zero) p is = subst (P 1) (same_Some (payload.Bool false) p is) at_false
each_single P at_none at_false at_true (suc (suc zero)) p is = subst (P 2) (same_Some (payload.Bool true) p is) at_true
each_single P at_none at_false at_true (suc (suc (suc i))) p is = absurd (cc is)

-- what holds of each of the first objects at its place: of what every store begins with, of the class of each kind, and of an empty dict
pub each_first : (P : ℕ → Payload → Type 0) → ((i : ℕ) (p : Payload) → slice_get singletons i ≡ Some p → P i p)
    → ((kind : ErrorKind) → P (class_of first_classes kind).number (class_payload first_classes kind)) → ((i : ℕ) → P i (payload.Dict []))
    → (i : ℕ) (p : Payload) → slice_get first_objects i ≡ Some p → P i p
each_first P single class dict zero p is = single 0 p is
each_first P single class dict (suc zero) p is = single 1 p is
each_first P single class dict (suc (suc zero)) p is = single 2 p is
each_first P single class dict (suc (suc (suc i))) p is =
    let place : 3 + i ≡ suc (suc (suc i)) = omega arith in
    subst (λ n. P n p) place
    (elim (slice_get_split (class_payloads first_classes) (payload.Dict [] ∷ []) i p is) [
      | inl front ↦ at_class (slice_get error_kinds i) refl (sym (slice_get-map (class_payload first_classes) error_kinds i) ∙ front)
      | inr back ↦ subst (P (3 + i)) (one_entry (payload.Dict []) p _ back) (dict (3 + i))
    ])
  where
    at_class : (kind : Option ErrorKind) → slice_get error_kinds i ≡ kind → option_map (class_payload first_classes) kind ≡ Some p → P (3 + i) p
    at_class None at of = absurd (cc of)
    at_class (Some kind) at of =
        let same : class_payload first_classes kind ≡ p = cc in
        let place : 3 + place_of kind ≡ 3 + i = ap (λ n. 3 + n) (place_at i kind at) in
        subst (P (3 + i)) same (subst (λ n. P n (class_payload first_classes kind)) place (class kind))

-- None, False and True declare nothing
pub singles_plain : DeclareNothing singletons
singles_plain i p is = each_single (λ n q. declares q ≡ None) refl refl refl i p is

-- an entry among the first objects fits
abbrev FitsFirst : ℕ → Payload → Type 0
FitsFirst i p = AllBelow (length first_objects) (payload_numbers p) × IsMade first_objects p

class_fits : (kind : ErrorKind) → FitsFirst (class_of first_classes kind).number (class_payload first_classes kind)
class_fits kind =
    let low : place_of kind < length error_kinds = place_below kind in
    (below_more _ _ _ (let more : 3 + place_of kind ≤ length first_objects = omega (arith, low) in more) (mro_below first_classes kind), mro_there first_classes singletons (payload.Dict [] ∷ []) refl singles_plain kind)

-- the first objects fit
pub first_fit : AllFit first_objects
first_fit i p is = each_first FitsFirst (λ j q at. each_single FitsFirst (tt, tt) (tt, tt) (tt, tt) j q at) class_fits (λ n. (tt, tt)) i p is

pub first_have : HaveClasses first_classes first_objects
first_have = classes_there first_classes singletons (payload.Dict [] ∷ []) refl singles_plain

-- the numbers before others
pub below_front : (n : ℕ) (xs ys : List ℕ) → AllBelow n (xs ++ ys) → AllBelow n xs
below_front n [] ys below = tt
below_front n (x ∷ xs) ys below = (below.0, below_front n xs ys below.1)

-- the numbers behind others
pub below_behind : (n : ℕ) (xs ys : List ℕ) → AllBelow n (xs ++ ys) → AllBelow n ys
below_behind n [] ys below = below
below_behind n (x ∷ xs) ys below = below_behind n xs ys below.1
