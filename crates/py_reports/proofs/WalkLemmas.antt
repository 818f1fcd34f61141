-- A walk along links that meets each object once.
use Rattle.std.proofs.Common.{◌≡◌, ℕ, zero, suc, ◌+◌, ◌-◌, ◌<◌, ◌≤◌, ◌⊎◌, inl, inr, List, [], ◌∷◌, ◌++◌, length, Bool, true, false, not, ◌||◌, refl, sym, ap, subst, ◌∙◌, arith, Some, get_or, length-append}
use Rattle.std.specs.Prelude.{Option, None, slice_get, nat_eq}
use Rattle.std.specs.List.{list_any}
use Rattle.std.proofs.lemmas.Bool.{cases_lt, cases_order}
use Rattle.std.proofs.lemmas.List.{same_lists}
use Rattle.std.proofs.lemmas.Option.{none-some, same_Some, slice_get_within, get_or_from_slice_get}
use Rattle.indexmap.proofs.IndexTableLemmas.Probe.{pigeonhole}
use Rattle.indexmap.specs.IndexSet.{insert_key}
use Rattle.py_code.proofs.NamesLemmas.{slice_get-append_before, slice_get-append_last}
use Rattle.py_objects.specs.declared.payload.Payload.{Payload}
use Rattle.py_objects.specs.Objects.{Obj, numbers}
use Rattle.py_objects.proofs.Slots.{there}
use Rattle.py_objects.specs.declared.edit.LinkField.TheVariants as link
use Rattle.py_exceptions.specs.Walks.{led, link_in, on_link}
use Rattle.py_exceptions.specs.Orders.{IsOrder}
use Rattle.py_exceptions.proofs.WalksLemmas.{same_object}
use Rattle.py_reports.specs.declared.order.Way.{Way}
use Rattle.py_reports.specs.declared.order.Way.TheVariants as way
use Rattle.py_reports.specs.Chains.{before_in}
use Rattle.py_reports.specs.Inside.{step_at}

-- ---- the numbers of the objects that were met

numbers_more : (vs : List Obj) (v : Obj) → numbers (vs ++ v ∷ []) ≡ numbers vs ++ v.number ∷ []
numbers_more [] v = refl
numbers_more (w ∷ vs) v = ap (λ (ns : List ℕ). w.number ∷ ns) (numbers_more vs v)

-- a number among them is that of one of them
among : (vs : List Obj) (v : Obj) → list_any (nat_eq v.number) (numbers vs) ≡ true → (j : ℕ) × (j < length vs) × (slice_get vs j ≡ Some v)
among [] v found = cc
among (w ∷ vs) v found = by (nat_eq v.number w.number) refl found (among vs v)
  where
    by : (b : Bool) → nat_eq v.number w.number ≡ b → (b || list_any (nat_eq v.number) (numbers vs)) ≡ true
        → (list_any (nat_eq v.number) (numbers vs) ≡ true → (j : ℕ) × (j < length vs) × (slice_get vs j ≡ Some v))
        → (j : ℕ) × (j < suc (length vs)) × (slice_get (w ∷ vs) j ≡ Some v)
    by true is found later = (0, omega arith, ap Some (same_object w v (grind (arith, is))))
    by false is found later = let (j, low, at) = later found in (suc j, omega arith, at)

-- a number that isn't among them is none of theirs
apart_from : (vs : List Obj) (v : Obj) → list_any (nat_eq v.number) (numbers vs) ≡ false → (j : ℕ) → slice_get vs j ≡ Some v → ⊥
apart_from [] v none j at = cc
apart_from (w ∷ vs) v none j at = by (nat_eq v.number w.number) refl none (apart_from vs v) j at
  where
    by : (b : Bool) → nat_eq v.number w.number ≡ b → (b || list_any (nat_eq v.number) (numbers vs)) ≡ false
        → (list_any (nat_eq v.number) (numbers vs) ≡ false → (j : ℕ) → slice_get vs j ≡ Some v → ⊥)
        → (j : ℕ) → slice_get (w ∷ vs) j ≡ Some v → ⊥
    by true is none later j at = cc
    by false is none later zero at =
        let same : v.number ≡ w.number = ap (λ (o : Obj). o.number) (sym (same_Some w v at)) in
        grind (arith, is, same)
    by false is none later (suc j) at = later none j at

-- what an insertion tells
pub found_by : (is_new was : Bool) → is_new ≡ not was → is_new ≡ false → was ≡ true
found_by is_new true told old = refl
found_by is_new false told old = cc

pub absent_by : (is_new was : Bool) → is_new ≡ not was → is_new ≡ true → was ≡ false
absent_by is_new true told fresh = cc
absent_by is_new false told fresh = refl

-- ---- the walk so far, and where it leads next

pub record SoFar (step : Obj → Option Obj) (from : Obj) (met : List Obj) (next : Option Obj) : Type 0 where
  pub along : (i : ℕ) → i < length met → slice_get met i ≡ led step i from
  pub once : (i j : ℕ) → i < length met → j < length met → slice_get met i ≡ slice_get met j → i ≡ j
  pub leads : led step (length met) from ≡ next

module _ (step : Obj → Option Obj) (from : Obj) where
  pub none_met : (met : List Obj) (next : Option Obj) → met ≡ [] → next ≡ Some from → SoFar step from met next
  none_met met next is leads = subst (λ (l : List Obj). SoFar step from l next) (sym is) (record {
    along = λ i less. absurd (omega arith);
    once = λ i j p q same. absurd (omega arith);
    leads = sym leads;
  })

  -- one that has ended has gone somewhere
  some_met : (met : List Obj) → led step (length met) from ≡ None → 0 < length met
  some_met [] ended = cc
  some_met (v ∷ met) ended = omega arith

  pub ended_order : (met : List Obj) (next : Option Obj) → next ≡ None → SoFar step from met next → IsOrder step from met
  ended_order met next none so_far =
      record { along = so_far.along; once = so_far.once; ends = inl (so_far.leads ∙ none); some = some_met met (so_far.leads ∙ none) }

  pub met_order : (met : List Obj) (next : Option Obj) (v : Obj) (seen : List ℕ) → next ≡ Some v → seen ≡ numbers met → SoFar step from met next
      → list_any (nat_eq v.number) seen ≡ true → IsOrder step from met
  met_order met next v seen leads are so_far found =
      let (j, low, at) = among met v (sym (ap (list_any (nat_eq v.number)) are) ∙ found) in
      record { along = so_far.along; once = so_far.once; ends = inr (j, low, so_far.leads ∙ leads ∙ sym at); some = omega arith }

  pub one_more_met : (met more : List Obj) (next later : Option Obj) (v : Obj) (seen : List ℕ) → next ≡ Some v → seen ≡ numbers met → more ≡ met ++ v ∷ []
      → later ≡ step v → list_any (nat_eq v.number) seen ≡ false → SoFar step from met next → SoFar step from more later
  one_more_met met more next later v seen leads are pushed after absent so_far = subst (λ (l : List Obj). SoFar step from l later) (sym pushed) (record {
    along = along;
    once = once;
    leads = ap (λ (n : ℕ). led step n from) long ∙ ap (on_link step) here ∙ sym after;
  })
    where
      here : led step (length met) from ≡ Some v
      here = so_far.leads ∙ leads

      long : length (met ++ v ∷ []) ≡ suc (length met)
      long = length-append met (v ∷ []) ∙ omega arith

      apart : (j : ℕ) → slice_get met j ≡ Some v → ⊥
      apart = apart_from met v (sym (ap (list_any (nat_eq v.number)) are) ∙ absent)

      along : (i : ℕ) → i < length (met ++ v ∷ []) → slice_get (met ++ v ∷ []) i ≡ led step i from
      along i less = by (cases_lt i (length met))
        where
          by : (i < length met) ⊎ (length met ≤ i) → slice_get (met ++ v ∷ []) i ≡ led step i from
          by (inl lt) = slice_get-append_before met v i lt ∙ so_far.along i lt
          by (inr ge) =
              let l = long in
              let last : i ≡ length met = omega arith in
              ap (slice_get (met ++ v ∷ [])) last ∙ slice_get-append_last met v ∙ sym here ∙ ap (λ (n : ℕ). led step n from) (sym last)

      once : (i j : ℕ) → i < length (met ++ v ∷ []) → j < length (met ++ v ∷ []) → slice_get (met ++ v ∷ []) i ≡ slice_get (met ++ v ∷ []) j → i ≡ j
      once i j p q same = by (cases_lt i (length met)) (cases_lt j (length met))
        where
          by : (i < length met) ⊎ (length met ≤ i) → (j < length met) ⊎ (length met ≤ j) → i ≡ j
          by (inl l) (inl r) = so_far.once i j l r (sym (slice_get-append_before met v i l) ∙ same ∙ slice_get-append_before met v j r)
          by (inl l) (inr r) =
              let e = long in
              let last : j ≡ length met = omega arith in
              absurd (apart i (sym (slice_get-append_before met v i l) ∙ same ∙ ap (slice_get (met ++ v ∷ [])) last ∙ slice_get-append_last met v))
          by (inr l) (inl r) =
              let e = long in
              let last : i ≡ length met = omega arith in
              absurd (apart j (sym (slice_get-append_before met v j r) ∙ sym same ∙ ap (slice_get (met ++ v ∷ [])) last ∙ slice_get-append_last met v))
          by (inr l) (inr r) = let e = long in omega arith

-- the numbers of one more
pub numbers_seen : (met more : List Obj) (seen after : List ℕ) (v : Obj) → seen ≡ numbers met → more ≡ met ++ v ∷ [] → after ≡ insert_key nat_eq seen v.number
    → list_any (nat_eq v.number) seen ≡ false → after ≡ numbers more
numbers_seen met more seen after v are pushed inserted absent =
    (rw absent at inserted) ∙ ap (λ (ns : List ℕ). ns ++ v.number ∷ []) are ∙ sym (numbers_more met v) ∙ ap numbers (sym pushed)

-- ---- it ends

number_at : List Obj → ℕ → ℕ
number_at [] i = 0
number_at (x ∷ xs) zero = x.number
number_at (x ∷ xs) (suc i) = number_at xs i

number_is : (xs : List Obj) (i : ℕ) (x : Obj) → slice_get xs i ≡ Some x → number_at xs i ≡ x.number
unfolding number_at
number_is [] i x at = cc
number_is (y ∷ xs) zero x at = ap (λ (o : Obj). o.number) (same_Some y x at)
number_is (y ∷ xs) (suc i) x at = number_is xs i x at

-- an object that a step leads on from is one of those that are there
pub step_within : (how : Way) (objects : List Payload) (v w : Obj) → step_at how objects v ≡ Some w → v.number < length objects
step_within way.Before objects v w leads = by (slice_get objects v.number) refl leads
  where
    by : (r : Option Payload) → slice_get objects v.number ≡ r → before_in r ≡ Some w → v.number < length objects
    by None at on = cc
    by (Some p) at on = slice_get_within objects v.number p at
step_within way.Next objects v w leads = by (slice_get objects v.number) refl leads
  where
    by : (r : Option Payload) → slice_get objects v.number ≡ r → link_in link.Next r ≡ Some w → v.number < length objects
    by None at on = cc
    by (Some p) at on = slice_get_within objects v.number p at

-- those that lead on are objects, each another one
module _ (step : Obj → Option Obj) (from : Obj) (count : ℕ) (within : (v w : Obj) → step v ≡ Some w → v.number < count) where
  module _ (met : List Obj) (next : Option Obj) (v : Obj) (leads : next ≡ Some v) (so_far : SoFar step from met next) where
    leads_on : (i : ℕ) → i < length met → (x : Obj) → slice_get met i ≡ Some x → (y : Obj) × (step x ≡ Some y)
    leads_on i less x at = by (cases_lt (suc i) (length met))
      where
        here : led step i from ≡ Some x
        here = sym (so_far.along i less) ∙ at

        by : (suc i < length met) ⊎ (length met ≤ suc i) → (y : Obj) × (step x ≡ Some y)
        by (inl lt) = let (y, on) = there met (suc i) lt in (y, sym (ap (on_link step) here) ∙ sym (so_far.along (suc i) lt) ∙ on)
        by (inr ge) =
            let last : suc i ≡ length met = omega arith in
            (v, sym (ap (on_link step) here) ∙ ap (λ (n : ℕ). led step n from) last ∙ so_far.leads ∙ leads)

    into : (i : ℕ) → i < length met → number_at met i < count
    into i less =
        let (x, at) = there met i less in
        let (y, on) = leads_on i less x at in
        subst (λ (n : ℕ). n < count) (sym (number_is met i x at)) (within x y on)

    apart : (i j : ℕ) → i < length met → j < length met → number_at met i ≡ number_at met j → i ≡ j
    apart i j p q same =
        let (x, at) = there met i p in
        let (y, on) = there met j q in
        let one : x ≡ y = same_object x y (sym (number_is met i x at) ∙ same ∙ number_is met j y on) in
        so_far.once i j p q (at ∙ ap Some one ∙ sym on)

    few_met : length met ≤ count
    few_met = pigeonhole (length met) count (number_at met) into apart

    pub smaller : (more : List Obj) → more ≡ met ++ v ∷ [] → suc count - length more < suc count - length met
    smaller more pushed =
        let long : length more ≡ length met + 1 = ap length pushed ∙ length-append met (v ∷ []) ∙ omega arith in
        let few = few_met in
        omega arith

-- ---- there is one order

module _ (step : Obj → Option Obj) (from : Obj) where
  -- an order goes no further than another one
  no_longer : (one other : List Obj) → IsOrder step from one → IsOrder step from other → length one < length other → ⊥
  no_longer one other a b lt = by a.ends
    where
      here : slice_get other (length one) ≡ led step (length one) from
      here = b.along (length one) lt

      by : (led step (length one) from ≡ None) ⊎ ((j : ℕ) × (j < length one) × (led step (length one) from ≡ slice_get one j)) → ⊥
      by (inl ended) = let (x, at) = there other (length one) lt in absurd (none-some x (sym ended ∙ sym here ∙ at))
      by (inr (j, low, back)) =
          let within : j < length other = omega arith in
          let same = b.once (length one) j lt within (here ∙ back ∙ a.along j low ∙ sym (b.along j within)) in
          omega arith

  as_long : (one other : List Obj) → IsOrder step from one → IsOrder step from other → length one ≡ length other
  as_long one other a b = by (cases_order (length one) (length other))
    where
      by : (length one ≡ length other) ⊎ ((length one < length other) ⊎ (length other < length one)) → length one ≡ length other
      by (inl is) = is
      by (inr (inl lt)) = absurd (no_longer one other a b lt)
      by (inr (inr gt)) = absurd (no_longer other one b a gt)

  pub one_order : (one other : List Obj) → IsOrder step from one → IsOrder step from other → one ≡ other
  one_order one other a b = same_lists one other long each
    where
      long : length one ≡ length other
      long = as_long one other a b

      each : (k : ℕ) (d : Obj) → k < length one → get_or one k d ≡ get_or other k d
      each k d low =
          let e = long in
          let (x, at) = there one k low in
          let on : slice_get other k ≡ Some x = b.along k (omega arith) ∙ sym (a.along k low) ∙ at in
          get_or_from_slice_get one k x d at ∙ sym (get_or_from_slice_get other k x d on)
