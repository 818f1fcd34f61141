-- Walks along links: one that has taken as many steps as there are objects has come back.
use Rattle.std.proofs.Common.{◌≡◌, ◌≢◌, ℕ, zero, suc, ◌+◌, ◌-◌, ◌<◌, ◌≤◌, ◌⊎◌, inl, inr, refl, sym, ap, subst, ◌∙◌, arith, Some}
use Rattle.std.specs.Prelude.{Option, None}
use Rattle.std.proofs.lemmas.Bool.{cases_order, cases_lt}
use Rattle.std.proofs.lemmas.Option.{same_Some}
use Rattle.indexmap.proofs.IndexTableLemmas.Probe.{pigeonhole}
use Rattle.py_objects.specs.Objects.{Obj}
use Rattle.py_exceptions.specs.Walks.{on_link, led, IsFirstTo}

-- objects with one number are one
pub same_object : (v w : Obj) → v.number ≡ w.number → v ≡ w
same_object v w e = ap (λ (n : ℕ). let o : Obj = record { number = n } in o) e

-- where a link was followed, there was one
pub followed : (step : Obj → Option Obj) (o : Option Obj) (w : Obj) → on_link step o ≡ Some w → (v : Obj) × (o ≡ Some v) × (step v ≡ Some w)
followed step None w e = cc
followed step (Some v) w e = (v, refl, e)

-- the number of an object, where there is one
unfoldable pub number_or : Option Obj → ℕ
number_or None = 0
number_or (Some v) = v.number

-- a sum that computes by its first part
unfoldable pub plus : ℕ → ℕ → ℕ
plus zero i = i
plus (suc k) i = suc (plus k i)

pub plus_is : (k i : ℕ) → plus k i ≡ k + i
unfolding plus
plus_is zero i = omega arith
plus_is (suc k) i = omega (arith, plus_is k i)

-- one step and then the others
pub first_step : (step : Obj → Option Obj) (v u : Obj) (n : ℕ) → step v ≡ Some u → led step (suc n) v ≡ led step n u
first_step step v u zero on = on
first_step step v u (suc n) on = ap (on_link step) (first_step step v u n on)

module _ (step : Obj → Option Obj) (from : Obj) where
  -- so many steps lead to an object that leads on
  abbrev pub Leads : ℕ → Type 0
  Leads i = (v : Obj) × (u : Obj) × (led step i from ≡ Some v) × (step v ≡ Some u)

  -- each step of a walk led on
  pub taken : (n : ℕ) (w : Obj) → led step (suc n) from ≡ Some w → (i : ℕ) → i ≤ n → Leads i
  taken zero w e i le =
      let first : i ≡ 0 = omega arith in
      (from, w, ap (λ k. led step k from) first, e)
  taken (suc n) w e i le = by (followed step (led step (suc n) from) w e) (taken n) (cases_lt i (suc n))
    where
      by : (v : Obj) × (led step (suc n) from ≡ Some v) × (step v ≡ Some w) → ((v : Obj) → led step (suc n) from ≡ Some v → (i : ℕ) → i ≤ n → Leads i)
          → (i < suc n) ⊎ (suc n ≤ i) → Leads i
      by (v, is, on) rest (inl lt) = rest v is i (omega arith)
      by (v, is, on) rest (inr ge) = let last : i ≡ suc n = omega arith in (v, w, ap (λ k. led step k from) last ∙ is, on)

  -- from one object two walks go the same way
  pub further : (k i j : ℕ) → led step i from ≡ led step j from → led step (plus k i) from ≡ led step (plus k j) from
  unfolding plus
  further zero i j e = e
  further (suc k) i j e = ap (on_link step) (further k i j e)

module _ (step : Obj → Option Obj) (count : ℕ) (within : (v w : Obj) → step v ≡ Some w → v.number < count) (from to : Obj) where
  abbrev place : ℕ → ℕ
  place i = number_or (led step i from)

  -- an object that a walk comes to twice is no object on the way to a first hit
  back : (n : ℕ) → ((m : ℕ) → m < n → led step (suc m) from ≢ Some to) → led step (suc n) from ≡ Some to
      → (i j : ℕ) → i < j → j ≤ n → place i ≡ place j → ⊥
  unfolding number_or
  back n earlier e i j lt le same =
      let at_i = taken step from n to e i (omega arith) in
      let at_j = taken step from n to e j le in
      let one : at_i.0 ≡ at_j.0 = same_object at_i.0 at_j.0 (sym (ap number_or at_i.2) ∙ same ∙ ap number_or at_j.2) in
      let k = suc n - j in
      let m = (i + n) - j in
      let on = further step from k i j (at_i.2 ∙ ap Some one ∙ sym at_j.2) in
      let left : plus k i ≡ suc m = plus_is k i ∙ omega arith in
      let right : plus k j ≡ suc n = plus_is k j ∙ omega arith in
      earlier m (omega arith) (ap (λ l. led step l from) (sym left) ∙ on ∙ ap (λ l. led step l from) right ∙ e)

  -- it comes to few objects before a first hit
  few : (n : ℕ) → ((m : ℕ) → m < n → led step (suc m) from ≢ Some to) → led step (suc n) from ≡ Some to → suc n ≤ count
  unfolding number_or
  few n earlier e =
      pigeonhole (suc n) count place
      (λ i lt. let at_i = taken step from n to e i (omega arith) in subst (λ k. k < count) (sym (ap number_or at_i.2)) (within at_i.0 at_i.1 at_i.3))
      (λ i j p q same. by i j p q same (cases_order i j))
    where
      by : (i j : ℕ) → i < suc n → j < suc n → place i ≡ place j → (i ≡ j) ⊎ ((i < j) ⊎ (j < i)) → i ≡ j
      by i j p q same (inl is) = is
      by i j p q same (inr (inl lt)) = absurd (back n earlier e i j lt (omega arith) same)
      by i j p q same (inr (inr gt)) = absurd (back n earlier e j i gt (omega arith) (sym same))

  module _ (none : (m : ℕ) → m < count → led step (suc m) from ≢ Some to) where
    all_below : (n m : ℕ) → m < n → led step (suc m) from ≢ Some to
    all_below zero m lt e = absurd (omega arith)
    all_below (suc n) m lt e =
        let enough = few m (λ k less. all_below n k (omega arith)) e in
        none m (omega arith) e

    -- what isn't found in as many steps as there are objects is never found
    pub never : (n : ℕ) → led step (suc n) from ≢ Some to
    never n = all_below (suc n) n (omega arith)

-- a walk that has ended goes nowhere
pub ended : (step : Obj → Option Obj) (from : Obj) (i : ℕ) → led step i from ≡ None → (n : ℕ) → i ≤ n → led step n from ≡ None
ended step from i e zero le = let first : i ≡ 0 = omega arith in ap (λ k. led step k from) (sym first) ∙ e
ended step from i e (suc n) le = by (ended step from i e n) (cases_lt i (suc n))
  where
    by : (i ≤ n → led step n from ≡ None) → (i < suc n) ⊎ (suc n ≤ i) → led step (suc n) from ≡ None
    by rest (inl lt) = ap (on_link step) (rest (omega arith))
    by rest (inr ge) = let last : i ≡ suc n = omega arith in ap (λ k. led step k from) (sym last) ∙ e

-- nothing is found where the walk ends
pub none_left : (step : Obj → Option Obj) (from to at : Obj) (i : ℕ) → led step i from ≡ Some at → step at ≡ None
    → ((m : ℕ) → m < i → led step (suc m) from ≢ Some to) → IsFirstTo step from to None
none_left step from to at i here last none n e = by (cases_lt n i)
  where
    by : (n < i) ⊎ (i ≤ n) → ⊥
    by (inl lt) = none n lt e
    by (inr ge) = let gone = ended step from (suc i) (ap (on_link step) here ∙ last) (suc n) (omega arith) in cc

-- one step more, past an object that isn't the one looked for
pub one_more : (step : Obj → Option Obj) (from to at next : Obj) (i : ℕ) → led step i from ≡ Some at → step at ≡ Some next → (next.number ≡ to.number → ⊥)
    → ((m : ℕ) → m < i → led step (suc m) from ≢ Some to) → (m : ℕ) → m < suc i → led step (suc m) from ≢ Some to
one_more step from to at next i here on other none m lt e = by (cases_lt m i)
  where
    by : (m < i) ⊎ (i ≤ m) → ⊥
    by (inl less) = none m less e
    by (inr ge) =
        let last : m ≡ i = omega arith in
        let is : Some next ≡ Some to = sym (ap (on_link step) here ∙ on) ∙ ap (λ k. led step (suc k) from) (sym last) ∙ e in
        other (ap (λ v. v.number) (same_Some next to is))
