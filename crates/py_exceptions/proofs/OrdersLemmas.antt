-- Walks along links that count each object once.
use Rattle.std.proofs.Common.{◌≡◌, ◌≢◌, ℕ, zero, suc, ◌-◌, ◌<◌, ◌≤◌, ◌⊎◌, inl, inr, ◌∷◌, length, true, false, refl, sym, ap, subst, ◌∙◌, arith, Some}
use Rattle.std.specs.Prelude.{Option, None, slice_get, ◌==◌}
use Rattle.std.proofs.lemmas.Bool.{cases_eq, cases_lt, cases_order, eq-eqb, ne_eqb}
use Rattle.std.proofs.lemmas.Option.{same_Some}
use Rattle.indexmap.proofs.IndexTableLemmas.Probe.{pigeonhole}
use Rattle.py_objects.specs.Objects.{Obj}
use Rattle.py_exceptions.specs.Walks.{led, on_link}
use Rattle.py_exceptions.specs.Orders.{walked, IsMet, IsOrder, LeadsToEach}
use Rattle.py_exceptions.proofs.WalksLemmas.{same_object, number_or, plus, plus_is, first_step, taken, further, ended}

-- so many links led from an object each to another one, and the next leads here
pub record IsSoFar (step : Obj → Option Obj) (from : Obj) (links : ℕ) (next : Option Obj) : Type 0 where
  pub leads : (i : ℕ) → i ≤ links → led step i from ≢ None
  pub once : (i j : ℕ) → i ≤ links → j ≤ links → led step i from ≡ led step j from → i ≡ j
  pub on : led step (suc links) from ≡ next

module _ (step : Obj → Option Obj) (from : Obj) where
  -- the walk begins
  pub begun : (next : Option Obj) → next ≡ step from → IsSoFar step from 0 next
  begun next is = record { leads = leads; once = λ i j p q same. omega arith; on = sym is }
    where
      leads : (i : ℕ) → i ≤ 0 → led step i from ≢ None
      leads zero le e = cc
      leads (suc i) le e = absurd (omega arith)

  -- it goes on by one link, to an object that wasn't met
  pub gone_on : (links : ℕ) (next later : Option Obj) (v : Obj) → next ≡ Some v → later ≡ step v → IsMet step from links v false
      → IsSoFar step from links next → IsSoFar step from (suc links) later
  gone_on links next later v is after apart so_far = record { leads = leads; once = once; on = ap (on_link step) here ∙ sym after }
    where
      here : led step (suc links) from ≡ Some v
      here = so_far.on ∙ is

      leads : (i : ℕ) → i ≤ suc links → led step i from ≢ None
      leads i le e = by (cases_lt i (suc links))
        where
          by : (i < suc links) ⊎ (suc links ≤ i) → ⊥
          by (inl lt) = so_far.leads i (omega arith) e
          by (inr ge) = let last : i ≡ suc links = omega arith in let same = ap (λ (n : ℕ). led step n from) last in cc

      new : (i : ℕ) → i ≤ links → led step i from ≡ led step (suc links) from → ⊥
      new i le same = apart i le (same ∙ here)

      once : (i j : ℕ) → i ≤ suc links → j ≤ suc links → led step i from ≡ led step j from → i ≡ j
      once i j p q same = by (cases_lt i (suc links)) (cases_lt j (suc links))
        where
          by : (i < suc links) ⊎ (suc links ≤ i) → (j < suc links) ⊎ (suc links ≤ j) → i ≡ j
          by (inl l) (inl r) = so_far.once i j (omega arith) (omega arith) same
          by (inl l) (inr r) = let last : j ≡ suc links = omega arith in absurd (new i (omega arith) (same ∙ ap (λ (n : ℕ). led step n from) last))
          by (inr l) (inl r) = let last : i ≡ suc links = omega arith in absurd (new j (omega arith) (sym same ∙ ap (λ (n : ℕ). led step n from) last))
          by (inr l) (inr r) = omega arith

  -- it ends, or comes to an object that was met
  pub ends_there : (links : ℕ) (next : Option Obj) → next ≡ None → IsSoFar step from links next → LeadsToEach step from links
  ends_there links next none so_far = record { leads = so_far.leads; once = so_far.once; ends = inl (so_far.on ∙ none) }

  pub comes_back : (links : ℕ) (next : Option Obj) (v : Obj) → next ≡ Some v → IsMet step from links v true → IsSoFar step from links next → LeadsToEach step from links
  comes_back links next v is (j, le, at) so_far = record { leads = so_far.leads; once = so_far.once; ends = inr (j, le, so_far.on ∙ is ∙ sym at) }

  -- those that lead on are objects, each another one
  pub few_links : (count : ℕ) → ((v w : Obj) → step v ≡ Some w → v.number < count) → (links : ℕ) (next : Option Obj) (v : Obj) → next ≡ Some v
      → IsSoFar step from links next → suc links ≤ count
  unfolding number_or
  few_links count within links next v is so_far =
      pigeonhole (suc links) count (λ i. number_or (led step i from))
      (λ i lt. let t = taken step from links v (so_far.on ∙ is) i (omega arith) in subst (λ k. k < count) (sym (ap number_or t.2)) (within t.0 t.1 t.3))
      (λ i j p q same.
      let t = taken step from links v (so_far.on ∙ is) i (omega arith) in
      let u = taken step from links v (so_far.on ∙ is) j (omega arith) in
      let one : t.0 ≡ u.0 = same_object t.0 u.0 (sym (ap number_or t.2) ∙ same ∙ ap number_or u.2) in
      so_far.once i j (omega arith) (omega arith) (t.2 ∙ ap Some one ∙ sym u.2))

  -- so a walk along as many links as there are objects has ended
  pub spent_links : (count : ℕ) → ((v w : Obj) → step v ≡ Some w → v.number < count) → (links : ℕ) (next : Option Obj) → count ≤ links
      → IsSoFar step from links next → LeadsToEach step from links
  spent_links count within links None all so_far = ends_there links None refl so_far
  spent_links count within links (Some v) all so_far = let few = few_links count within links (Some v) v refl so_far in absurd (omega arith)

  -- where the walk ends, it met each object once
  pub ended_once : (links : ℕ) (at : Obj) → led step links from ≡ Some at → step at ≡ None → LeadsToEach step from links
  ended_once links at here last = record { leads = leads; once = once; ends = inl over }
    where
      over : led step (suc links) from ≡ None
      over = ap (on_link step) here ∙ last

      leads : (i : ℕ) → i ≤ links → led step i from ≢ None
      leads i le e = let gone = ended step from i e links le in cc

      apart : (i j : ℕ) → i < j → j ≤ links → led step i from ≡ led step j from → ⊥
      apart i j lt le same =
          let k = suc links - j in
          let left : plus k i ≤ links = omega (arith, plus_is k i) in
          let right : plus k j ≡ suc links = plus_is k j ∙ omega arith in
          leads (plus k i) left (further step from k i j same ∙ ap (λ (n : ℕ). led step n from) right ∙ over)

      once : (i j : ℕ) → i ≤ links → j ≤ links → led step i from ≡ led step j from → i ≡ j
      once i j p q same = by (cases_order i j)
        where
          by : (i ≡ j) ⊎ ((i < j) ⊎ (j < i)) → i ≡ j
          by (inl is) = is
          by (inr (inl lt)) = absurd (apart i j lt q same)
          by (inr (inr gt)) = absurd (apart j i gt p (sym same))

  -- ---- whether an object is met

  -- it isn't by one link more than it wasn't by, where that leads to another object
  pub not_met : (i : ℕ) (at v : Obj) → led step i from ≡ Some at → (at.number ≡ v.number → ⊥) → ((j : ℕ) → j < i → led step j from ≢ Some v)
      → (j : ℕ) → j < suc i → led step j from ≢ Some v
  not_met i at v here apart none j lt e = by (cases_lt j i)
    where
      by : (j < i) ⊎ (i ≤ j) → ⊥
      by (inl less) = none j less e
      by (inr ge) =
          let last : j ≡ i = omega arith in
          apart (ap (λ (o : Obj). o.number) (same_Some at v (sym here ∙ ap (λ (n : ℕ). led step n from) (sym last) ∙ e)))

  -- nor by any number of links, where that object leads nowhere
  pub never_met : (i : ℕ) (at v : Obj) → led step i from ≡ Some at → step at ≡ None → (at.number ≡ v.number → ⊥) → ((j : ℕ) → j < i → led step j from ≢ Some v)
      → (j : ℕ) → led step j from ≢ Some v
  never_met i at v here last apart none j e = by (cases_lt j (suc i))
    where
      by : (j < suc i) ⊎ (suc i ≤ j) → ⊥
      by (inl lt) = not_met i at v here apart none j lt e
      by (inr ge) = let gone = ended step from (suc i) (ap (on_link step) here ∙ last) j ge in cc

  -- and where all others are another object, the last tells
  pub last_is_met : (links i : ℕ) (at v : Obj) → i ≡ links → led step i from ≡ Some at → ((j : ℕ) → j < i → led step j from ≢ Some v)
      → IsMet step from links v (at.number == v.number)
  last_is_met links i at v all here none = by (cases_eq at.number v.number)
    where
      by : (at.number ≡ v.number) ⊎ (at.number ≡ v.number → ⊥) → IsMet step from links v (at.number == v.number)
      by (inl same) = rw (eq-eqb at.number v.number same) (i, omega arith, here ∙ ap Some (same_object at v same))
      by (inr apart) = rw (ne_eqb at.number v.number apart) (λ j le. not_met i at v here apart none j (omega arith))

module _ (step : Obj → Option Obj) where
  -- the objects on a walk, as a list, are as many as it has links, and one more
  walked_long : (links : ℕ) (v : Obj) → ((i : ℕ) → i ≤ links → led step i v ≢ None) → length (walked step (Some v) links) ≡ suc links
  walked_long zero v leads = refl
  walked_long (suc links) v leads = by (step v) refl (walked_long links)
    where
      by : (r : Option Obj) → step v ≡ r → ((u : Obj) → ((i : ℕ) → i ≤ links → led step i u ≢ None) → length (walked step (Some u) links) ≡ suc links)
          → length (v ∷ walked step r links) ≡ suc (suc links)
      by None e rest = absurd (leads 1 (omega arith) e)
      by (Some u) e rest = ap suc (rest u (λ i le none. leads (suc i) (omega arith) (first_step step v u i e ∙ none)))

  -- and stand where the links lead
  walked_at : (links i : ℕ) (v : Obj) → i ≤ links → ((k : ℕ) → k ≤ links → led step k v ≢ None) → slice_get (walked step (Some v) links) i ≡ led step i v
  walked_at zero zero v le leads = refl
  walked_at zero (suc i) v le leads = absurd (omega arith)
  walked_at (suc links) zero v le leads = refl
  walked_at (suc links) (suc i) v le leads = by (step v) refl (walked_at links i)
    where
      by : (r : Option Obj) → step v ≡ r
          → ((u : Obj) → i ≤ links → ((k : ℕ) → k ≤ links → led step k u ≢ None) → slice_get (walked step (Some u) links) i ≡ led step i u)
          → slice_get (v ∷ walked step r links) (suc i) ≡ led step (suc i) v
      by None e rest = absurd (leads 1 (omega arith) e)
      by (Some u) e rest = rest u (omega arith) (λ k less none. leads (suc k) (omega arith) (first_step step v u k e ∙ none)) ∙ sym (first_step step v u i e)

  -- so they are those on the way, each once
  pub each_in_order : (from : Obj) (links : ℕ) → LeadsToEach step from links → IsOrder step from (walked step (Some from) links)
  each_in_order from links each =
      let long = walked_long links from each.leads in
      let at : (i : ℕ) → i ≤ links → slice_get (walked step (Some from) links) i ≡ led step i from = λ i le. walked_at links i from le each.leads in
      record {
        along = λ i lt. at i (omega arith);
        once = λ i j p q same. each.once i j (omega arith) (omega arith) (sym (at i (omega arith)) ∙ same ∙ at j (omega arith));
        ends = elim each.ends [
          | inl e ↦ inl (ap (λ (n : ℕ). led step n from) long ∙ e)
          | inr (j, le, e) ↦ inr (j, omega arith, ap (λ (n : ℕ). led step n from) long ∙ e ∙ sym (at j le))
        ];
        some = omega arith;
      }
