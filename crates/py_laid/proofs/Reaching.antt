-- Runs of the rows, read from the front: so many steps, each with what holds behind it.
use Rattle.std.proofs.Common.{◌≡◌, ℕ, zero, suc, List, [], ◌∷◌, ◌++◌, refl, sym, subst, append_assoc, append-nil, inl, inr}
use Rattle.std.specs.Prelude.{◌⊎◌, None}
use Rattle.py_objects.specs.declared.payload.Payload.{Payload}
use Rattle.py_objects.specs.Own.{Own}
use Rattle.py_rows.specs.declared.expect.Expect.{Expect}
use Rattle.py_rows.specs.States.{Setting, State, Step, Goes, Tells, Stuck, Move, waiting}
use Rattle.py_rows.specs.Handled.{handled_in}
use Rattle.py_rows.specs.Receiving.{moves}
use Rattle.py_rows.specs.RunOfRows.{MayLead, Hears, IsUnder, Steps, silent, telling, hearing, Runs, none, on}

-- what holds of a state and of the events behind it
abbrev pub Follows : Type 1
Follows = State → List Own → Type 0

-- a step leads there
abbrev pub ByStep : Step → List Own → Follows → Type 0
ByStep (Goes s) ts K = K s ts
ByStep (Tells x s) ts K = (mid : List Own) × (ts ≡ x ∷ mid) × K s mid
ByStep Stuck ts K = ⊥

-- a move may lead there
abbrev pub ByMove : List Payload → Move → List Own → Follows → Type 0
ByMove objects move ts K = (done : Step) × MayLead objects move done × ByStep done ts K

-- a frame that hears goes there, while what its blocks handle is handled
abbrev pub ByInput : List Payload → Setting → State → List Own → Follows → Type 0
ByInput objects setting s ts K =
    (x : Own) × (w : Expect) × (mid : List Own) × Hears objects setting s.wants x w × IsUnder setting.throws_under (handled_in None s.blocks) x × (ts ≡ x ∷ mid) × K (waiting w s) mid

-- n steps from a state hear and tell these events
abbrev pub StepsTell : List Payload → Setting → ℕ → State → List Own → Type 0
StepsTell objects setting zero s ts = ts ≡ []
StepsTell objects setting (suc n) s ts =
    ByMove objects (moves setting s.wants s) ts (λ t mid. StepsTell objects setting n t mid) ⊎ ByInput objects setting s ts (λ t mid. StepsTell objects setting n t mid)

module _ (objects : List Payload) (setting : Setting) where
  -- one step, and those behind it
  step_first : (m : ℕ) (s t : State) (us vs : List Own) → Steps objects setting s us t → StepsTell objects setting m t vs → StepsTell objects setting (suc m) s (us ++ vs)
  step_first m s _ _ vs (silent t may) run = inl (Goes t, may, run)
  step_first m s _ _ vs (telling x t may) run = inl (Tells x t, may, (vs, refl, run))
  step_first m s _ _ vs (hearing x w hears under) run = inr (x, w, vs, hears, under, refl, run)

  runs_first : (s t : State) (us vs : List Own) → Runs objects setting s us t → (m : ℕ) → StepsTell objects setting m t vs → (n : ℕ) × StepsTell objects setting n s (us ++ vs)
  runs_first s _ _ vs none m rest = (m, rest)
  runs_first s _ _ vs (on {us = us} {vs = xs} {t = t} u run step) m rest =
      let (n, all) = runs_first s t us (xs ++ vs) run (suc m) (step_first m t u xs vs step rest) in
      (n, subst (λ (l : List Own). StepsTell objects setting n s l) (sym (append_assoc us xs vs)) all)

  -- a run is a number of steps
  pub run_steps : (s t : State) (ts : List Own) → Runs objects setting s ts t → (n : ℕ) × StepsTell objects setting n s ts
  run_steps s t ts run =
      let (n, all) = runs_first s t ts [] run 0 refl in
      (n, subst (λ (l : List Own). StepsTell objects setting n s l) (append-nil ts) all)
