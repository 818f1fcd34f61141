-- A journal is a whole run or fails at one place.
use Rattle.std.proofs.Common.{◌≡◌, ◌<◌, ◌≤◌, ℕ, suc, inl, inr, length, arith}
use Rattle.py_grammar.specs.declared.script.Script.{Script}
use Rattle.py_run.specs.declared.journal.Journal.{Journal}
use Rattle.py_core.specs.Runs.{AllBefore, FailsAt, IsCoreWhole}

module _ (s : Script) (j : Journal) where
  pub never_fails : (k : ℕ) → IsCoreWhole s j → FailsAt s j k → ⊥
  never_fails k whole (inl breaks) = breaks.breaks (length j.events) breaks.there (omega arith) whole.run
  never_fails k whole (inr early) = early.unfinished whole

  -- where it fails, and that the fronts before are runs
  before : (k : ℕ) → FailsAt s j k → (k ≤ length j.events) × AllBefore s j k
  before k (inl breaks) = let low = breaks.there in (omega (arith, low), breaks.before)
  before k (inr early) = let all = early.all in (omega (arith, all), early.before)

  -- it fails at no place in front of another one
  never_earlier : (k l : ℕ) → FailsAt s j k → FailsAt s j l → k < l → ⊥
  never_earlier k l (inl breaks) fails less =
      let (within, runs) = before l fails in
      breaks.breaks (suc k) (omega arith) (omega (arith, within, less)) (runs k less)
  never_earlier k l (inr early) fails less =
      let (within, runs) = before l fails in
      let all = early.all in
      omega (arith, within, less, all)

  pub one_place : (k l : ℕ) → FailsAt s j k → FailsAt s j l → k ≡ l
  one_place k l at there =
      let not_before : k < l → ⊥ = never_earlier k l at there in
      let not_behind : l < k → ⊥ = never_earlier l k there at in
      omega (arith, not_before, not_behind)
