-- How sources and sinks count their faults, call by call.
use Rattle.std.specs.Prelude.{◌≡◌, ℕ, ◌≤◌, Result, IsOk, OnErr, MatchResult}
use Rattle.py_outside.specs.Faults.{one_more, Rose}

-- the count never falls, and a failure comes only where it rose
pub record HasCause {T E : Type 0} (before now : ℕ) (result : Result T E) : Type 0 where
  pub later : before ≤ now
  pub failed : OnErr result (Rose before now)

-- the count goes one on at a failure, and stays at a success
abbrev pub CountsFailure : {T E : Type 0} → ℕ → ℕ → Result T E → Type 0
CountsFailure before now result = MatchResult result (λ _. now ≡ before) (λ _. now ≡ one_more before)

-- a call succeeded, and met no fault
pub record MeetsNoFault {T E : Type 0} (before now : ℕ) (result : Result T E) : Type 0 where
  pub succeeds : IsOk result
  pub same : now ≡ before
