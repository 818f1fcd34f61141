-- The order in which linked objects come, each once: the exceptions of a report, or the entries of a traceback.
use Rattle.std.specs.Prelude.{ℕ, zero, suc, ◌<◌, ◌≤◌, ◌⊎◌, Option, Some, None, List, [], ◌∷◌, Bool, true, false, ◌≡◌, ◌≢◌, slice_get, length}
use Rattle.py_objects.specs.Objects.{Obj}
use Rattle.py_exceptions.specs.Walks.{led}

-- the walk from an object along links, to its end, or to the last object before one that was met already
pub record IsOrder (step : Obj → Option Obj) (from : Obj) (met : List Obj) : Type 0 where
  -- the walk, step by step
  pub along : (i : ℕ) → i < length met → slice_get met i ≡ led step i from
  -- each object stands at one place
  pub once : (i j : ℕ) → i < length met → j < length met → slice_get met i ≡ slice_get met j → i ≡ j
  -- one step more leads nowhere, or to one of these
  pub ends : (led step (length met) from ≡ None) ⊎ ((j : ℕ) × (j < length met) × (led step (length met) from ≡ slice_get met j))
  -- the object itself is the first
  pub some : 0 < length met

-- an object, where there is one, and those that so many links lead on to
abbrev pub walked : (Obj → Option Obj) → Option Obj → ℕ → List Obj
walked step None links = []
walked step (Some v) zero = v ∷ []
walked step (Some v) (suc links) = v ∷ walked step (step v) links

-- so many links lead from an object to each that is on its way, and to each once
pub record LeadsToEach (step : Obj → Option Obj) (from : Obj) (links : ℕ) : Type 0 where
  pub leads : (i : ℕ) → i ≤ links → led step i from ≢ None
  pub once : (i j : ℕ) → i ≤ links → j ≤ links → led step i from ≡ led step j from → i ≡ j
  -- one more leads nowhere, or to one of these
  pub ends : (led step (suc links) from ≡ None) ⊎ ((j : ℕ) × (j ≤ links) × (led step (suc links) from ≡ led step j from))

-- whether an object is met on the way from one, by so many links at most
abbrev pub IsMet : (Obj → Option Obj) → (from : Obj) → ℕ → Obj → Bool → Type 0
IsMet step from links v true = (j : ℕ) × (j ≤ links) × (led step j from ≡ Some v)
IsMet step from links v false = (j : ℕ) → j ≤ links → led step j from ≢ Some v
