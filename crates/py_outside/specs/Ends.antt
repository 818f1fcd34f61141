-- What a read tells of its source: whether it is at its end, and that it is sound.
use Rattle.std.specs.Prelude.{◌≡◌, ℕ, ◌<◌, ◌==◌, Bool, false, IsTrue, List, length, Result, Ok, Err}
use Rattle.py_outside.specs.Counting.{MeetsNoFault}
use Rattle.py_outside.specs.Seen.{SourceSeen}

-- a read that moved nothing has come to the end; one that failed has not
abbrev pub is_end : {E : Type 0} → Result ℕ E → Bool
is_end (Ok count) = count == 0
is_end (Err e) = false

-- a read with room tells whether the source is at its end; one without tells nothing, and what the last one told stays
pub record TellsEnd {E : Type 0} (room : List ℕ) (before now : Bool) (result : Result ℕ E) : Type 0 where
  pub told : 0 < length room → now ≡ is_end result
  pub kept : length room ≡ 0 → now ≡ before

-- where a source is sound, a call of it meets no fault, and it stays sound
abbrev pub StaysSound : {T E : Type 0} → SourceSeen → SourceSeen → Result T E → Type 0
StaysSound before after result = IsTrue before.is_sound → MeetsNoFault before.faults after.faults result × IsTrue after.is_sound
