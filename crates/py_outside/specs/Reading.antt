-- What is read of a source, to its end or to an error.
use Rattle.std.specs.Prelude.{◌≡◌, ℕ, ◌+◌, ◌-◌, ◌<◌, ◌≤◌, List, ◌++◌, length, IsTrue, IfSome, Result, IsErrOf}
use Rattle.std.specs.Io.KnownBytes.{Consumes, IsAtEnd}
use Rattle.py_outside.specs.declared.reading.TheConstants.{LIMIT}
use Rattle.py_outside.specs.Faults.{Rose}
use Rattle.py_outside.specs.Seen.{SourceSeen}

-- count more bytes were taken from the source and put after those that were held; none only at its end
pub record Takes (before after : SourceSeen) (held held' : List ℕ) (count : ℕ) : Type 0 where
  pub taken : List ℕ
  pub grown : held' ≡ held ++ taken
  pub counted : length taken ≡ count
  pub consumed : Consumes before.left after.left taken
  pub ended : count ≡ 0 → IsAtEnd after.left

-- exactly the bytes that were left, and then none
abbrev pub HasRead : SourceSeen → SourceSeen → List ℕ → Type 0
HasRead before after bytes = IfSome before.left (λ all. bytes ≡ all) × IsAtEnd after.left

-- a front of what was left is gone, of at most so many bytes
pub record LosesUpTo (before after : SourceSeen) (most : ℕ) : Type 0 where
  pub lost : List ℕ
  pub few : length lost ≤ most
  pub consumed : Consumes before.left after.left lost

-- a front of what was left is gone, of at most one byte more than is read of a source after those that are held
abbrev pub LosesPiece : SourceSeen → SourceSeen → List ℕ → Type 0
LosesPiece before after held = LosesUpTo before after (LIMIT + 1 - length held)

-- a source that tells its bytes has more than so many left
abbrev pub HasOver : SourceSeen → ℕ → Type 0
HasOver s most = IfSome s.left (λ all. most < length all)

-- a read failed, and the source counted it
abbrev pub HasFailed : SourceSeen → SourceSeen → Type 0
HasFailed before after = Rose before.faults after.faults

-- no read failed, unless the answer is this fault
abbrev pub IsCounted : {T E : Type 0} → E → SourceSeen → SourceSeen → Result T E → Type 0
IsCounted fault before after result = (IsErrOf result fault → ⊥) → after.faults ≡ before.faults

-- no read failed, this fault isn't the answer, and the source is sound
pub record IsUntouched {T E : Type 0} (fault : E) (before after : SourceSeen) (result : Result T E) : Type 0 where
  pub same : after.faults ≡ before.faults
  pub stays : IsTrue after.is_sound
  pub answered : IsErrOf result fault → ⊥

-- so it is with each source that was sound before
abbrev pub StaysUntouched : {T E : Type 0} → E → SourceSeen → SourceSeen → Result T E → Type 0
StaysUntouched fault before after result = IsTrue before.is_sound → IsUntouched fault before after result
