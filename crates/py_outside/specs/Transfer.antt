-- What a write has written, whole or in part.
use Rattle.std.specs.Prelude.{ℕ, ◌+◌, ◌<◌, ◌≤◌, List, length, take, Result}
use Rattle.std.specs.Io.KnownBytes.{Appends}
use Rattle.py_outside.specs.Counting.{MeetsNoFault}
use Rattle.py_outside.specs.Seen.{SinkSeen}

-- the bytes were taken, after those before them
abbrev pub AppendsAll : SinkSeen → SinkSeen → List ℕ → Type 0
AppendsAll before after bytes = Appends before.taken after.taken bytes

-- a front of the bytes was taken, and not all of them
pub record AppendsFront (before after : SinkSeen) (bytes : List ℕ) : Type 0 where
  pub count : ℕ
  pub short : count < length bytes
  pub appended : Appends before.taken after.taken (take count bytes)

-- where a sink takes so many bytes for sure, no fault is met by a write of them
abbrev pub WritesSurely : {T E : Type 0} → SinkSeen → SinkSeen → List ℕ → Result T E → Type 0
WritesSurely before after bytes result = length bytes ≤ before.sure → MeetsNoFault before.faults after.faults result

-- nor by a call with a piece that isn't empty
abbrev pub TakesSurely : {T E : Type 0} → SinkSeen → SinkSeen → List ℕ → Result T E → Type 0
TakesSurely before after piece result = 0 < length piece → WritesSurely before after piece result

-- what a call took is all that a sink takes less for sure
abbrev pub LessSureBy : SinkSeen → SinkSeen → ℕ → Type 0
LessSureBy before after count = before.sure ≤ after.sure + count

-- something was taken of a piece that isn't empty
abbrev pub TakesSome : List ℕ → ℕ → Type 0
TakesSome piece count = 0 < length piece → 0 < count
