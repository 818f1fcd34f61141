-- What contracts see of a source and of a sink.
use Rattle.std.specs.Prelude.{ℕ, List, Bool, Option}

-- of a source: the bytes that it has left, where it tells them, its faults so far, the reads that were made of it, where it counts
-- them, whether the last read with room came to its end, and whether it is sound: no read of it fails
pub record SourceSeen : Type 0 where
  pub left : Option (List ℕ)
  pub faults : ℕ
  pub reads : ℕ
  pub at_end : Bool
  pub is_sound : Bool

-- of a sink: the bytes that it has taken, where it tells them, its faults so far, and how many bytes it still takes for sure, with
-- no fault
pub record SinkSeen : Type 0 where
  pub taken : Option (List ℕ)
  pub faults : ℕ
  pub sure : ℕ
