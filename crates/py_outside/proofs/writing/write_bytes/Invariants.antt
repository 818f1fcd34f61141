use Rattle.std.proofs.Common.{◌≡◌, ◌≤◌, ◌-◌, length, take}
use Rattle.std.specs.Io.KnownBytes.{Appends}
use Rattle.py_outside.proofs.writing.write_bytes.Given as goal

abbrev pub invariant-loop-done : goal.invariant-loop-done
invariant-loop-done g l = record {
  within : l.done ≤ length l.bytes;
  appended : Appends (g.K.Sink.seen l.fn.sink).taken (g.K.Sink.seen l.sink).taken (take l.done l.bytes);
  later : (g.K.Sink.seen l.fn.sink).faults ≤ (g.K.Sink.seen l.sink).faults;
  same : length l.bytes ≤ (g.K.Sink.seen l.fn.sink).sure → (g.K.Sink.seen l.sink).faults ≡ (g.K.Sink.seen l.fn.sink).faults;
  sure : length l.bytes ≤ (g.K.Sink.seen l.fn.sink).sure → length l.bytes - l.done ≤ (g.K.Sink.seen l.sink).sure;
}

abbrev pub decreases-loop-done : goal.decreases-loop-done
decreases-loop-done g l = length l.bytes - l.done
