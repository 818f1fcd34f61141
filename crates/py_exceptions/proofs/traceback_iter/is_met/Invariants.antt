use Rattle.std.proofs.Common.{◌≡◌, ◌≢◌, ℕ, ◌<◌, Some}
use Rattle.py_objects.specs.Edits.{objects_of}
use Rattle.py_exceptions.specs.Nexts.{next_at}
use Rattle.py_exceptions.specs.Walks.{led}
use Rattle.py_exceptions.proofs.traceback_iter.is_met.Given as goal

abbrev pub invariant-loop-step : goal.invariant-loop-step
invariant-loop-step l = record {
  here : led (next_at (objects_of l.store)) l._step l.fn.from ≡ Some l.at;
  none : (j : ℕ) → j < l._step → led (next_at (objects_of l.store)) j l.fn.from ≢ Some l.object;
}
