use Rattle.std.proofs.Common.{◌≡◌, ◌≢◌, ℕ, suc, ◌<◌, Some}
use Rattle.py_objects.specs.Edits.{objects_of}
use Rattle.py_exceptions.specs.Walks.{led, link_at}
use Rattle.py_exceptions.proofs.links.first_to.Given as goal

abbrev pub invariant-loop-step : goal.invariant-loop-step
invariant-loop-step l = record {
  here : led (link_at l.field (objects_of l.store)) l._step l.fn.from ≡ Some l.at;
  none : (m : ℕ) → m < l._step → led (link_at l.field (objects_of l.store)) (suc m) l.fn.from ≢ Some l.to;
}
