use Rattle.std.proofs.Common.{◌≡◌, suc, ◌-◌, length}
use Rattle.py_objects.specs.Objects.{numbers}
use Rattle.py_reports.specs.Inside.{step_at}
use Rattle.py_reports.proofs.WalkLemmas.{SoFar}
use Rattle.py_reports.proofs.order.order.Given as goal

abbrev pub invariant-walk : goal.invariant-walk
invariant-walk l = record { walked : SoFar (step_at l.way l.objects) l.fn.from l.met l.next; seen : l.seen.keys ≡ numbers l.met }

abbrev pub decreases-walk : goal.decreases-walk
decreases-walk l = suc (length l.objects) - length l.met
