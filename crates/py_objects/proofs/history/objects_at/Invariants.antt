use Rattle.std.proofs.Common.{◌≡◌, drop, filter, nat_le}
use Rattle.py_objects.specs.Edits.{changed_by, store_at}
use Rattle.py_objects.proofs.history.objects_at.Given as goal

abbrev pub invariant-loop-change : goal.invariant-loop-change
invariant-loop-change l = changed_by l.at.items (filter (λ c. nat_le c.after l.event) (drop l.change-index l.changes)) ≡ store_at l.objects l.changes l.event
