use Rattle.std.proofs.Common.{nat_le, rules}
use Rattle.std.proofs.lemmas.List.Sorted.{answers_always}
use Rattle.py_objects.proofs.DueLemmas.{order_decided}
use Rattle.py_objects.proofs.due.are_in_order.Goals as goal

pub returns : goal.returns
returns c =
    order_decided c.args.changes.now c.is_sorted_by.result
    (c.is_sorted_by.ensures.cases (λ x y. nat_le x.after y.after) (answers_always _ _ _ (λ f a r f' made. search rules)))
