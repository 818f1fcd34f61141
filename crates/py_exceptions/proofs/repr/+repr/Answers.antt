use Rattle.py_exceptions.proofs.ReprLemmas.{all_joined}
use Rattle.py_exceptions.specs.Repr.{pair_by, repr_within}
use Rattle.py_exceptions.proofs.repr.+repr.Goals as goal

pub push_joined-returns : goal.push_joined-returns
push_joined-returns t c =
    all_joined (repr_within c.args.depth c.args.objects.now) _ _ _ _ _ _ _ c.in-Some.ensures.cases.0 c.in_ok-push_repr.ensures c.loop-item.invariant c.loop-item-test.false

pub push_pairs-returns : goal.push_pairs-returns
push_pairs-returns t c =
    all_joined (pair_by (repr_within c.args.depth c.args.objects.now)) _ _ _ _ _ _ _ c.in-Some.ensures.cases.0 c.in_ok-push_pair.ensures c.loop-pair.invariant c.loop-pair-test.false
