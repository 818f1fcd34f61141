use Rattle.std.proofs.Common.{◌≡◌, ◌+◌, ◌*◌, ◌++◌, take}
use Rattle.std.specs.Prelude.{string_bytes, codes, flat_map}
use Rattle.py_exceptions.specs.Repr.{pair_by, repr_within}
use Rattle.py_exceptions.proofs.repr.+repr.Given as goal

abbrev pub decreases-push_repr : goal.decreases-push_repr
decreases-push_repr l = 6 * l.depth + 2

abbrev pub decreases-push_payload : goal.decreases-push_payload
decreases-push_payload l = 6 * l.depth + 1

abbrev pub decreases-push_tuple : goal.decreases-push_tuple
decreases-push_tuple l = 6 * l.depth

abbrev pub decreases-push_dict : goal.decreases-push_dict
decreases-push_dict l = 6 * l.depth

abbrev pub decreases-push_in_parentheses : goal.decreases-push_in_parentheses
decreases-push_in_parentheses l = 6 * l.depth

abbrev pub decreases-push_enclosed : goal.decreases-push_enclosed
decreases-push_enclosed l = 6 * l.depth + 4

abbrev pub decreases-push_joined : goal.decreases-push_joined
decreases-push_joined l = 6 * l.depth + 3

abbrev pub decreases-push_pairs : goal.decreases-push_pairs
decreases-push_pairs l = 6 * l.depth + 4

abbrev pub decreases-push_pair : goal.decreases-push_pair
decreases-push_pair l = 6 * l.depth + 3

abbrev pub invariant-push_joined-loop-item : goal.invariant-push_joined-loop-item
invariant-push_joined-loop-item l =
    string_bytes l.out ≡ string_bytes l.initial.out ++ flat_map (λ v. codes ", " ++ repr_within l.depth l.objects v) (take l.item-index l.rest)

abbrev pub invariant-push_pairs-loop-pair : goal.invariant-push_pairs-loop-pair
invariant-push_pairs-loop-pair l =
    string_bytes l.out ≡ string_bytes l.initial.out ++ flat_map (λ p. codes ", " ++ pair_by (repr_within l.depth l.objects) p) (take l.pair-index l.rest)
