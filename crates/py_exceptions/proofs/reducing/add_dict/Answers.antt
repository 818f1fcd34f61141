use Rattle.std.proofs.Common.{length}
use Rattle.py_objects.specs.Objects.{pair_numbers}
use Rattle.py_objects.proofs.GrownLemmas.{below_more_by_one, grown_trans}
use Rattle.py_exceptions.proofs.ReducingLemmas.{dict_below, dict_grows}
use Rattle.py_exceptions.proofs.reducing.add_dict.Goals as goal

pub add-requires : goal.add-requires
add-requires c =
    below_more_by_one (length c.add_names.new.store.made) (pair_numbers c.in_ok-pairs.pairs)
    (dict_below c.args.store.now c.add_names.new.store c.args.attrs.now c.in_ok-pairs.pairs c.requires c.in_ok-pairs.ensures.added c.in_ok-pairs.ensures.pairs)

pub returns-clause-grows : goal.returns-clause-grows
returns-clause-grows c =
    grown_trans c.args.store.now c.add_names.new.store c.add.new.self c.in_ok-pairs.ensures.grows
    (dict_grows c.add_names.new.store c.add.new.self c.in_ok-pairs.pairs
    (dict_below c.args.store.now c.add_names.new.store c.args.attrs.now c.in_ok-pairs.pairs c.requires c.in_ok-pairs.ensures.added c.in_ok-pairs.ensures.pairs)
    c.in_ok-add.ensures.added)
