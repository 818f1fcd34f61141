use Rattle.std.proofs.Common.{length, subst}
use Rattle.py_objects.specs.Objects.{numbers}
use Rattle.py_objects.proofs.GrownLemmas.{below_more_by_one}
use Rattle.py_exceptions.specs.Reducing.{AreArgsBelow}
use Rattle.py_exceptions.proofs.ReducingLemmas.{tuple_tried}
use Rattle.py_exceptions.proofs.reducing.add_args.Goals as goal

pub add-requires : goal.add-requires
add-requires c =
    below_more_by_one (length c.args.store.now.made) (numbers c.in-Some.args) (subst (AreArgsBelow (length c.args.store.now.made)) c.in-Some.is c.requires)

pub returns-in-Some-clause-grows : goal.returns-in-Some-clause-grows
returns-in-Some-clause-grows c =
    tuple_tried c.args.store.now c.add.new.self c.in-Some.args c.add.result (subst (AreArgsBelow (length c.args.store.now.made)) c.in-Some.is c.requires)
    c.add.ensures.added c.add.ensures.err
