use Rattle.std.proofs.Common.{◌+◌, length, arith}
use Rattle.py_objects.specs.Objects.{payload_numbers}
use Rattle.py_objects.proofs.GrowthLemmas.{below_more}
use Rattle.py_objects.proofs.GrownLemmas.{added_grown, still_grown}
use Rattle.py_answers.proofs.GivingLemmas.{added_given}
use Rattle.py_answers.proofs.giving.added.Goals as goal

pub add-requires : goal.add-requires
add-requires c = below_more (length c.args.store.now.made) (length c.args.store.now.made + 1) (payload_numbers c.args.payload) (omega arith) c.requires.below

pub returns-in-Ok-clause-grows : goal.returns-in-Ok-clause-grows
returns-in-Ok-clause-grows c =
    added_grown c.args.store.now c.add.new.self c.args.payload c.in-Ok.ensures.added c.requires.plain c.requires.no_frame (λ fit. c.requires.below) (λ fit. c.requires.made)

pub returns-in-Ok-clause-given : goal.returns-in-Ok-clause-given
returns-in-Ok-clause-given c = added_given c.args.store.now c.add.new.self c.args.payload c.in-Ok.object c.in-Ok.ensures.added c.in-Ok.ensures.number

pub returns-in-Err-clause-grows : goal.returns-in-Err-clause-grows
returns-in-Err-clause-grows c = still_grown c.args.store.now c.add.new.self c.in-Err.ensures.err
