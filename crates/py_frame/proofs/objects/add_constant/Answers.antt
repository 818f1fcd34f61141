use Rattle.py_frame.proofs.AddedLemmas.{constant_below}
use Rattle.py_frame.proofs.LoadingLemmas.{add_has, add_adds}
use Rattle.py_frame.proofs.objects.add_constant.Goals as goal

pub add-requires : goal.add-requires
add-requires c = constant_below _ c.args.payload c.requires

pub returns-clause-has : goal.returns-clause-has
returns-clause-has c = add_has _ c.args.store.now c.add.new.self c.args.payload c.add.ensures.number c.add.ensures.added

pub returns-clause-objects : goal.returns-clause-objects
returns-clause-objects c = add_adds _ c.args.store.now c.add.new.self c.args.payload c.requires c.add.ensures.added c.add.ensures.err
