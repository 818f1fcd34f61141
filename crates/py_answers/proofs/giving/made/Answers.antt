use Rattle.py_answers.proofs.GivingLemmas.{instance_given}
use Rattle.py_answers.proofs.giving.made.Goals as goal

pub returns-in-Ok-clause-given : goal.returns-in-Ok-clause-given
returns-in-Ok-clause-given c =
    rw c.from.ensures
    (instance_given c.args.store.now.made c.make_exception.new.store.made c.args.class c.args.args c.in-Ok.exception
    c.requires.class c.in-Ok.ensures.grows.objects c.in-Ok.ensures.made)
