use Rattle.py_objects.specs.declared.payload.Payload.TheVariants as payload
use Rattle.py_answers.proofs.GivingLemmas.{there_given}
use Rattle.py_answers.proofs.giving.truth.Goals as goal

pub returns-in-Some-clause-given : goal.returns-in-Some-clause-given
returns-in-Some-clause-given c = there_given c.args.store.now.made (payload.Bool c.args.flag) c.in-Some.object (rw c.in-Some.is at c.truth.ensures.has)
