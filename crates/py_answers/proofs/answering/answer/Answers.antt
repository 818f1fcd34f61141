use Rattle.py_answers.specs.Replying.{reply_of}
use Rattle.py_answers.proofs.AnswersLemmas.{replied_there}
use Rattle.py_answers.proofs.answering.answer.Goals as goal

pub give-requires-clause-there : goal.give-requires-clause-there
give-requires-clause-there c =
    replied_there c.args.store.now.made c.args.request.now (reply_of c.in-Ok-Some.reply) c.requires.below (rw c.in-Ok-Some.field-0-is at c.in-Ok-Some.ensures).0
