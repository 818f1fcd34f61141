use Rattle.py_answers.proofs.ReadingLemmas.{is_read}
use Rattle.py_answers.proofs.values.entry.Goals as goal

pub returns : goal.returns
returns c = is_read c.args.store.now c.args.object c.get.result.now c.requires.readable.unread c.get.ensures.now
