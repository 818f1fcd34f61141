use Rattle.py_answers.proofs.ReadingLemmas.{read_made}
use Rattle.py_answers.proofs.calling.called.Goals as goal

pub class_called-requires-clause-made : goal.class_called-requires-clause-made
class_called-requires-clause-made c = read_made c.args.store.now.made c.args.callee c.entry-payload.result.now c.requires.readable.fit c.entry-payload.ensures

pub not_callable-requires : goal.not_callable-requires
not_callable-requires c = read_made c.args.store.now.made c.args.callee c.entry-payload.result.now c.requires.readable.fit c.entry-payload.ensures
