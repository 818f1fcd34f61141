use Rattle.py_answers.proofs.ReadingLemmas.{read_made}
use Rattle.py_answers.proofs.lacking.lacking.Goals as goal

pub no_attribute-requires : goal.no_attribute-requires
no_attribute-requires c = read_made c.args.store.now.made c.args.object c.entry-payload.result.now c.requires.readable.fit c.entry-payload.ensures
