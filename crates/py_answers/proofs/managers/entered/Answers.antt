use Rattle.py_answers.proofs.ReadingLemmas.{read_made}
use Rattle.py_answers.proofs.managers.entered.Goals as goal

pub not_entered-requires : goal.not_entered-requires
not_entered-requires c = read_made c.args.store.now.made c.args.object c.entry-payload.result.now c.requires.readable.fit c.entry-payload.ensures
