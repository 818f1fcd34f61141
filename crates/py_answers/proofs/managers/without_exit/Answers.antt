use Rattle.py_answers.proofs.ReadingLemmas.{read_made}
use Rattle.py_answers.proofs.managers.without_exit.Goals as goal

pub not_exited-requires : goal.not_exited-requires
not_exited-requires c = read_made c.args.store.now.made c.args.object c.entry.result.now c.requires.readable.fit c.entry.ensures
