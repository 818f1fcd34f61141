use Rattle.py_exceptions.proofs.TypeNamesLemmas.{has_type_name}
use Rattle.py_answers.proofs.ReadingLemmas.{read_made}
use Rattle.py_vm.proofs.normalizing.not_traceback.Goals as goal

pub type_name-requires : goal.type_name-requires
type_name-requires c =
    has_type_name c.args.store.now.made c.entry.result.now (read_made c.args.store.now.made c.args.object c.entry.result.now c.requires.readable.fit c.entry.ensures)
