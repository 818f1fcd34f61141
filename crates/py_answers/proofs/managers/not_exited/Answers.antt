use Rattle.py_exceptions.proofs.TypeNamesLemmas.{has_type_name}
use Rattle.py_answers.proofs.managers.not_exited.Goals as goal

pub type_name-requires : goal.type_name-requires
type_name-requires c = has_type_name c.args.store.now.made c.args.payload.now c.requires
