use Rattle.py_exceptions.proofs.TypeNamesLemmas.{has_type_name}
use Rattle.py_answers.proofs.refusals.refused.Goals as goal

pub type_name-requires : goal.type_name-requires
type_name-requires c = has_type_name c.args.store.now.made c.args.left.now c.requires.left_made

pub type_name-requires-2 : goal.type_name-requires-2
type_name-requires-2 c = has_type_name c.args.store.now.made c.args.right.now c.requires.right_made
