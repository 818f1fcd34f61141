use Rattle.py_lines.proofs.KindPieces.{no_lone_kind}
use Rattle.py_lines.proofs.kinds.lone_kind.Goals as goal

pub returns-in_default : goal.returns-in_default
returns-in_default c = no_lone_kind c.args.word.now c.in_default.ensures
