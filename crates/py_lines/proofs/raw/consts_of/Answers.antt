use Rattle.py_lines.proofs.RawFinds.{no_consts}
use Rattle.py_lines.proofs.raw.consts_of.Goals as goal

pub returns-in_default : goal.returns-in_default
returns-in_default c = no_consts _ _ c.in_default.is c.in_ok-consts.ensures
