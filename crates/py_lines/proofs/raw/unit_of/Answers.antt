use Rattle.py_lines.proofs.RawFinds.{no_unit}
use Rattle.py_lines.proofs.raw.unit_of.Goals as goal

pub returns-in_default : goal.returns-in_default
returns-in_default c = no_unit _ _ c.in_default.is c.in_ok-instruction.ensures
