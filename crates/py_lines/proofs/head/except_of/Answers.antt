use Rattle.py_lines.proofs.Finds.{no_except}
use Rattle.py_lines.proofs.head.except_of.Goals as goal

pub returns-in_default : goal.returns-in_default
returns-in_default c = no_except _ _ c.in_default.is c.in_ok-class.ensures
