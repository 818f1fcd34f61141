use Rattle.py_lines.proofs.Finds.{no_with}
use Rattle.py_lines.proofs.head.with_of.Goals as goal

pub returns-in_default : goal.returns-in_default
returns-in_default c = no_with _ _ c.in_default.is c.in_ok-manager.ensures
