use Rattle.py_lines.proofs.Finds.{no_call}
use Rattle.py_lines.proofs.drive.call_of.Goals as goal

pub returns-in_default : goal.returns-in_default
returns-in_default c = no_call _ _ c.in_default.is c.in_ok-name.ensures
