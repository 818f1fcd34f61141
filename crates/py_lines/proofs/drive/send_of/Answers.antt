use Rattle.py_lines.proofs.Finds.{no_send}
use Rattle.py_lines.proofs.drive.send_of.Goals as goal

pub returns-in_default : goal.returns-in_default
returns-in_default c = no_send _ _ c.in_default.is c.in_ok-number.ensures
