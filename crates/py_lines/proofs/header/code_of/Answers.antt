use Rattle.py_lines.proofs.Finds.{no_code}
use Rattle.py_lines.proofs.header.code_of.Goals as goal

pub returns-in_default : goal.returns-in_default
returns-in_default c = no_code _ _ c.in_default.is c.in_ok-name.ensures
