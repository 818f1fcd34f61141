use Rattle.py_lines.proofs.Finds.{no_throw}
use Rattle.py_lines.proofs.drive.throw_at.Goals as goal

pub returns-in_default : goal.returns-in_default
returns-in_default c = no_throw c.args.number _ _ c.in_default.is c.in_ok-class.ensures
