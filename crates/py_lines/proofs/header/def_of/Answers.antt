use Rattle.py_lines.proofs.Finds.{no_def}
use Rattle.py_lines.proofs.header.def_of.Goals as goal

pub returns-in_default : goal.returns-in_default
returns-in_default c = no_def c.args.kind _ _ c.in_default.is c.in_ok-name.ensures
