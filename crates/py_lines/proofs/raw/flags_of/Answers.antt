use Rattle.py_lines.proofs.RawFinds.{no_flags}
use Rattle.py_lines.proofs.raw.flags_of.Goals as goal

pub returns-in_default : goal.returns-in_default
returns-in_default c = no_flags _ _ c.in_default.is c.in_ok-flags.ensures
