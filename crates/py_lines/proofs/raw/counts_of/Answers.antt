use Rattle.py_lines.proofs.RawFinds.{no_counts}
use Rattle.py_lines.proofs.raw.counts_of.Goals as goal

pub returns-in_default : goal.returns-in_default
returns-in_default c = no_counts _ _ c.in_default.is c.three_smalls.ensures
