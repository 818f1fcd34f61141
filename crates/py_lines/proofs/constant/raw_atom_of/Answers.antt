use Rattle.py_lines.specs.Printing.{atom_token}
use Rattle.py_lines.proofs.Finds.{none_prints}
use Rattle.py_lines.proofs.RawConsts.{no_raw_of}
use Rattle.py_lines.proofs.constant.raw_atom_of.Goals as goal

pub returns-in_default : goal.returns-in_default
returns-in_default c = no_raw_of _ (none_prints atom_token _ _ c.in_default.is c.in_ok-atom.ensures)
