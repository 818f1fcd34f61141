use Rattle.py_lines.specs.Printing.{atom_token}
use Rattle.py_lines.proofs.Finds.{no_argument, no_drive, none_prints}
use Rattle.py_lines.proofs.drive.drive_atom_of.Goals as goal

pub returns-in_default-2 : goal.returns-in_default-2
returns-in_default-2 c = no_argument _ (none_prints atom_token _ _ c.in_default-2.is c.in_ok-atom.ensures) (no_drive c.args.token.now c.in_default.not-Drive)
