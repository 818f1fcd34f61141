use Rattle.std.proofs.Common.{◌≡◌, take, map}
use Rattle.py_lines.specs.Senses.{meaning_of}
use Rattle.py_lines.specs.Printing.{drive_token}
use Rattle.py_lines.proofs.drive.drive_atoms_of.Given as goal

abbrev pub invariant-loop-token : goal.invariant-loop-token
invariant-loop-token l = map meaning_of (take l.token-index l.tokens) ≡ map drive_token l.atoms
