use Rattle.std.proofs.Common.{◌≡◌, take, map}
use Rattle.py_lines.specs.Meaning.{Word}
use Rattle.py_lines.specs.Senses.{meaning_of}
use Rattle.py_lines.proofs.atoms.names_of.Given as goal

abbrev pub invariant-loop-token : goal.invariant-loop-token
invariant-loop-token l = map meaning_of (take l.token-index l.tokens) ≡ map Word l.names
