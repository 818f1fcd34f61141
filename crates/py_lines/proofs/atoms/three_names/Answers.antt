use Rattle.std.proofs.Common.{ap, map}
use Rattle.py_lines.specs.Senses.{meaning_of}
use Rattle.py_lines.proofs.Finds.{no_three}
use Rattle.py_lines.proofs.atoms.three_names.Goals as goal

pub returns-in_default-3 : goal.returns-in_default-3
returns-in_default-3 c = no_three _ _ _ _ (ap (map meaning_of) c.in-Some.ensures.cases.0) c.in_default-3.is c.in_ok-second.ensures
