use Rattle.std.proofs.Common.{ap, map}
use Rattle.py_lines.specs.Senses.{meaning_of}
use Rattle.py_lines.proofs.RawFinds.{no_three_smalls}
use Rattle.py_lines.proofs.count.three_smalls.Goals as goal

pub returns-in_default-two_smalls : goal.returns-in_default-two_smalls
returns-in_default-two_smalls c = no_three_smalls _ _ _ _ (ap (map meaning_of) c.in-Some.ensures.cases.0) c.in_default-two_smalls.is c.two_smalls.ensures
