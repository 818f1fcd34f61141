use Rattle.std.proofs.Common.{ap, map}
use Rattle.py_lines.specs.Senses.{meaning_of}
use Rattle.py_lines.proofs.RawFinds.{no_whole_unit}
use Rattle.py_lines.proofs.unit.whole_unit.Goals as goal

pub returns-in_default-2 : goal.returns-in_default-2
returns-in_default-2 c = no_whole_unit _ _ _ _ (ap (map meaning_of) c.in-Some.ensures.cases.0) c.in_default-2.is c.in_ok-arg.ensures
