use Rattle.py_script.proofs.WorkedUnitLemmas.{no_other_unit, no_raw_sum}
use Rattle.py_script.proofs.worked_unit.worked_units.Goals as goal

pub returns : goal.returns
returns c = record { no_other_unit = no_other_unit; no_raw_sum = no_raw_sum }
