use Rattle.py_core.proofs.Failing.{never_fails, one_place}
use Rattle.py_core.proofs.Machine.{machine_runs}
use Rattle.py_core.proofs.laws.laws_of_core_runs.Goals as goal

pub returns : goal.returns
returns c = record {
  machine = λ s j well core run. machine_runs s j well core run;
  whole = λ s j k whole fails. never_fails s j k whole fails;
  one_place = λ s j k l at there. one_place s j k l at there;
}
