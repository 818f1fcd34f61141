use Rattle.py_run.proofs.WorkedLemmas.{stop_is_run}
use Rattle.py_run.proofs.worked.worked_stop.Goals as goal

pub returns-clause-is_run : goal.returns-clause-is_run
returns-clause-is_run c = stop_is_run
