use Rattle.py_run.proofs.WorkedLemmas.{handled_is_run}
use Rattle.py_run.proofs.worked.worked_handled.Goals as goal

pub returns-clause-is_run : goal.returns-clause-is_run
returns-clause-is_run c = handled_is_run
