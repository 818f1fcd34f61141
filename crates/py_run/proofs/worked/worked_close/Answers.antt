use Rattle.py_run.proofs.WorkedLemmas.{close_is_run}
use Rattle.py_run.proofs.worked.worked_close.Goals as goal

pub returns-clause-is_run : goal.returns-clause-is_run
returns-clause-is_run c = close_is_run
