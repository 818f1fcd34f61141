use Rattle.py_run.proofs.WorkedLemmas.{ignored_is_run}
use Rattle.py_run.proofs.worked.worked_ignored.Goals as goal

pub returns-clause-is_run : goal.returns-clause-is_run
returns-clause-is_run c = ignored_is_run
