use Rattle.py_run.proofs.WorkedLemmas.{self_is_run}
use Rattle.py_run.proofs.worked.worked_self.Goals as goal

pub returns-clause-is_run : goal.returns-clause-is_run
returns-clause-is_run c = self_is_run
