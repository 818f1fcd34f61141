use Rattle.py_run.proofs.WorkedLemmas.{starts_comes, throw_is_run}
use Rattle.py_run.proofs.worked.worked_throw.Goals as goal

pub returns-clause-is_run : goal.returns-clause-is_run
returns-clause-is_run c = throw_is_run

pub returns-clause-starts : goal.returns-clause-starts
returns-clause-starts c = starts_comes
