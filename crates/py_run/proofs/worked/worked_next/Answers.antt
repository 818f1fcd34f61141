use Rattle.py_run.proofs.WorkedLemmas.{named_is_none, naming_is_run, next_is_run}
use Rattle.py_run.proofs.worked.worked_next.Goals as goal

pub returns-clause-is_run : goal.returns-clause-is_run
returns-clause-is_run c = next_is_run

pub returns-clause-new_object : goal.returns-clause-new_object
returns-clause-new_object c = naming_is_run

pub returns-clause-no_old_object : goal.returns-clause-no_old_object
returns-clause-no_old_object c comes = named_is_none comes
