use Rattle.py_meaning.proofs.WorkedFinallyLemmas.{spelled, is_run, text, no_finally_passed_by, no_finally_without, no_exception_swallowed}
use Rattle.py_meaning.proofs.worked_finally.worked_finallies.Goals as goal

pub returns-clause-spelled : goal.returns-clause-spelled
returns-clause-spelled c = spelled

pub returns-clause-is_run : goal.returns-clause-is_run
returns-clause-is_run c = is_run

pub returns-clause-text : goal.returns-clause-text
returns-clause-text c = text

pub returns-clause-no_finally_passed_by : goal.returns-clause-no_finally_passed_by
returns-clause-no_finally_passed_by c = no_finally_passed_by

pub returns-clause-no_finally_without_its_exception : goal.returns-clause-no_finally_without_its_exception
returns-clause-no_finally_without_its_exception c = no_finally_without

pub returns-clause-no_exception_swallowed : goal.returns-clause-no_exception_swallowed
returns-clause-no_exception_swallowed c = no_exception_swallowed
