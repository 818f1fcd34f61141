use Rattle.py_meaning.proofs.WorkedWithLemmas.{spelled, is_run, text, no_exit_passed_by, no_return_swallowed, no_value_told, no_other_base, no_other_exit}
use Rattle.py_meaning.proofs.worked_with.worked_withs.Goals as goal

pub returns-clause-spelled : goal.returns-clause-spelled
returns-clause-spelled c = spelled

pub returns-clause-is_run : goal.returns-clause-is_run
returns-clause-is_run c = is_run

pub returns-clause-text : goal.returns-clause-text
returns-clause-text c = text

pub returns-clause-no_exit_passed_by : goal.returns-clause-no_exit_passed_by
returns-clause-no_exit_passed_by c = no_exit_passed_by

pub returns-clause-no_return_swallowed : goal.returns-clause-no_return_swallowed
returns-clause-no_return_swallowed c = no_return_swallowed

pub returns-clause-no_value_told : goal.returns-clause-no_value_told
returns-clause-no_value_told c = no_value_told

pub returns-clause-no_other_base : goal.returns-clause-no_other_base
returns-clause-no_other_base c = no_other_base

pub returns-clause-no_other_exit : goal.returns-clause-no_other_exit
returns-clause-no_other_exit c = no_other_exit
