use Rattle.py_meaning.proofs.WorkedGeneratorLemmas.{spelled, is_run, text, no_entry_by_the_call, no_other_returned, no_other_value_yielded, no_other_value_of_the_body, no_yield_without_an_entry}
use Rattle.py_meaning.proofs.worked_generator.worked_generators.Goals as goal

pub returns-clause-spelled : goal.returns-clause-spelled
returns-clause-spelled c = spelled

pub returns-clause-is_run : goal.returns-clause-is_run
returns-clause-is_run c = is_run

pub returns-clause-text : goal.returns-clause-text
returns-clause-text c = text

pub returns-clause-no_entry_by_the_call : goal.returns-clause-no_entry_by_the_call
returns-clause-no_entry_by_the_call c = no_entry_by_the_call

pub returns-clause-no_call_that_returns_another : goal.returns-clause-no_call_that_returns_another
returns-clause-no_call_that_returns_another c = no_other_returned

pub returns-clause-no_other_value_yielded : goal.returns-clause-no_other_value_yielded
returns-clause-no_other_value_yielded c = no_other_value_yielded

pub returns-clause-no_other_value_of_the_body : goal.returns-clause-no_other_value_of_the_body
returns-clause-no_other_value_of_the_body c = no_other_value_of_the_body

pub returns-clause-no_yield_without_an_entry : goal.returns-clause-no_yield_without_an_entry
returns-clause-no_yield_without_an_entry c = no_yield_without_an_entry
