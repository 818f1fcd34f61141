use Rattle.py_meaning.proofs.WorkedContextLemmas.{spelled, is_run, text, no_context_left_out, no_context_set_later, no_other_exception, no_context_of_the_first, no_cause, no_first_entry_left_out, no_second_entry_left_out, no_entry_too_many, no_entry_put_later, no_entry_before_the_context, no_other_line}
use Rattle.py_meaning.proofs.worked_context.worked_contexts.Goals as goal

pub returns-clause-spelled : goal.returns-clause-spelled
returns-clause-spelled c = spelled

pub returns-clause-is_run : goal.returns-clause-is_run
returns-clause-is_run c k has = is_run k has

pub returns-clause-text : goal.returns-clause-text
returns-clause-text c k = text k

pub returns-clause-no_context_left_out : goal.returns-clause-no_context_left_out
returns-clause-no_context_left_out c k has j = no_context_left_out k has j

pub returns-clause-no_context_set_later : goal.returns-clause-no_context_set_later
returns-clause-no_context_set_later c k has j = no_context_set_later k has j

pub returns-clause-no_other_exception : goal.returns-clause-no_other_exception
returns-clause-no_other_exception c k has j = no_other_exception k has j

pub returns-clause-no_context_of_the_first : goal.returns-clause-no_context_of_the_first
returns-clause-no_context_of_the_first c k has j = no_context_of_the_first k has j

pub returns-clause-no_cause : goal.returns-clause-no_cause
returns-clause-no_cause c k has j = no_cause k has j

pub returns-clause-no_first_entry_left_out : goal.returns-clause-no_first_entry_left_out
returns-clause-no_first_entry_left_out c k has j = no_first_entry_left_out k has j

pub returns-clause-no_second_entry_left_out : goal.returns-clause-no_second_entry_left_out
returns-clause-no_second_entry_left_out c k has j = no_second_entry_left_out k has j

pub returns-clause-no_entry_too_many : goal.returns-clause-no_entry_too_many
returns-clause-no_entry_too_many c k has j = no_entry_too_many k has j

pub returns-clause-no_entry_put_later : goal.returns-clause-no_entry_put_later
returns-clause-no_entry_put_later c k has j = no_entry_put_later k has j

pub returns-clause-no_entry_before_the_context : goal.returns-clause-no_entry_before_the_context
returns-clause-no_entry_before_the_context c k has j = no_entry_before_the_context k has j

pub returns-clause-no_other_line : goal.returns-clause-no_other_line
returns-clause-no_other_line c k line j = no_other_line k line j
