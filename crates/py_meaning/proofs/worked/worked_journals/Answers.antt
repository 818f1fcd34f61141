use Rattle.py_meaning.proofs.WorkedLemmas.{spelled, is_run, front_is_run, no_round, no_swapped_operands, no_drive_beyond, no_other_code, no_other_name, no_manager, overflow_is_run, errors_are_run, no_error_twice}
use Rattle.py_meaning.proofs.OneText.{text, text_of_sum, overflow_text, text_of_overflow}
use Rattle.py_meaning.proofs.worked.worked_journals.Goals as goal

pub returns-clause-spelled : goal.returns-clause-spelled
returns-clause-spelled c = spelled

pub returns-clause-is_run : goal.returns-clause-is_run
returns-clause-is_run c = is_run

pub returns-clause-text : goal.returns-clause-text
returns-clause-text c = text

pub returns-clause-front_is_run : goal.returns-clause-front_is_run
returns-clause-front_is_run c = front_is_run

pub returns-clause-no_round_without_a_loop : goal.returns-clause-no_round_without_a_loop
returns-clause-no_round_without_a_loop c = no_round

pub returns-clause-no_swapped_operands : goal.returns-clause-no_swapped_operands
returns-clause-no_swapped_operands c = no_swapped_operands

pub returns-clause-no_drive_beyond_the_script : goal.returns-clause-no_drive_beyond_the_script
returns-clause-no_drive_beyond_the_script c = no_drive_beyond

pub returns-clause-no_other_code : goal.returns-clause-no_other_code
returns-clause-no_other_code c = no_other_code

pub returns-clause-no_other_name : goal.returns-clause-no_other_name
returns-clause-no_other_name c = no_other_name

pub returns-clause-no_manager : goal.returns-clause-no_manager
returns-clause-no_manager c = no_manager

pub returns-clause-overflow_text : goal.returns-clause-overflow_text
returns-clause-overflow_text c = overflow_text

pub returns-clause-overflow_is_run : goal.returns-clause-overflow_is_run
returns-clause-overflow_is_run c = overflow_is_run

pub returns-clause-errors_are_run : goal.returns-clause-errors_are_run
returns-clause-errors_are_run c = errors_are_run

pub returns-clause-no_error_twice : goal.returns-clause-no_error_twice
returns-clause-no_error_twice c = no_error_twice

pub returns-clause-text_of_sum : goal.returns-clause-text_of_sum
returns-clause-text_of_sum c = text_of_sum

pub returns-clause-text_of_overflow : goal.returns-clause-text_of_overflow
returns-clause-text_of_overflow c = text_of_overflow
