use Rattle.py_lines.proofs.WorkedLemmas.{add_is_a_name, as_is_a_name, call_is_a_drive, call_is_a_name, call_of_sums, class_of_itself, class_of_nothing, close_is_a_name, keyword_is_no_name, manager_of_two, next_nothing, no_count_beyond, no_large_number, no_name_behind_as, no_number_below, no_close_at_the_end, no_operator_of_this_name, nothing_behind, nothing_in_parentheses, nothing_is_blank, throw_is_a_drive, with_as, with_none, yield_is_a_name}
use Rattle.py_lines.proofs.worked.worked_lines.Goals as goal

pub returns-clause-call_is_a_name : goal.returns-clause-call_is_a_name
returns-clause-call_is_a_name c = call_is_a_name

pub returns-clause-call_is_a_drive : goal.returns-clause-call_is_a_drive
returns-clause-call_is_a_drive c = call_is_a_drive

pub returns-clause-add_is_a_name : goal.returns-clause-add_is_a_name
returns-clause-add_is_a_name c = add_is_a_name

pub returns-clause-as_is_a_name : goal.returns-clause-as_is_a_name
returns-clause-as_is_a_name c = as_is_a_name

pub returns-clause-keyword_is_no_name : goal.returns-clause-keyword_is_no_name
returns-clause-keyword_is_no_name c = keyword_is_no_name

pub returns-clause-nothing_behind : goal.returns-clause-nothing_behind
returns-clause-nothing_behind c = nothing_behind

pub returns-clause-no_large_number : goal.returns-clause-no_large_number
returns-clause-no_large_number c = no_large_number

pub returns-clause-nothing_is_blank : goal.returns-clause-nothing_is_blank
returns-clause-nothing_is_blank c = nothing_is_blank

pub returns-clause-yield_is_a_name : goal.returns-clause-yield_is_a_name
returns-clause-yield_is_a_name c = yield_is_a_name

pub returns-clause-close_is_a_name : goal.returns-clause-close_is_a_name
returns-clause-close_is_a_name c = close_is_a_name

pub returns-clause-throw_is_a_drive : goal.returns-clause-throw_is_a_drive
returns-clause-throw_is_a_drive c = throw_is_a_drive

pub returns-clause-next_nothing : goal.returns-clause-next_nothing
returns-clause-next_nothing c = next_nothing

pub returns-clause-no_number_below : goal.returns-clause-no_number_below
returns-clause-no_number_below c = no_number_below

pub returns-clause-no_count_beyond : goal.returns-clause-no_count_beyond
returns-clause-no_count_beyond c = no_count_beyond

pub returns-clause-with_as : goal.returns-clause-with_as
returns-clause-with_as c = with_as

pub returns-clause-with_none : goal.returns-clause-with_none
returns-clause-with_none c = with_none

pub returns-clause-no_name_behind_as : goal.returns-clause-no_name_behind_as
returns-clause-no_name_behind_as c = no_name_behind_as

pub returns-clause-class_of_itself : goal.returns-clause-class_of_itself
returns-clause-class_of_itself c = class_of_itself

pub returns-clause-manager_of_two : goal.returns-clause-manager_of_two
returns-clause-manager_of_two c = manager_of_two

pub returns-clause-class_of_nothing : goal.returns-clause-class_of_nothing
returns-clause-class_of_nothing c = class_of_nothing

pub returns-clause-call_of_sums : goal.returns-clause-call_of_sums
returns-clause-call_of_sums c = call_of_sums

pub returns-clause-nothing_in_parentheses : goal.returns-clause-nothing_in_parentheses
returns-clause-nothing_in_parentheses c = nothing_in_parentheses

pub returns-clause-no_close_at_the_end : goal.returns-clause-no_close_at_the_end
returns-clause-no_close_at_the_end c = no_close_at_the_end

pub returns-clause-no_operator_of_this_name : goal.returns-clause-no_operator_of_this_name
returns-clause-no_operator_of_this_name c = no_operator_of_this_name
