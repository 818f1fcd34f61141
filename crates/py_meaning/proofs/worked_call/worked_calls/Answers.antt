use Rattle.py_meaning.proofs.WorkedCallLemmas.{any_order, no_name_unbound, spelled, is_run, text, no_other_object, no_callee_made_twice, no_other_number, no_swapped_arguments, no_other_result, no_activation_of_a_refused_drive, entry_at_999, no_entry_at_1000, made_at_any_depth}
use Rattle.py_meaning.proofs.worked_call.worked_calls.Goals as goal

pub returns-clause-spelled : goal.returns-clause-spelled
returns-clause-spelled c = spelled

pub returns-clause-is_run : goal.returns-clause-is_run
returns-clause-is_run c = is_run

pub returns-clause-text : goal.returns-clause-text
returns-clause-text c = text

pub returns-clause-no_other_object_of_a_drive : goal.returns-clause-no_other_object_of_a_drive
returns-clause-no_other_object_of_a_drive c = no_other_object

pub returns-clause-any_order : goal.returns-clause-any_order
returns-clause-any_order c = any_order

pub returns-clause-no_name_unbound : goal.returns-clause-no_name_unbound
returns-clause-no_name_unbound c = no_name_unbound

pub returns-clause-no_callee_made_twice : goal.returns-clause-no_callee_made_twice
returns-clause-no_callee_made_twice c = no_callee_made_twice

pub returns-clause-no_other_number : goal.returns-clause-no_other_number
returns-clause-no_other_number c = no_other_number

pub returns-clause-no_swapped_arguments : goal.returns-clause-no_swapped_arguments
returns-clause-no_swapped_arguments c = no_swapped_arguments

pub returns-clause-no_other_result : goal.returns-clause-no_other_result
returns-clause-no_other_result c = no_other_result

pub returns-clause-no_activation_of_a_refused_drive : goal.returns-clause-no_activation_of_a_refused_drive
returns-clause-no_activation_of_a_refused_drive c = no_activation_of_a_refused_drive

pub returns-clause-entry_at_999 : goal.returns-clause-entry_at_999
returns-clause-entry_at_999 c = entry_at_999

pub returns-clause-no_entry_at_1000 : goal.returns-clause-no_entry_at_1000
returns-clause-no_entry_at_1000 c plan p store f vs full g ws = no_entry_at_1000 plan p store f vs g ws full

pub returns-clause-made_at_any_depth : goal.returns-clause-made_at_any_depth
returns-clause-made_at_any_depth c = made_at_any_depth
