use Rattle.std.proofs.Common.{refl}
use Rattle.py_check.proofs.WorkedLemmas.{typed, typed_behind, breaks, breaks_behind}
use Rattle.py_check.proofs.rows_worked.worked_call_rows.Goals as goal

pub returns-clause-calls_with_items : goal.returns-clause-calls_with_items
returns-clause-calls_with_items c = typed _ refl refl

pub returns-clause-calls_without_items : goal.returns-clause-calls_without_items
returns-clause-calls_without_items c = breaks _ _ refl refl refl

pub returns-clause-calls_with_a_dict : goal.returns-clause-calls_with_a_dict
returns-clause-calls_with_a_dict c = typed _ refl refl

pub returns-clause-calls_without_the_dict : goal.returns-clause-calls_without_the_dict
returns-clause-calls_without_the_dict c = breaks _ _ refl refl refl

pub returns-clause-calls_with_no_dict : goal.returns-clause-calls_with_no_dict
returns-clause-calls_with_no_dict c = typed _ refl refl

pub returns-clause-calls_by_a_name : goal.returns-clause-calls_by_a_name
returns-clause-calls_by_a_name c = typed _ refl refl

pub returns-clause-calls_by_a_name_on_nothing : goal.returns-clause-calls_by_a_name_on_nothing
returns-clause-calls_by_a_name_on_nothing c = breaks _ _ refl refl refl

pub returns-clause-finds_a_method : goal.returns-clause-finds_a_method
returns-clause-finds_a_method c = typed _ refl refl

pub returns-clause-finds_no_method : goal.returns-clause-finds_no_method
returns-clause-finds_no_method c = breaks _ _ refl refl refl

pub returns-clause-finds_a_method_of_nothing : goal.returns-clause-finds_a_method_of_nothing
returns-clause-finds_a_method_of_nothing c = breaks _ _ refl refl refl

pub returns-clause-finds_half_a_method : goal.returns-clause-finds_half_a_method
returns-clause-finds_half_a_method c = breaks _ _ refl refl refl

pub returns-clause-finds_a_method_under_a_loop : goal.returns-clause-finds_a_method_under_a_loop
returns-clause-finds_a_method_under_a_loop c = breaks _ _ refl refl refl

pub returns-clause-no_room_for_a_method : goal.returns-clause-no_room_for_a_method
returns-clause-no_room_for_a_method c = breaks _ _ refl refl refl

pub returns-clause-calls_a_method : goal.returns-clause-calls_a_method
returns-clause-calls_a_method c = typed _ refl refl

pub returns-clause-calls_a_method_with_too_few : goal.returns-clause-calls_a_method_with_too_few
returns-clause-calls_a_method_with_too_few c = breaks _ _ refl refl refl

pub returns-clause-object_stays : goal.returns-clause-object_stays
returns-clause-object_stays c = breaks _ _ refl refl refl

pub returns-clause-calls_a_method_by_name : goal.returns-clause-calls_a_method_by_name
returns-clause-calls_a_method_by_name c = typed _ refl refl

pub returns-clause-calls_a_method_by_no_name : goal.returns-clause-calls_a_method_by_no_name
returns-clause-calls_a_method_by_no_name c = typed _ refl refl

pub returns-clause-calls_a_method_by_two_names : goal.returns-clause-calls_a_method_by_two_names
returns-clause-calls_a_method_by_two_names c = breaks _ _ refl refl refl

pub returns-clause-calls_a_method_by_a_tuple : goal.returns-clause-calls_a_method_by_a_tuple
returns-clause-calls_a_method_by_a_tuple c = breaks _ _ refl refl refl

pub returns-clause-calls_a_method_on_nothing : goal.returns-clause-calls_a_method_on_nothing
returns-clause-calls_a_method_on_nothing c = breaks _ _ refl refl refl

pub returns-clause-calls_a_method_with_items : goal.returns-clause-calls_a_method_with_items
returns-clause-calls_a_method_with_items c = typed _ refl refl

pub returns-clause-calls_a_method_without_items : goal.returns-clause-calls_a_method_without_items
returns-clause-calls_a_method_without_items c = breaks _ _ refl refl refl

pub returns-clause-calls_a_method_with_a_dict : goal.returns-clause-calls_a_method_with_a_dict
returns-clause-calls_a_method_with_a_dict c = typed _ refl refl

pub returns-clause-calls_a_method_without_the_dict : goal.returns-clause-calls_a_method_without_the_dict
returns-clause-calls_a_method_without_the_dict c = breaks _ _ refl refl refl

pub returns-clause-calls_a_method_with_no_dict : goal.returns-clause-calls_a_method_with_no_dict
returns-clause-calls_a_method_with_no_dict c = typed _ refl refl

pub returns-clause-jumps_where_true : goal.returns-clause-jumps_where_true
returns-clause-jumps_where_true c = typed _ refl refl

pub returns-clause-jumps_where_true_on_nothing : goal.returns-clause-jumps_where_true_on_nothing
returns-clause-jumps_where_true_on_nothing c = breaks _ _ refl refl refl

pub returns-clause-jumps_where_true_with_the_value : goal.returns-clause-jumps_where_true_with_the_value
returns-clause-jumps_where_true_with_the_value c = breaks _ _ refl refl refl

pub returns-clause-goes_on_with_the_value : goal.returns-clause-goes_on_with_the_value
returns-clause-goes_on_with_the_value c = breaks _ _ refl refl refl

pub returns-clause-jumps_where_true_behind_a_prefix : goal.returns-clause-jumps_where_true_behind_a_prefix
returns-clause-jumps_where_true_behind_a_prefix c = breaks _ _ refl refl refl

pub returns-clause-keeps_what_is_true : goal.returns-clause-keeps_what_is_true
returns-clause-keeps_what_is_true c = typed _ refl refl

pub returns-clause-keeps_a_true_text : goal.returns-clause-keeps_a_true_text
returns-clause-keeps_a_true_text c = typed _ refl refl

pub returns-clause-keeps_nothing_that_is_true : goal.returns-clause-keeps_nothing_that_is_true
returns-clause-keeps_nothing_that_is_true c = breaks _ _ refl refl refl

pub returns-clause-pops_what_is_true : goal.returns-clause-pops_what_is_true
returns-clause-pops_what_is_true c = breaks _ _ refl refl refl

pub returns-clause-keeps_what_is_not_true : goal.returns-clause-keeps_what_is_not_true
returns-clause-keeps_what_is_not_true c = breaks _ _ refl refl refl

pub returns-clause-stays_true_behind_a_prefix : goal.returns-clause-stays_true_behind_a_prefix
returns-clause-stays_true_behind_a_prefix c = breaks _ _ refl refl refl

pub returns-clause-pops_what_is_not_true_under_a_loop : goal.returns-clause-pops_what_is_not_true_under_a_loop
returns-clause-pops_what_is_not_true_under_a_loop c = breaks _ _ refl refl refl

pub returns-clause-keeps_what_is_false : goal.returns-clause-keeps_what_is_false
returns-clause-keeps_what_is_false c = typed _ refl refl

pub returns-clause-keeps_a_false_text : goal.returns-clause-keeps_a_false_text
returns-clause-keeps_a_false_text c = typed _ refl refl

pub returns-clause-keeps_nothing_that_is_false : goal.returns-clause-keeps_nothing_that_is_false
returns-clause-keeps_nothing_that_is_false c = breaks _ _ refl refl refl

pub returns-clause-pops_what_is_false : goal.returns-clause-pops_what_is_false
returns-clause-pops_what_is_false c = breaks _ _ refl refl refl

pub returns-clause-keeps_what_is_not_false : goal.returns-clause-keeps_what_is_not_false
returns-clause-keeps_what_is_not_false c = breaks _ _ refl refl refl

pub returns-clause-stays_false_behind_a_prefix : goal.returns-clause-stays_false_behind_a_prefix
returns-clause-stays_false_behind_a_prefix c = breaks _ _ refl refl refl

pub returns-clause-pops_what_is_not_false_under_a_loop : goal.returns-clause-pops_what_is_not_false_under_a_loop
returns-clause-pops_what_is_not_false_under_a_loop c = breaks _ _ refl refl refl

pub returns-clause-all_parts : goal.returns-clause-all_parts
returns-clause-all_parts c = typed_behind _ _ refl refl

pub returns-clause-makes_by_an_unknown_flag : goal.returns-clause-makes_by_an_unknown_flag
returns-clause-makes_by_an_unknown_flag c = breaks_behind _ _ _ refl refl refl

pub returns-clause-name_is_a_text : goal.returns-clause-name_is_a_text
returns-clause-name_is_a_text c = breaks_behind _ _ _ refl refl refl

pub returns-clause-code_lies_above_its_name : goal.returns-clause-code_lies_above_its_name
returns-clause-code_lies_above_its_name c = breaks_behind _ _ _ refl refl refl

pub returns-clause-makes_with_no_cells : goal.returns-clause-makes_with_no_cells
returns-clause-makes_with_no_cells c = typed_behind _ _ refl refl

pub returns-clause-closure_is_of_cells : goal.returns-clause-closure_is_of_cells
returns-clause-closure_is_of_cells c = breaks_behind _ _ _ refl refl refl

pub returns-clause-makes_with_annotations : goal.returns-clause-makes_with_annotations
returns-clause-makes_with_annotations c = typed_behind _ _ refl refl

pub returns-clause-makes_without_annotations : goal.returns-clause-makes_without_annotations
returns-clause-makes_without_annotations c = breaks_behind _ _ _ refl refl refl

pub returns-clause-makes_with_defaults_by_name : goal.returns-clause-makes_with_defaults_by_name
returns-clause-makes_with_defaults_by_name c = typed_behind _ _ refl refl

pub returns-clause-defaults_by_name_are_a_dict : goal.returns-clause-defaults_by_name_are_a_dict
returns-clause-defaults_by_name_are_a_dict c = breaks_behind _ _ _ refl refl refl

pub returns-clause-makes_with_defaults : goal.returns-clause-makes_with_defaults
returns-clause-makes_with_defaults c = typed_behind _ _ refl refl

pub returns-clause-makes_with_defaults_that_are_texts : goal.returns-clause-makes_with_defaults_that_are_texts
returns-clause-makes_with_defaults_that_are_texts c = typed_behind _ _ refl refl

pub returns-clause-defaults_are_a_tuple : goal.returns-clause-defaults_are_a_tuple
returns-clause-defaults_are_a_tuple c = breaks_behind _ _ _ refl refl refl

pub returns-clause-closure_above_annotations : goal.returns-clause-closure_above_annotations
returns-clause-closure_above_annotations c = breaks_behind _ _ _ refl refl refl

pub returns-clause-annotations_above_by_name : goal.returns-clause-annotations_above_by_name
returns-clause-annotations_above_by_name c = breaks_behind _ _ _ refl refl refl

pub returns-clause-by_name_above_by_position : goal.returns-clause-by_name_above_by_position
returns-clause-by_name_above_by_position c = breaks_behind _ _ _ refl refl refl

pub returns-clause-annotations_above_defaults : goal.returns-clause-annotations_above_defaults
returns-clause-annotations_above_defaults c = breaks_behind _ _ _ refl refl refl

pub returns-clause-calls_an_exit : goal.returns-clause-calls_an_exit
returns-clause-calls_an_exit c = typed _ refl refl

pub returns-clause-calls_an_exit_under_a_loop : goal.returns-clause-calls_an_exit_under_a_loop
returns-clause-calls_an_exit_under_a_loop c = breaks _ _ refl refl refl

pub returns-clause-no_exit_above_a_loop : goal.returns-clause-no_exit_above_a_loop
returns-clause-no_exit_above_a_loop c = breaks _ _ refl refl refl

pub returns-clause-calls_no_exit : goal.returns-clause-calls_no_exit
returns-clause-calls_no_exit c = breaks _ _ refl refl refl

pub returns-clause-ends_with_an_exit : goal.returns-clause-ends_with_an_exit
returns-clause-ends_with_an_exit c = typed _ refl refl

pub returns-clause-ends_with_an_exit_under_a_loop : goal.returns-clause-ends_with_an_exit_under_a_loop
returns-clause-ends_with_an_exit_under_a_loop c = breaks _ _ refl refl refl

pub returns-clause-ends_without_exit : goal.returns-clause-ends_without_exit
returns-clause-ends_without_exit c = breaks _ _ refl refl refl

pub returns-clause-ends_with_an_exit_above_a_value : goal.returns-clause-ends_with_an_exit_above_a_value
returns-clause-ends_with_an_exit_above_a_value c = typed _ refl refl

pub returns-clause-exit_lies_too_deep : goal.returns-clause-exit_lies_too_deep
returns-clause-exit_lies_too_deep c = breaks _ _ refl refl refl

pub returns-clause-ends_an_iteration : goal.returns-clause-ends_an_iteration
returns-clause-ends_an_iteration c = typed _ refl refl

pub returns-clause-ends_under_a_loop : goal.returns-clause-ends_under_a_loop
returns-clause-ends_under_a_loop c = breaks _ _ refl refl refl

pub returns-clause-ends_no_iteration : goal.returns-clause-ends_no_iteration
returns-clause-ends_no_iteration c = breaks _ _ refl refl refl

pub returns-clause-ends_above_a_value : goal.returns-clause-ends_above_a_value
returns-clause-ends_above_a_value c = typed _ refl refl

pub returns-clause-iterator_lies_too_deep : goal.returns-clause-iterator_lies_too_deep
returns-clause-iterator_lies_too_deep c = breaks _ _ refl refl refl

pub returns-clause-ends_by_a_value : goal.returns-clause-ends_by_a_value
returns-clause-ends_by_a_value c = breaks _ _ refl refl refl

pub returns-clause-ends_in_a_finally : goal.returns-clause-ends_in_a_finally
returns-clause-ends_in_a_finally c = breaks _ _ refl refl refl

pub returns-clause-makes_an_async_iterator : goal.returns-clause-makes_an_async_iterator
returns-clause-makes_an_async_iterator c = typed _ refl refl

pub returns-clause-makes_an_async_iterator_over_nothing : goal.returns-clause-makes_an_async_iterator_over_nothing
returns-clause-makes_an_async_iterator_over_nothing c = breaks _ _ refl refl refl

pub returns-clause-asks_for_the_next : goal.returns-clause-asks_for_the_next
returns-clause-asks_for_the_next c = typed _ refl refl

pub returns-clause-asks_for_the_next_under_a_loop : goal.returns-clause-asks_for_the_next_under_a_loop
returns-clause-asks_for_the_next_under_a_loop c = typed _ refl refl

pub returns-clause-asks_nothing_for_the_next : goal.returns-clause-asks_nothing_for_the_next
returns-clause-asks_nothing_for_the_next c = breaks _ _ refl refl refl

pub returns-clause-an_async_iterator_goes : goal.returns-clause-an_async_iterator_goes
returns-clause-an_async_iterator_goes c = breaks _ _ refl refl refl

pub returns-clause-waits : goal.returns-clause-waits
returns-clause-waits c = typed _ refl refl

pub returns-clause-waits_for_nothing : goal.returns-clause-waits_for_nothing
returns-clause-waits_for_nothing c = breaks _ _ refl refl refl

pub returns-clause-enters_an_async_manager : goal.returns-clause-enters_an_async_manager
returns-clause-enters_an_async_manager c = typed _ refl refl

pub returns-clause-enters_nothing : goal.returns-clause-enters_nothing
returns-clause-enters_nothing c = breaks _ _ refl refl refl

pub returns-clause-enters_without_an_exit : goal.returns-clause-enters_without_an_exit
returns-clause-enters_without_an_exit c = breaks _ _ refl refl refl

pub returns-clause-delegates : goal.returns-clause-delegates
returns-clause-delegates c = typed _ refl refl

pub returns-clause-a_delegate_is_of_any_kind : goal.returns-clause-a_delegate_is_of_any_kind
returns-clause-a_delegate_is_of_any_kind c = typed _ refl refl

pub returns-clause-delegates_in_a_coroutine : goal.returns-clause-delegates_in_a_coroutine
returns-clause-delegates_in_a_coroutine c = typed _ refl refl

pub returns-clause-delegate_lies_under_a_loop : goal.returns-clause-delegate_lies_under_a_loop
returns-clause-delegate_lies_under_a_loop c = breaks _ _ refl refl refl

pub returns-clause-what_is_sent_is_of_any_kind : goal.returns-clause-what_is_sent_is_of_any_kind
returns-clause-what_is_sent_is_of_any_kind c = breaks _ _ refl refl refl

pub returns-clause-delegates_nothing : goal.returns-clause-delegates_nothing
returns-clause-delegates_nothing c = breaks _ _ refl refl refl

pub returns-clause-delegates_in_a_function : goal.returns-clause-delegates_in_a_function
returns-clause-delegates_in_a_function c = breaks _ _ refl refl refl

pub returns-clause-delegates_behind_a_drop : goal.returns-clause-delegates_behind_a_drop
returns-clause-delegates_behind_a_drop c = typed _ refl refl

pub returns-clause-delegates_behind_a_delegation : goal.returns-clause-delegates_behind_a_delegation
returns-clause-delegates_behind_a_delegation c = breaks _ _ refl refl refl

pub returns-clause-delegates_behind_a_prefix : goal.returns-clause-delegates_behind_a_prefix
returns-clause-delegates_behind_a_prefix c = typed _ refl refl

pub returns-clause-delegates_again_past_a_prefix : goal.returns-clause-delegates_again_past_a_prefix
returns-clause-delegates_again_past_a_prefix c = breaks _ _ refl refl refl

pub returns-clause-yields_in_front_of_a_prefix : goal.returns-clause-yields_in_front_of_a_prefix
returns-clause-yields_in_front_of_a_prefix c = breaks _ _ refl refl refl
