use Rattle.std.proofs.Common.{refl}
use Rattle.py_check.proofs.WorkedLemmas.{typed, breaks}
use Rattle.py_check.proofs.rows_worked.worked_value_rows.Goals as goal

pub returns-clause-duplicates_two : goal.returns-clause-duplicates_two
returns-clause-duplicates_two c = typed _ refl refl

pub returns-clause-duplicates_two_of_one : goal.returns-clause-duplicates_two_of_one
returns-clause-duplicates_two_of_one c = breaks _ _ refl refl refl

pub returns-clause-duplicates_one_of_two : goal.returns-clause-duplicates_one_of_two
returns-clause-duplicates_one_of_two c = breaks _ _ refl refl refl

pub returns-clause-duplicates_two_under_a_loop : goal.returns-clause-duplicates_two_under_a_loop
returns-clause-duplicates_two_under_a_loop c = typed _ refl refl

pub returns-clause-no_room_for_two_copies : goal.returns-clause-no_room_for_two_copies
returns-clause-no_room_for_two_copies c = breaks _ _ refl refl refl

pub returns-clause-copies_two_texts : goal.returns-clause-copies_two_texts
returns-clause-copies_two_texts c = typed _ refl refl

pub returns-clause-upper_copy_is_a_text : goal.returns-clause-upper_copy_is_a_text
returns-clause-upper_copy_is_a_text c = breaks _ _ refl refl refl

pub returns-clause-lower_copy_is_a_text : goal.returns-clause-lower_copy_is_a_text
returns-clause-lower_copy_is_a_text c = breaks _ _ refl refl refl

pub returns-clause-rotates_two : goal.returns-clause-rotates_two
returns-clause-rotates_two c = typed _ refl refl

pub returns-clause-rotates_three : goal.returns-clause-rotates_three
returns-clause-rotates_three c = typed _ refl refl

pub returns-clause-two_of_three : goal.returns-clause-two_of_three
returns-clause-two_of_three c = breaks _ _ refl refl refl

pub returns-clause-reverses : goal.returns-clause-reverses
returns-clause-reverses c = typed _ refl refl

pub returns-clause-reverses_nothing : goal.returns-clause-reverses_nothing
returns-clause-reverses_nothing c = breaks _ _ refl refl refl

pub returns-clause-reverses_too_many : goal.returns-clause-reverses_too_many
returns-clause-reverses_too_many c = breaks _ _ refl refl refl

pub returns-clause-swaps_two : goal.returns-clause-swaps_two
returns-clause-swaps_two c = typed _ refl refl

pub returns-clause-reverses_under_a_loop : goal.returns-clause-reverses_under_a_loop
returns-clause-reverses_under_a_loop c = breaks _ _ refl refl refl

pub returns-clause-reads_an_item : goal.returns-clause-reads_an_item
returns-clause-reads_an_item c = typed _ refl refl

pub returns-clause-reads_an_item_of_nothing : goal.returns-clause-reads_an_item_of_nothing
returns-clause-reads_an_item_of_nothing c = breaks _ _ refl refl refl

pub returns-clause-an_index_stays : goal.returns-clause-an_index_stays
returns-clause-an_index_stays c = breaks _ _ refl refl refl

pub returns-clause-reads_an_item_under_a_loop : goal.returns-clause-reads_an_item_under_a_loop
returns-clause-reads_an_item_under_a_loop c = breaks _ _ refl refl refl

pub returns-clause-sets_an_item : goal.returns-clause-sets_an_item
returns-clause-sets_an_item c = typed _ refl refl

pub returns-clause-sets_an_item_to_nothing : goal.returns-clause-sets_an_item_to_nothing
returns-clause-sets_an_item_to_nothing c = breaks _ _ refl refl refl

pub returns-clause-deletes_an_item : goal.returns-clause-deletes_an_item
returns-clause-deletes_an_item c = typed _ refl refl

pub returns-clause-deletes_an_item_of_nothing : goal.returns-clause-deletes_an_item_of_nothing
returns-clause-deletes_an_item_of_nothing c = breaks _ _ refl refl refl

pub returns-clause-makes_a_tuple : goal.returns-clause-makes_a_tuple
returns-clause-makes_a_tuple c = typed _ refl refl

pub returns-clause-makes_a_tuple_of_too_few : goal.returns-clause-makes_a_tuple_of_too_few
returns-clause-makes_a_tuple_of_too_few c = breaks _ _ refl refl refl

pub returns-clause-makes_a_tuple_under_a_loop : goal.returns-clause-makes_a_tuple_under_a_loop
returns-clause-makes_a_tuple_under_a_loop c = breaks _ _ refl refl refl

pub returns-clause-makes_a_tuple_of_cells : goal.returns-clause-makes_a_tuple_of_cells
returns-clause-makes_a_tuple_of_cells c = typed _ refl refl

pub returns-clause-takes_a_cell : goal.returns-clause-takes_a_cell
returns-clause-takes_a_cell c = typed _ refl refl

pub returns-clause-makes_a_tuple_of_no_cells : goal.returns-clause-makes_a_tuple_of_no_cells
returns-clause-makes_a_tuple_of_no_cells c = typed _ refl refl

pub returns-clause-lower_is_no_cell : goal.returns-clause-lower_is_no_cell
returns-clause-lower_is_no_cell c = breaks _ _ refl refl refl

pub returns-clause-upper_is_no_cell : goal.returns-clause-upper_is_no_cell
returns-clause-upper_is_no_cell c = breaks _ _ refl refl refl

pub returns-clause-two_cells_are_not_three : goal.returns-clause-two_cells_are_not_three
returns-clause-two_cells_are_not_three c = breaks _ _ refl refl refl

pub returns-clause-texts_are_no_names : goal.returns-clause-texts_are_no_names
returns-clause-texts_are_no_names c = breaks _ _ refl refl refl

pub returns-clause-makes_a_list : goal.returns-clause-makes_a_list
returns-clause-makes_a_list c = typed _ refl refl

pub returns-clause-makes_a_list_of_too_few : goal.returns-clause-makes_a_list_of_too_few
returns-clause-makes_a_list_of_too_few c = breaks _ _ refl refl refl

pub returns-clause-makes_a_set : goal.returns-clause-makes_a_set
returns-clause-makes_a_set c = typed _ refl refl

pub returns-clause-makes_a_set_of_too_few : goal.returns-clause-makes_a_set_of_too_few
returns-clause-makes_a_set_of_too_few c = breaks _ _ refl refl refl

pub returns-clause-joins_into_a_list : goal.returns-clause-joins_into_a_list
returns-clause-joins_into_a_list c = typed _ refl refl

pub returns-clause-joins_one_into_a_list : goal.returns-clause-joins_one_into_a_list
returns-clause-joins_one_into_a_list c = breaks _ _ refl refl refl

pub returns-clause-joins_into_a_tuple : goal.returns-clause-joins_into_a_tuple
returns-clause-joins_into_a_tuple c = typed _ refl refl

pub returns-clause-joins_one_into_a_tuple : goal.returns-clause-joins_one_into_a_tuple
returns-clause-joins_one_into_a_tuple c = breaks _ _ refl refl refl

pub returns-clause-joins_into_no_cells : goal.returns-clause-joins_into_no_cells
returns-clause-joins_into_no_cells c = breaks _ _ refl refl refl

pub returns-clause-joins_into_a_set : goal.returns-clause-joins_into_a_set
returns-clause-joins_into_a_set c = typed _ refl refl

pub returns-clause-joins_one_into_a_set : goal.returns-clause-joins_one_into_a_set
returns-clause-joins_one_into_a_set c = breaks _ _ refl refl refl

pub returns-clause-a_set_is_no_list : goal.returns-clause-a_set_is_no_list
returns-clause-a_set_is_no_list c = breaks _ _ refl refl refl

pub returns-clause-makes_a_dict : goal.returns-clause-makes_a_dict
returns-clause-makes_a_dict c = typed _ refl refl

pub returns-clause-makes_a_dict_without_a_key : goal.returns-clause-makes_a_dict_without_a_key
returns-clause-makes_a_dict_without_a_key c = breaks _ _ refl refl refl

pub returns-clause-merges_for_a_call : goal.returns-clause-merges_for_a_call
returns-clause-merges_for_a_call c = typed _ refl refl

pub returns-clause-merges_too_few_for_a_call : goal.returns-clause-merges_too_few_for_a_call
returns-clause-merges_too_few_for_a_call c = breaks _ _ refl refl refl

pub returns-clause-merges_into_no_dict : goal.returns-clause-merges_into_no_dict
returns-clause-merges_into_no_dict c = breaks _ _ refl refl refl

pub returns-clause-slices : goal.returns-clause-slices
returns-clause-slices c = typed _ refl refl

pub returns-clause-slices_without_a_stop : goal.returns-clause-slices_without_a_stop
returns-clause-slices_without_a_stop c = breaks _ _ refl refl refl

pub returns-clause-slices_by_steps : goal.returns-clause-slices_by_steps
returns-clause-slices_by_steps c = typed _ refl refl

pub returns-clause-slices_by_steps_without_one : goal.returns-clause-slices_by_steps_without_one
returns-clause-slices_by_steps_without_one c = breaks _ _ refl refl refl

pub returns-clause-slices_by_no_steps : goal.returns-clause-slices_by_no_steps
returns-clause-slices_by_no_steps c = typed _ refl refl

pub returns-clause-a_slice_is_no_tuple : goal.returns-clause-a_slice_is_no_tuple
returns-clause-a_slice_is_no_tuple c = breaks _ _ refl refl refl

pub returns-clause-updates_a_dict : goal.returns-clause-updates_a_dict
returns-clause-updates_a_dict c = typed _ refl refl

pub returns-clause-updates_a_value : goal.returns-clause-updates_a_value
returns-clause-updates_a_value c = breaks _ _ refl refl refl

pub returns-clause-updates_nothing : goal.returns-clause-updates_nothing
returns-clause-updates_nothing c = breaks _ _ refl refl refl

pub returns-clause-an_updated_dict_goes : goal.returns-clause-an_updated_dict_goes
returns-clause-an_updated_dict_goes c = breaks _ _ refl refl refl

pub returns-clause-puts_into_a_dict : goal.returns-clause-puts_into_a_dict
returns-clause-puts_into_a_dict c = typed _ refl refl

pub returns-clause-puts_into_a_value : goal.returns-clause-puts_into_a_value
returns-clause-puts_into_a_value c = breaks _ _ refl refl refl

pub returns-clause-puts_without_a_key : goal.returns-clause-puts_without_a_key
returns-clause-puts_without_a_key c = breaks _ _ refl refl refl

pub returns-clause-puts_into_a_lower_dict : goal.returns-clause-puts_into_a_lower_dict
returns-clause-puts_into_a_lower_dict c = typed _ refl refl

pub returns-clause-puts_into_what_lies_lower : goal.returns-clause-puts_into_what_lies_lower
returns-clause-puts_into_what_lies_lower c = breaks _ _ refl refl refl

pub returns-clause-puts_below_a_dict : goal.returns-clause-puts_below_a_dict
returns-clause-puts_below_a_dict c = breaks _ _ refl refl refl

pub returns-clause-appends_to_a_lower_list : goal.returns-clause-appends_to_a_lower_list
returns-clause-appends_to_a_lower_list c = typed _ refl refl

pub returns-clause-appends_to_what_lies_lower : goal.returns-clause-appends_to_what_lies_lower
returns-clause-appends_to_what_lies_lower c = breaks _ _ refl refl refl

pub returns-clause-adds_to_a_lower_set : goal.returns-clause-adds_to_a_lower_set
returns-clause-adds_to_a_lower_set c = typed _ refl refl

pub returns-clause-adds_to_what_lies_lower : goal.returns-clause-adds_to_what_lies_lower
returns-clause-adds_to_what_lies_lower c = breaks _ _ refl refl refl

pub returns-clause-updates_a_dict_under_a_loop : goal.returns-clause-updates_a_dict_under_a_loop
returns-clause-updates_a_dict_under_a_loop c = typed _ refl refl

pub returns-clause-puts_into_a_dict_under_a_loop : goal.returns-clause-puts_into_a_dict_under_a_loop
returns-clause-puts_into_a_dict_under_a_loop c = typed _ refl refl

pub returns-clause-appends_to_a_list_under_a_loop : goal.returns-clause-appends_to_a_list_under_a_loop
returns-clause-appends_to_a_list_under_a_loop c = typed _ refl refl

pub returns-clause-adds_to_a_set_under_a_loop : goal.returns-clause-adds_to_a_set_under_a_loop
returns-clause-adds_to_a_set_under_a_loop c = typed _ refl refl

pub returns-clause-combines_in_place : goal.returns-clause-combines_in_place
returns-clause-combines_in_place c = typed _ refl refl

pub returns-clause-combines_by_no_operator : goal.returns-clause-combines_by_no_operator
returns-clause-combines_by_no_operator c = breaks _ _ refl refl refl

pub returns-clause-combines_one_in_place : goal.returns-clause-combines_one_in_place
returns-clause-combines_one_in_place c = breaks _ _ refl refl refl

pub returns-clause-takes_one_operand : goal.returns-clause-takes_one_operand
returns-clause-takes_one_operand c = typed _ refl refl

pub returns-clause-takes_one_operand_otherwise : goal.returns-clause-takes_one_operand_otherwise
returns-clause-takes_one_operand_otherwise c = breaks _ _ refl refl refl

pub returns-clause-takes_no_operand : goal.returns-clause-takes_no_operand
returns-clause-takes_no_operand c = breaks _ _ refl refl refl

pub returns-clause-unpacks : goal.returns-clause-unpacks
returns-clause-unpacks c = typed _ refl refl

pub returns-clause-unpacks_no_item : goal.returns-clause-unpacks_no_item
returns-clause-unpacks_no_item c = typed _ refl refl

pub returns-clause-unpacks_an_item_less : goal.returns-clause-unpacks_an_item_less
returns-clause-unpacks_an_item_less c = breaks _ _ refl refl refl

pub returns-clause-unpacks_an_item_more : goal.returns-clause-unpacks_an_item_more
returns-clause-unpacks_an_item_more c = breaks _ _ refl refl refl

pub returns-clause-unpacks_nothing : goal.returns-clause-unpacks_nothing
returns-clause-unpacks_nothing c = breaks _ _ refl refl refl

pub returns-clause-unpacks_under_a_loop : goal.returns-clause-unpacks_under_a_loop
returns-clause-unpacks_under_a_loop c = breaks _ _ refl refl refl

pub returns-clause-no_room_for_items : goal.returns-clause-no_room_for_items
returns-clause-no_room_for_items c = breaks _ _ refl refl refl

pub returns-clause-unpacks_the_rest : goal.returns-clause-unpacks_the_rest
returns-clause-unpacks_the_rest c = typed _ refl refl

pub returns-clause-unpacks_two_and_the_rest : goal.returns-clause-unpacks_two_and_the_rest
returns-clause-unpacks_two_and_the_rest c = typed _ refl refl

pub returns-clause-unpacks_two_without_the_rest : goal.returns-clause-unpacks_two_without_the_rest
returns-clause-unpacks_two_without_the_rest c = breaks _ _ refl refl refl

pub returns-clause-unpacks_the_rest_of_nothing : goal.returns-clause-unpacks_the_rest_of_nothing
returns-clause-unpacks_the_rest_of_nothing c = breaks _ _ refl refl refl

pub returns-clause-the_rest_is_no_list : goal.returns-clause-the_rest_is_no_list
returns-clause-the_rest_is_no_list c = breaks _ _ refl refl refl

pub returns-clause-unpacks_one_behind_the_rest : goal.returns-clause-unpacks_one_behind_the_rest
returns-clause-unpacks_one_behind_the_rest c = typed _ refl refl

pub returns-clause-unpacks_on_both_sides_of_the_rest : goal.returns-clause-unpacks_on_both_sides_of_the_rest
returns-clause-unpacks_on_both_sides_of_the_rest c = typed _ refl refl

pub returns-clause-unpacks_on_one_side_of_the_rest : goal.returns-clause-unpacks_on_one_side_of_the_rest
returns-clause-unpacks_on_one_side_of_the_rest c = breaks _ _ refl refl refl

pub returns-clause-unpacks_too_much_behind_the_rest : goal.returns-clause-unpacks_too_much_behind_the_rest
returns-clause-unpacks_too_much_behind_the_rest c = breaks _ _ refl refl refl

pub returns-clause-formats : goal.returns-clause-formats
returns-clause-formats c = typed _ refl refl

pub returns-clause-formats_otherwise : goal.returns-clause-formats_otherwise
returns-clause-formats_otherwise c = breaks _ _ refl refl refl

pub returns-clause-formats_by_a_value : goal.returns-clause-formats_by_a_value
returns-clause-formats_by_a_value c = breaks _ _ refl refl refl

pub returns-clause-formats_without_a_value : goal.returns-clause-formats_without_a_value
returns-clause-formats_without_a_value c = breaks _ _ refl refl refl

pub returns-clause-formats_to_no_text : goal.returns-clause-formats_to_no_text
returns-clause-formats_to_no_text c = breaks _ _ refl refl refl

pub returns-clause-makes_an_iterator : goal.returns-clause-makes_an_iterator
returns-clause-makes_an_iterator c = typed _ refl refl

pub returns-clause-makes_an_iterator_over_nothing : goal.returns-clause-makes_an_iterator_over_nothing
returns-clause-makes_an_iterator_over_nothing c = breaks _ _ refl refl refl

pub returns-clause-an_iterator_is_no_list : goal.returns-clause-an_iterator_is_no_list
returns-clause-an_iterator_is_no_list c = breaks _ _ refl refl refl

pub returns-clause-makes_an_iterator_under_a_loop : goal.returns-clause-makes_an_iterator_under_a_loop
returns-clause-makes_an_iterator_under_a_loop c = breaks _ _ refl refl refl
