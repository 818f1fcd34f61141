use Rattle.py_lines.proofs.RawWorked.{blocks_of_a_unit, code_is_a_header, constants, dead_unit, flags_in_a_row, jumps_that_wait, keyword_names_no_code, kinds_with_zeros, loop_without_level, names_of_lines, no_argument_beyond, no_blocks_behind_kinds, no_depth_beyond, no_flags_at_all, no_name_among_constants, no_such_flag, no_such_instruction, nothing_behind_a_comma, three_counts, two_counts, vars_is_a_name}
use Rattle.py_lines.proofs.worked.worked_raw_lines.Goals as goal

pub returns-clause-code_is_a_header : goal.returns-clause-code_is_a_header
returns-clause-code_is_a_header c = code_is_a_header

pub returns-clause-flags_in_a_row : goal.returns-clause-flags_in_a_row
returns-clause-flags_in_a_row c = flags_in_a_row

pub returns-clause-no_flags_at_all : goal.returns-clause-no_flags_at_all
returns-clause-no_flags_at_all c = no_flags_at_all

pub returns-clause-vars_is_a_name : goal.returns-clause-vars_is_a_name
returns-clause-vars_is_a_name c = vars_is_a_name

pub returns-clause-names_of_lines : goal.returns-clause-names_of_lines
returns-clause-names_of_lines c = names_of_lines

pub returns-clause-three_counts : goal.returns-clause-three_counts
returns-clause-three_counts c = three_counts

pub returns-clause-constants : goal.returns-clause-constants
returns-clause-constants c = constants

pub returns-clause-kinds_with_zeros : goal.returns-clause-kinds_with_zeros
returns-clause-kinds_with_zeros c = kinds_with_zeros

pub returns-clause-dead_unit : goal.returns-clause-dead_unit
returns-clause-dead_unit c = dead_unit

pub returns-clause-blocks_of_a_unit : goal.returns-clause-blocks_of_a_unit
returns-clause-blocks_of_a_unit c = blocks_of_a_unit

pub returns-clause-jumps_that_wait : goal.returns-clause-jumps_that_wait
returns-clause-jumps_that_wait c = jumps_that_wait

pub returns-clause-no_such_flag : goal.returns-clause-no_such_flag
returns-clause-no_such_flag c = no_such_flag

pub returns-clause-two_counts : goal.returns-clause-two_counts
returns-clause-two_counts c = two_counts

pub returns-clause-no_depth_beyond : goal.returns-clause-no_depth_beyond
returns-clause-no_depth_beyond c = no_depth_beyond

pub returns-clause-no_name_among_constants : goal.returns-clause-no_name_among_constants
returns-clause-no_name_among_constants c = no_name_among_constants

pub returns-clause-keyword_names_no_code : goal.returns-clause-keyword_names_no_code
returns-clause-keyword_names_no_code c = keyword_names_no_code

pub returns-clause-no_argument_beyond : goal.returns-clause-no_argument_beyond
returns-clause-no_argument_beyond c = no_argument_beyond

pub returns-clause-no_such_instruction : goal.returns-clause-no_such_instruction
returns-clause-no_such_instruction c = no_such_instruction

pub returns-clause-no_blocks_behind_kinds : goal.returns-clause-no_blocks_behind_kinds
returns-clause-no_blocks_behind_kinds c = no_blocks_behind_kinds

pub returns-clause-nothing_behind_a_comma : goal.returns-clause-nothing_behind_a_comma
returns-clause-nothing_behind_a_comma c = nothing_behind_a_comma

pub returns-clause-loop_without_level : goal.returns-clause-loop_without_level
returns-clause-loop_without_level c = loop_without_level
