use Rattle.py_meaning.proofs.WorkedLoopLemmas.{spelled, is_run, no_round_untold, no_round_untested, no_end_where_it_is_true, unknown_spelled, unknown_is_run, unknown_line, no_name_asked_of_none}
use Rattle.py_meaning.proofs.worked_loop.worked_loops.Goals as goal

pub returns-clause-spelled : goal.returns-clause-spelled
returns-clause-spelled c = spelled

pub returns-clause-is_run : goal.returns-clause-is_run
returns-clause-is_run c = is_run

pub returns-clause-no_round_untold : goal.returns-clause-no_round_untold
returns-clause-no_round_untold c = no_round_untold

pub returns-clause-no_round_untested : goal.returns-clause-no_round_untested
returns-clause-no_round_untested c = no_round_untested

pub returns-clause-no_end_where_it_is_true : goal.returns-clause-no_end_where_it_is_true
returns-clause-no_end_where_it_is_true c = no_end_where_it_is_true

pub returns-clause-unknown_spelled : goal.returns-clause-unknown_spelled
returns-clause-unknown_spelled c = unknown_spelled

pub returns-clause-unknown_is_run : goal.returns-clause-unknown_is_run
returns-clause-unknown_is_run c = unknown_is_run

pub returns-clause-unknown_text : goal.returns-clause-unknown_text
returns-clause-unknown_text c = unknown_line

pub returns-clause-no_name_asked_of_none : goal.returns-clause-no_name_asked_of_none
returns-clause-no_name_asked_of_none c = no_name_asked_of_none
