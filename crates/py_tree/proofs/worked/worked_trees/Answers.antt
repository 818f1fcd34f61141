use Rattle.py_tree.proofs.WorkedLemmas.{no_finally_skipped, no_finally_broken_out_of, no_exception_let_out, no_exception_stays, handled_is_trace, shown_is_trace, left_is_trace, returned_is_trace}
use Rattle.py_tree.proofs.worked.worked_trees.Goals as goal

pub returns-clause-no_finally_skipped : goal.returns-clause-no_finally_skipped
returns-clause-no_finally_skipped c = no_finally_skipped

pub returns-clause-no_finally_broken_out_of : goal.returns-clause-no_finally_broken_out_of
returns-clause-no_finally_broken_out_of c = no_finally_broken_out_of

pub returns-clause-no_exception_let_out : goal.returns-clause-no_exception_let_out
returns-clause-no_exception_let_out c = no_exception_let_out

pub returns-clause-no_exception_stays : goal.returns-clause-no_exception_stays
returns-clause-no_exception_stays c = no_exception_stays

pub returns-clause-handled : goal.returns-clause-handled
returns-clause-handled c = handled_is_trace

pub returns-clause-shown : goal.returns-clause-shown
returns-clause-shown c = shown_is_trace

pub returns-clause-left : goal.returns-clause-left
returns-clause-left c = left_is_trace

pub returns-clause-returned : goal.returns-clause-returned
returns-clause-returned c = returned_is_trace
