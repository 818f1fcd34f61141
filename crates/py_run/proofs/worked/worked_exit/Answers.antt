use Rattle.py_run.proofs.WorkedExitLemmas.{exit_is_run}
use Rattle.py_run.proofs.WorkedExitLinks.{linked, linked_again, no_entry_left_out, no_none_as_traceback, no_old_traceback, no_other_traceback, no_raise_without_an_entry}
use Rattle.py_run.proofs.worked.worked_exit.Goals as goal

pub returns-clause-is_run : goal.returns-clause-is_run
returns-clause-is_run c = exit_is_run

pub returns-clause-linked : goal.returns-clause-linked
returns-clause-linked c = linked

pub returns-clause-linked_again : goal.returns-clause-linked_again
returns-clause-linked_again c = linked_again

pub returns-clause-no_other_traceback : goal.returns-clause-no_other_traceback
returns-clause-no_other_traceback c k lines links = no_other_traceback k lines links

pub returns-clause-no_none_as_traceback : goal.returns-clause-no_none_as_traceback
returns-clause-no_none_as_traceback c k lines links = no_none_as_traceback k lines links

pub returns-clause-no_entry_left_out : goal.returns-clause-no_entry_left_out
returns-clause-no_entry_left_out c k lines links = no_entry_left_out k lines links

pub returns-clause-no_old_traceback : goal.returns-clause-no_old_traceback
returns-clause-no_old_traceback c k lines links = no_old_traceback k lines links

pub returns-clause-no_raise_without_an_entry : goal.returns-clause-no_raise_without_an_entry
returns-clause-no_raise_without_an_entry c k lines links = no_raise_without_an_entry k lines links
