use Rattle.py_tree.proofs.WorkedManagerLemmas.{swallowed_is_trace, left_by_return_is_trace, no_exit_skipped, no_return_swallowed, no_exit_skipped_by_raise, no_exit_unhandled, no_raise_swallowed}
use Rattle.py_tree.proofs.worked.worked_managers.Goals as goal

pub returns : goal.returns
returns c = record {
  swallowed = swallowed_is_trace;
  left = left_by_return_is_trace;
  no_exit_skipped = no_exit_skipped;
  no_return_swallowed = no_return_swallowed;
  no_exit_skipped_by_raise = no_exit_skipped_by_raise;
  no_exit_unhandled = no_exit_unhandled;
  no_raise_swallowed = no_raise_swallowed;
}
