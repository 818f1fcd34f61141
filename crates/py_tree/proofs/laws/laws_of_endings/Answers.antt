use Rattle.py_tree.proofs.EndingLemmas.{finally_passes_on, cut_stays_cut, finally_is_run, name_is_unset, clause_ends_as_suite, suite_ends_clause, clauses_run_on_raise, first_clause_decides, no_clause_raises, traces_come_to_points, statements_go_on}
use Rattle.py_tree.proofs.ManagerLemmas.{exit_is_asked, exit_goes_on}
use Rattle.py_tree.proofs.laws.laws_of_endings.Goals as goal

pub returns : goal.returns
returns c = record {
  traces = traces_come_to_points;
  goes_on = statements_go_on;
  passes = finally_passes_on;
  cut = cut_stays_cut;
  runs = finally_is_run;
  unset = name_is_unset;
  ends_as_suite = clause_ends_as_suite;
  suite_ends = suite_ends_clause;
  on_raise = clauses_run_on_raise;
  decides = first_clause_decides;
  none_fits = no_clause_raises;
  leaves = exit_is_asked;
  left = exit_goes_on;
}
