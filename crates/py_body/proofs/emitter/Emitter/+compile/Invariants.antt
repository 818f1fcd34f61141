use Rattle.std.proofs.Common.{◌≡◌, ◌+◌, ◌*◌, take}
use Rattle.py_tree.specs.Views.{clauses_of, form_of, suite_of}
use Rattle.py_tree.specs.Suites.{list_clauses, list_suite}
use Rattle.py_tree.specs.Compilable.{statements, statements_in, statements_under}
use Rattle.py_body.specs.Emitting.{draft_of, scope_of, EmitsClauses, EmitsSuite}
use Rattle.py_body.proofs.emitter.Emitter.+compile.Given as goal

abbrev pub decreases-compile_suite : goal.decreases-compile_suite
decreases-compile_suite l = 5 * statements (suite_of l.suite.now) + 1

abbrev pub decreases-compile_form : goal.decreases-compile_form
decreases-compile_form l = 5 * statements_in (form_of l.form.now)

abbrev pub decreases-compile_branch : goal.decreases-compile_branch
decreases-compile_branch l = 5 * statements (suite_of l.suite.now) + 2

abbrev pub decreases-compile_if_else : goal.decreases-compile_if_else
decreases-compile_if_else l = 5 * (statements (suite_of l.suite.now) + statements (suite_of l.other.now)) + 2

abbrev pub decreases-compile_while : goal.decreases-compile_while
decreases-compile_while l = 5 * statements (suite_of l.suite.now) + 3

abbrev pub decreases-compile_rounds : goal.decreases-compile_rounds
decreases-compile_rounds l = 5 * statements (suite_of l.suite.now) + 2

abbrev pub decreases-compile_try_finally : goal.decreases-compile_try_finally
decreases-compile_try_finally l = 5 * (statements (suite_of l.suite.now) + statements (suite_of l.last.now)) + 3

abbrev pub decreases-compile_opening : goal.decreases-compile_opening
decreases-compile_opening l = 5 * statements (suite_of l.suite.now) + 2

abbrev pub decreases-compile_try_except : goal.decreases-compile_try_except
decreases-compile_try_except l = 5 * (statements (suite_of l.suite.now) + statements_under (clauses_of l.clauses.now)) + 3

abbrev pub decreases-compile_tried : goal.decreases-compile_tried
decreases-compile_tried l = 5 * statements (suite_of l.suite.now) + 2

abbrev pub decreases-compile_clauses : goal.decreases-compile_clauses
decreases-compile_clauses l = 5 * statements_under (clauses_of l.clauses.now) + 2

abbrev pub decreases-compile_handler : goal.decreases-compile_handler
decreases-compile_handler l = 5 * statements (suite_of l.suite.now) + 4

abbrev pub decreases-compile_forgetting : goal.decreases-compile_forgetting
decreases-compile_forgetting l = 5 * statements (suite_of l.suite.now) + 3

abbrev pub decreases-compile_with : goal.decreases-compile_with
decreases-compile_with l = 5 * statements (suite_of l.suite.now) + 3

abbrev pub decreases-compile_managed : goal.decreases-compile_managed
decreases-compile_managed l = 5 * statements (suite_of l.suite.now) + 2

abbrev pub invariant-compile_suite-loop-stmt : goal.invariant-compile_suite-loop-stmt
invariant-compile_suite-loop-stmt l = record {
  code : EmitsSuite l.fn.self.labels (draft_of l.fn.self) (draft_of l.self) (scope_of l.scope) (list_suite (take l.stmt-index l.stmt-items));
  labels : l.self.labels ≡ l.fn.self.labels;
  others : l.self.others ≡ l.fn.self.others;
}

abbrev pub invariant-compile_clauses-loop-clause : goal.invariant-compile_clauses-loop-clause
invariant-compile_clauses-loop-clause l = record {
  code : EmitsClauses l.fn.self.labels (draft_of l.fn.self) (draft_of l.self) (scope_of l.scope) l.end (list_clauses (take l.clause-index l.clause-items));
  labels : l.self.labels ≡ l.fn.self.labels;
  others : l.self.others ≡ l.fn.self.others;
}
