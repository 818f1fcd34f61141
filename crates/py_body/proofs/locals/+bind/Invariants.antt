use Rattle.std.proofs.Common.{◌≡◌, ◌+◌, ◌*◌, take}
use Rattle.py_tree.specs.Views.{clauses_of, form_of, suite_of}
use Rattle.py_tree.specs.Suites.{list_clauses, list_suite}
use Rattle.py_tree.specs.Binding.{bound_by, bound_under}
use Rattle.py_tree.specs.Compilable.{statements, statements_in, statements_under}
use Rattle.py_body.proofs.locals.+bind.Given as goal

abbrev pub decreases-bind_suite : goal.decreases-bind_suite
decreases-bind_suite l = 3 * statements (suite_of l.suite.now) + 1

abbrev pub decreases-bind_form : goal.decreases-bind_form
decreases-bind_form l = 3 * statements_in (form_of l.form.now)

abbrev pub decreases-bind_both : goal.decreases-bind_both
decreases-bind_both l = 3 * (statements (suite_of l.suite.now) + statements (suite_of l.other.now)) + 2

abbrev pub decreases-bind_tried : goal.decreases-bind_tried
decreases-bind_tried l = 3 * (statements (suite_of l.suite.now) + statements_under (clauses_of l.clauses.now)) + 2

abbrev pub decreases-bind_managed : goal.decreases-bind_managed
decreases-bind_managed l = 3 * statements (suite_of l.suite.now) + 2

abbrev pub invariant-bind_suite-loop-stmt : goal.invariant-bind_suite-loop-stmt
invariant-bind_suite-loop-stmt l = l.names ≡ bound_by l.fn.names (list_suite (take l.stmt-index l.stmt-items))

abbrev pub invariant-bind_tried-loop-clause : goal.invariant-bind_tried-loop-clause
invariant-bind_tried-loop-clause l = l.names ≡ bound_under (bound_by l.fn.names (suite_of l.suite)) (list_clauses (take l.clause-index l.clause-items))
