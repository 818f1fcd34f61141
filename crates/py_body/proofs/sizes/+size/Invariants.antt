use Rattle.std.proofs.Common.{◌≡◌, ◌+◌, ◌*◌, take}
use Rattle.py_tree.specs.Views.{clauses_of, form_of, suite_of}
use Rattle.py_tree.specs.Suites.{list_clauses, list_suite}
use Rattle.py_tree.specs.Compilable.{statements, statements_in, statements_under}
use Rattle.py_body.specs.Sizes.{size_clauses, size_suite}
use Rattle.py_body.proofs.sizes.+size.Given as goal

abbrev pub decreases-size_of_suite : goal.decreases-size_of_suite
decreases-size_of_suite l = 2 * statements (suite_of l.suite.now) + 1

abbrev pub decreases-size_of_form : goal.decreases-size_of_form
decreases-size_of_form l = 2 * statements_in (form_of l.form.now)

abbrev pub decreases-size_of_clauses : goal.decreases-size_of_clauses
decreases-size_of_clauses l = 2 * statements_under (clauses_of l.clauses.now) + 1

abbrev pub invariant-size_of_clauses-loop-clause : goal.invariant-size_of_clauses-loop-clause
invariant-size_of_clauses-loop-clause l = l.size ≡ size_clauses l.weights (list_clauses (take l.clause-index l.clause-items))

abbrev pub invariant-size_of_suite-loop-stmt : goal.invariant-size_of_suite-loop-stmt
invariant-size_of_suite-loop-stmt l = l.size ≡ size_suite l.weights (list_suite (take l.stmt-index l.stmt-items))
