use Rattle.std.proofs.Common.{◌≡◌, ◌+◌, ◌*◌, ◌<◌, List, ap, sym, ◌∙◌, take, arith, rules}
use Rattle.std.proofs.lemmas.List.{take_all}
use Rattle.py_tree.specs.declared.stmt.Clause.{out-Clause}
use Rattle.py_tree.specs.Tree.{Name, Suite}
use Rattle.py_tree.specs.Views.{clauses_of, form_of, suite_of}
use Rattle.py_tree.specs.Suites.{list_clauses, list_suite}
use Rattle.py_tree.specs.Binding.{bound_by, bound_if, bound_in, bound_under}
use Rattle.py_tree.specs.Compilable.{statements, statements_in, statements_under}
use Rattle.py_body.proofs.Binding.{bound_by-add}
use Rattle.py_body.proofs.ClauseTrees.{bound_clause_more, clause_statements_at}
use Rattle.py_body.proofs.Trees.{statements_at, suite_more}
use Rattle.py_body.proofs.locals.+bind.Goals as goal

pub bind_suite-bind_form-requires : goal.bind_suite-bind_form-requires
bind_suite-bind_form-requires t c =
    let one = statements_at c.as_slice-stmt-items.result.now c.loop-stmt.stmt-index c.stmt-item.result c.loop-stmt-test.true c.stmt-item.is in
    let all : statements (suite_of c.args.suite.now) ≡ statements (list_suite c.as_slice-stmt-items.result.now) = ap statements c.as_slice-stmt-items.ensures in
    let smaller : 3 * statements_in (form_of c.stmt-item.result.form) < 3 * statements (suite_of c.args.suite.now) + 1 = omega (arith, one, all) in
    search rules

pub bind_suite-loop-stmt-preserved : goal.bind_suite-loop-stmt-preserved
bind_suite-loop-stmt-preserved t c =
    let so_far : Suite = list_suite (take c.loop-stmt.stmt-index c.as_slice-stmt-items.result.now) in
    c.in_ok-bind_form.ensures ∙ ap (λ (names : List Name). bound_in names (form_of c.stmt-item.result.form)) c.loop-stmt.invariant
    ∙ sym (bound_by-add so_far c.args.names.now c.stmt-item.result.line (form_of c.stmt-item.result.form))
    ∙ ap (bound_by c.args.names.now) (sym (suite_more c.as_slice-stmt-items.result.now c.loop-stmt.stmt-index c.stmt-item.result c.loop-stmt-test.true c.stmt-item.is))

pub bind_suite-returns : goal.bind_suite-returns
bind_suite-returns t c =
    let items = c.as_slice-stmt-items.result.now in
    c.loop-stmt.invariant ∙ ap (bound_by c.args.names.now) (ap list_suite (take_all c.loop-stmt.stmt-index items c.loop-stmt-test.false) ∙ sym c.as_slice-stmt-items.ensures)

pub bind_tried-bind_suite-requires-in-loop-clause : goal.bind_tried-bind_suite-requires-in-loop-clause
bind_tried-bind_suite-requires-in-loop-clause t c =
    let items = c.as_slice-clause-items.result.now in
    let suite : Suite = suite_of (out-Clause c.clause-item.result).suite in
    let one = clause_statements_at items c.loop-clause.clause-index c.clause-item.result c.loop-clause-test.true c.clause-item.is in
    let all : statements_under (clauses_of c.args.clauses.now) ≡ statements_under (list_clauses items) = ap statements_under c.as_slice-clause-items.ensures in
    let smaller : 3 * statements suite + 1 < 3 * (statements (suite_of c.args.suite.now) + statements_under (clauses_of c.args.clauses.now)) + 2 = omega (arith, one, all) in
    search rules

pub bind_tried-loop-clause-preserved : goal.bind_tried-loop-clause-preserved
bind_tried-loop-clause-preserved t c =
    let items = c.as_slice-clause-items.result.now in
    let one = out-Clause c.clause-item.result in
    c.in_ok-bind_suite-2.ensures ∙ ap (λ (names : List Name). bound_by names (suite_of one.suite))
    (c.in_ok-bind_target.ensures ∙ ap (λ (names : List Name). bound_if names one.target) c.loop-clause.invariant)
    ∙ sym (bound_clause_more (bound_by c.args.names.now (suite_of c.args.suite.now)) items c.loop-clause.clause-index c.clause-item.result c.loop-clause-test.true c.clause-item.is)

pub bind_tried-returns : goal.bind_tried-returns
bind_tried-returns t c =
    let items = c.as_slice-clause-items.result.now in
    let before = bound_by c.args.names.now (suite_of c.args.suite.now) in
    c.loop-clause.invariant ∙ ap (bound_under before) (ap list_clauses (take_all c.loop-clause.clause-index items c.loop-clause-test.false) ∙ sym c.as_slice-clause-items.ensures)
