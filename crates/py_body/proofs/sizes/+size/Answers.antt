use Rattle.std.proofs.Common.{◌≡◌, ◌+◌, ◌*◌, ◌<◌, ◌≤◌, ℕ, ap, sym, ◌∙◌, take, arith, rules}
use Rattle.std.proofs.lemmas.List.{take_all}
use Rattle.py_tree.specs.declared.stmt.Clause.{out-Clause}
use Rattle.py_tree.specs.Tree.{Clauses, Suite}
use Rattle.py_tree.specs.Views.{clauses_of, form_of, suite_of}
use Rattle.py_tree.specs.Suites.{list_clauses, list_suite}
use Rattle.py_tree.specs.Compilable.{statements, statements_in, statements_under}
use Rattle.py_body.specs.Sizes.{most_units, size_clause, size_clauses, size_form, size_suite}
use Rattle.py_body.proofs.ClauseTrees.{clause_size_at, clause_statements_at, clauses_more, size_with_clause, suite_in_clause}
use Rattle.py_body.proofs.Trees.{size_add, size_at, statements_at, suite_more}
use Rattle.py_body.proofs.sizes.+size.Goals as goal

pub size_of_suite-size_of_form-size-requires : goal.size_of_suite-size_of_form-size-requires
size_of_suite-size_of_form-size-requires t c =
    let items = c.as_slice-stmt-items.result.now in
    let one = statements_at items c.loop-stmt.stmt-index c.stmt-item.result c.loop-stmt-test.true c.stmt-item.is in
    let all : statements (suite_of c.args.suite.now) ≡ statements (list_suite items) = ap statements c.as_slice-stmt-items.ensures in
    let smaller : 2 * statements_in (form_of c.stmt-item.result.form) < 2 * statements (suite_of c.args.suite.now) + 1 = omega (arith, one, all) in
    let size = size_at c.args.weights items c.loop-stmt.stmt-index c.stmt-item.result c.loop-stmt-test.true c.stmt-item.is in
    let whole : size_suite c.args.weights (suite_of c.args.suite.now) ≡ size_suite c.args.weights (list_suite items) = ap (size_suite c.args.weights) c.as_slice-stmt-items.ensures in
    let few : size_form c.args.weights (form_of c.stmt-item.result.form) ≤ most_units = omega (arith, size, whole, c.requires) in
    search rules

pub size_of_suite-overflow_add-size : goal.size_of_suite-overflow_add-size
size_of_suite-overflow_add-size t c =
    let items = c.as_slice-stmt-items.result.now in
    let size = size_at c.args.weights items c.loop-stmt.stmt-index c.stmt-item.result c.loop-stmt-test.true c.stmt-item.is in
    let whole : size_suite c.args.weights (suite_of c.args.suite.now) ≡ size_suite c.args.weights (list_suite items) = ap (size_suite c.args.weights) c.as_slice-stmt-items.ensures in
    omega (arith, size, whole, c.requires, c.loop-stmt.invariant, c.size_of_form-size.ensures.size)

pub size_of_suite-loop-stmt-preserved : goal.size_of_suite-loop-stmt-preserved
size_of_suite-loop-stmt-preserved t c =
    let items = c.as_slice-stmt-items.result.now in
    let so_far : Suite = list_suite (take c.loop-stmt.stmt-index items) in
    (λ k. c.loop-stmt.invariant k + c.size_of_form-size.ensures.size k) ∙ sym (size_add c.args.weights so_far c.stmt-item.result.line (form_of c.stmt-item.result.form))
    ∙ ap (size_suite c.args.weights) (sym (suite_more items c.loop-stmt.stmt-index c.stmt-item.result c.loop-stmt-test.true c.stmt-item.is))

pub size_of_suite-returns-clause-size : goal.size_of_suite-returns-clause-size
size_of_suite-returns-clause-size t c =
    let items = c.as_slice-stmt-items.result.now in
    c.loop-stmt.invariant ∙ ap (size_suite c.args.weights) (ap list_suite (take_all c.loop-stmt.stmt-index items c.loop-stmt-test.false) ∙ sym c.as_slice-stmt-items.ensures)

-- ---- clauses

pub size_of_clauses-size_of_suite-body-requires : goal.size_of_clauses-size_of_suite-body-requires
size_of_clauses-size_of_suite-body-requires t c =
    let items = c.as_slice-clause-items.result.now in
    let one = clause_statements_at items c.loop-clause.clause-index c.clause-item.result c.loop-clause-test.true c.clause-item.is in
    let all : statements_under (clauses_of c.args.clauses.now) ≡ statements_under (list_clauses items) = ap statements_under c.as_slice-clause-items.ensures in
    let suite : Suite = suite_of (out-Clause c.clause-item.result).suite in
    let smaller : 2 * statements suite + 1 < 2 * statements_under (clauses_of c.args.clauses.now) + 1 = omega (arith, one, all) in
    let size = clause_size_at c.args.weights items c.loop-clause.clause-index c.clause-item.result c.loop-clause-test.true c.clause-item.is in
    let within = suite_in_clause c.args.weights (out-Clause c.clause-item.result).target (size_suite c.args.weights suite) in
    let whole : size_clauses c.args.weights (clauses_of c.args.clauses.now) ≡ size_clauses c.args.weights (list_clauses items) = ap (size_clauses c.args.weights) c.as_slice-clause-items.ensures in
    let few : size_suite c.args.weights suite ≤ most_units = omega (arith, size, whole, within, c.requires) in
    search rules

pub size_of_clauses-size_of_clause-size-requires : goal.size_of_clauses-size_of_clause-size-requires
size_of_clauses-size_of_clause-size-requires t c =
    let items = c.as_slice-clause-items.result.now in
    let size = clause_size_at c.args.weights items c.loop-clause.clause-index c.clause-item.result c.loop-clause-test.true c.clause-item.is in
    let whole : size_clauses c.args.weights (clauses_of c.args.clauses.now) ≡ size_clauses c.args.weights (list_clauses items) = ap (size_clauses c.args.weights) c.as_slice-clause-items.ensures in
    let body = ap (λ (n : ℕ). size_clause c.args.weights (out-Clause c.clause-item.result).target n) c.size_of_suite-body.ensures.size in
    omega (arith, size, whole, body, c.requires)

pub size_of_clauses-overflow_add-size : goal.size_of_clauses-overflow_add-size
size_of_clauses-overflow_add-size t c =
    let items = c.as_slice-clause-items.result.now in
    let size = clause_size_at c.args.weights items c.loop-clause.clause-index c.clause-item.result c.loop-clause-test.true c.clause-item.is in
    let whole : size_clauses c.args.weights (clauses_of c.args.clauses.now) ≡ size_clauses c.args.weights (list_clauses items) = ap (size_clauses c.args.weights) c.as_slice-clause-items.ensures in
    let body = ap (λ (n : ℕ). size_clause c.args.weights (out-Clause c.clause-item.result).target n) c.size_of_suite-body.ensures.size in
    omega (arith, size, whole, body, c.requires, c.loop-clause.invariant, c.size_of_clause-size.ensures)

pub size_of_clauses-loop-clause-preserved : goal.size_of_clauses-loop-clause-preserved
size_of_clauses-loop-clause-preserved t c =
    let items = c.as_slice-clause-items.result.now in
    let so_far : Clauses = list_clauses (take c.loop-clause.clause-index items) in
    let body = ap (λ (n : ℕ). size_clause c.args.weights (out-Clause c.clause-item.result).target n) c.size_of_suite-body.ensures.size in
    let one = out-Clause c.clause-item.result in
    (λ k. c.loop-clause.invariant k + (c.size_of_clause-size.ensures ∙ body) k) ∙ sym (size_with_clause c.args.weights so_far one.line one.class one.target (suite_of one.suite))
    ∙ ap (size_clauses c.args.weights) (sym (clauses_more items c.loop-clause.clause-index c.clause-item.result c.loop-clause-test.true c.clause-item.is))

pub size_of_clauses-returns-clause-size : goal.size_of_clauses-returns-clause-size
size_of_clauses-returns-clause-size t c =
    let items = c.as_slice-clause-items.result.now in
    c.loop-clause.invariant ∙ ap (size_clauses c.args.weights) (ap list_clauses (take_all c.loop-clause.clause-index items c.loop-clause-test.false) ∙ sym c.as_slice-clause-items.ensures)
