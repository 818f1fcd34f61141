use Rattle.std.proofs.Common.{◌≡◌, ◌+◌, ◌*◌, ◌<◌, ◌≤◌, ap, sym, ◌∙◌, subst, take, arith, rules}
use Rattle.py_tree.specs.Tree.{Expr, Operate}
use Rattle.py_tree.specs.ExprViews.{expr_of, exprs_of, list_exprs}
use Rattle.py_tree.specs.Compilable.{parts, all_parts}
use Rattle.py_tree.proofs.Exprs.{list_more, operation_of, parts_at}
use Rattle.py_body.specs.Sizes.{most_units, size_expr, size_exprs}
use Rattle.py_body.proofs.ExpressionLemmas.{expr_size_at, size_more}
use Rattle.py_body.proofs.sizes.+measure.Goals as goal

pub size_of_expr-size_of_operation-requires : goal.size_of_expr-size_of_operation-requires
size_of_expr-size_of_operation-requires t c =
    let is : expr_of c.args.expr.now ≡ Operate c.in-Operation.operator (exprs_of c.in-Operation.operands) = ap expr_of c.in-Operation.is ∙ operation_of c.in-Operation.operator c.in-Operation.operands in
    let smaller : 3 * all_parts (exprs_of c.in-Operation.operands) + 2 < 3 * parts (expr_of c.args.expr.now) = omega (arith, ap parts is) in
    let few : size_expr c.args.weights (Operate c.in-Operation.operator (exprs_of c.in-Operation.operands)) ≤ most_units = subst (λ (e : Expr). size_expr c.args.weights e ≤ most_units) is c.requires in
    search rules

pub size_of_expr-returns-in-Operation : goal.size_of_expr-returns-in-Operation
size_of_expr-returns-in-Operation t c =
    let is : expr_of c.args.expr.now ≡ Operate c.in-Operation.operator (exprs_of c.in-Operation.operands) = ap expr_of c.in-Operation.is ∙ operation_of c.in-Operation.operator c.in-Operation.operands in
    let size = c.size_of_operation.ensures.size ∙ ap (size_expr c.args.weights) (sym is) in
    record { size = size; most = c.size_of_operation.ensures.most }

pub size_of_exprs-size_of_expr-size-requires : goal.size_of_exprs-size_of_expr-size-requires
size_of_exprs-size_of_expr-size-requires t c =
    let items = c.as_slice-expr-items.result.now in
    let one = parts_at items c.loop-expr.expr-index c.expr-item.result c.loop-expr-test.true c.expr-item.is in
    let all : all_parts (exprs_of c.args.exprs.now) ≡ all_parts (list_exprs items) = ap all_parts c.as_slice-expr-items.ensures in
    let smaller : 3 * parts (expr_of c.expr-item.result) < 3 * all_parts (exprs_of c.args.exprs.now) + 1 = omega (arith, one, all) in
    let size = expr_size_at c.args.weights items c.loop-expr.expr-index c.expr-item.result c.loop-expr-test.true c.expr-item.is in
    let whole : size_exprs c.args.weights (exprs_of c.args.exprs.now) ≡ size_exprs c.args.weights (list_exprs items) = ap (size_exprs c.args.weights) c.as_slice-expr-items.ensures in
    let few : size_expr c.args.weights (expr_of c.expr-item.result) ≤ most_units = omega (arith, size, whole, c.requires) in
    search rules

pub size_of_exprs-overflow_add-size : goal.size_of_exprs-overflow_add-size
size_of_exprs-overflow_add-size t c =
    let items = c.as_slice-expr-items.result.now in
    let size = expr_size_at c.args.weights items c.loop-expr.expr-index c.expr-item.result c.loop-expr-test.true c.expr-item.is in
    let whole : size_exprs c.args.weights (exprs_of c.args.exprs.now) ≡ size_exprs c.args.weights (list_exprs items) = ap (size_exprs c.args.weights) c.as_slice-expr-items.ensures in
    omega (arith, size, whole, c.requires, c.loop-expr.invariant, c.size_of_expr-size.ensures.size)

pub size_of_exprs-loop-expr-preserved : goal.size_of_exprs-loop-expr-preserved
size_of_exprs-loop-expr-preserved t c =
    let items = c.as_slice-expr-items.result.now in
    (λ k. c.loop-expr.invariant k + c.size_of_expr-size.ensures.size k) ∙ sym (size_more c.args.weights (list_exprs (take c.loop-expr.expr-index items)) (expr_of c.expr-item.result))
    ∙ ap (size_exprs c.args.weights) (sym (list_more items c.loop-expr.expr-index c.expr-item.result c.loop-expr-test.true c.expr-item.is))
