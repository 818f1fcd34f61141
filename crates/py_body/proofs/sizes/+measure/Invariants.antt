use Rattle.std.proofs.Common.{◌≡◌, ◌+◌, ◌*◌, take}
use Rattle.py_tree.specs.ExprViews.{expr_of, exprs_of, list_exprs}
use Rattle.py_tree.specs.Compilable.{parts, all_parts}
use Rattle.py_body.specs.Sizes.{size_exprs}
use Rattle.py_body.proofs.sizes.+measure.Given as goal

abbrev pub decreases-size_of_expr : goal.decreases-size_of_expr
decreases-size_of_expr l = 3 * parts (expr_of l.expr.now)

abbrev pub decreases-size_of_operation : goal.decreases-size_of_operation
decreases-size_of_operation l = 3 * all_parts (exprs_of l.operands.now) + 2

abbrev pub decreases-size_of_exprs : goal.decreases-size_of_exprs
decreases-size_of_exprs l = 3 * all_parts (exprs_of l.exprs.now) + 1

abbrev pub invariant-size_of_exprs-loop-expr : goal.invariant-size_of_exprs-loop-expr
invariant-size_of_exprs-loop-expr l = l.size ≡ size_exprs l.weights (list_exprs (take l.expr-index l.expr-items))
