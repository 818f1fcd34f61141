use Rattle.std.proofs.Common.{◌≡◌, ◌+◌, ◌*◌, take, true}
use Rattle.py_tree.specs.ExprViews.{expr_of, exprs_of, list_exprs}
use Rattle.py_tree.specs.Compilable.{parts, all_parts}
use Rattle.py_grammar.specs.Rules.{may_compute_all}
use Rattle.py_grammar.proofs.rules.+compute.Given as goal

abbrev pub decreases-may_compute : goal.decreases-may_compute
decreases-may_compute l = 3 * parts (expr_of l.expr.now)

abbrev pub decreases-may_apply : goal.decreases-may_apply
decreases-may_apply l = 3 * all_parts (exprs_of l.operands.now) + 2

abbrev pub decreases-may_compute_all : goal.decreases-may_compute_all
decreases-may_compute_all l = 3 * all_parts (exprs_of l.exprs.now) + 1

abbrev pub invariant-may_compute_all-loop-expr : goal.invariant-may_compute_all-loop-expr
invariant-may_compute_all-loop-expr l = may_compute_all l.kind (list_exprs (take l.expr-index l.expr-items)) ≡ true
