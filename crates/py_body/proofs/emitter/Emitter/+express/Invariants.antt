use Rattle.std.proofs.Common.{◌≡◌, ◌+◌, ◌*◌, take}
use Rattle.py_tree.specs.ExprViews.{expr_of, exprs_of, list_exprs}
use Rattle.py_tree.specs.Compilable.{parts, all_parts}
use Rattle.py_laid.specs.Code.{over}
use Rattle.py_body.specs.Emitting.{draft_of, scope_of, EmitsExprs}
use Rattle.py_body.proofs.emitter.Emitter.+express.Given as goal

abbrev pub decreases-compile_expr : goal.decreases-compile_expr
decreases-compile_expr l = 3 * parts (expr_of l.expr.now)

abbrev pub decreases-compile_operation : goal.decreases-compile_operation
decreases-compile_operation l = 3 * all_parts (exprs_of l.operands.now) + 2

abbrev pub decreases-compile_operands : goal.decreases-compile_operands
decreases-compile_operands l = 3 * all_parts (exprs_of l.operands.now) + 1

abbrev pub invariant-compile_operands-loop-operand : goal.invariant-compile_operands-loop-operand
invariant-compile_operands-loop-operand l = record {
  code : EmitsExprs (draft_of l.fn.self) (draft_of l.self) (over l.fn.above (scope_of l.at.scope.now)) l.at.line (list_exprs (take l.operand-index l.operand-items));
  labels : l.self.labels ≡ l.fn.self.labels;
  others : l.self.others ≡ l.fn.self.others;
  now : l.now ≡ l.fn.above + l.operand-index;
}
