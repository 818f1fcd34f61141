use Rattle.std.proofs.Common.{◌≡◌, ◌+◌, ◌-◌, ◌*◌, ◌≤◌, length, map, drop}
use Rattle.py_tree.specs.Compilable.{deepest}
use Rattle.py_tree.specs.ExprViews.{exprs_of}
use Rattle.py_lines.specs.Senses.{meaning_of}
use Rattle.py_lines.specs.Printing.{exprs_tokens}
use Rattle.py_lines.proofs.Fronts.{Behind}
use Rattle.py_lines.proofs.expr.+read.Given as goal

abbrev pub decreases-front_expr : goal.decreases-front_expr
decreases-front_expr l = 3 * l.room + 1

abbrev pub decreases-front_operation : goal.decreases-front_operation
decreases-front_operation l = 3 * l.room

abbrev pub decreases-front_operands : goal.decreases-front_operands
decreases-front_operands l = 3 * l.room + 2

abbrev pub invariant-front_operands-loop-at : goal.invariant-front_operands-loop-at
invariant-front_operands-loop-at l = record {
  within : l.at ≤ length l.tokens;
  tokens : map meaning_of l.tokens ≡ exprs_tokens (exprs_of l.operands) (drop l.at (map meaning_of l.tokens));
  low : deepest (exprs_of l.operands) ≤ l.room;
  behind : Behind l.room (map meaning_of l.tokens) (drop l.at (map meaning_of l.tokens));
}

abbrev pub decreases-front_operands-loop-at : goal.decreases-front_operands-loop-at
decreases-front_operands-loop-at l = length l.tokens - l.at
