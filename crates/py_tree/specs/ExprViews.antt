-- The program's expressions as plain ones.
use Rattle.std.specs.Prelude.{List, [], ◌∷◌}
use Rattle.py_tree.specs.declared.expr.ExprList.{ExprList, out-ExprList}
use Rattle.py_tree.specs.declared.expr.Expr.{Expr as OwnExpr, Atom, Operation', Row_of-Expr, end_of-Expr, more_of-Expr}
use Rattle.py_tree.specs.Tree.{Expr, Leaf, Operate, Exprs, no_operands, operand}

abbrev mutual
  pub expr_of : OwnExpr → Expr
  expr_of (Atom a) = Leaf a
  expr_of (Operation' o shape row) = Operate o (row_exprs row)

  pub row_exprs : {m : _} → Row_of-Expr m → Exprs
  row_exprs end_of-Expr = no_operands
  row_exprs (more_of-Expr e rest) = operand (expr_of e) (row_exprs rest)

-- operands in order
abbrev pub list_exprs : List OwnExpr → Exprs
list_exprs [] = no_operands
list_exprs (e ∷ es) = operand (expr_of e) (list_exprs es)

abbrev pub exprs_of : ExprList → Exprs
exprs_of l = list_exprs (out-ExprList l).items.items

-- an operand behind others
abbrev pub with_operand : Exprs → Expr → Exprs
with_operand no_operands e = operand e no_operands
with_operand (operand x more) e = operand x (with_operand more e)
