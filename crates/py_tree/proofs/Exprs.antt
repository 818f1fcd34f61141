-- The operands of expression lists, by their elements.
use Rattle.std.proofs.Common.{◌≡◌, ◌<◌, ◌≤◌, ◌+◌, ℕ, zero, suc, refl, List, [], ◌∷◌, ◌++◌, ap, sym, ◌∙◌, length, get_or, take, arith, rules}
use Rattle.std.proofs.lemmas.List.{take_more}
use Rattle.py_tree.specs.declared.expr.ExprList.{ExprList, items-the_row-Expr, out-ExprList}
use Rattle.py_tree.specs.declared.expr.Operator.{Operator}
use Rattle.py_tree.specs.declared.expr.Expr.{Expr, Operation, Row_of-Expr, end_of-Expr, more_of-Expr}
use Rattle.py_tree.specs.declared.expr.Expr.TheOpen.{ExprList-F}
use Rattle.py_tree.specs.declared.expr.Expr.TheViews.{roll-ExprList, the_lemmas}
use Rattle.py_tree.specs.Tree.{operand, Operate}
use Rattle.py_tree.specs.Compilable.{operands, parts, all_parts}
use Rattle.py_tree.specs.ExprViews.{expr_of, exprs_of, row_exprs, list_exprs, with_operand}

row_is_list : (n : _) (row : Row_of-Expr n) → row_exprs row ≡ list_exprs (items-the_row-Expr n row)
row_is_list n end_of-Expr = refl
row_is_list n (more_of-Expr e rest) = ap (operand (expr_of e)) (row_is_list _ rest)

pub exprs_out : (l : ExprList) → exprs_of l ≡ list_exprs (out-ExprList l).items.items
exprs_out l = refl

pub exprs_roll : (x : ExprList-F Expr ExprList) → exprs_of (roll-ExprList x) ≡ list_exprs x.items.items
exprs_roll x = search (rules, the_lemmas)

pub list_exprs_append : (es : List Expr) (e : Expr) → list_exprs (es ++ e ∷ []) ≡ with_operand (list_exprs es) (expr_of e)
list_exprs_append [] e = refl
list_exprs_append (x ∷ es) e = ap (operand (expr_of x)) (list_exprs_append es e)

-- an operation by its operands
pub operation_of : (o : Operator) (l : ExprList) → expr_of (Operation o l) ≡ Operate o (exprs_of l)
operation_of o l = search (rules, the_lemmas, row_is_list)

-- ---- operands by their elements

-- one more
pub list_more : (es : List Expr) (i : ℕ) (e : Expr) → i < length es → e ≡ get_or es i e → list_exprs (take (i + 1) es) ≡ with_operand (list_exprs (take i es)) (expr_of e)
list_more es i e low is = ap list_exprs (take_more es i e low ∙ ap (λ (x : Expr). take i es ++ x ∷ []) (sym is)) ∙ list_exprs_append (take i es) e

-- as many
pub operands_list : (es : List Expr) → operands (list_exprs es) ≡ length es
operands_list [] = refl
operands_list (e ∷ es) = ap suc (operands_list es)

-- the parts of each are among those of all
pub parts_at : (es : List Expr) (i : ℕ) (e : Expr) → i < length es → e ≡ get_or es i e → parts (expr_of e) ≤ all_parts (list_exprs es)
parts_at [] i e low is = absurd (omega arith)
parts_at (x ∷ es) zero e low is = omega (arith, ap (λ (y : Expr). parts (expr_of y)) is)
parts_at (x ∷ es) (suc i) e low is = let later = parts_at es i e (omega (arith, low)) is in omega (arith, later)
