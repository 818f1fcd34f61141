-- Which expressions may stand in a body, by their elements.
use Rattle.std.proofs.Common.{◌≡◌, ◌<◌, ℕ, zero, suc, List, [], ◌∷◌, Bool, true, false, ◌&&◌, refl, sym, ap, ◌∙◌, length, get_or, arith}
use Rattle.std.proofs.lemmas.Bool.{and_from, and_parts}
use Rattle.py_tree.specs.declared.body.BodyKind.{BodyKind}
use Rattle.py_tree.specs.declared.expr.Expr.{Expr as OwnExpr}
use Rattle.py_tree.specs.Tree.{Expr, Exprs, no_operands, operand}
use Rattle.py_tree.specs.ExprViews.{expr_of, list_exprs, with_operand}
use Rattle.py_grammar.specs.Rules.{may_compute, may_compute_all}

-- one more
pub computes_more : (k : BodyKind) (es : Exprs) (e : Expr) → may_compute_all k es ≡ true → may_compute k e ≡ true → may_compute_all k (with_operand es e) ≡ true
computes_more k no_operands e all one = and_from _ _ one refl
computes_more k (operand x es) e all one =
    let parts = and_parts (may_compute k x) (may_compute_all k es) all in
    and_from _ _ parts.0 (computes_more k es e parts.1 one)

either_false : (x y : Bool) → y ≡ false → (x && y) ≡ false
either_false true y h = h
either_false false y h = refl

-- one that may not
pub not_all : (k : BodyKind) (es : List OwnExpr) (i : ℕ) (e : OwnExpr) → i < length es → e ≡ get_or es i e → may_compute k (expr_of e) ≡ false → may_compute_all k (list_exprs es) ≡ false
not_all k [] i e low is none = absurd (omega arith)
not_all k (x ∷ es) zero e low is none = ap (λ b. b && may_compute_all k (list_exprs es)) (ap (λ (y : OwnExpr). may_compute k (expr_of y)) (sym is) ∙ none)
not_all k (x ∷ es) (suc i) e low is none = either_false (may_compute k (expr_of x)) (may_compute_all k (list_exprs es)) (not_all k es i e (omega (arith, low)) is none)
