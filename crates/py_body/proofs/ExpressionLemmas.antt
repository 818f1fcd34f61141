-- What is emitted for expressions.
use Rattle.std.proofs.Common.{◌≡◌, ◌<◌, ◌≤◌, ◌+◌, ℕ, zero, suc, List, [], ◌∷◌, refl, sym, ap, ◌∙◌, subst, length, take, get_or, arith, length-take}
use Rattle.std.specs.Prelude.{Option, Result, OnOk}
use Rattle.std.proofs.lemmas.Result.{on_ok_weaker}
use Rattle.py_code.specs.declared.instruction.Instruction.{Instruction}
use Rattle.py_code.specs.declared.literal.BuiltinFn.{BuiltinFn}
use Rattle.py_tree.specs.declared.body.BodyKind.{BodyKind}
use Rattle.py_tree.specs.declared.expr.Expr.{Expr as OwnExpr}
use Rattle.py_tree.specs.declared.expr.Operator.{Operator}
use Rattle.py_tree.specs.Tree.{Expr, Operate, Exprs, no_operands, operand}
use Rattle.py_tree.specs.ExprViews.{expr_of, list_exprs, with_operand}
use Rattle.py_tree.specs.declared.expr.Operator.TheVariants as operator
use Rattle.py_tree.specs.Operators.{Way, Asks_one, Asks_two, Calls_it, Yields_it, way_of}
use Rattle.py_tree.specs.Compilable.{OperandsFit, EachFits, AllFit, operands, deep, deepest}
use Rattle.py_tree.proofs.Exprs.{operands_list}
use Rattle.py_laid.specs.declared.coding.Coding.TheVariants.{Called}
use Rattle.py_laid.specs.Operators.{coding_of, callee_of, instruction_of, argument_of}
use Rattle.py_laid.specs.Code.{Parts, Scope, on, over, under, LaidExpr, LaidExprs}
use Rattle.py_body.specs.declared.sizes.Weights.{Weights}
use Rattle.py_body.specs.Sizes.{size_expr, size_exprs}
use Rattle.py_body.specs.Emitting.{Draft, end_of, EmitsCallee, EmitsExpr, EmitsExprs, EmitsPlain}
use Rattle.py_body.proofs.EmittingLemmas.{emits_as, emits_then}

-- ---- scopes

-- more values above others
pub over-on : (n : ℕ) (scope : Scope) → over n (on scope) ≡ on (over n scope)
over-on zero scope = refl
over-on (suc n) scope = over-on n (on scope)

pub over-add : (n m : ℕ) (scope : Scope) → over (n + m) scope ≡ over m (over n scope)
over-add n zero scope = let same : n + 0 ≡ n = omega arith in ap (λ (k : ℕ). over k scope) same
over-add n (suc m) scope =
    let same : n + suc m ≡ suc (n + m) = omega arith in
    ap (λ (k : ℕ). over k scope) same ∙ over-on (n + m) scope ∙ ap on (over-add n m scope) ∙ sym (over-on m (over n scope))

pub kind_over : (n : ℕ) (scope : Scope) → scope.kind ≡ (over n scope).kind
kind_over zero scope = refl
kind_over (suc n) scope = kind_over n (on scope)

-- ---- operands

-- one more operand
pub operands_more : (es : Exprs) (e : Expr) → operands (with_operand es e) ≡ suc (operands es)
operands_more no_operands e = refl
operands_more (operand x es) e = ap suc (operands_more es e)

pub size_more : (w : Weights) (es : Exprs) (e : Expr) → size_exprs w (with_operand es e) ≡ size_exprs w es + size_expr w e
size_more w no_operands e = omega arith
size_more w (operand x es) e = omega (arith, size_more w es e)

LaidExprs-last : (whole : Parts) (scope : Scope) (line : ℕ) (es : Exprs) (e : Expr) (at mid next : ℕ) → LaidExprs whole scope line es at mid → LaidExpr whole (over (operands es) scope) line e mid next
    → LaidExprs whole scope line (with_operand es e) at next
LaidExprs-last whole scope line no_operands e at mid next same laid = (next, subst (λ (k : ℕ). LaidExpr whole scope line e k next) same laid, refl)
LaidExprs-last whole scope line (operand x es) e at mid next (k, one, rest) laid = (k, one, LaidExprs-last whole (on scope) line es e k mid next rest laid)

pub exprs_more : {a b c : Draft} (scope : Scope) (line : ℕ) (es : Exprs) (e : Expr) → EmitsExprs a b scope line es → EmitsExpr b c (over (operands es) scope) line e → EmitsExprs a c scope line (with_operand es e)
exprs_more {a} {b} {c} scope line es e so_far one =
    emits_as (emits_then so_far one) (λ w. sym (size_more w es e)) (λ room whole same (mid, _, _, front, last). LaidExprs-last whole scope line es e (end_of a) mid (end_of c) front last)

-- the operand behind so many
pub operands_taken : (es : List OwnExpr) (i : ℕ) → i ≤ length es → operands (list_exprs (take i es)) ≡ i
operands_taken es i low = operands_list (take i es) ∙ omega (arith, length-take i es, low)

-- what holds of operands holds of each
pub fits_at : (kind : BodyKind) (es : List OwnExpr) (i : ℕ) (e : OwnExpr) → i < length es → e ≡ get_or es i e → AllFit kind (list_exprs es) → EachFits kind (expr_of e)
fits_at kind [] i e low is fits = absurd (omega arith)
fits_at kind (x ∷ es) zero e low is fits = subst (λ (y : OwnExpr). EachFits kind (expr_of y)) (sym is) fits.0
fits_at kind (x ∷ es) (suc i) e low is fits = fits_at kind es i e (omega (arith, low)) is fits.1

pub deep_at : (es : List OwnExpr) (i : ℕ) (e : OwnExpr) → i < length es → e ≡ get_or es i e → deep (expr_of e) ≤ deepest (list_exprs es)
deep_at [] i e low is = absurd (omega arith)
deep_at (x ∷ es) zero e low is = omega (arith, ap (λ (y : OwnExpr). deep (expr_of y)) is)
deep_at (x ∷ es) (suc i) e low is = let later = deep_at es i e (omega (arith, low)) is in omega (arith, later)

pub expr_size_at : (w : Weights) (es : List OwnExpr) (i : ℕ) (e : OwnExpr) → i < length es → e ≡ get_or es i e
    → size_exprs w (list_exprs (take i es)) + size_expr w (expr_of e) ≤ size_exprs w (list_exprs es)
expr_size_at w [] i e low is = absurd (omega arith)
expr_size_at w (x ∷ es) zero e low is = omega (arith, ap (λ (y : OwnExpr). size_expr w (expr_of y)) is)
expr_size_at w (x ∷ es) (suc i) e low is = let later = expr_size_at w es i e (omega (arith, low)) is in omega (arith, later)

-- ---- operators

pub operation_emits : {a b c d : Draft} (scope : Scope) (line : ℕ) (o : Operator) (es : Exprs) → OperandsFit scope.kind (way_of o) es → EmitsCallee a b scope line (callee_of (coding_of o))
    → EmitsExprs b c (under (callee_of (coding_of o)) scope) line es
    → EmitsPlain c d (over (operands es) (under (callee_of (coding_of o)) scope)) line (instruction_of (coding_of o)) (argument_of (coding_of o) (operands es)) → EmitsExpr a d scope line (Operate o es)
operation_emits scope line o es fits callee all asks =
    emits_as (emits_then (emits_then callee all) asks) (λ w. refl)
    (λ room whole same (calls, _, _, (begins, _, _, first, operands_laid), stands). (begins, calls, fits, first, operands_laid, stands))

-- no operator takes more operands than a call with 255 arguments
pub operands_few : (kind : BodyKind) (way : Way) (es : Exprs) → OperandsFit kind way es → operands es ≤ 256
operands_few kind (Asks_one r) es fits = omega (arith, fits)
operands_few kind (Asks_two r) es fits = omega (arith, fits)
operands_few kind Calls_it es fits = fits.1
operands_few kind Yields_it es fits = omega (arith, fits.1)

called_small : (n : ℕ) → n ≤ 256 → argument_of Called n < 256
called_small zero few = omega arith
called_small (suc n) few = omega (arith, few)

pub argument_small : (kind : BodyKind) (o : Operator) (es : Exprs) → OperandsFit kind (way_of o) es → argument_of (coding_of o) (operands es) < 256
argument_small kind operator.Send es fits = omega (arith, fits)
argument_small kind operator.Throw es fits = omega (arith, fits)
argument_small kind operator.Close es fits = omega (arith, fits)
argument_small kind operator.Call es fits = called_small (operands es) fits.1
argument_small kind o es fits = omega arith

-- what is emitted for an operator, by what the compiler finds of it
pub operation_put : {A E : Type 0} (r : Result A E) (a b c d : Draft) (around scope : Scope) (line : ℕ) (o : Operator) (es : Exprs) (fn : Option BuiltinFn) (above count : ℕ) (i : Instruction) (arg : ℕ)
    → fn ≡ callee_of (coding_of o) → over above around ≡ under fn scope → count ≡ operands es → i ≡ instruction_of (coding_of o) → arg ≡ argument_of (coding_of o) count → OperandsFit scope.kind (way_of o) es
    → EmitsCallee a b scope line fn → EmitsExprs b c (over above around) line es → OnOk r (EmitsPlain c d (over (above + count) around) line i arg) → OnOk r (EmitsExpr a d scope line (Operate o es))
operation_put r a b c d around scope line o es fn above count i arg is_fn is_scope is_count is_i is_arg fits callee all asks =
    let fn_here : EmitsCallee a b scope line (callee_of (coding_of o)) = subst (EmitsCallee a b scope line) is_fn callee in
    let same : over above around ≡ under (callee_of (coding_of o)) scope = is_scope ∙ ap (λ (f : Option BuiltinFn). under f scope) is_fn in
    let all_here : EmitsExprs b c (under (callee_of (coding_of o)) scope) line es = subst (λ (s : Scope). EmitsExprs b c s line es) same all in
    let higher : over (above + count) around ≡ over (operands es) (under (callee_of (coding_of o)) scope) = over-add above count around ∙ ap (over count) same ∙ ap (λ (n : ℕ). over n (under (callee_of (coding_of o)) scope)) is_count in
    let asks_scope : OnOk r (EmitsPlain c d (over (operands es) (under (callee_of (coding_of o)) scope)) line i arg) = subst (λ (s : Scope). OnOk r (EmitsPlain c d s line i arg)) higher asks in
    let asks_unit : OnOk r (EmitsPlain c d (over (operands es) (under (callee_of (coding_of o)) scope)) line (instruction_of (coding_of o)) arg) =
    subst (λ (j : Instruction). OnOk r (EmitsPlain c d (over (operands es) (under (callee_of (coding_of o)) scope)) line j arg)) is_i asks_scope in
    let is_argument : arg ≡ argument_of (coding_of o) (operands es) = is_arg ∙ ap (argument_of (coding_of o)) is_count in
    let asks_here : OnOk r (EmitsPlain c d (over (operands es) (under (callee_of (coding_of o)) scope)) line (instruction_of (coding_of o)) (argument_of (coding_of o) (operands es))) =
    subst (λ (n : ℕ). OnOk r (EmitsPlain c d (over (operands es) (under (callee_of (coding_of o)) scope)) line (instruction_of (coding_of o)) n)) is_argument asks_unit in
    on_ok_weaker r (operation_emits scope line o es fits fn_here all_here) asks_here
