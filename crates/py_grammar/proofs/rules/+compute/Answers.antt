use Rattle.std.proofs.Common.{◌≡◌, ◌+◌, ◌*◌, ◌<◌, ◌∙◌, ◌&&◌, Bool, ap, sym, length, take, true, false, arith, rules}
use Rattle.py_tree.specs.Tree.{Operate}
use Rattle.py_tree.specs.ExprViews.{expr_of, exprs_of, list_exprs}
use Rattle.py_tree.specs.Compilable.{operands, parts, all_parts}
use Rattle.py_tree.specs.Operators.{way_of}
use Rattle.py_tree.proofs.Exprs.{list_more, operands_list, operation_of, parts_at}
use Rattle.py_grammar.specs.Rules.{may_compute, may_compute_all, may_operate}
use Rattle.py_grammar.proofs.Computing.{computes_more, not_all}
use Rattle.py_grammar.proofs.rules.+compute.Goals as goal

pub may_compute-may_apply-requires : goal.may_compute-may_apply-requires
may_compute-may_apply-requires t c =
    let is : expr_of c.args.expr.now ≡ Operate c.in-Operation.operator (exprs_of c.in-Operation.operands) = ap expr_of c.in-Operation.is ∙ operation_of c.in-Operation.operator c.in-Operation.operands in
    let smaller : 3 * all_parts (exprs_of c.in-Operation.operands) + 2 < 3 * parts (expr_of c.args.expr.now) = omega (arith, ap parts is) in
    search rules

pub may_compute-returns-in-Operation : goal.may_compute-returns-in-Operation
may_compute-returns-in-Operation t c =
    let is : expr_of c.args.expr.now ≡ Operate c.in-Operation.operator (exprs_of c.in-Operation.operands) = ap expr_of c.in-Operation.is ∙ operation_of c.in-Operation.operator c.in-Operation.operands in
    c.may_apply.ensures ∙ ap (may_compute c.args.kind) (sym is)

pub may_compute_all-may_compute-requires : goal.may_compute_all-may_compute-requires
may_compute_all-may_compute-requires t c =
    let items = c.as_slice-expr-items.result.now in
    let one = parts_at items c.loop-expr.expr-index c.expr-item.result c.loop-expr-test.true c.expr-item.is in
    let all : all_parts (exprs_of c.args.exprs.now) ≡ all_parts (list_exprs items) = ap all_parts c.as_slice-expr-items.ensures in
    let smaller : 3 * parts (expr_of c.expr-item.result) < 3 * all_parts (exprs_of c.args.exprs.now) + 1 = omega (arith, one, all) in
    search rules

pub may_compute_all-returns-then-not-may_compute : goal.may_compute_all-returns-then-not-may_compute
may_compute_all-returns-then-not-may_compute t c =
    let items = c.as_slice-expr-items.result.now in
    sym (not_all c.args.kind items c.loop-expr.expr-index c.expr-item.result c.loop-expr-test.true c.expr-item.is (sym c.may_compute.ensures ∙ c.if-not-may_compute.true))
    ∙ ap (may_compute_all c.args.kind) (sym c.as_slice-expr-items.ensures)

pub may_compute_all-loop-expr-preserved : goal.may_compute_all-loop-expr-preserved
may_compute_all-loop-expr-preserved t c =
    let items = c.as_slice-expr-items.result.now in
    ap (may_compute_all c.args.kind) (list_more items c.loop-expr.expr-index c.expr-item.result c.loop-expr-test.true c.expr-item.is)
    ∙ computes_more c.args.kind (list_exprs (take c.loop-expr.expr-index items)) (expr_of c.expr-item.result) c.loop-expr.invariant (sym c.may_compute.ensures ∙ c.if-not-may_compute.false)

pub may_apply-returns-then-may_operate : goal.may_apply-returns-then-may_operate
may_apply-returns-then-may_operate t c =
    let es = exprs_of c.args.operands.now in
    let count : operands es ≡ length c.as_slice.result.now = ap operands c.as_slice.ensures ∙ operands_list c.as_slice.result.now in
    let may : may_operate c.args.kind (way_of c.args.operator) (operands es) ≡ true = ap (may_operate c.args.kind (way_of c.args.operator)) count ∙ sym c.may_operate.ensures ∙ c.if-may_operate.true in
    c.may_compute_all.ensures ∙ ap (λ (b : Bool). b && may_compute_all c.args.kind es) (sym may)

pub may_apply-returns-else-may_operate : goal.may_apply-returns-else-may_operate
may_apply-returns-else-may_operate t c =
    let es = exprs_of c.args.operands.now in
    let count : operands es ≡ length c.as_slice.result.now = ap operands c.as_slice.ensures ∙ operands_list c.as_slice.result.now in
    let may : may_operate c.args.kind (way_of c.args.operator) (operands es) ≡ false = ap (may_operate c.args.kind (way_of c.args.operator)) count ∙ sym c.may_operate.ensures ∙ c.if-may_operate.false in
    c.if-may_operate.false ∙ ap (λ (b : Bool). b && may_compute_all c.args.kind es) (sym may)
