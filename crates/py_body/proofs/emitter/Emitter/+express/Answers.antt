use Rattle.std.proofs.Common.{◌≡◌, ◌+◌, ◌*◌, ◌<◌, ◌≤◌, ℕ, ap, sym, ◌∙◌, subst, length, take, arith, rules}
use Rattle.std.specs.Prelude.{OnOk}
use Rattle.py_tree.specs.Tree.{Expr, Exprs, Operate}
use Rattle.py_tree.specs.ExprViews.{expr_of, exprs_of, list_exprs}
use Rattle.py_tree.specs.Compilable.{AllFit, EachFits, OperandsFit, deep, deepest, operands, parts, all_parts}
use Rattle.py_tree.proofs.Exprs.{list_more, operands_list, operation_of, parts_at}
use Rattle.py_tree.specs.declared.body.BodyKind.{BodyKind}
use Rattle.py_tree.specs.Operators.{way_of}
use Rattle.py_laid.specs.declared.coding.Coding.{Coding}
use Rattle.py_laid.specs.Operators.{coding_of, callee_of, instruction_of, argument_of}
use Rattle.py_laid.specs.Code.{Scope, over}
use Rattle.py_body.specs.Emitting.{draft_of, scope_of, EmitsExpr, EmitsExprs}
use Rattle.py_body.proofs.ExpressionLemmas.{deep_at, exprs_more, fits_at, operands_taken, kind_over, operands_few, argument_small, operation_put, over-add}
use Rattle.py_body.proofs.emitter.Emitter.+express.Goals as goal

pub compile_expr-compile_operation-requires : goal.compile_expr-compile_operation-requires
compile_expr-compile_operation-requires t c =
    let is : expr_of c.args.expr.now ≡ Operate c.in-Operation.operator (exprs_of c.in-Operation.operands) = ap expr_of c.in-Operation.is ∙ operation_of c.in-Operation.operator c.in-Operation.operands in
    let smaller : 3 * all_parts (exprs_of c.in-Operation.operands) + 2 < 3 * parts (expr_of c.args.expr.now) = omega (arith, ap parts is) in
    let fits : EachFits c.args.at.now.scope.now.kind (Operate c.in-Operation.operator (exprs_of c.in-Operation.operands)) = subst (EachFits c.args.at.now.scope.now.kind) is c.requires.fits in
    let depth : c.args.at.now.scope.now.depth + c.args.above + 257 * deep (Operate c.in-Operation.operator (exprs_of c.in-Operation.operands)) ≤ 65000 = omega (arith, ap deep is, c.requires.depth) in
    search rules

pub compile_expr-returns-in-Operation-clause-code : goal.compile_expr-returns-in-Operation-clause-code
compile_expr-returns-in-Operation-clause-code t c =
    let is : expr_of c.args.expr.now ≡ Operate c.in-Operation.operator (exprs_of c.in-Operation.operands) = ap expr_of c.in-Operation.is ∙ operation_of c.in-Operation.operator c.in-Operation.operands in
    subst (λ (e : Expr). OnOk c.compile_operation.result (EmitsExpr (draft_of c.args.self.now) (draft_of c.compile_operation.new.self) (over c.args.above (scope_of c.args.at.now.scope.now)) c.args.at.now.line e)) (sym is)
    c.compile_operation.ensures.code

pub compile_operands-compile_expr-requires : goal.compile_operands-compile_expr-requires
compile_operands-compile_expr-requires t c =
    let items = c.as_slice-operand-items.result.now in
    let i : ℕ = c.loop-operand.operand-index in
    let kind = c.args.at.now.scope.now.kind in
    let whole : exprs_of c.args.operands.now ≡ list_exprs items = c.as_slice-operand-items.ensures in
    let one = parts_at items i c.operand-item.result c.loop-operand-test.true c.operand-item.is in
    let smaller : 3 * parts (expr_of c.operand-item.result) < 3 * all_parts (exprs_of c.args.operands.now) + 1 = omega (arith, one, ap all_parts whole) in
    let fits : EachFits kind (expr_of c.operand-item.result) = fits_at kind items i c.operand-item.result c.loop-operand-test.true c.operand-item.is (subst (AllFit kind) whole c.requires.fits) in
    let others : c.loop-operand.self.others ≤ 3 = subst (λ (w : ℕ). w ≤ 3) (sym c.loop-operand.invariant.others) c.requires.low in
    let low = deep_at items i c.operand-item.result c.loop-operand-test.true c.operand-item.is in
    let depth : c.args.at.now.scope.now.depth + c.loop-operand.now + 257 * deep (expr_of c.operand-item.result) ≤ 65000 =
    omega (arith, c.loop-operand.invariant.now, low, ap deepest whole, ap operands whole, operands_list items, c.loop-operand-test.true, c.requires.depth) in
    search rules

pub compile_operands-overflow_add-now : goal.compile_operands-overflow_add-now
compile_operands-overflow_add-now t c =
    let items = c.as_slice-operand-items.result.now in
    let whole : exprs_of c.args.operands.now ≡ list_exprs items = c.as_slice-operand-items.ensures in
    omega (arith, c.loop-operand.invariant.now, ap operands whole, operands_list items, c.loop-operand-test.true, c.requires.depth)

pub compile_operands-loop-operand-preserved : goal.compile_operands-loop-operand-preserved
compile_operands-loop-operand-preserved t c =
    let items = c.as_slice-operand-items.result.now in
    let i : ℕ = c.loop-operand.operand-index in
    let scope : Scope = scope_of c.args.at.now.scope.now in
    let so_far : Exprs = list_exprs (take i items) in
    let count : operands so_far ≡ i = operands_taken items i (omega (arith, c.loop-operand-test.true)) in
    let here : over c.loop-operand.now scope ≡ over (operands so_far) (over c.args.above scope) =
    ap (λ (n : ℕ). over n scope) c.loop-operand.invariant.now ∙ over-add c.args.above i scope ∙ ap (λ (n : ℕ). over n (over c.args.above scope)) (sym count) in
    let one : EmitsExpr (draft_of c.loop-operand.self) (draft_of c.compile_expr.new.self) (over (operands so_far) (over c.args.above scope)) c.args.at.now.line (expr_of c.operand-item.result) =
    subst (λ (s : Scope). EmitsExpr (draft_of c.loop-operand.self) (draft_of c.compile_expr.new.self) s c.args.at.now.line (expr_of c.operand-item.result)) here c.in_ok-compile_expr.ensures.code in
    record {
      code = subst (EmitsExprs (draft_of c.args.self.now) (draft_of c.compile_expr.new.self) (over c.args.above scope) c.args.at.now.line)
          (sym (list_more items i c.operand-item.result c.loop-operand-test.true c.operand-item.is))
          (exprs_more (over c.args.above scope) c.args.at.now.line so_far (expr_of c.operand-item.result) c.loop-operand.invariant.code one);
      labels = c.in_ok-compile_expr.ensures.widths.0 ∙ c.loop-operand.invariant.labels;
      others = c.in_ok-compile_expr.ensures.widths.1 ∙ c.loop-operand.invariant.others;
      now = omega (arith, c.loop-operand.invariant.now);
    }

pub compile_operation-overflow_cast-count : goal.compile_operation-overflow_cast-count
compile_operation-overflow_cast-count t c =
    let few = operands_few c.args.at.now.scope.now.kind (way_of c.args.operator) (exprs_of c.args.operands.now) c.requires.fits.0 in
    omega (arith, few, ap operands c.as_slice.ensures, operands_list c.as_slice.result.now)

pub compile_operation-overflow_add-under : goal.compile_operation-overflow_add-under
compile_operation-overflow_add-under t c =
    let few = operands_few c.args.at.now.scope.now.kind (way_of c.args.operator) (exprs_of c.args.operands.now) c.requires.fits.0 in
    omega (arith, few, ap operands c.as_slice.ensures, operands_list c.as_slice.result.now, c.in_ok-under.ensures.above.1, c.requires.depth)

pub compile_operation-put_plain-requires-clause-small : goal.compile_operation-put_plain-requires-clause-small
compile_operation-put_plain-requires-clause-small t c =
    let count : length c.as_slice.result.now ≡ operands (exprs_of c.args.operands.now) = sym (ap operands c.as_slice.ensures ∙ operands_list c.as_slice.result.now) in
    let is : c.argument_of-arg.result ≡ argument_of (coding_of c.args.operator) (operands (exprs_of c.args.operands.now)) =
    c.argument_of-arg.ensures ∙ ap (λ (k : Coding). argument_of k (length c.as_slice.result.now)) c.coding_of-coding.ensures ∙ ap (argument_of (coding_of c.args.operator)) count in
    subst (λ (n : ℕ). n < 256) (sym is) (argument_small c.args.at.now.scope.now.kind c.args.operator (exprs_of c.args.operands.now) c.requires.fits.0)

pub compile_operation-put_plain-requires-clause-depth : goal.compile_operation-put_plain-requires-clause-depth
compile_operation-put_plain-requires-clause-depth t c =
    let few = operands_few c.args.at.now.scope.now.kind (way_of c.args.operator) (exprs_of c.args.operands.now) c.requires.fits.0 in
    omega (arith, few, ap operands c.as_slice.ensures, operands_list c.as_slice.result.now, c.in_ok-under.ensures.above.1, c.requires.depth)

pub compile_operation-returns-clause-code : goal.compile_operation-returns-clause-code
compile_operation-returns-clause-code t c =
    let scope : Scope = scope_of c.args.at.now.scope.now in
    let is = c.coding_of-coding.ensures in
    let count : length c.as_slice.result.now ≡ operands (exprs_of c.args.operands.now) = sym (ap operands c.as_slice.ensures ∙ operands_list c.as_slice.result.now) in
    operation_put c.put_plain.result _ _ _ _ scope (over c.args.above scope) c.args.at.now.line c.args.operator (exprs_of c.args.operands.now) c.callee_of.result c.in_ok-under.under (length c.as_slice.result.now)
    c.instruction_of.result c.argument_of-arg.result
    (c.callee_of.ensures ∙ ap callee_of is) c.in_ok-under.ensures.above.0 count (c.instruction_of.ensures ∙ ap instruction_of is)
    (c.argument_of-arg.ensures ∙ ap (λ (k : Coding). argument_of k (length c.as_slice.result.now)) is) (subst (λ (k : BodyKind). OperandsFit k (way_of c.args.operator) (exprs_of c.args.operands.now)) (kind_over c.args.above scope) c.requires.fits.0)
    c.in_ok-under.ensures.code c.in_ok-compile_operands.ensures.code c.put_plain.ensures.code
