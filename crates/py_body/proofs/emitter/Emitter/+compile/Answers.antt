use Rattle.std.proofs.Common.{◌≡◌, ◌+◌, ◌*◌, ◌<◌, ◌≤◌, ◌%◌, ◌^◌, ℕ, refl, sym, ap, ◌∙◌, subst, take, arith, rules}
use Rattle.std.proofs.lemmas.List.{take_all}
use Rattle.std.proofs.lemmas.Result.{on_ok_weaker}
use Rattle.py_code.specs.declared.instruction.Instruction.TheVariants as op
use Rattle.py_tree.specs.declared.stmt.Clause.{out-Clause}
use Rattle.py_tree.specs.declared.stmt.StmtForm.{StmtForm}
use Rattle.py_tree.specs.Tree.{Raise, Return, Show, If, IfElse, Suite, Clauses, TryExcept}
use Rattle.py_tree.specs.ExprViews.{expr_of}
use Rattle.py_tree.specs.Views.{clauses_of, form_of, suite_of}
use Rattle.py_tree.specs.Suites.{list_clauses, list_suite}
use Rattle.py_laid.specs.Code.{Scope, on, before_finally, in_finally, LaidTaken}
use Rattle.py_tree.specs.Compilable.{parts, statements, statements_in, statements_under, ClausesNest, FormNests, SuiteNests}
use Rattle.py_body.specs.Sizes.{size_clauses, size_expr, size_form, size_suite, size_tried}
use Rattle.py_body.specs.Emitting.{draft_of, scope_of, is_inside, end_of, labels_of, EmitsClauses, EmitsSuite, ClausesIn, FormIn, SuiteIn}
use Rattle.py_body.proofs.Trees.{fits_at, nests_at, statements_at, suite_more}
use Rattle.py_body.proofs.SizeLemmas.{clauses_most, expr_most, suite_most}
use Rattle.py_body.proofs.StatementLemmas.{form_taken}
use Rattle.py_body.proofs.BlockLemmas.{branch_emits, if_else_emits, pass_emits, suite_add, suite_none, while_emits}
use Rattle.py_body.proofs.ClauseTrees.{clause_fits_at, clause_nests_at, clause_statements_at, clauses_more}
use Rattle.py_body.proofs.ProtectedLemmas.{clause_emits, clauses_add, clauses_none, forgetting_emits, opening_emits, plain_handler_emits, tried_emits, try_except_emits, try_finally_emits}
use Rattle.py_body.proofs.ManagerLemmas.{managed_emits, with_emits}
use Rattle.py_body.proofs.emitter.Emitter.+compile.Goals as goal

-- ---- suites

pub compile_suite-loop-stmt-init : goal.compile_suite-loop-stmt-init
compile_suite-loop-stmt-init t c = record { code = suite_none c.args.self.now.labels (draft_of c.args.self.now) (scope_of c.args.scope.now); labels = refl; others = refl }

pub compile_suite-compile_form-requires : goal.compile_suite-compile_form-requires
compile_suite-compile_form-requires t c =
    let items = c.as_slice-stmt-items.result.now in
    let i : ℕ = c.loop-stmt.stmt-index in
    let one = statements_at items i c.stmt-item.result c.loop-stmt-test.true c.stmt-item.is in
    let all : statements (suite_of c.args.suite.now) ≡ statements (list_suite items) = ap statements c.as_slice-stmt-items.ensures in
    let smaller : 5 * statements_in (form_of c.stmt-item.result.form) < 5 * statements (suite_of c.args.suite.now) + 1 = omega (arith, one, all) in
    let few : statements_in (form_of c.stmt-item.result.form) ≤ 1048576 = omega (arith, one, all, c.requires.few) in
    let scope : Scope = scope_of c.args.scope.now in
    let fits : FormIn scope (form_of c.stmt-item.result.form) =
    fits_at scope.kind (is_inside scope.around) items i c.stmt-item.result c.loop-stmt-test.true c.stmt-item.is (subst (SuiteIn scope) c.as_slice-stmt-items.ensures c.requires.fits) in
    let nests : FormNests c.args.scope.now.depth (form_of c.stmt-item.result.form) =
    nests_at c.args.scope.now.depth items i c.stmt-item.result c.loop-stmt-test.true c.stmt-item.is (subst (SuiteNests c.args.scope.now.depth) c.as_slice-stmt-items.ensures c.requires.nests) in
    let labels : c.loop-stmt.self.labels ≤ 3 = subst (λ (w : ℕ). w ≤ 3) (sym c.loop-stmt.invariant.labels) c.requires.low.0 in
    let others : c.loop-stmt.self.others ≤ 3 = subst (λ (w : ℕ). w ≤ 3) (sym c.loop-stmt.invariant.others) c.requires.low.1 in
    search rules

pub compile_suite-loop-stmt-preserved : goal.compile_suite-loop-stmt-preserved
compile_suite-loop-stmt-preserved t c =
    let items = c.as_slice-stmt-items.result.now in
    let i : ℕ = c.loop-stmt.stmt-index in
    let scope : Scope = scope_of c.args.scope.now in
    record {
      code = subst (EmitsSuite c.args.self.now.labels (draft_of c.args.self.now) (draft_of c.compile_form.new.self) scope)
          (sym (suite_more items i c.stmt-item.result c.loop-stmt-test.true c.stmt-item.is))
          (suite_add scope (list_suite (take i items)) c.stmt-item.result.line (form_of c.stmt-item.result.form) c.loop-stmt.invariant.code c.in_ok-compile_form.ensures.code);
      labels = c.in_ok-compile_form.ensures.widths.0 ∙ c.loop-stmt.invariant.labels;
      others = c.in_ok-compile_form.ensures.widths.1 ∙ c.loop-stmt.invariant.others;
    }

pub compile_suite-returns-clause-code : goal.compile_suite-returns-clause-code
compile_suite-returns-clause-code t c =
    let items = c.as_slice-stmt-items.result.now in
    let all : list_suite (take c.loop-stmt.stmt-index items) ≡ suite_of c.args.suite.now = ap list_suite (take_all c.loop-stmt.stmt-index items c.loop-stmt-test.false) ∙ sym c.as_slice-stmt-items.ensures in
    subst (EmitsSuite c.args.self.now.labels (draft_of c.args.self.now) (draft_of c.loop-stmt.self) (scope_of c.args.scope.now)) all c.loop-stmt.invariant.code

pub compile_form-returns-in-Show-clause-code : goal.compile_form-returns-in-Show-clause-code
compile_form-returns-in-Show-clause-code t c = rw c.in-Show.is (form_taken _ _ _ _ _ _ (Show (expr_of c.in-Show.expr)) _ _ _ (λ w. refl) (λ whole at next laid. laid) c.compile_taken.ensures.code)

pub compile_form-returns-in-Return-clause-code : goal.compile_form-returns-in-Return-clause-code
compile_form-returns-in-Return-clause-code t c = rw c.in-Return.is (form_taken _ _ _ _ _ _ (Return (expr_of c.in-Return.expr)) _ _ _ (λ w. refl) (λ whole at next laid. laid) c.compile_taken-in-Return.ensures.code)

pub compile_form-returns-in-Raise-clause-code : goal.compile_form-returns-in-Raise-clause-code
compile_form-returns-in-Raise-clause-code t c = rw c.in-Raise.is (form_taken _ _ _ c.args.self.now.labels (scope_of c.args.at.now.scope.now) c.args.at.now.line (Raise (expr_of c.in-Raise.expr))
    _ _ _ (λ w. refl) (λ whole at next laid. subst (λ (n : ℕ). LaidTaken whole (scope_of c.args.at.now.scope.now) c.args.at.now.line (expr_of c.in-Raise.expr) op.Raise n at next) c.into.ensures.0 laid) c.compile_taken-in-Raise.ensures.code)

pub compile_form-returns-in-Pass-clause-code : goal.compile_form-returns-in-Pass-clause-code
compile_form-returns-in-Pass-clause-code t c = rw c.in-Pass.is (pass_emits c.args.self.now.labels (draft_of c.args.self.now) (scope_of c.args.at.now.scope.now) c.args.at.now.line)

-- ---- the statements inside of a statement: the search finds the rest of each answer, but not these sums

pub compile_form-compile_branch-requires : goal.compile_form-compile_branch-requires
compile_form-compile_branch-requires t c =
    let is = c.in-If.is in
    let all = ap (λ (f : StmtForm). statements_in (form_of f)) is in
    let smaller : 5 * statements (suite_of c.in-If.suite) + 2 < 5 * statements_in (form_of c.args.form.now) = omega (arith, all) in
    let few : parts (expr_of c.in-If.expr) + statements (suite_of c.in-If.suite) ≤ 1048575 = omega (arith, all, c.requires.few) in
    let fits = rw is at c.requires.fits in
    let nests = rw is at c.requires.nests in
    search rules

pub compile_form-compile_if_else-requires : goal.compile_form-compile_if_else-requires
compile_form-compile_if_else-requires t c =
    let is = c.in-IfElse.is in
    let all = ap (λ (f : StmtForm). statements_in (form_of f)) is in
    let smaller : 5 * (statements (suite_of c.in-IfElse.suite) + statements (suite_of c.in-IfElse.other)) + 2 < 5 * statements_in (form_of c.args.form.now) = omega (arith, all) in
    let few : parts (expr_of c.in-IfElse.expr) + statements (suite_of c.in-IfElse.suite) + statements (suite_of c.in-IfElse.other) ≤ 1048575 = omega (arith, all, c.requires.few) in
    let fits = rw is at c.requires.fits in
    let nests = rw is at c.requires.nests in
    search rules

pub compile_form-compile_while-requires : goal.compile_form-compile_while-requires
compile_form-compile_while-requires t c =
    let is = c.in-While.is in
    let all = ap (λ (f : StmtForm). statements_in (form_of f)) is in
    let smaller : 5 * statements (suite_of c.in-While.suite) + 3 < 5 * statements_in (form_of c.args.form.now) = omega (arith, all) in
    let few : parts (expr_of c.in-While.expr) + statements (suite_of c.in-While.suite) ≤ 1048575 = omega (arith, all, c.requires.few) in
    let fits = rw is at c.requires.fits in
    let nests = rw is at c.requires.nests in
    search rules

pub compile_form-compile_try_except-requires : goal.compile_form-compile_try_except-requires
compile_form-compile_try_except-requires t c =
    let is = c.in-TryExcept.is in
    let all = ap (λ (f : StmtForm). statements_in (form_of f)) is in
    let smaller : 5 * (statements (suite_of c.in-TryExcept.suite) + statements_under (clauses_of c.in-TryExcept.clauses)) + 3 < 5 * statements_in (form_of c.args.form.now) = omega (arith, all) in
    let few : statements (suite_of c.in-TryExcept.suite) + statements_under (clauses_of c.in-TryExcept.clauses) ≤ 1048575 = omega (arith, all, c.requires.few) in
    let fits = rw is at c.requires.fits in
    let nests = rw is at c.requires.nests in
    search rules

pub compile_form-compile_try_finally-requires : goal.compile_form-compile_try_finally-requires
compile_form-compile_try_finally-requires t c =
    let is = c.in-TryFinally.is in
    let all = ap (λ (f : StmtForm). statements_in (form_of f)) is in
    let smaller : 5 * (statements (suite_of c.in-TryFinally.suite) + statements (suite_of c.in-TryFinally.last)) + 3 < 5 * statements_in (form_of c.args.form.now) = omega (arith, all) in
    let few : statements (suite_of c.in-TryFinally.suite) + statements (suite_of c.in-TryFinally.last) ≤ 1048575 = omega (arith, all, c.requires.few) in
    let fits = rw is at c.requires.fits in
    let nests = rw is at c.requires.nests in
    search rules

pub compile_form-compile_with-requires : goal.compile_form-compile_with-requires
compile_form-compile_with-requires t c =
    let is = c.in-With.is in
    let all = ap (λ (f : StmtForm). statements_in (form_of f)) is in
    let smaller : 5 * statements (suite_of c.in-With.suite) + 3 < 5 * statements_in (form_of c.args.form.now) = omega (arith, all) in
    let few : parts (expr_of c.in-With.expr) + statements (suite_of c.in-With.suite) ≤ 1048575 = omega (arith, all, c.requires.few) in
    let fits = rw is at c.requires.fits in
    let nests = rw is at c.requires.nests in
    search rules

-- ---- branches

pub compile_form-returns-in-If-clause-code : goal.compile_form-returns-in-If-clause-code
compile_form-returns-in-If-clause-code t c = rw c.in-If.is c.compile_branch.ensures.code

pub compile_branch-size_of_suite-size-requires : goal.compile_branch-size_of_suite-size-requires
compile_branch-size_of_suite-size-requires t c =
    suite_most _ c.weights-weights.result c.args.self.now.labels c.args.self.now.others (is_inside (scope_of c.args.at.now.scope.now).around) (suite_of c.args.suite.now) c.weights-weights.ensures
    c.requires.low.0 c.requires.low.1
    c.requires.fits (omega (arith, c.requires.few))

pub compile_branch-returns-clause-code : goal.compile_branch-returns-clause-code
compile_branch-returns-clause-code t c =
    let old = draft_of c.args.self.now in
    let suite : Suite = suite_of c.args.suite.now in
    let sizes : c.size_of_suite-size.result ≡ size_suite c.weights-weights.result suite = c.size_of_suite-size.ensures.size in
    on_ok_weaker c.compile_suite.result (branch_emits (scope_of c.args.at.now.scope.now) c.args.at.now.line (expr_of c.args.expr.now) suite c.label-behind.result
    (c.label-behind.ensures ∙ (λ k. (end_of old + (c.size_of_expr-value.ensures.size k + c.weights-weights.result.jump + sizes k)) % 2 ^ 32)
    ∙ (λ k. (end_of old + size_form (c.weights-weights.ensures k) (If (expr_of c.args.expr.now) suite)) % 2 ^ 32))
    c.in_ok-compile_expr.ensures.code c.in_ok-put_jump.ensures.code) c.compile_suite.ensures.code

pub compile_if_else-size_of_suite-size-requires : goal.compile_if_else-size_of_suite-size-requires
compile_if_else-size_of_suite-size-requires t c =
    suite_most _ c.weights-weights.result c.args.self.now.labels c.args.self.now.others (is_inside (scope_of c.args.at.now.scope.now).around) (suite_of c.args.suite.now) c.weights-weights.ensures
    c.requires.low.0 c.requires.low.1
    c.requires.fits (omega (arith, c.requires.few))

pub compile_if_else-size_of_suite-size_other-requires : goal.compile_if_else-size_of_suite-size_other-requires
compile_if_else-size_of_suite-size_other-requires t c =
    suite_most _ c.weights-weights.result c.args.self.now.labels c.args.self.now.others (is_inside (scope_of c.args.at.now.scope.now).around) (suite_of c.args.other.now) c.weights-weights.ensures
    c.requires.low.0 c.requires.low.1
    c.requires.fits_other (omega (arith, c.requires.few))

pub compile_if_else-compile_suite-requires : goal.compile_if_else-compile_suite-requires
compile_if_else-compile_suite-requires t c =
    let suite : Suite = suite_of c.args.suite.now in
    let few : statements suite ≤ 1048576 = omega (arith, c.requires.few) in
    let smaller : 5 * statements suite + 1 < 5 * (statements suite + statements (suite_of c.args.other.now)) + 2 = omega arith in
    let labels : c.put_jump.new.self.labels ≤ 3 = subst (λ (w : ℕ). w ≤ 3) (sym (c.in_ok-put_jump.ensures.widths.0 ∙ c.in_ok-compile_expr.ensures.widths.0)) c.requires.low.0 in
    let others : c.put_jump.new.self.others ≤ 3 = subst (λ (w : ℕ). w ≤ 3) (sym (c.in_ok-put_jump.ensures.widths.1 ∙ c.in_ok-compile_expr.ensures.widths.1)) c.requires.low.1 in
    search rules

pub compile_if_else-compile_suite-requires-2 : goal.compile_if_else-compile_suite-requires-2
compile_if_else-compile_suite-requires-2 t c =
    let other : Suite = suite_of c.args.other.now in
    let few : statements other ≤ 1048576 = omega (arith, c.requires.few) in
    let smaller : 5 * statements other + 1 < 5 * (statements (suite_of c.args.suite.now) + statements other) + 2 = omega arith in
    let labels : c.put_jump-2.new.self.labels ≤ 3 =
    subst (λ (w : ℕ). w ≤ 3) (sym (c.in_ok-put_jump-2.ensures.widths.0 ∙ c.in_ok-compile_suite.ensures.widths.0 ∙ c.in_ok-put_jump.ensures.widths.0 ∙ c.in_ok-compile_expr.ensures.widths.0)) c.requires.low.0 in
    let others : c.put_jump-2.new.self.others ≤ 3 =
    subst (λ (w : ℕ). w ≤ 3) (sym (c.in_ok-put_jump-2.ensures.widths.1 ∙ c.in_ok-compile_suite.ensures.widths.1 ∙ c.in_ok-put_jump.ensures.widths.1 ∙ c.in_ok-compile_expr.ensures.widths.1)) c.requires.low.1 in
    search rules

pub compile_if_else-returns-clause-code : goal.compile_if_else-returns-clause-code
compile_if_else-returns-clause-code t c =
    let old = draft_of c.args.self.now in
    let suite : Suite = suite_of c.args.suite.now in
    let other : Suite = suite_of c.args.other.now in
    let w = c.weights-weights.result in
    let sizes : c.size_of_suite-size.result ≡ size_suite w suite = c.size_of_suite-size.ensures.size in
    let others : c.size_of_suite-size_other.result ≡ size_suite w other = c.size_of_suite-size_other.ensures.size in
    on_ok_weaker c.compile_suite-2.result (if_else_emits (scope_of c.args.at.now.scope.now) c.args.at.now.line (expr_of c.args.expr.now) suite other c.label-second.result c.label-behind.result
    (c.label-second.ensures ∙ (λ k. (end_of old + (c.size_of_expr-value.ensures.size k + w.jump + sizes k + w.jump)) % 2 ^ 32)
    ∙ (λ k. (end_of old + (size_expr (c.weights-weights.ensures k) (expr_of c.args.expr.now) + (c.weights-weights.ensures k).jump + size_suite (c.weights-weights.ensures k) suite + (c.weights-weights.ensures k).jump)) % 2 ^ 32))
    (c.label-behind.ensures ∙ (λ k. (end_of old + (c.size_of_expr-value.ensures.size k + w.jump + sizes k + w.jump + others k)) % 2 ^ 32)
    ∙ (λ k. (end_of old + size_form (c.weights-weights.ensures k) (IfElse (expr_of c.args.expr.now) suite other)) % 2 ^ 32))
    c.in_ok-compile_expr.ensures.code c.in_ok-put_jump.ensures.code c.in_ok-compile_suite.ensures.code c.in_ok-put_jump-2.ensures.code) c.compile_suite-2.ensures.code

-- ---- loops

pub compile_while-size_of_suite-size-requires : goal.compile_while-size_of_suite-size-requires
compile_while-size_of_suite-size-requires t c =
    suite_most _ c.weights-weights.result c.args.self.now.labels c.args.self.now.others _ (suite_of c.args.suite.now) c.weights-weights.ensures c.requires.low.0 c.requires.low.1 c.requires.fits
    (omega (arith, c.requires.few))

pub compile_rounds-compile_suite-requires : goal.compile_rounds-compile_suite-requires
compile_rounds-compile_suite-requires t c =
    let suite : Suite = suite_of c.args.suite.now in
    let few : statements suite ≤ 1048576 = omega (arith, c.requires.few) in
    let smaller : 5 * statements suite + 1 < 5 * statements suite + 2 = omega arith in
    let fits : SuiteIn (scope_of c.args.rounds.now.inner) suite = subst (λ (i : Scope). SuiteIn i suite) (sym c.requires.inner) c.requires.fits in
    let nests : SuiteNests c.args.rounds.now.inner.depth suite = subst (λ (i : Scope). SuiteNests i.depth suite) (sym c.requires.inner) c.requires.nests in
    let depth : c.args.rounds.now.inner.depth ≤ 1000 = subst (λ (i : Scope). i.depth ≤ 1000) (sym c.requires.inner) c.requires.depth in
    let labels : c.put_jump.new.self.labels ≤ 3 = subst (λ (w : ℕ). w ≤ 3) (sym (c.in_ok-put_jump.ensures.widths.0 ∙ c.in_ok-compile_expr.ensures.widths.0 ∙ c.in_ok-put_plain.ensures.widths.0)) c.requires.low.0 in
    let others : c.put_jump.new.self.others ≤ 3 = subst (λ (w : ℕ). w ≤ 3) (sym (c.in_ok-put_jump.ensures.widths.1 ∙ c.in_ok-compile_expr.ensures.widths.1 ∙ c.in_ok-put_plain.ensures.widths.1)) c.requires.low.1 in
    search rules

pub compile_rounds-returns-clause-code : goal.compile_rounds-returns-clause-code
compile_rounds-returns-clause-code t c =
    on_ok_weaker c.put_plain-2.result (while_emits (scope_of c.args.at.now.scope.now) (scope_of c.args.rounds.now.inner) c.args.at.now.line (expr_of c.args.expr.now) (suite_of c.args.suite.now) (labels_of c.args.rounds.now.labels) c.args.rounds.now.end c.requires.inner
    c.requires.again c.requires.stop
    c.requires.end c.in_ok-put_plain.ensures.code c.in_ok-compile_expr.ensures.code c.in_ok-put_jump.ensures.code c.in_ok-compile_suite.ensures.code c.in_ok-put_jump-2.ensures.code) c.put_plain-2.ensures.code

-- ---- tries with a finally

pub compile_opening-compile_suite-requires : goal.compile_opening-compile_suite-requires
compile_opening-compile_suite-requires t c =
    let suite : Suite = suite_of c.args.suite.now in
    let fits : SuiteIn (scope_of c.in_ok-before.before) suite = subst (λ (i : Scope). SuiteIn i suite) (sym c.in_ok-before.ensures) c.requires.fits in
    let nests : SuiteNests c.in_ok-before.before.depth suite = subst (λ (i : Scope). SuiteNests i.depth suite) (sym c.in_ok-before.ensures) c.requires.nests in
    let depth : c.in_ok-before.before.depth ≤ 1000 = subst (λ (i : Scope). i.depth ≤ 1000) (sym c.in_ok-before.ensures) c.requires.depth in
    let labels : c.put_jump.new.self.labels ≤ 3 = subst (λ (w : ℕ). w ≤ 3) (sym c.in_ok-put_jump.ensures.widths.0) c.requires.low.0 in
    let others : c.put_jump.new.self.others ≤ 3 = subst (λ (w : ℕ). w ≤ 3) (sym c.in_ok-put_jump.ensures.widths.1) c.requires.low.1 in
    search rules

pub compile_opening-returns-clause-code : goal.compile_opening-returns-clause-code
compile_opening-returns-clause-code t c =
    on_ok_weaker c.put_plain-2.result (opening_emits (scope_of c.args.at.now.scope.now) (scope_of c.in_ok-before.before) c.args.at.now.line (suite_of c.args.suite.now) c.args.handler c.in_ok-before.ensures c.in_ok-put_jump.ensures.code
    c.in_ok-compile_suite.ensures.code
    c.in_ok-put_plain.ensures.code) c.put_plain-2.ensures.code

pub compile_try_finally-compile_suite-requires : goal.compile_try_finally-compile_suite-requires
compile_try_finally-compile_suite-requires t c =
    let last : Suite = suite_of c.args.last.now in
    let few : statements last ≤ 1048576 = omega (arith, c.requires.few) in
    let smaller : 5 * statements last + 1 < 5 * (statements (suite_of c.args.suite.now) + statements last) + 3 = omega arith in
    let fits : SuiteIn (scope_of c.in_ok-within.within) last = subst (λ (i : Scope). SuiteIn i last) (sym c.in_ok-within.ensures) c.requires.fits_last in
    let nests : SuiteNests c.in_ok-within.within.depth last = subst (λ (i : Scope). SuiteNests i.depth last) (sym c.in_ok-within.ensures) c.requires.nests_last in
    let depth : c.in_ok-within.within.depth ≤ 1000 = subst (λ (i : Scope). i.depth ≤ 1000) (sym c.in_ok-within.ensures) c.requires.depth in
    let labels : c.compile_opening.new.self.labels ≤ 3 = subst (λ (w : ℕ). w ≤ 3) (sym c.in_ok-compile_opening.ensures.widths.0) c.requires.low.0 in
    let others : c.compile_opening.new.self.others ≤ 3 = subst (λ (w : ℕ). w ≤ 3) (sym c.in_ok-compile_opening.ensures.widths.1) c.requires.low.1 in
    search rules

pub compile_try_finally-returns-clause-code : goal.compile_try_finally-returns-clause-code
compile_try_finally-returns-clause-code t c =
    on_ok_weaker c.put_plain.result (try_finally_emits (scope_of c.args.at.now.scope.now) (scope_of c.in_ok-within.within) c.args.at.now.line (suite_of c.args.suite.now) (suite_of c.args.last.now) c.handler_label-handler.result
    c.in_ok-within.ensures
    c.handler_label-handler.ensures c.in_ok-compile_opening.ensures.code c.in_ok-compile_suite.ensures.code) c.put_plain.ensures.code

pub compile_handler-returns-in-None-clause-code : goal.compile_handler-returns-in-None-clause-code
compile_handler-returns-in-None-clause-code t c = rw c.in-None.is (on_ok_weaker c.compile_suite.result
    (plain_handler_emits c.args.self.now.labels (scope_of c.args.at.now.scope.now) c.args.at.now.line (suite_of c.args.suite.now)) c.compile_suite.ensures.code)

pub compile_forgetting-returns-clause-code : goal.compile_forgetting-returns-clause-code
compile_forgetting-returns-clause-code t c =
    on_ok_weaker c.put_plain.result (forgetting_emits (scope_of c.args.at.now.scope.now) (scope_of c.in_ok-within.within) c.args.at.now.line c.args.name.now (suite_of c.args.suite.now) c.handler_label-handler.result c.in_ok-within.ensures
    c.handler_label-handler.ensures c.in_ok-compile_opening.ensures.code c.in_ok-put_forget.ensures.code) c.put_plain.ensures.code

-- ---- managers

pub compile_managed-compile_suite-requires : goal.compile_managed-compile_suite-requires
compile_managed-compile_suite-requires t c =
    let suite : Suite = suite_of c.args.suite.now in
    let is : scope_of c.in_ok-before.before ≡ before_finally c.args.managed.now.handler (on (scope_of c.args.at.now.scope.now)) = c.in_ok-before.ensures ∙ ap (λ (i : Scope). before_finally c.args.managed.now.handler i) c.requires.inner in
    let few : statements suite ≤ 1048576 = omega (arith, c.requires.few) in
    let fits : SuiteIn (scope_of c.in_ok-before.before) suite = subst (λ (i : Scope). SuiteIn i suite) (sym is) c.requires.fits in
    let nests : SuiteNests c.in_ok-before.before.depth suite = subst (λ (i : Scope). SuiteNests i.depth suite) (sym is) c.requires.nests in
    let depth : c.in_ok-before.before.depth ≤ 1000 = omega (arith, ap (λ (i : Scope). i.depth) is, c.requires.room) in
    let labels : c.put_target.new.self.labels ≤ 3 = subst (λ (w : ℕ). w ≤ 3) (sym (c.in_ok-put_target.ensures.widths.0 ∙ c.in_ok-put_jump.ensures.widths.0 ∙ c.in_ok-compile_expr.ensures.widths.0)) c.requires.low.0 in
    let others : c.put_target.new.self.others ≤ 3 = subst (λ (w : ℕ). w ≤ 3) (sym (c.in_ok-put_target.ensures.widths.1 ∙ c.in_ok-put_jump.ensures.widths.1 ∙ c.in_ok-compile_expr.ensures.widths.1)) c.requires.low.1 in
    search rules

pub compile_managed-returns-clause-code : goal.compile_managed-returns-clause-code
compile_managed-returns-clause-code t c =
    on_ok_weaker c.put_plain-2.result (managed_emits (scope_of c.args.at.now.scope.now) (scope_of c.in_ok-before.before) c.args.at.now.line (expr_of c.args.managed.now.expr.now) c.args.managed.now.target.now (suite_of c.args.suite.now) c.args.managed.now.handler
    (c.in_ok-before.ensures ∙ ap (λ (i : Scope). before_finally c.args.managed.now.handler i) c.requires.inner) c.in_ok-compile_expr.ensures.code c.in_ok-put_jump.ensures.code c.in_ok-put_target.ensures.code
    c.in_ok-compile_suite.ensures.code c.in_ok-put_plain.ensures.code) c.put_plain-2.ensures.code

pub compile_with-returns-clause-code : goal.compile_with-returns-clause-code
compile_with-returns-clause-code t c =
    on_ok_weaker c.put_plain-2.result (with_emits (scope_of c.args.at.now.scope.now) (scope_of c.in_ok-within.within) c.args.at.now.line (expr_of c.args.expr.now) c.args.target.now (suite_of c.args.suite.now) c.exit_label-handler.result
    (c.in_ok-within.ensures ∙ ap (λ (i : Scope). in_finally i) c.in_ok-inner.ensures) c.exit_label-handler.ensures c.in_ok-compile_managed.ensures.code c.in_ok-put_plain.ensures.code) c.put_plain-2.ensures.code

-- ---- tries with clauses

pub compile_tried-compile_suite-requires : goal.compile_tried-compile_suite-requires
compile_tried-compile_suite-requires t c =
    let suite : Suite = suite_of c.args.suite.now in
    let fits : SuiteIn (scope_of c.in_ok-inner.inner) suite = subst (λ (i : Scope). SuiteIn i suite) (sym c.in_ok-inner.ensures) c.requires.fits in
    let nests : SuiteNests c.in_ok-inner.inner.depth suite = subst (λ (i : Scope). SuiteNests i.depth suite) (sym c.in_ok-inner.ensures) c.requires.nests in
    let depth : c.in_ok-inner.inner.depth ≤ 1000 = subst (λ (i : Scope). i.depth ≤ 1000) (sym c.in_ok-inner.ensures) c.requires.depth in
    let labels : c.put_jump.new.self.labels ≤ 3 = subst (λ (w : ℕ). w ≤ 3) (sym c.in_ok-put_jump.ensures.widths.0) c.requires.low.0 in
    let others : c.put_jump.new.self.others ≤ 3 = subst (λ (w : ℕ). w ≤ 3) (sym c.in_ok-put_jump.ensures.widths.1) c.requires.low.1 in
    search rules

pub compile_tried-returns-clause-code : goal.compile_tried-returns-clause-code
compile_tried-returns-clause-code t c =
    on_ok_weaker c.put_jump-2.result (tried_emits (scope_of c.args.at.now.scope.now) (scope_of c.in_ok-inner.inner) c.args.at.now.line (suite_of c.args.suite.now) c.args.handler c.args.end c.in_ok-inner.ensures c.in_ok-put_jump.ensures.code
    c.in_ok-compile_suite.ensures.code c.in_ok-put_plain.ensures.code) c.put_jump-2.ensures.code

pub compile_try_except-size_of_suite-size-requires : goal.compile_try_except-size_of_suite-size-requires
compile_try_except-size_of_suite-size-requires t c =
    suite_most _ c.weights-weights.result c.args.self.now.labels c.args.self.now.others (is_inside (scope_of c.args.at.now.scope.now).around) (suite_of c.args.suite.now) c.weights-weights.ensures
    c.requires.low.0 c.requires.low.1
    c.requires.fits (omega (arith, c.requires.few))

pub compile_try_except-size_of_clauses-size_clauses-requires : goal.compile_try_except-size_of_clauses-size_clauses-requires
compile_try_except-size_of_clauses-size_clauses-requires t c =
    clauses_most _ c.weights-weights.result c.args.self.now.labels c.args.self.now.others (is_inside (scope_of c.args.at.now.scope.now).around) (clauses_of c.args.clauses.now)
    c.weights-weights.ensures c.requires.low.0
    c.requires.low.1 c.requires.fits_clauses (omega (arith, c.requires.few))

pub compile_try_except-returns-clause-code : goal.compile_try_except-returns-clause-code
compile_try_except-returns-clause-code t c =
    let old = draft_of c.args.self.now in
    let suite : Suite = suite_of c.args.suite.now in
    let clauses : Clauses = clauses_of c.args.clauses.now in
    let w = c.weights-weights.result in
    let sizes : c.size_of_suite-size.result ≡ size_suite w suite = c.size_of_suite-size.ensures.size in
    let others : c.size_of_clauses-size_clauses.result ≡ size_clauses w clauses = c.size_of_clauses-size_clauses.ensures.size in
    on_ok_weaker c.put_raise.result (try_except_emits (scope_of c.args.at.now.scope.now) (scope_of c.in_ok-within.within) c.args.at.now.line suite clauses c.label-handler.result c.label-end.result c.in_ok-within.ensures
    (c.label-handler.ensures ∙ (λ k. (end_of old + (w.jump + sizes k + w.plain + w.jump)) % 2 ^ 32) ∙ (λ k. (end_of old + size_tried (c.weights-weights.ensures k) suite) % 2 ^ 32))
    (c.label-end.ensures ∙ (λ k. (end_of old + (w.jump + sizes k + w.plain + w.jump + others k + w.plain)) % 2 ^ 32)
    ∙ (λ k. (end_of old + size_form (c.weights-weights.ensures k) (TryExcept suite clauses)) % 2 ^ 32))
    c.in_ok-compile_tried.ensures.code c.in_ok-compile_clauses.ensures.code) c.put_raise.ensures.code

pub compile_clauses-loop-clause-init : goal.compile_clauses-loop-clause-init
compile_clauses-loop-clause-init t c = record { code = clauses_none c.args.self.now.labels (draft_of c.args.self.now) (scope_of c.args.scope.now) c.args.end; labels = refl; others = refl }

pub compile_clauses-clause_label-other-requires-clause-few : goal.compile_clauses-clause_label-other-requires-clause-few
compile_clauses-clause_label-other-requires-clause-few t c =
    let items = c.as_slice-clause-items.result.now in
    let one = clause_statements_at items c.loop-clause.clause-index c.clause-item.result c.loop-clause-test.true c.clause-item.is in
    let all : statements_under (clauses_of c.args.clauses.now) ≡ statements_under (list_clauses items) = ap statements_under c.as_slice-clause-items.ensures in
    omega (arith, one, all, c.requires.few)

pub compile_clauses-clause_label-other-requires-clause-fits : goal.compile_clauses-clause_label-other-requires-clause-fits
compile_clauses-clause_label-other-requires-clause-fits t c =
    let scope : Scope = scope_of c.args.scope.now in (
      scope.kind,
      is_inside scope.around,
      clause_fits_at scope.kind (is_inside scope.around) c.as_slice-clause-items.result.now c.loop-clause.clause-index c.clause-item.result c.loop-clause-test.true c.clause-item.is
          (subst (ClausesIn scope) c.as_slice-clause-items.ensures c.requires.fits),
    )

pub compile_clauses-compile_handler-requires : goal.compile_clauses-compile_handler-requires
compile_clauses-compile_handler-requires t c =
    let items = c.as_slice-clause-items.result.now in
    let suite : Suite = suite_of (out-Clause c.clause-item.result).suite in
    let one = clause_statements_at items c.loop-clause.clause-index c.clause-item.result c.loop-clause-test.true c.clause-item.is in
    let all : statements_under (clauses_of c.args.clauses.now) ≡ statements_under (list_clauses items) = ap statements_under c.as_slice-clause-items.ensures in
    let smaller : 5 * statements suite + 4 < 5 * statements_under (clauses_of c.args.clauses.now) + 2 = omega (arith, one, all) in
    let few : statements suite ≤ 1048574 = omega (arith, one, all, c.requires.few) in
    let scope : Scope = scope_of c.args.scope.now in
    let fits_outside : SuiteIn scope suite =
    clause_fits_at scope.kind (is_inside scope.around) items c.loop-clause.clause-index c.clause-item.result c.loop-clause-test.true c.clause-item.is
    (subst (ClausesIn scope) c.as_slice-clause-items.ensures c.requires.fits) in
    let fits : SuiteIn (scope_of c.args.within.now) suite = subst (λ (i : Scope). SuiteIn i suite) (sym c.requires.within) fits_outside in
    let nests_outside : SuiteNests scope.depth suite =
    clause_nests_at scope.depth items c.loop-clause.clause-index c.clause-item.result c.loop-clause-test.true c.clause-item.is (subst (ClausesNest scope.depth) c.as_slice-clause-items.ensures c.requires.nests) in
    let nests : SuiteNests c.args.within.now.depth suite = subst (λ (i : Scope). SuiteNests i.depth suite) (sym c.requires.within) nests_outside in
    let depth : c.args.within.now.depth ≤ 1000 = subst (λ (i : Scope). i.depth ≤ 1000) (sym c.requires.within) c.requires.depth in
    let labels : c.put_match.new.self.labels ≤ 3 = subst (λ (w : ℕ). w ≤ 3) (sym (c.in_ok-put_match.ensures.widths.0 ∙ c.loop-clause.invariant.labels)) c.requires.low.0 in
    let others : c.put_match.new.self.others ≤ 3 = subst (λ (w : ℕ). w ≤ 3) (sym (c.in_ok-put_match.ensures.widths.1 ∙ c.loop-clause.invariant.others)) c.requires.low.1 in
    search rules

pub compile_clauses-loop-clause-preserved : goal.compile_clauses-loop-clause-preserved
compile_clauses-loop-clause-preserved t c =
    let items = c.as_slice-clause-items.result.now in
    let i : ℕ = c.loop-clause.clause-index in
    let scope : Scope = scope_of c.args.scope.now in
    let one = out-Clause c.clause-item.result in
    record {
      code = subst (EmitsClauses c.args.self.now.labels (draft_of c.args.self.now) (draft_of c.put_jump.new.self) scope c.args.end)
          (sym (clauses_more items i c.clause-item.result c.loop-clause-test.true c.clause-item.is))
          (clauses_add scope c.args.end (list_clauses (take i items)) one.line one.class one.target (suite_of one.suite) c.loop-clause.invariant.code
          (clause_emits scope (scope_of c.args.within.now) one.line one.class one.target (suite_of one.suite) c.clause_label-other.result c.args.end c.requires.within c.clause_label-other.ensures
          c.in_ok-put_match.ensures.code c.in_ok-compile_handler.ensures.code c.in_ok-put_plain.ensures.code c.in_ok-put_jump.ensures.code));
      labels = c.in_ok-put_jump.ensures.widths.0 ∙ c.in_ok-put_plain.ensures.widths.0 ∙ c.in_ok-compile_handler.ensures.widths.0 ∙ c.in_ok-put_match.ensures.widths.0 ∙ c.loop-clause.invariant.labels;
      others = c.in_ok-put_jump.ensures.widths.1 ∙ c.in_ok-put_plain.ensures.widths.1 ∙ c.in_ok-compile_handler.ensures.widths.1 ∙ c.in_ok-put_match.ensures.widths.1 ∙ c.loop-clause.invariant.others;
    }

pub compile_clauses-returns-clause-code : goal.compile_clauses-returns-clause-code
compile_clauses-returns-clause-code t c =
    let items = c.as_slice-clause-items.result.now in
    let all : list_clauses (take c.loop-clause.clause-index items) ≡ clauses_of c.args.clauses.now = ap list_clauses (take_all c.loop-clause.clause-index items c.loop-clause-test.false) ∙ sym c.as_slice-clause-items.ensures in
    subst (EmitsClauses c.args.self.now.labels (draft_of c.args.self.now) (draft_of c.loop-clause.self) (scope_of c.args.scope.now) c.args.end) all c.loop-clause.invariant.code

pub compile_branch-size_of_expr-value-requires : goal.compile_branch-size_of_expr-value-requires
compile_branch-size_of_expr-value-requires t c =
    expr_most c.weights-weights.result c.args.self.now.labels c.args.self.now.others (expr_of c.args.expr.now) c.weights-weights.ensures c.requires.low.0 c.requires.low.1 (omega (arith, c.requires.few))

pub compile_if_else-size_of_expr-value-requires : goal.compile_if_else-size_of_expr-value-requires
compile_if_else-size_of_expr-value-requires t c =
    expr_most c.weights-weights.result c.args.self.now.labels c.args.self.now.others (expr_of c.args.expr.now) c.weights-weights.ensures c.requires.low.0 c.requires.low.1 (omega (arith, c.requires.few))

pub compile_while-size_of_expr-value-requires : goal.compile_while-size_of_expr-value-requires
compile_while-size_of_expr-value-requires t c =
    expr_most c.weights-weights.result c.args.self.now.labels c.args.self.now.others (expr_of c.args.expr.now) c.weights-weights.ensures c.requires.low.0 c.requires.low.1 (omega (arith, c.requires.few))
