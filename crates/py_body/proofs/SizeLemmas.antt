-- No code is longer than a number that its statements bound.
use Rattle.std.proofs.Common.{◌≡◌, ◌<◌, ◌≤◌, ◌+◌, ◌*◌, ◌^◌, ℕ, zero, suc, Bool, false, ap, sym, ◌∙◌, subst, arith}
use Rattle.std.specs.Prelude.{Option, Some, None}
use Rattle.py_tree.specs.declared.body.BodyKind.{BodyKind}
use Rattle.py_code.specs.declared.literal.BuiltinFn.{BuiltinFn}
use Rattle.py_laid.specs.Operators.{coding_of, callee_of}
use Rattle.py_tree.specs.Tree.{Name, Expr, Leaf, Operate, Exprs, no_operands, operand, Form, Assign, Do, Show, Return, Raise, Reraise, Break, Continue, Pass, If, IfElse, While, TryExcept, TryFinally, With, Suite, nothing, first, Clauses, no_more, clause}
use Rattle.py_body.specs.declared.sizes.Weights.{Weights}
use Rattle.py_tree.specs.Compilable.{FormFits, SuiteFits, ClausesFit, parts, all_parts, statements, statements_in, statements_under}
use Rattle.py_body.specs.Sizes.{weights, most_units, size_body, size_callee, size_clause, size_clauses, size_expr, size_exprs, size_form, size_suite, size_with}

-- an instruction takes few units
pub record AreFew (w : Weights) : Type 0 where
  pub jump : w.jump ≤ 4
  pub index : w.index ≤ 4
  pub plain : w.plain ≤ 1

-- an atom takes at most four units, and an operator five of its own
callee_size : (w : Weights) → AreFew w → (fn : Option BuiltinFn) → size_callee w fn ≤ 4
callee_size w few None = omega arith
callee_size w few (Some fn) = few.index

mutual
  expr_size : (w : Weights) → AreFew w → (e : Expr) → size_expr w e ≤ 40 * parts e
  expr_size w few (Leaf a) = omega (arith, few.index)
  expr_size w few (Operate o es) = omega (arith, callee_size w few (callee_of (coding_of o)), exprs_size w few es, few.plain)

  exprs_size : (w : Weights) → AreFew w → (es : Exprs) → size_exprs w es ≤ 40 * all_parts es
  exprs_size w few no_operands = omega arith
  exprs_size w few (operand e es) = omega (arith, expr_size w few e, exprs_size w few es)

-- an expression that stands in a statement
pub expr_most : (w : Weights) (labels others : ℕ) (e : Expr) → w ≡ weights labels others → labels ≤ 3 → others ≤ 3 → parts e ≤ 1048576 → size_expr w e ≤ most_units
expr_most w labels others e is low_labels low_others few =
    let most = expr_size (weights labels others) (record { jump = omega (arith, low_labels); index = omega (arith, low_others); plain = omega arith }) e in
    subst (λ (v : Weights). size_expr v e ≤ most_units) (sym is) (omega (arith, most, few))

-- a clause without its suite
clause_size : (w : Weights) → AreFew w → (x : Option Name) (body : ℕ) → size_clause w x body ≤ body + 40
clause_size w few None body = omega (arith, few.jump, few.index, few.plain)
clause_size w few (Some x) body = omega (arith, few.jump, few.index, few.plain)

-- a with without its suite
with_size : (w : Weights) → AreFew w → (a : Expr) (x : Option Name) (body : ℕ) → size_with w a x body ≤ size_expr w a + body + 40
with_size w few a None body = omega (arith, few.jump, few.index, few.plain)
with_size w few a (Some x) body = omega (arith, few.jump, few.index, few.plain)

mutual
  -- a statement takes at most 40 units of its own
  form_size : (kind : BodyKind) (w : Weights) → AreFew w → (in_loop : Bool) (f : Form) → FormFits kind in_loop f → size_form w f ≤ 40 * statements_in f
  form_size kind w few in_loop (Assign x e) fits = let value = expr_size w few e in omega (arith, few.index, value)
  form_size kind w few in_loop (Do o es) fits = let value = expr_size w few (Operate o es) in omega (arith, few.plain, value)
  form_size kind w few in_loop (Show a) fits = omega (arith, expr_size w few a, few.plain)
  form_size kind w few in_loop (Return a) fits = omega (arith, expr_size w few a, few.plain)
  form_size kind w few in_loop (Raise a) fits = omega (arith, expr_size w few a, few.plain)
  form_size kind w few in_loop Reraise fits = omega (arith, few.plain)
  form_size kind w few in_loop Break fits = omega (arith, few.jump)
  form_size kind w few in_loop Continue fits = omega (arith, few.jump)
  form_size kind w few in_loop Pass fits = omega arith
  form_size kind w few in_loop (If a s) fits = let body = suite_size kind w few in_loop s fits.1 in omega (arith, few.jump, expr_size w few a, body)
  form_size kind w few in_loop (IfElse a s t) fits =
      let body = suite_size kind w few in_loop s fits.1 in
      let other = suite_size kind w few in_loop t fits.2 in
      omega (arith, few.jump, expr_size w few a, body, other)
  form_size kind w few in_loop (While a s) fits = let body = suite_size kind w few _ s fits.1 in omega (arith, few.jump, expr_size w few a, few.plain, body)
  form_size kind w few in_loop (TryExcept s cs) fits =
      let body = suite_size kind w few in_loop s fits.0 in
      let clauses = clauses_size kind w few in_loop cs fits.1 in
      omega (arith, few.jump, few.plain, body, clauses)
  form_size kind w few in_loop (TryFinally s t) fits =
      let body = suite_size kind w few in_loop s fits.0 in
      let last = suite_size kind w few in_loop t fits.1 in
      omega (arith, few.jump, few.plain, body, last)
  form_size kind w few in_loop (With a x s) fits =
      let body = suite_size kind w few in_loop s fits.1 in
      let whole = with_size w few a x (size_suite w s) in
      omega (arith, body, whole, expr_size w few a)

  pub suite_size : (kind : BodyKind) (w : Weights) → AreFew w → (in_loop : Bool) (s : Suite) → SuiteFits kind in_loop s → size_suite w s ≤ 40 * statements s
  suite_size kind w few in_loop nothing fits = omega arith
  suite_size kind w few in_loop (first n f more) fits =
      let one = form_size kind w few in_loop f fits.0 in
      let rest = suite_size kind w few in_loop more fits.1 in
      omega (arith, one, rest)

  pub clauses_size : (kind : BodyKind) (w : Weights) → AreFew w → (in_loop : Bool) (cs : Clauses) → ClausesFit kind in_loop cs → size_clauses w cs ≤ 40 * statements_under cs
  clauses_size kind w few in_loop no_more fits = omega arith
  clauses_size kind w few in_loop (clause n c x s more) fits =
      let body = suite_size kind w few in_loop s fits.0 in
      let one = clause_size w few x (size_suite w s) in
      let rest = clauses_size kind w few in_loop more fits.1 in
      omega (arith, body, one, rest)

-- ---- what fits a number

pub few_weights : (labels others : ℕ) → labels ≤ 3 → others ≤ 3 → AreFew (weights labels others)
few_weights labels others low_labels low_others = record { jump = omega (arith, low_labels); index = omega (arith, low_others); plain = omega arith }

-- statements that can be compiled
pub suite_most : (kind : BodyKind) (w : Weights) (labels others : ℕ) (in_loop : Bool) (s : Suite) → w ≡ weights labels others → labels ≤ 3 → others ≤ 3 → SuiteFits kind in_loop s → statements s ≤ 1048576
    → size_suite w s ≤ most_units
suite_most kind w labels others in_loop s is low_labels low_others fits few =
    let most = suite_size kind (weights labels others) (few_weights labels others low_labels low_others) in_loop s fits in
    subst (λ (v : Weights). size_suite v s ≤ most_units) (sym is) (omega (arith, most, few))

-- clauses that can be compiled
pub clauses_most : (kind : BodyKind) (w : Weights) (labels others : ℕ) (in_loop : Bool) (cs : Clauses) → w ≡ weights labels others → labels ≤ 3 → others ≤ 3 → ClausesFit kind in_loop cs
    → statements_under cs ≤ 1048576 → size_clauses w cs ≤ most_units
clauses_most kind w labels others in_loop cs is low_labels low_others fits few =
    let most = clauses_size kind (weights labels others) (few_weights labels others low_labels low_others) in_loop cs fits in
    subst (λ (v : Weights). size_clauses v cs ≤ most_units) (sym is) (omega (arith, most, few))

-- a clause whose suite can be compiled
pub clause_most : (kind : BodyKind) (w : Weights) (labels others : ℕ) (in_loop : Bool) (x : Option Name) (s : Suite) (body : ℕ) → w ≡ weights labels others → labels ≤ 3 → others ≤ 3 → SuiteFits kind in_loop s
    → statements s ≤ 1048574
    → body ≡ size_suite w s → size_clause w x body ≤ most_units
clause_most kind w labels others in_loop x s body is low_labels low_others fits few body_is =
    let v : Weights = weights labels others in
    let most = suite_size kind v (few_weights labels others low_labels low_others) in_loop s fits in
    let one = clause_size v (few_weights labels others low_labels low_others) x (size_suite v s) in
    let same : size_clause w x body ≡ size_clause v x (size_suite v s) = (ap (λ (n : ℕ). size_clause w x n) body_is) ∙ (λ k. size_clause (is k) x (size_suite (is k) s)) in
    omega (arith, same, one, most, few)

-- ---- widths

-- what fits fewer bytes fits more
pub wider : (narrow wide n : ℕ) → narrow ≤ wide → wide ≤ 3 → n ≤ 256 ^ suc narrow → n ≤ 256 ^ suc wide
wider narrow wide n less low fits = by narrow wide fits less low
  where
    by : (a b : ℕ) → n ≤ 256 ^ suc a → a ≤ b → b ≤ 3 → n ≤ 256 ^ suc b
    by zero zero fits less low = omega (arith, fits)
    by zero (suc zero) fits less low = omega (arith, fits)
    by zero (suc (suc zero)) fits less low = omega (arith, fits)
    by zero (suc (suc (suc zero))) fits less low = omega (arith, fits)
    by (suc zero) zero fits less low = absurd (omega (arith, less))
    by (suc zero) (suc zero) fits less low = omega (arith, fits)
    by (suc zero) (suc (suc zero)) fits less low = omega (arith, fits)
    by (suc zero) (suc (suc (suc zero))) fits less low = omega (arith, fits)
    by (suc (suc zero)) zero fits less low = absurd (omega (arith, less))
    by (suc (suc zero)) (suc zero) fits less low = absurd (omega (arith, less))
    by (suc (suc zero)) (suc (suc zero)) fits less low = omega (arith, fits)
    by (suc (suc zero)) (suc (suc (suc zero))) fits less low = omega (arith, fits)
    by (suc (suc (suc a))) zero fits less low = absurd (omega (arith, less))
    by (suc (suc (suc a))) (suc zero) fits less low = absurd (omega (arith, less))
    by (suc (suc (suc a))) (suc (suc zero)) fits less low = absurd (omega (arith, less))
    by (suc (suc (suc zero))) (suc (suc (suc zero))) fits less low = omega (arith, fits)
    by (suc (suc (suc (suc a)))) (suc (suc (suc zero))) fits less low = absurd (omega (arith, less))
    by a (suc (suc (suc (suc b)))) fits less low = absurd (omega (arith, low))

-- a body that can be compiled has room for its labels where they have four bytes
pub body_fits : (kind : BodyKind) (others : ℕ) (s : Suite) → others ≤ 3 → SuiteFits kind false s → statements s ≤ 1048576 → size_body (weights 3 others) s < 256 ^ 4
body_fits kind others s low fits few =
    let most = suite_size kind (weights 3 others) (few_weights 3 others (omega arith) low) false s fits in
    omega (arith, most, few, low)
