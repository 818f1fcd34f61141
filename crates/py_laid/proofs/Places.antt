-- Laid code takes the places from one on up to another, in order: so handlers lie ahead of the bodies that they guard, and the
-- test of a loop lies behind each of its jumps.
use Rattle.std.proofs.Common.{◌≡◌, ◌+◌, ◌<◌, ◌≤◌, ℕ, List, [], ◌∷◌, Bool, true, false, cond, Some, drop, arith}
use Rattle.std.specs.Prelude.{Option, None}
use Rattle.py_code.specs.declared.code.Decoded.{Decoded}
use Rattle.py_code.specs.declared.instruction.Instruction.{Instruction}
use Rattle.py_code.specs.declared.literal.BuiltinFn.{BuiltinFn}
use Rattle.py_code.specs.declared.unit.CodeUnit.{CodeUnit}
use Rattle.py_code.specs.Units.{decoded_from, is_prefix, with_byte}
use Rattle.py_tree.specs.declared.expr.Atom.{Atom}
use Rattle.py_tree.specs.declared.expr.Atom.TheVariants as atom
use Rattle.py_laid.specs.Operators.{coding_of, callee_of}
use Rattle.py_tree.specs.Tree.{Name, Expr, Leaf, Operate, Exprs, no_operands, operand, Form, Assign, Do, Show, Return, Raise, Reraise, Break, Continue, Pass, If, IfElse, While, TryExcept, TryFinally, With, Suite, nothing, first, Clauses, no_more, clause}
use Rattle.py_laid.specs.Code.{Parts, Around, Scope, on, under, in_loop, in_try, in_clauses, in_finally, before_finally, Stands, LaidName, LaidAtom, LaidCallee, LaidExprs}
use Rattle.py_laid.specs.Code.{LaidExpr, LaidTarget, LaidBreak, LaidContinue, LaidForget, LaidFinally, LaidWith, LaidHandler, LaidForm, LaidSuite, LaidClauses}
use Rattle.py_laid.proofs.UnitLemmas.{decoded_is}

-- a unit lies in front of the place behind it
decoded_bound : (units : List CodeUnit) (prefix at : ℕ) (d : Decoded) → decoded_from prefix at units ≡ Some d → at < d.next
decoded_bound [] prefix at d is = absurd (cc)
decoded_bound (u ∷ us) prefix at d is = by (is_prefix u.op) is (decoded_bound us (with_byte prefix u.arg) (at + 1) d)
  where
    by : (b : Bool) → cond b (decoded_from (with_byte prefix u.arg) (at + 1) us) (Some (record { op = u.op; arg = record { 0 = with_byte prefix u.arg }; next = at + 1 })) ≡ Some d
        → (decoded_from (with_byte prefix u.arg) (at + 1) us ≡ Some d → at + 1 < d.next) → at < d.next
    by true is later = omega (arith, later is)
    by false is later = omega (arith, (decoded_is _ _ is).2)

module _ (parts : Parts) where
  -- so it is with each unit that stands at a place
  pub stands_bound : {scope : Scope} {line at arg next : ℕ} {op : Instruction} → Stands parts scope line at op arg next → at < next
  stands_bound {at = at} stands = decoded_bound (drop at parts.units) 0 at _ stands.decoded

  -- ---- expressions

  name_bound : (b : Bool) (scope : Scope) (line : ℕ) (x : Name) (at next : ℕ) → LaidName parts b scope line x at next → at < next
  name_bound true scope line x at next laid = stands_bound laid.0
  name_bound false scope line x at next laid = stands_bound laid.1

  pub atom_bound : (scope : Scope) (line : ℕ) (a : Atom) (at next : ℕ) → LaidAtom parts scope line a at next → at < next
  atom_bound scope line atom.None at next laid = stands_bound laid.1
  atom_bound scope line (atom.Bool b) at next laid = stands_bound laid.1
  atom_bound scope line (atom.Int n) at next laid = stands_bound laid.1
  atom_bound scope line (atom.Str s) at next laid = stands_bound laid.1
  atom_bound scope line (atom.Name x) at next laid = name_bound _ scope line x at next laid

  callee_bound : (fn : Option BuiltinFn) (scope : Scope) (line at next : ℕ) → LaidCallee parts fn scope line at next → at ≤ next
  callee_bound None scope line at next is = omega (arith, is)
  callee_bound (Some fn) scope line at next (i, stands, here) = omega (arith, stands_bound stands)

  mutual
    pub expr_bound : (e : Expr) (scope : Scope) (line at next : ℕ) → LaidExpr parts scope line e at next → at < next
    expr_bound (Leaf a) scope line at next laid = atom_bound scope line a at next laid
    expr_bound (Operate o es) scope line at next (begins, asks, fits, callee, all, stands) =
        omega (arith, callee_bound (callee_of (coding_of o)) scope line at begins callee, exprs_bound es (under (callee_of (coding_of o)) scope) line begins asks all, stands_bound stands)

    pub exprs_bound : (es : Exprs) (scope : Scope) (line at next : ℕ) → LaidExprs parts scope line es at next → at ≤ next
    exprs_bound no_operands scope line at next is = omega (arith, is)
    exprs_bound (operand e es) scope line at next (mid, one, rest) = omega (arith, expr_bound e scope line at mid one, exprs_bound es (on scope) line mid next rest)

  -- ---- statements

  pub target_bound : (scope : Scope) (line : ℕ) (x : Option Name) (at next : ℕ) → LaidTarget parts scope line x at next → at < next
  target_bound scope line None at next laid = stands_bound laid
  target_bound scope line (Some x) at next laid = stands_bound laid.0

  break_bound : (scope : Scope) (around : Around) (line at next : ℕ) → LaidBreak parts scope around line at next → at < next
  break_bound scope None line at next laid = absurd laid
  break_bound scope (Some l) line at next laid = stands_bound laid

  continue_bound : (scope : Scope) (around : Around) (line at next : ℕ) → LaidContinue parts scope around line at next → at < next
  continue_bound scope None line at next laid = absurd laid
  continue_bound scope (Some l) line at next laid = stands_bound laid

  pub forget_bound : (scope : Scope) (line : ℕ) (x : Name) (at next : ℕ) → LaidForget parts scope line x at next → at < next
  forget_bound scope line x at next (stores, deletes, loads, store, delete) = omega (arith, stands_bound loads.1, stands_bound store.0, stands_bound delete.0)

  -- the places of a try with a finally, where those of its two bodies are in order
  pub finally_bound : (scope : Scope) (line : ℕ) (body final : Scope → ℕ → ℕ → Type 0) (at next : ℕ) → ((within : Scope) (from to : ℕ) → body within from to → from ≤ to)
      → ((within : Scope) (from to : ℕ) → final within from to → from ≤ to) → LaidFinally parts scope line body final at next → at ≤ next
  finally_bound scope line body final at next inner outer (begins, leaves, enters, handler, ends, sets, suite, pops, enter, last, end) =
      omega (
        arith,
        stands_bound sets,
        inner (before_finally handler scope) begins leaves suite,
        stands_bound pops,
        stands_bound enter,
        outer (in_finally scope) handler ends last,
        stands_bound end,
      )

  pub handler_bound : (scope : Scope) (line : ℕ) (x : Option Name) (body : Scope → ℕ → ℕ → Type 0) (at next : ℕ) → ((within : Scope) (from to : ℕ) → body within from to → from ≤ to)
      → LaidHandler parts scope line x body at next → at ≤ next
  handler_bound scope line None body at next inner laid = inner scope at next laid
  handler_bound scope line (Some x) body at next inner laid =
      finally_bound scope line body (λ within handler ends. LaidForget parts within line x handler ends) at next inner
      (λ within from to forget. let low = forget_bound within line x from to forget in omega (arith, low)) laid

  -- the places of a with
  with_bound : (scope : Scope) (line : ℕ) (a : Expr) (x : Option Name) (body : Scope → ℕ → ℕ → Type 0) (at next : ℕ) → ((within : Scope) (from to : ℕ) → body within from to → from ≤ to)
      → LaidWith parts scope line a x body at next → at ≤ next
  with_bound scope line a x body at next inner (sets, binds, begins, leaves, enters, handler, ends, load, set_up, bind, suite, pops, enter, starts, finishes) =
      omega (
        arith,
        expr_bound a scope line at sets load,
        stands_bound set_up,
        target_bound (before_finally handler (on scope)) line x binds begins bind,
        inner (before_finally handler (on scope)) begins leaves suite,
        stands_bound pops,
        stands_bound enter,
        stands_bound starts,
        stands_bound finishes,
      )

  mutual
    -- statements, and suites and clauses
    pub form_bound : (scope : Scope) (f : Form) (line at next : ℕ) → LaidForm parts scope line f at next → at ≤ next
    form_bound scope (Assign x e) line at next (stores, loads, stands) = omega (arith, expr_bound e scope line at stores loads, target_bound scope line (Some x) stores next stands)
    form_bound scope (Do o es) line at next (drops, loads, stands) = omega (arith, expr_bound (Operate o es) scope line at drops loads, target_bound scope line None drops next stands)
    form_bound scope (Show a) line at next (asks, loads, stands) = omega (arith, expr_bound a scope line at asks loads, stands_bound stands)
    form_bound scope (Return a) line at next (asks, loads, stands) = omega (arith, expr_bound a scope line at asks loads, stands_bound stands)
    form_bound scope (Raise a) line at next (asks, loads, stands) = omega (arith, expr_bound a scope line at asks loads, stands_bound stands)
    form_bound scope Reraise line at next laid = let low = stands_bound laid in omega (arith, low)
    form_bound scope Break line at next laid = let low = break_bound scope scope.around line at next laid in omega (arith, low)
    form_bound scope Continue line at next laid = let low = continue_bound scope scope.around line at next laid in omega (arith, low)
    form_bound scope Pass line at next same = omega (arith, same)
    form_bound scope (If a s) line at next (asks, begins, loads, jumps, suite) = omega (arith, expr_bound a scope line at asks loads, stands_bound jumps, suite_bound scope s begins next suite)
    form_bound scope (IfElse a s t) line at next (asks, begins, leaves, other, loads, jumps, suite, leave, rest) =
        omega (arith, expr_bound a scope line at asks loads, stands_bound jumps, suite_bound scope s begins leaves suite, stands_bound leave, suite_bound scope t other next rest)
    form_bound scope (While a s) line at next (tests, asks, begins, repeats, ends, sets, loads, jumps, suite, repeat, pops) =
        omega (
          arith,
          stands_bound sets,
          expr_bound a (in_loop (record { stop = next; again = tests }) scope) line tests asks loads,
          stands_bound jumps,
          suite_bound (in_loop (record { stop = next; again = tests }) scope) s begins repeats suite,
          stands_bound repeat,
          stands_bound pops,
        )
    form_bound scope (TryExcept s cs) line at next (begins, leaves, jumps, handler, sets, suite, pops, jump, clauses) =
        omega (arith, stands_bound sets, suite_bound (in_try handler scope) s begins leaves suite, stands_bound pops, stands_bound jump, clauses_bound scope line cs handler next clauses)
    form_bound scope (TryFinally s t) line at next laid =
        finally_bound scope line (λ within begins leaves. LaidSuite parts within s begins leaves) (λ within handler ends. LaidSuite parts within t handler ends) at next
        (λ within from to suite. suite_bound within s from to suite) (λ within from to suite. suite_bound within t from to suite) laid
    form_bound scope (With a x s) line at next laid =
        with_bound scope line a x (λ within begins leaves. LaidSuite parts within s begins leaves) at next (λ within from to suite. suite_bound within s from to suite) laid

    pub suite_bound : (scope : Scope) (s : Suite) (at next : ℕ) → LaidSuite parts scope s at next → at ≤ next
    suite_bound scope nothing at next same = omega (arith, same)
    suite_bound scope (first n f more) at next (mid, one, rest) = omega (arith, form_bound scope f n at mid one, suite_bound scope more mid next rest)

    pub clauses_bound : (scope : Scope) (line : ℕ) (cs : Clauses) (at next : ℕ) → LaidClauses parts scope line cs at next → at ≤ next
    clauses_bound scope line no_more at next laid = let low = stands_bound laid in omega (arith, low)
    clauses_bound scope line (clause n c x s more) at next (loads, asks, decides, binds, begins, leaves, jumps, other, duplicate, load, match, decide, bind, suite, pops, jump, rest) =
        omega (
          arith,
          stands_bound duplicate,
          atom_bound (on (on (in_clauses scope))) n (atom.Name c) loads asks load,
          stands_bound match,
          stands_bound decide,
          target_bound (in_clauses scope) n x binds begins bind,
          handler_bound (in_clauses scope) n x (λ within from to. LaidSuite parts within s from to) begins leaves (λ within from to laid. suite_bound within s from to laid) suite,
          stands_bound pops,
          stands_bound jump,
          clauses_bound scope line more other next rest,
        )
