-- The code of bodies has units of certain instructions only: prefixes with the instruction behind them, then expressions,
-- statements, suites and clauses.
use Rattle.std.proofs.Common.{◌≡◌, ◌≢◌, ◌<◌, ◌≤◌, ◌+◌, ⊎_elim, ℕ, suc, List, [], ◌∷◌, Bool, true, false, cond, Some, None, refl, sym, ap, ◌∙◌, subst, length, drop, arith, add-one}
use Rattle.std.specs.Prelude.{Option, ◌%◌, slice_get, bytes_eq}
use Rattle.std.specs.List.{list_any}
use Rattle.std.proofs.lemmas.Bool.{cases_lt}
use Rattle.std.proofs.lemmas.Option.{slice_get_within}
use Rattle.py_code.specs.declared.instruction.Instruction.{Instruction}
use Rattle.py_code.specs.declared.instruction.Instruction.TheVariants as instruction
use Rattle.py_code.specs.declared.literal.BuiltinFn.{BuiltinFn}
use Rattle.py_code.specs.declared.operator.RaiseKind.TheVariants as raise
use Rattle.py_code.specs.declared.unit.CodeUnit.{CodeUnit}
use Rattle.py_code.specs.Operators.{test_operators}
use Rattle.py_code.specs.Units.{decoded_from, is_prefix, with_byte}
use Rattle.py_rows.specs.Questions.{raise_of}
use Rattle.py_rows.proofs.AskingLemmas.{same_raise}
use Rattle.py_tree.specs.declared.expr.Atom.{Atom}
use Rattle.py_tree.specs.declared.expr.Atom.TheVariants as atom
use Rattle.py_tree.specs.declared.expr.Operator.{Operator}
use Rattle.py_tree.specs.declared.expr.Operator.TheVariants as operator
use Rattle.py_tree.specs.Compilable.{operands}
use Rattle.py_laid.specs.Operators.{coding_of, callee_of, instruction_of, argument_of}
use Rattle.py_tree.specs.Tree.{Name, Expr, Leaf, Operate, Exprs, no_operands, operand, Form, Assign, Do, Show, Return, Raise, Reraise, Break, Continue, Pass, If, IfElse, While, TryExcept, TryFinally, With, Suite, nothing, first, Clauses, no_more, clause, Tree}
use Rattle.py_tree.specs.Binding.{locals_of}
use Rattle.py_laid.specs.Code.{Parts, Around, Scope, on, over, under, in_loop, in_try, in_clauses, before_finally, in_finally, Stands, LaidName, LaidAtom, LaidCallee, LaidExpr, LaidExprs, LaidTaken, LaidTarget}
use Rattle.py_laid.specs.Code.{LaidBreak, LaidContinue, LaidForget, LaidFinally, LaidWith, LaidHandler, LaidForm, LaidSuite, LaidClauses, LaidBody, parts_with}
use Rattle.py_laid.specs.Instructions.{is_compiled_raise, test_of, is_compiled_test, is_compiled}
use Rattle.py_laid.specs.Laws.{LaidCodeIsCompiled}
use Rattle.py_laid.proofs.UnitLemmas.{slice_get-drop, Some-injective, prefix_is, decoded_is, decoded_as}

-- prefixes change nothing of which test a unit is
same_test : (state arg : ℕ) → test_of (with_byte state arg) ≡ test_of arg
same_test state arg = let low : with_byte state arg % 256 ≡ arg % 256 = omega arith in ap (slice_get test_operators) low

-- prefixes change nothing of whether such a unit is one of these
same_use : (op : Instruction) (state arg : ℕ) → is_compiled op arg ≡ is_compiled op (with_byte state arg)
same_use instruction.Raise state arg = ap is_compiled_raise (sym (same_raise state arg))
same_use instruction.TestOperation state arg = ap is_compiled_test (sym (same_test state arg))
same_use _ state arg = refl

-- a raise of a body has no cause
pub compiled_raise : (arg : ℕ) → is_compiled instruction.Raise arg ≡ true → raise_of arg ≢ Some raise.RaiseCause
compiled_raise arg used cause = let clash : false ≡ true = sym (ap is_compiled_raise cause) ∙ used in cc clash

module _ (parts : Parts) where
  -- each unit from one place up to another is of such an instruction
  abbrev Uses : ℕ → ℕ → Type 0
  Uses at next = (k : ℕ) → at ≤ k → k < next → (u : CodeUnit) → slice_get parts.units k ≡ Some u → is_compiled u.op u.arg ≡ true

  -- no unit, one unit, and units behind units
  uses_none : (at next : ℕ) → next ≡ at → Uses at next
  uses_none at next is_at k low high u here = absurd (omega (arith, is_at, low, high))

  uses_one : (at : ℕ) (u : CodeUnit) → slice_get parts.units at ≡ Some u → is_compiled u.op u.arg ≡ true → Uses at (suc at)
  uses_one at u here used k low high v there =
      let same : at ≡ k = omega (arith, low, high) in
      let is : u ≡ v = Some-injective u v (sym here ∙ ap (slice_get parts.units) same ∙ there) in
      subst (λ (w : CodeUnit). is_compiled w.op w.arg ≡ true) is used

  uses_then : (at mid next : ℕ) → Uses at mid → Uses mid next → Uses at next
  uses_then at mid next front rest k low high = ⊎_elim (λ less. front k low less) (λ more. rest k more high) (cases_lt k mid)

  -- ---- what stands at a place

  -- an instruction with its prefixes
  decoded_uses : (left : List CodeUnit) (at state arg next : ℕ) (op : Instruction) → drop at parts.units ≡ left → decoded_from state at left ≡ decoded_as op arg next
      → is_compiled op arg ≡ true → Uses at next
  decoded_uses [] at state arg next op here d used = absurd (cc)
  decoded_uses (u ∷ us) at state arg next op here d used =
      by (is_prefix u.op) refl d (λ more. decoded_uses us (suc at) (with_byte state u.arg) arg next op first_unit.1 more used)
    where
      first_unit : (slice_get parts.units at ≡ Some u) × (drop (suc at) parts.units ≡ us)
      first_unit = slice_get-drop parts.units at u us here

      by : (b : Bool) → is_prefix u.op ≡ b
          → cond b (decoded_from (with_byte state u.arg) (at + 1) us) (decoded_as u.op (with_byte state u.arg) (at + 1)) ≡ decoded_as op arg next
          → (decoded_from (with_byte state u.arg) (suc at) us ≡ decoded_as op arg next → Uses (suc at) next) → Uses at next
      by true prefixed d later =
          let place : at + 1 ≡ suc at = add-one at in
          uses_then at (suc at) next (uses_one at u first_unit.0 (ap (λ (o : Instruction). is_compiled o u.arg) (prefix_is u.op prefixed))) (later (rw place at d))
      by false plain d later =
          let (is_op, is_arg, is_next) = decoded_is _ _ d in
          subst (Uses at) (sym (add-one at) ∙ is_next) (uses_one at u first_unit.0 (same_use u.op state u.arg ∙ ap (is_compiled u.op) is_arg ∙ ap (λ (o : Instruction). is_compiled o arg) is_op ∙ used))

  stands_uses : (scope : Scope) (line at arg next : ℕ) (op : Instruction) → Stands parts scope line at op arg next → is_compiled op arg ≡ true → Uses at next
  stands_uses scope line at arg next op stands used = decoded_uses (drop at parts.units) at 0 arg next op refl stands.decoded used

  -- ---- expressions

  name_uses : (local : Bool) (scope : Scope) (line : ℕ) (x : Name) (at next : ℕ) → LaidName parts local scope line x at next → Uses at next
  name_uses true scope line x at next (stands, below) = stands_uses scope line at _ next _ stands refl
  name_uses false scope line x at next (i, stands, here) = stands_uses scope line at i next _ stands refl

  atom_uses : (scope : Scope) (line : ℕ) (a : Atom) (at next : ℕ) → LaidAtom parts scope line a at next → Uses at next
  atom_uses scope line atom.None at next (i, stands, here) = stands_uses scope line at i next _ stands refl
  atom_uses scope line (atom.Bool b) at next (i, stands, here) = stands_uses scope line at i next _ stands refl
  atom_uses scope line (atom.Int n) at next (i, stands, here) = stands_uses scope line at i next _ stands refl
  atom_uses scope line (atom.Str s) at next (i, stands, here) = stands_uses scope line at i next _ stands refl
  atom_uses scope line (atom.Name x) at next laid = name_uses (list_any (bytes_eq x) parts.vars) scope line x at next laid

  callee_uses : (fn : Option BuiltinFn) (scope : Scope) (line at next : ℕ) → LaidCallee parts fn scope line at next → Uses at next
  callee_uses None scope line at next is_at = uses_none at next is_at
  callee_uses (Some fn) scope line at next (i, stands, here) = stands_uses scope line at i next _ stands refl

  -- the unit of an operator
  operator_uses : (o : Operator) (n : ℕ) → is_compiled (instruction_of (coding_of o)) (argument_of (coding_of o) n) ≡ true
  operator_uses operator.Send n = refl
  operator_uses o n = refl

  mutual
    expr_uses : (e : Expr) (scope : Scope) (line at next : ℕ) → LaidExpr parts scope line e at next → Uses at next
    expr_uses (Leaf a) scope line at next laid = atom_uses scope line a at next laid
    expr_uses (Operate o es) scope line at next (begins, asks, fits, callee, all, stands) =
        uses_then at begins next (callee_uses (callee_of (coding_of o)) scope line at begins callee)
        (uses_then begins asks next (exprs_uses es (under (callee_of (coding_of o)) scope) line begins asks all) (stands_uses _ line asks _ next _ stands (operator_uses o (operands es))))

    exprs_uses : (es : Exprs) (scope : Scope) (line at next : ℕ) → LaidExprs parts scope line es at next → Uses at next
    exprs_uses no_operands scope line at next is_at = uses_none at next is_at
    exprs_uses (operand e es) scope line at next (mid, one, rest) = uses_then at mid next (expr_uses e scope line at mid one) (exprs_uses es (on scope) line mid next rest)

  -- an expression, and the unit that takes it
  taken_uses : (scope : Scope) (line : ℕ) (e : Expr) (op : Instruction) (arg at next : ℕ) → is_compiled op arg ≡ true → LaidTaken parts scope line e op arg at next → Uses at next
  taken_uses scope line e op arg at next used (asks, laid, stands) = uses_then at asks next (expr_uses e scope line at asks laid) (stands_uses (on scope) line asks arg next op stands used)

  -- ---- statements

  target_uses : (scope : Scope) (line : ℕ) (x : Option Name) (at next : ℕ) → LaidTarget parts scope line x at next → Uses at next
  target_uses scope line None at next stands = stands_uses _ line at 0 next _ stands refl
  target_uses scope line (Some x) at next (stands, below) = stands_uses _ line at _ next _ stands refl

  break_uses : (around : Around) (scope : Scope) (line at next : ℕ) → LaidBreak parts scope around line at next → Uses at next
  break_uses None scope line at next laid = absurd laid
  break_uses (Some l) scope line at next stands = stands_uses scope line at l.stop next _ stands refl

  continue_uses : (around : Around) (scope : Scope) (line at next : ℕ) → LaidContinue parts scope around line at next → Uses at next
  continue_uses None scope line at next laid = absurd laid
  continue_uses (Some l) scope line at next stands = stands_uses scope line at l.again next _ stands refl

  -- a local is unset
  forget_uses : (scope : Scope) (line : ℕ) (x : Name) (at next : ℕ) → LaidForget parts scope line x at next → Uses at next
  forget_uses scope line x at next (stores, deletes, (i, load, here), (store, below), (delete, below_too)) =
      uses_then at stores next (stands_uses scope line at i stores _ load refl)
      (uses_then stores deletes next (stands_uses (on scope) line stores _ deletes _ store refl) (stands_uses scope line deletes _ next _ delete refl))

  -- a body and its finally, where the code of both is such
  finally_uses : (scope : Scope) (line : ℕ) (body final : Scope → ℕ → ℕ → Type 0) (at next : ℕ)
      → ((within : Scope) (from to : ℕ) → body within from to → Uses from to) → ((within : Scope) (from to : ℕ) → final within from to → Uses from to)
      → LaidFinally parts scope line body final at next → Uses at next
  finally_uses scope line body final at next body_used final_used (begins, leaves, enters, handler, ends, sets, first_part, pops, enter, second_part, done) =
      uses_then at begins next (stands_uses scope line at handler begins _ sets refl)
      (uses_then begins leaves next (body_used (before_finally handler scope) begins leaves first_part)
      (uses_then leaves enters next (stands_uses (before_finally handler scope) line leaves 0 enters _ pops refl)
      (uses_then enters handler next (stands_uses scope line enters 0 handler _ enter refl)
      (uses_then handler ends next (final_used (in_finally scope) handler ends second_part) (stands_uses (in_finally scope) line ends 0 next _ done refl)))))

  -- the suite of a clause, where its code is such
  handler_uses : (scope : Scope) (line : ℕ) (x : Option Name) (suite : Scope → ℕ → ℕ → Type 0) (at next : ℕ)
      → ((within : Scope) (from to : ℕ) → suite within from to → Uses from to) → LaidHandler parts scope line x suite at next → Uses at next
  handler_uses scope line None suite at next used laid = used scope at next laid
  handler_uses scope line (Some x) suite at next used laid =
      finally_uses scope line suite (λ within handler ends. LaidForget parts within line x handler ends) at next used (λ within from to. forget_uses within line x from to) laid

  -- a with, where the code of its body is such
  with_uses : (scope : Scope) (line : ℕ) (a : Expr) (x : Option Name) (body : Scope → ℕ → ℕ → Type 0) (at next : ℕ)
      → ((within : Scope) (from to : ℕ) → body within from to → Uses from to) → LaidWith parts scope line a x body at next → Uses at next
  with_uses scope line a x body at next used (sets, binds, begins, leaves, enters, handler, ends, load, set_up, bind, suite, pops, enter, starts, finishes) =
      let within : Scope = before_finally handler (on scope) in
      uses_then at sets next (expr_uses a scope line at sets load)
      (uses_then sets binds next (stands_uses (on scope) line sets handler binds _ set_up refl)
      (uses_then binds begins next (target_uses within line x binds begins bind)
      (uses_then begins leaves next (used within begins leaves suite)
      (uses_then leaves enters next (stands_uses within line leaves 0 enters _ pops refl)
      (uses_then enters handler next (stands_uses (on scope) line enters 0 handler _ enter refl)
      (uses_then handler ends next (stands_uses (in_finally (on scope)) line handler 0 ends _ starts refl) (stands_uses (on (in_finally (on scope))) line ends 0 next _ finishes refl)))))))

  mutual
    form_uses : (f : Form) (scope : Scope) (line at next : ℕ) → LaidForm parts scope line f at next → Uses at next
    form_uses (Assign x e) scope line at next (stores, laid, store) =
        uses_then at stores next (expr_uses e scope line at stores laid) (target_uses scope line (Some x) stores next store)
    form_uses (Do o es) scope line at next (drops, laid, pop) = uses_then at drops next (expr_uses (Operate o es) scope line at drops laid) (target_uses scope line None drops next pop)
    form_uses (Show a) scope line at next laid = taken_uses scope line a _ 0 at next refl laid
    form_uses (Return a) scope line at next laid = taken_uses scope line a _ 0 at next refl laid
    form_uses (Raise a) scope line at next laid = taken_uses scope line a _ _ at next refl laid
    form_uses Reraise scope line at next laid = stands_uses scope line at _ next _ laid refl
    form_uses Break scope line at next laid = break_uses scope.around scope line at next laid
    form_uses Continue scope line at next laid = continue_uses scope.around scope line at next laid
    form_uses Pass scope line at next is_at = uses_none at next is_at
    form_uses (If a s) scope line at next (asks, begins, laid, test, suite) =
        uses_then at begins next (taken_uses scope line a _ next at begins refl (asks, laid, test)) (suite_uses s scope begins next suite)
    form_uses (IfElse a s t) scope line at next (asks, begins, leaves, other, laid, test, suite, leave, second) =
        uses_then at begins next (taken_uses scope line a _ other at begins refl (asks, laid, test))
        (uses_then begins leaves next (suite_uses s scope begins leaves suite)
        (uses_then leaves other next (stands_uses scope line leaves next other _ leave refl) (suite_uses t scope other next second)))
    form_uses (While a s) scope line at next (tests, asks, begins, repeats, ends, sets, laid, test, suite, repeat, pops) =
        let within : Scope = in_loop (record { stop = next; again = tests }) scope in
        uses_then at tests next (stands_uses scope line at 0 tests _ sets refl)
        (uses_then tests begins next (taken_uses within line a _ ends tests begins refl (asks, laid, test))
        (uses_then begins repeats next (suite_uses s within begins repeats suite)
        (uses_then repeats ends next (stands_uses within line repeats tests ends _ repeat refl) (stands_uses within line ends 0 next _ pops refl))))
    form_uses (TryExcept s cs) scope line at next (begins, leaves, jumps, handler, sets, suite, pops, leave, clauses) =
        uses_then at begins next (stands_uses scope line at handler begins _ sets refl)
        (uses_then begins leaves next (suite_uses s (in_try handler scope) begins leaves suite)
        (uses_then leaves jumps next (stands_uses (in_try handler scope) line leaves 0 jumps _ pops refl)
        (uses_then jumps handler next (stands_uses scope line jumps next handler _ leave refl) (clauses_uses cs scope line handler next clauses))))
    form_uses (TryFinally s t) scope line at next laid =
        finally_uses scope line _ _ at next (λ within from to. suite_uses s within from to) (λ within from to. suite_uses t within from to) laid
    form_uses (With a x s) scope line at next laid = with_uses scope line a x _ at next (λ within from to. suite_uses s within from to) laid

    suite_uses : (s : Suite) (scope : Scope) (at next : ℕ) → LaidSuite parts scope s at next → Uses at next
    suite_uses nothing scope at next is_at = uses_none at next is_at
    suite_uses (first n f more) scope at next (mid, laid, rest) =
        uses_then at mid next (form_uses f scope n at mid laid) (suite_uses more scope mid next rest)

    clauses_uses : (cs : Clauses) (scope : Scope) (line at end : ℕ) → LaidClauses parts scope line cs at end → Uses at end
    clauses_uses no_more scope line at end laid = stands_uses (on (in_clauses scope)) line at _ end _ laid refl
    clauses_uses (clause n c x s more) scope line at end (loads, asks, decides, binds, begins, leaves, jumps, other, copies, class, test, decide, bind, suite, pops, leave, others) =
        let within : Scope = in_clauses scope in
        uses_then at loads end (stands_uses (on within) n at 0 loads _ copies refl)
        (uses_then loads asks end (atom_uses (over 2 within) n (atom.Name c) loads asks class)
        (uses_then asks decides end (stands_uses (over 3 within) n asks _ decides _ test refl)
        (uses_then decides binds end (stands_uses (over 2 within) n decides other binds _ decide refl)
        (uses_then binds begins end (target_uses within n x binds begins bind)
        (uses_then begins leaves end (handler_uses within n x _ begins leaves (λ inner from to. suite_uses s inner from to) suite)
        (uses_then leaves jumps end (stands_uses within n leaves 0 jumps _ pops refl)
        (uses_then jumps other end (stands_uses scope n jumps end other _ leave refl) (clauses_uses more scope line other end others))))))))

  -- the statements of a body, and the return of None
  body_uses : (t : Tree) (end : ℕ) → LaidBody parts t end → Uses 0 end
  body_uses t end (ends, laid, (i, stands, here)) = uses_then 0 ends end (suite_uses t.suite _ 0 ends laid) (stands_uses _ t.line ends i end _ stands refl)

pub laid_code_is_compiled : LaidCodeIsCompiled
laid_code_is_compiled globals code t laid at u here =
    let units = code.code.code.instructions.items in
    body_uses (parts_with globals (locals_of t) code) t (length units) laid.laid at (omega arith) (slice_get_within units at u here) u here
