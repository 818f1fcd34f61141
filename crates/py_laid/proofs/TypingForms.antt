-- The code of statements, suites and clauses keeps the typing rules where control may come to what follows it:
-- what follows first, handlers before bodies.
use Rattle.std.proofs.Common.{◌≡◌, ◌≤◌, ◌-◌, ℕ, suc, [], ◌∷◌, true, Some, None, refl, ap, length, arith}
use Rattle.std.specs.Prelude.{Option}
use Rattle.std.proofs.lemmas.Bool.{and_from, lt-ltb, le-leb}
use Rattle.py_code.specs.declared.instruction.Instruction.{Instruction}
use Rattle.py_code.specs.declared.instruction.Instruction.TheVariants as op
use Rattle.py_check.specs.declared.note.Kind.TheVariants.{Any}
use Rattle.py_check.specs.declared.note.BlockNote.TheVariants as block
use Rattle.py_check.specs.Landing.{top_level}
use Rattle.py_check.specs.Taking.{may_move, takes}
use Rattle.py_tree.specs.declared.expr.Atom.TheVariants as atom
use Rattle.py_tree.specs.Tree.{Name, Expr, Operate, Form, Assign, Do, Show, Return, Raise, Reraise, Break, Continue, Pass, If, IfElse, While, TryExcept, TryFinally, With, Suite, nothing, first, Clauses, no_more, clause}
use Rattle.py_laid.specs.Code.{Scope, on, in_loop, in_try, in_clauses, before_finally, in_finally, place, Stands, LaidTaken, LaidForget, LaidFinally, LaidWith, LaidHandler, LaidBranch, LaidForm, LaidSuite, LaidClauses}
use Rattle.py_laid.proofs.NoteLemmas.{kinds_of, length-kinds_of, takes-Any, top_level-low}
use Rattle.py_laid.proofs.TypingUnits.{Noted, parts_of, Free, In, Safe, safe_on, Asks, keeps_then}
use Rattle.py_laid.proofs.TypingLoads.{Typed, joined, typed_by, nothing_typed, unit_typed, goes_as, takes_one, taken_on, has_local, answer_typed}
use Rattle.py_laid.proofs.TypingLoads.{JumpsBy, none_typed, atom_typed, expr_typed, target_typed, test_typed, jump_typed}
use Rattle.py_laid.proofs.TypingBlocks.{Fine, fine_managed, fine_finally, fine_clauses, fine_try, fine_guarded, fine_loop}
use Rattle.py_laid.proofs.TypingBlocks.{loop_opens, block_opens, with_opens, cleanup_starts, cleanup_ends, finally_begins, block_closes, finally_ends, break_typed, continue_typed}

module _ (code : Noted) where
  -- a scope in which statements may stand is safe
  fine_typed : (scope from to : Scope) (at next : ℕ) → Typed code (Safe code scope) from to at next → Typed code (Fine code scope) from to at next
  fine_typed scope from to at next typed = typed_by code (Safe code scope) (Fine code scope) from to at next (λ fine. fine.safe) typed

  -- what is handled is raised again, which takes nothing
  takes_none : (scope : Scope) → Safe code scope → takes [] (kinds_of scope) scope.blocks (λ rest. true) ≡ true
  takes_none scope safe = takes-Any 0 (kinds_of scope) scope.blocks (λ rest. true) (omega (arith, length-kinds_of scope, top_level-low scope.depth scope.blocks safe.nest)) refl

  -- the value on top is copied
  copy_typed : (scope : Scope) (line at next : ℕ) → Stands (parts_of code) (on scope) line at op.Duplicate 0 next → Free code at → Typed code (Safe code scope) (on scope) (on (on scope)) at next
  copy_typed scope line at next stands free =
      unit_typed code (Safe code scope) (on scope) (on (on scope)) line at 0 next op.Duplicate stands free (safe_on code scope)
      (λ safe there k is_next.
      let long : length (kinds_of scope) ≡ scope.depth = length-kinds_of scope in
      let low : top_level scope.blocks ≤ scope.depth = top_level-low scope.depth scope.blocks safe.nest in
      let moves : may_move 0 (0 ∷ []) (suc (length (kinds_of scope))) (top_level scope.blocks) ≡ true =
      and_from _ _ (and_from _ _ (le-leb 0 (suc (length (kinds_of scope))) (omega arith)) (le-leb (top_level scope.blocks) (suc (length (kinds_of scope)) - 0) (omega (arith, long, low))))
      (and_from _ _ (lt-ltb 0 (suc (length (kinds_of scope))) (omega arith)) refl) in
      (and_from _ _ moves (goes_as code (on (on scope)) (safe_on code (on scope) (safe_on code scope safe)) (Any ∷ Any ∷ kinds_of scope) k next is_next there (ap suc (ap suc long))), refl))

  -- ---- a body and its finally

  -- this code keeps the rules in each scope in which statements may stand
  abbrev Types : (Scope → ℕ → ℕ → Type 0) → Type 0
  Types body = (scope : Scope) (at next : ℕ) → body scope at next → Free code at → Typed code (Fine code scope) scope scope at next

  -- a body and its finally keep them together if each does
  finally_typed : (scope : Scope) (line : ℕ) (body final : Scope → ℕ → ℕ → Type 0) (at next : ℕ) → Types body → Types final → LaidFinally (parts_of code) scope line body final at next → Free code at
      → Typed code (Fine code scope) scope scope at next
  finally_typed scope line body final at next inner outer (begins, leaves, enters, handler, ends, sets, suite, pops, enter, last, end) free =
      let opened = block_opens code scope (in_finally scope) (λ level. block.Finally level handler) line at handler begins op.SetupFinally (λ k. refl) refl sets free in
      let within = inner (before_finally handler scope) begins leaves suite opened.free in
      let closed = block_closes code scope (before_finally handler scope) line leaves enters op.PopBlock (λ k. refl) refl pops within.free in
      let begun = finally_begins code scope line enters handler enter closed.free in
      let runs = outer (in_finally scope) handler ends last begun.free in
      let ended = finally_ends code scope line ends next end runs.free in
      record {
        free = ended.free;
        enters = λ there. opened.enters (within.enters (closed.enters (begun.enters (runs.enters (ended.enters there)))));
        kept = λ fine there.
            let in_ends = ended.enters there in
            let in_handler = runs.enters in_ends in
            let in_enters = begun.enters in_handler in
            let in_leaves = closed.enters in_enters in
            let guarded = fine_guarded code scope handler fine in_handler in
            keeps_then code at begins next (opened.kept (fine.safe, guarded.safe, in_handler) (within.enters in_leaves))
            (keeps_then code begins leaves next (within.kept guarded in_leaves)
            (keeps_then code leaves enters next (closed.kept (fine.safe, guarded.safe) in_enters)
            (keeps_then code enters handler next (begun.kept fine.safe in_handler)
            (keeps_then code handler ends next (runs.kept (fine_finally code scope fine) in_ends) (ended.kept fine there)))));
      }

  -- the code that forgets a name keeps them
  forget_typed : (line : ℕ) (x : Name) → Types (λ scope at next. LaidForget (parts_of code) scope line x at next)
  forget_typed line x scope at next (stores, deletes, loads, store, delete) free =
      let front = none_typed code scope line at stores loads free in
      let stored = target_typed code scope line (Some x) stores deletes store front.free in
      fine_typed scope scope scope at next
      (joined code (Safe code scope) scope (on scope) scope at stores next front
      (joined code (Safe code scope) (on scope) scope scope stores deletes next stored
      (unit_typed code (Safe code scope) scope scope line deletes (place code.vars x) next op.DeleteFast delete.0 stored.free (λ safe. safe)
      (λ safe there k is_next. (and_from _ _ (has_local code (place code.vars x) delete.1) (goes_as code scope safe (kinds_of scope) k next is_next there (length-kinds_of scope)), refl)))))

  -- the suite of a clause keeps them, where it binds a name too
  handler_typed : (x : Option Name) (scope : Scope) (line : ℕ) (suite : Scope → ℕ → ℕ → Type 0) (at next : ℕ) → Types suite → LaidHandler (parts_of code) scope line x suite at next → Free code at
      → Typed code (Fine code scope) scope scope at next
  handler_typed None scope line suite at next inner laid free = inner scope at next laid free
  handler_typed (Some x) scope line suite at next inner laid free =
      finally_typed scope line suite (λ within handler ends. LaidForget (parts_of code) within line x handler ends) at next inner (forget_typed line x) laid free

  -- a with keeps them if its body does
  with_typed : (scope : Scope) (line : ℕ) (a : Expr) (x : Option Name) (body : Scope → ℕ → ℕ → Type 0) (at next : ℕ) → Types body → LaidWith (parts_of code) scope line a x body at next → Free code at
      → Typed code (Fine code scope) scope scope at next
  with_typed scope line a x body at next inner (sets, binds, begins, leaves, enters, handler, ends, load, set_up, bind, suite, pops, enter, starts, finishes) free =
      let under : Scope = on scope in
      let front = expr_typed code a scope line at sets load free in
      let opened = with_opens code scope line sets handler binds set_up front.free in
      let bound = target_typed code (before_finally handler under) line x binds begins bind opened.free in
      let within = inner (before_finally handler under) begins leaves suite bound.free in
      let closed = block_closes code under (before_finally handler under) line leaves enters op.PopBlock (λ k. refl) refl pops within.free in
      let begun = finally_begins code under line enters handler enter closed.free in
      let started = cleanup_starts code scope line handler ends starts begun.free in
      let ended = cleanup_ends code scope line ends next finishes started.free in
      record {
        free = ended.free;
        enters = λ there. front.enters (opened.enters (bound.enters (within.enters (closed.enters (begun.enters (started.enters (ended.enters there)))))));
        kept = λ fine there.
            let in_ends = ended.enters there in
            let in_handler = started.enters in_ends in
            let in_enters = begun.enters in_handler in
            let in_leaves = closed.enters in_enters in
            let in_begins = within.enters in_leaves in
            let in_binds = bound.enters in_begins in
            let over = safe_on code scope fine.safe in
            let guarded = fine_managed code scope handler fine in_handler in
            keeps_then code at sets next (front.kept fine.safe (opened.enters in_binds))
            (keeps_then code sets binds next (opened.kept (fine.safe, guarded.safe, in_handler) in_binds)
            (keeps_then code binds begins next (bound.kept guarded.safe in_begins)
            (keeps_then code begins leaves next (within.kept guarded in_leaves)
            (keeps_then code leaves enters next (closed.kept (over, guarded.safe) in_enters)
            (keeps_then code enters handler next (begun.kept over in_handler)
            (keeps_then code handler ends next (started.kept fine in_ends) (ended.kept fine there)))))));
      }

  -- an expression, and the unit that takes it
  taken_typed : (scope : Scope) (line : ℕ) (a : Expr) (i : Instruction) (arg at next : ℕ) → ((safe : Safe code scope) → In code scope next → Asks code (on scope) (safe_on code scope safe) i arg next)
      → LaidTaken (parts_of code) scope line a i arg at next → Free code at → Typed code (Fine code scope) scope scope at next
  taken_typed scope line a i arg at next takes (asks, laid, stands) free =
      let front = expr_typed code a scope line at asks laid free in
      fine_typed scope scope scope at next
      (joined code (Safe code scope) scope (on scope) scope at asks next front (unit_typed code (Safe code scope) (on scope) scope line asks arg next i stands front.free (safe_on code scope) takes))

  -- a suite that is jumped over
  branch_typed : (scope : Scope) (line : ℕ) (a : Expr) (i : Instruction) → JumpsBy code i → (suite : ℕ → ℕ → Type 0) (at next : ℕ)
      → ((begins : ℕ) → suite begins next → Free code begins → Typed code (Fine code scope) scope scope begins next)
      → LaidBranch (parts_of code) scope line a i suite at next → Free code at → Typed code (Fine code scope) scope scope at next
  branch_typed scope line a i same suite at next inner (asks, begins, laid, test, stands) free =
      let front = expr_typed code a scope line at asks laid free in
      let tested = test_typed code i same scope line asks next begins test front.free in
      let body = inner begins stands tested.free in
      record {
        free = body.free;
        enters = λ there. front.enters (tested.enters (body.enters there));
        kept = λ fine there.
            let in_begins = body.enters there in
            keeps_then code at asks next (front.kept fine.safe (tested.enters in_begins)) (keeps_then code asks begins next (tested.kept (fine.safe, there) in_begins) (body.kept fine there));
      }

  -- ---- statements

  mutual
    -- a statement
    pub form_typed : (f : Form) (scope : Scope) (line at next : ℕ) → LaidForm (parts_of code) scope line f at next → Free code at → Typed code (Fine code scope) scope scope at next
    form_typed (Assign x e) scope line at next (stores, laid, store) free =
        let front = expr_typed code e scope line at stores laid free in
        fine_typed scope scope scope at next (joined code (Safe code scope) scope (on scope) scope at stores next front (target_typed code scope line (Some x) stores next store front.free))
    form_typed (Do o es) scope line at next (drops, laid, pop) free =
        let front = expr_typed code (Operate o es) scope line at drops laid free in
        fine_typed scope scope scope at next (joined code (Safe code scope) scope (on scope) scope at drops next front (target_typed code scope line None drops next pop front.free))
    form_typed (Show a) scope line at next laid free = taken_typed scope line a op.PrintExpr 0 at next (λ safe there k is_next. (taken_on code scope safe k next is_next there, refl)) laid free
    form_typed (Return a) scope line at next laid free = taken_typed scope line a op.ReturnValue 0 at next (λ safe there k is_next. (takes_one code scope safe (λ rest. true) refl, refl)) laid free
    form_typed (Raise a) scope line at next laid free = taken_typed scope line a op.Raise _ at next (λ safe there k is_next. (takes_one code scope safe (λ rest. true) refl, refl)) laid free
    form_typed Reraise scope line at next stands free = unit_typed code (Fine code scope) scope scope line at _ next op.Raise stands free (λ fine. fine.safe) (λ fine there k is_next. (takes_none scope fine.safe, refl))
    form_typed Break scope line at next laid free = break_typed code scope.around scope refl line at next laid free
    form_typed Continue scope line at next laid free = continue_typed code scope.around scope refl line at next laid free
    form_typed Pass scope line at next is_at free = nothing_typed code (Fine code scope) scope at next is_at free
    form_typed (If a s) scope line at next laid free =
        branch_typed scope line a op.JumpIfFalse (λ k to kinds blocks. (refl, refl)) (λ begins to. LaidSuite (parts_of code) scope s begins to) at next
        (λ begins suite free1. suite_typed s scope begins next suite free1) laid free
    form_typed (IfElse a s t) scope line at next (asks, begins, leaves, other, laid, test, suite, leave, second) free =
        let front = expr_typed code a scope line at asks laid free in
        let tested = test_typed code op.JumpIfFalse (λ k to kinds blocks. (refl, refl)) scope line asks other begins test front.free in
        let body = suite_typed s scope begins leaves suite tested.free in
        let left = jump_typed code scope scope line leaves next other leave body.free in
        let rest = suite_typed t scope other next second left.free in
        record {
          free = rest.free;
          enters = λ there. front.enters (tested.enters (body.enters (left.enters (rest.enters there))));
          kept = λ fine there.
              let in_other = rest.enters there in
              let in_leaves = left.enters in_other in
              let in_begins = body.enters in_leaves in
              keeps_then code at asks next (front.kept fine.safe (tested.enters in_begins))
              (keeps_then code asks begins next (tested.kept (fine.safe, in_other) in_begins)
              (keeps_then code begins leaves next (body.kept fine in_leaves) (keeps_then code leaves other next (left.kept (fine.safe, there) in_other) (rest.kept fine there))));
        }
    form_typed (While a s) scope line at next (tests, asks, begins, repeats, ends, sets, laid, test, suite, repeat, pops) free =
        let within : Scope = in_loop (record { stop = next; again = tests }) scope in
        let opened = loop_opens code scope (record { stop = next; again = tests }) line at tests sets free in
        let front = expr_typed code a within line tests asks laid opened.free in
        let tested = test_typed code op.JumpIfFalse (λ k to kinds blocks. (refl, refl)) within line asks ends begins test front.free in
        let body = suite_typed s within begins repeats suite tested.free in
        let back = jump_typed code within within line repeats tests ends repeat body.free in
        let closed = block_closes code scope within line ends next op.PopBlock (λ k. refl) refl pops back.free in
        record {
          free = closed.free;
          enters = λ there. opened.enters (front.enters (tested.enters (body.enters (back.enters (closed.enters there)))));
          kept = λ fine there.
              let in_ends = closed.enters there in
              let in_repeats = back.enters in_ends in
              let in_begins = body.enters in_repeats in
              let in_asks = tested.enters in_begins in
              let in_tests = front.enters in_asks in
              let inner = fine_loop code scope (record { stop = next; again = tests }) fine there in_tests in
              keeps_then code at tests next (opened.kept (fine.safe, inner.safe) in_tests)
              (keeps_then code tests asks next (front.kept inner.safe in_asks)
              (keeps_then code asks begins next (tested.kept (inner.safe, in_ends) in_begins)
              (keeps_then code begins repeats next (body.kept inner in_repeats)
              (keeps_then code repeats ends next (back.kept (inner.safe, in_tests) in_ends) (closed.kept (fine.safe, inner.safe) there)))));
        }
    form_typed (TryExcept s cs) scope line at next (begins, leaves, jumps, handler, sets, suite, pops, jump, clauses) free =
        let opened = block_opens code scope (on (in_clauses scope)) (λ level. block.TryExcept level handler) line at handler begins op.SetupExcept (λ k. refl) refl sets free in
        let body = suite_typed s (in_try handler scope) begins leaves suite opened.free in
        let closed = block_closes code scope (in_try handler scope) line leaves jumps op.PopBlock (λ k. refl) refl pops body.free in
        let left = jump_typed code scope (on (in_clauses scope)) line jumps next handler jump closed.free in
        let handled = clauses_typed cs scope line handler next clauses left.free in
        record {
          free = handled.free;
          enters = λ there. opened.enters (body.enters (closed.enters (left.enters (handled.enters there))));
          kept = λ fine there.
              let in_handler = handled.enters there in
              let in_jumps = left.enters in_handler in
              let in_leaves = closed.enters in_jumps in
              let inner = fine_try code scope handler fine in_handler in
              keeps_then code at begins next (opened.kept (fine.safe, inner.safe, in_handler) (body.enters in_leaves))
              (keeps_then code begins leaves next (body.kept inner in_leaves)
              (keeps_then code leaves jumps next (closed.kept (fine.safe, inner.safe) in_jumps)
              (keeps_then code jumps handler next (left.kept (fine.safe, there) in_handler) (handled.kept fine there))));
        }
    form_typed (TryFinally s t) scope line at next laid free =
        finally_typed scope line (λ within begins leaves. LaidSuite (parts_of code) within s begins leaves) (λ within handler ends. LaidSuite (parts_of code) within t handler ends) at next
        (λ within from to suite free1. suite_typed s within from to suite free1) (λ within from to suite free1. suite_typed t within from to suite free1) laid free
    form_typed (With a x s) scope line at next laid free =
        with_typed scope line a x (λ within begins leaves. LaidSuite (parts_of code) within s begins leaves) at next (λ within from to suite free1. suite_typed s within from to suite free1) laid free

    -- statements in order
    pub suite_typed : (s : Suite) (scope : Scope) (at next : ℕ) → LaidSuite (parts_of code) scope s at next → Free code at → Typed code (Fine code scope) scope scope at next
    suite_typed nothing scope at next is_at free = nothing_typed code (Fine code scope) scope at next is_at free
    suite_typed (first n f more) scope at next (mid, laid, rest) free =
        let front = form_typed f scope n at mid laid free in
        joined code (Fine code scope) scope scope scope at mid next front (suite_typed more scope mid next rest front.free)

    -- the clauses of a try, where the exception lies on the stack
    clauses_typed : (cs : Clauses) (scope : Scope) (line at next : ℕ) → LaidClauses (parts_of code) scope line cs at next → Free code at
        → Typed code (Fine code scope) (on (in_clauses scope)) scope at next
    clauses_typed no_more scope line at next stands free =
        unit_typed code (Fine code scope) (on (in_clauses scope)) scope line at _ next op.Raise stands free
        (λ fine. safe_on code (in_clauses scope) (fine_clauses code scope fine).safe)
        (λ fine there k is_next. (takes_none (on (in_clauses scope)) (safe_on code (in_clauses scope) (fine_clauses code scope fine).safe), refl))
    clauses_typed (clause n c x s more) scope line at next (loads, asks, decides, binds, begins, leaves, jumps, other, copy, load, match, decide, bind, suite, pop, leave, rest) free =
        let within : Scope = in_clauses scope in
        let copied = copy_typed (in_clauses scope) n at loads copy free in
        let front = atom_typed code (on (on within)) n (atom.Name c) loads asks load copied.free in
        let matched = answer_typed code (on within) 2 n asks _ decides op.TestOperation refl refl refl match front.free in
        let tested = test_typed code op.JumpIfFalse (λ k to kinds blocks. (refl, refl)) (on within) n decides other binds decide matched.free in
        let bound = target_typed code within n x binds begins bind tested.free in
        let body = handler_typed x within n (λ place from to. LaidSuite (parts_of code) place s from to) begins leaves
        (λ place from to laid free1. suite_typed s place from to laid free1) suite bound.free in
        let closed = block_closes code scope within n leaves jumps op.PopException (λ k. refl) refl pop body.free in
        let left = jump_typed code scope (on within) n jumps next other leave closed.free in
        let others = clauses_typed more scope line other next rest left.free in
        record {
          free = others.free;
          enters = λ there. copied.enters (front.enters (matched.enters (tested.enters (bound.enters (body.enters (closed.enters (left.enters (others.enters there))))))));
          kept = λ fine there.
              let in_other = others.enters there in
              let in_jumps = left.enters in_other in
              let in_leaves = closed.enters in_jumps in
              let in_begins = body.enters in_leaves in
              let in_binds = bound.enters in_begins in
              let in_decides = tested.enters in_binds in
              let in_asks = matched.enters in_decides in
              let inner = fine_clauses code scope fine in
              let safe1 = safe_on code within inner.safe in
              let safe2 = safe_on code (on within) safe1 in
              keeps_then code at loads next (copied.kept inner.safe (front.enters in_asks))
              (keeps_then code loads asks next (front.kept safe2 in_asks)
              (keeps_then code asks decides next (matched.kept safe1 in_decides)
              (keeps_then code decides binds next (tested.kept (safe1, in_other) in_binds)
              (keeps_then code binds begins next (bound.kept inner.safe in_begins)
              (keeps_then code begins leaves next (body.kept inner in_leaves)
              (keeps_then code leaves jumps next (closed.kept (fine.safe, inner.safe) in_jumps)
              (keeps_then code jumps other next (left.kept (fine.safe, there) in_other) (others.kept fine there))))))));
        }
