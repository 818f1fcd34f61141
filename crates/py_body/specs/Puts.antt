-- What is emitted, said of emitters and scopes as the program has them: what there was, what there is and where that stands come first.
use Rattle.std.specs.Prelude.{ℕ, ◌+◌, ◌*◌, ◌%◌, ◌^◌, ◌≤◌, ◌≡◌, Bool, Option, Some, List, ◌∷◌}
use Rattle.py_code.specs.declared.instruction.Instruction.{Instruction}
use Rattle.py_code.specs.declared.literal.Literal.{Literal}
use Rattle.py_code.specs.declared.literal.BuiltinFn.{BuiltinFn}
use Rattle.py_check.specs.declared.note.BlockNote.{BlockNote}
use Rattle.py_tree.specs.declared.body.BodyKind.{BodyKind}
use Rattle.py_tree.specs.declared.expr.Atom.{Atom}
use Rattle.py_tree.specs.Tree.{Name, Expr, Exprs, Form, IfElse, While, TryExcept, TryFinally, With}
use Rattle.py_tree.specs.ExprViews.{expr_of}
use Rattle.py_tree.specs.Compilable.{deep, deepest, operands, SuiteFits, statements, statements_under}
use Rattle.py_laid.specs.Code.{Scope, in_loop, note_of, over, under}
use Rattle.py_check.specs.declared.note.Note.{Note}
use Rattle.py_code.specs.declared.instruction.Instruction.TheVariants as op
use Rattle.py_code.specs.declared.operator.RaiseKind.{RaiseKind}
use Rattle.py_code.specs.Numbers.{raise_number}
use Rattle.py_code.specs.declared.unit.CodeUnit.{CodeUnit}
use Rattle.py_tree.specs.declared.stmt.StmtList.{StmtList}
use Rattle.py_tree.specs.declared.stmt.ClauseList.{ClauseList}
use Rattle.py_tree.specs.Binding.{bound_by, bound_under}
use Rattle.py_tree.specs.Tree.{Tree}
use Rattle.py_tree.specs.Views.{clauses_of, suite_of}
use Rattle.py_body.specs.Sizes.{size_clause, size_form, size_managed, size_opening, size_rounds, size_suite}
use Rattle.py_body.specs.declared.scope.Labels.{Labels as OwnLabels}
use Rattle.py_body.specs.declared.sizes.Weights.{Weights}
use Rattle.py_body.specs.declared.scope.Scope.{Scope as OwnScope}
use Rattle.py_body.specs.declared.scope.Site.{Site}
use Rattle.py_body.specs.declared.managers.Managed.{Managed}
use Rattle.py_body.specs.declared.emitter.Emitter.{Emitter}
use Rattle.py_body.specs.declared.emitter.Spelled.{Spelled}
use Rattle.py_body.specs.Emitting.{around_of, draft_of, end_of, labels_of, scope_of, weights_of, put, EmitsBody, EmitsAtom, EmitsBranch, EmitsCallee, EmitsClauses, EmitsConst, EmitsExpr, EmitsExprs, EmitsForget, EmitsForm, EmitsHandler}
use Rattle.py_body.specs.Emitting.{EmitsJump, EmitsLocal, EmitsManaged, EmitsMatch, EmitsOpening, EmitsPlain, EmitsSuite, EmitsTaken, EmitsTarget, EmitsTried}

-- ---- scopes and labels

-- the scope in which code stands
abbrev pub scope_at : Site → Scope
scope_at at = scope_of at.scope.now

-- a scope in which one block more is open, in a loop with these labels
abbrev pub with_block : Option OwnLabels → BlockNote → OwnScope → Scope
with_block around block scope = record { kind = scope.kind; around = around_of around; depth = scope.depth; blocks = block ∷ scope.blocks }

-- a suite that can be compiled somewhere
abbrev pub FitsSomewhere : StmtList → Type 0
FitsSomewhere s = (kind : BodyKind) × (in_loop : Bool) × SuiteFits kind in_loop (suite_of s)

-- the label of the place that lies so far behind what an emitter has, cut to its 32 bits
abbrev pub label_behind : Emitter → (Weights → ℕ) → ℕ
label_behind e size = (end_of (draft_of e) + size (weights_of (draft_of e))) % 2 ^ 32

-- of the finally of a try with this suite, of the exit of a with, and of the place behind a clause, which begin there
abbrev pub finally_label : Emitter → StmtList → ℕ
finally_label e s = label_behind e (λ w. size_opening w (size_suite w (suite_of s)))

abbrev pub exit_label : Emitter → Expr → Option Name → StmtList → ℕ
exit_label e a x s = label_behind e (λ w. size_managed w a x (size_suite w (suite_of s)))

abbrev pub clause_label : Emitter → Option Name → StmtList → ℕ
clause_label e x s = label_behind e (λ w. size_clause w x (size_suite w (suite_of s)))

-- the labels of a loop of this test and suite that begins there: behind its end, and where its test has failed
abbrev pub stop_label : Emitter → Expr → StmtList → ℕ
stop_label e a s = label_behind e (λ w. size_form w (While a (suite_of s)))

abbrev pub failed_label : Emitter → Expr → StmtList → ℕ
failed_label e a s = label_behind e (λ w. size_rounds w a (suite_of s))

-- the scope inside of a loop there
abbrev pub loop_at : Site → OwnLabels → Scope
loop_at at labels = in_loop (labels_of labels) (scope_at at)

-- the note of a unit in a scope with so many values more
abbrev pub note_over : ℕ → OwnScope → Note
note_over above scope = note_of (over above (scope_of scope))

-- a prefix with this byte
abbrev pub prefix : ℕ → CodeUnit
prefix byte = record { op = op.ExtendedArg; arg = byte }

-- the names that a suite binds, behind others
abbrev pub bound_suite : List Name → StmtList → List Name
bound_suite names s = bound_by names (suite_of s)

-- the names that clauses bind, behind others
abbrev pub bound_clauses : List Name → ClauseList → List Name
bound_clauses names cs = bound_under names (clauses_of cs)

-- the names that a try with clauses binds, behind others
abbrev pub bound_tried : List Name → StmtList → ClauseList → List Name
bound_tried names s cs = bound_clauses (bound_suite names s) cs

-- how many statements a try with clauses has in it
abbrev pub statements_tried : StmtList → ClauseList → ℕ
statements_tried s cs = statements (suite_of s) + statements_under (clauses_of cs)

-- ---- instructions, with so many values more than the scope has

-- behind its prefixes
abbrev pub Puts : Emitter → Emitter → Site → ℕ → Spelled → Type 0
Puts old new at above unit = draft_of new ≡ put unit.width unit.op unit.arg (over above (scope_at at)) at.line (draft_of old)

-- with an operand that fits a byte
abbrev pub PutsPlain : Emitter → Emitter → Site → ℕ → Instruction → ℕ → Type 0
PutsPlain old new at above i arg = EmitsPlain (draft_of old) (draft_of new) (over above (scope_at at)) at.line i arg

-- with a label
abbrev pub PutsJump : Emitter → Emitter → Site → ℕ → Instruction → ℕ → Type 0
PutsJump old new at above i label = EmitsJump old.labels (draft_of old) (draft_of new) (over above (scope_at at)) at.line i label

-- with a constant
abbrev pub PutsConst : Emitter → Emitter → Site → ℕ → Instruction → Literal → Type 0
PutsConst old new at above i literal = EmitsConst (draft_of old) (draft_of new) (over above (scope_at at)) at.line i literal

-- with a local
abbrev pub PutsLocal : Emitter → Emitter → Site → ℕ → Instruction → Name → Type 0
PutsLocal old new at above i x = EmitsLocal (draft_of old) (draft_of new) (over above (scope_at at)) at.line i x

-- the load of an atom, and of a function of the machine's own that an operator may call
abbrev pub PutsAtom : Emitter → Emitter → Site → ℕ → Atom → Type 0
PutsAtom old new at above a = EmitsAtom (draft_of old) (draft_of new) (over above (scope_at at)) at.line a

abbrev pub PutsCallee : Emitter → Emitter → Site → ℕ → Option BuiltinFn → Type 0
PutsCallee old new at above fn = EmitsCallee (draft_of old) (draft_of new) (over above (scope_at at)) at.line fn

-- so many values lie above the scope's where such a function is loaded above others
abbrev pub CountsCallee : Site → ℕ → Option BuiltinFn → ℕ → Type 0
CountsCallee at above callee n = (over n (scope_at at) ≡ under callee (over above (scope_at at))) × (n ≤ above + 1)

-- ---- expressions

-- a stack has room for an expression above so many values, and for operands
abbrev pub HoldsExpr : Site → ℕ → Expr → Type 0
HoldsExpr at above e = at.scope.now.depth + above + 257 * deep e ≤ 65000

abbrev pub HoldsOperands : Site → ℕ → Exprs → Type 0
HoldsOperands at above es = at.scope.now.depth + above + operands es + 257 * deepest es ≤ 65000

abbrev pub PutsExpr : Emitter → Emitter → Site → ℕ → Expr → Type 0
PutsExpr old new at above e = EmitsExpr (draft_of old) (draft_of new) (over above (scope_at at)) at.line e

-- operands one behind another
abbrev pub PutsExprs : Emitter → Emitter → Site → ℕ → Exprs → Type 0
PutsExprs old new at above es = EmitsExprs (draft_of old) (draft_of new) (over above (scope_at at)) at.line es

-- an instruction behind the expression that it takes
abbrev pub PutsTaken : Emitter → Emitter → Site → Expr → Instruction → ℕ → Type 0
PutsTaken old new at e i arg = EmitsTaken (draft_of old) (draft_of new) (scope_at at) at.line e i arg

-- ---- statements

-- what raises the exception on the stack, or the one that is handled
abbrev pub PutsRaise : Emitter → Emitter → Site → ℕ → RaiseKind → Type 0
PutsRaise old new at above kind = PutsPlain old new at above op.Raise (raise_number kind)

abbrev pub PutsForm : Emitter → Emitter → Site → Form → Type 0
PutsForm old new at f = EmitsForm old.labels (draft_of old) (draft_of new) (scope_at at) at.line f

-- those with two suites, a loop, tries and managers
abbrev pub PutsIfElse : Emitter → Emitter → Site → Expr → StmtList → StmtList → Type 0
PutsIfElse old new at a s t = PutsForm old new at (IfElse a (suite_of s) (suite_of t))

abbrev pub PutsWhile : Emitter → Emitter → Site → Expr → StmtList → Type 0
PutsWhile old new at a s = PutsForm old new at (While a (suite_of s))

abbrev pub PutsTryFinally : Emitter → Emitter → Site → StmtList → StmtList → Type 0
PutsTryFinally old new at s t = PutsForm old new at (TryFinally (suite_of s) (suite_of t))

abbrev pub PutsTryExcept : Emitter → Emitter → Site → StmtList → ClauseList → Type 0
PutsTryExcept old new at s cs = PutsForm old new at (TryExcept (suite_of s) (clauses_of cs))

abbrev pub PutsWith : Emitter → Emitter → Site → Expr → Option Name → StmtList → Type 0
PutsWith old new at a x s = PutsForm old new at (With a x (suite_of s))

-- statements, each of which has its own line
abbrev pub PutsSuite : Emitter → Emitter → OwnScope → StmtList → Type 0
PutsSuite old new scope s = EmitsSuite old.labels (draft_of old) (draft_of new) (scope_of scope) (suite_of s)

-- a suite over which a jump leads, by the value of an expression
abbrev pub PutsBranch : Emitter → Emitter → Site → Expr → Instruction → StmtList → Type 0
PutsBranch old new at a i s = EmitsBranch old.labels (draft_of old) (draft_of new) (scope_at at) at.line a i (suite_of s)

-- ---- tries and managers

-- a try with a finally, up to the finally, which is at a label
abbrev pub PutsOpening : Emitter → Emitter → Site → StmtList → ℕ → Type 0
PutsOpening old new at s handler = EmitsOpening old.labels (draft_of old) (draft_of new) (scope_at at) at.line (suite_of s) handler

-- a with up to its exit, which is at a label
abbrev pub PutsManaged : Emitter → Emitter → Site → Managed → StmtList → Type 0
PutsManaged old new at m s = EmitsManaged old.labels (draft_of old) (draft_of new) (scope_at at) at.line (expr_of m.expr.now) m.target.now (suite_of s) m.handler

-- the body of a try with clauses at a label, from which another is jumped to
abbrev pub PutsTried : Emitter → Emitter → Site → StmtList → ℕ → ℕ → Type 0
PutsTried old new at s handler end = EmitsTried old.labels (draft_of old) (draft_of new) (scope_at at) at.line (suite_of s) handler end

-- the test of a clause, from which a label is jumped to where it fails, and what binds the clause's name
abbrev pub PutsMatch : Emitter → Emitter → Site → Name → Option Name → ℕ → Type 0
PutsMatch old new at c x other = EmitsMatch old.labels (draft_of old) (draft_of new) (scope_at at) at.line c x other

abbrev pub PutsTarget : Emitter → Emitter → Site → Option Name → Type 0
PutsTarget old new at x = EmitsTarget (draft_of old) (draft_of new) (scope_at at) at.line x

-- a local is unset
abbrev pub PutsForget : Emitter → Emitter → Site → Name → Type 0
PutsForget old new at x = EmitsForget (draft_of old) (draft_of new) (scope_at at) at.line x

-- the suite of a clause
abbrev pub PutsHandler : Emitter → Emitter → Site → Option Name → StmtList → Type 0
PutsHandler old new at x s = EmitsHandler old.labels (draft_of old) (draft_of new) (scope_at at) at.line x (suite_of s)

-- the same of a clause that binds a name, which is unset at its end
abbrev pub PutsForgetting : Emitter → Emitter → Site → Name → StmtList → Type 0
PutsForgetting old new at x s = PutsHandler old new at (Some x) s

-- clauses whose suites are left for a label
abbrev pub PutsClauses : Emitter → Emitter → OwnScope → ℕ → ClauseList → Type 0
PutsClauses old new scope end cs = EmitsClauses old.labels (draft_of old) (draft_of new) (scope_of scope) end (clauses_of cs)

-- ---- bodies

-- a whole body, with the return at its end
abbrev pub PutsBody : Emitter → Emitter → Tree → Type 0
PutsBody old new t = EmitsBody (draft_of old) (draft_of new) t
