-- What is emitted for statements without suites.
use Rattle.std.proofs.Common.{◌≡◌, ◌+◌, ℕ, refl}
use Rattle.std.specs.Prelude.{Result, Ok, Err, OnOk}
use Rattle.py_code.specs.declared.instruction.Instruction.{Instruction}
use Rattle.py_code.specs.declared.instruction.Instruction.TheVariants as op
use Rattle.py_code.specs.declared.operator.RaiseKind.TheVariants as kind
use Rattle.py_code.specs.Numbers.{raise_number}
use Rattle.py_tree.specs.declared.expr.Operator.{Operator}
use Rattle.py_tree.specs.Tree.{Name, Expr, Operate, Exprs, Form, Assign, Do, Reraise}
use Rattle.py_laid.specs.Code.{Parts, Scope, over, LaidTaken, LaidForm}
use Rattle.py_body.specs.declared.sizes.Weights.{Weights}
use Rattle.py_body.specs.Sizes.{size_expr, size_form}
use Rattle.py_body.specs.Emitting.{Draft, EmitsExpr, EmitsForm, EmitsLocal, EmitsPlain, EmitsTaken}
use Rattle.py_body.proofs.EmittingLemmas.{emits_as, emits_then}

pub assign_emits : {a b c : Draft} (labels : ℕ) (scope : Scope) (line : ℕ) (x : Name) (e : Expr) → EmitsExpr a b scope line e → EmitsLocal b c (over 1 scope) line op.StoreFast x
    → EmitsForm labels a c scope line (Assign x e)
assign_emits labels scope line x e value store = emits_as (emits_then value store) (λ w. refl) (λ room whole same (mid, _, _, loads, stands) around placed. (mid, loads, stands placed))

pub do_emits : {a b c : Draft} (labels : ℕ) (scope : Scope) (line : ℕ) (o : Operator) (es : Exprs) → EmitsExpr a b scope line (Operate o es) → EmitsPlain b c (over 1 scope) line op.Pop 0
    → EmitsForm labels a c scope line (Do o es)
do_emits labels scope line o es value drops = emits_as (emits_then value drops) (λ w. refl) (λ room whole same (mid, _, _, loads, stands) around placed. (mid, loads, stands))

pub taken_emits : {a b c : Draft} (scope : Scope) (line : ℕ) (x : Expr) (i : Instruction) (arg : ℕ) → EmitsExpr a b scope line x → EmitsPlain b c (over 1 scope) line i arg → EmitsTaken a c scope line x i arg
taken_emits scope line x i arg value takes = emits_as (emits_then value takes) (λ w. refl) (λ room whole same (mid, _, _, loads, stands). (mid, loads, stands))

-- a statement whose code is that of an expression and the unit that takes it
pub form_taken : {A E : Type 0} (r : Result A E) (a b : Draft) (labels : ℕ) (scope : Scope) (line : ℕ) (f : Form) (x : Expr) (i : Instruction) (arg : ℕ)
    → ((w : Weights) → size_expr w x + w.plain ≡ size_form w f) → ((whole : Parts) (at next : ℕ) → LaidTaken whole scope line x i arg at next → LaidForm whole scope line f at next)
    → OnOk r (EmitsTaken a b scope line x i arg) → OnOk r (EmitsForm labels a b scope line f)
form_taken (Ok done) a b labels scope line f x i arg sized as_form taken = emits_as taken sized (λ room whole same laid around placed. as_form whole _ _ laid)
form_taken (Err e) a b labels scope line f x i arg sized as_form taken = tt

pub reraise_emits : {a b : Draft} (labels : ℕ) (scope : Scope) (line : ℕ) → EmitsPlain a b scope line op.Raise (raise_number kind.Reraise) → EmitsForm labels a b scope line Reraise
reraise_emits labels scope line raises = emits_as raises (λ w. refl) (λ room whole same stands around placed. stands)
