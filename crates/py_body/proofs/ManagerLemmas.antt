-- What is emitted for a with.
use Rattle.std.proofs.Common.{◌≡◌, ◌+◌, ◌%◌, ◌^◌, ℕ, sym, ◌∙◌, subst, refl, arith}
use Rattle.std.specs.Prelude.{Option}
use Rattle.py_code.specs.declared.instruction.Instruction.TheVariants as op
use Rattle.py_tree.specs.Tree.{Name, Expr, With, Suite}
use Rattle.py_laid.specs.Code.{Scope, on, over, before_finally, in_finally}
use Rattle.py_body.specs.Sizes.{size_managed, size_suite}
use Rattle.py_body.specs.Emitting.{Draft, end_of, weights_of, LaidManaged, EmitsExpr, EmitsForm, EmitsJump, EmitsManaged, EmitsPlain, EmitsSuite, EmitsTarget}
use Rattle.py_body.proofs.BlockLemmas.{label_fits}
use Rattle.py_body.proofs.EmittingLemmas.{emits_as, emits_then}

pub managed_emits : {a b c d e f g : Draft} (scope before : Scope) (line : ℕ) (x : Expr) (y : Option Name) (s : Suite) (handler : ℕ) → before ≡ before_finally handler (on scope)
    → EmitsExpr a b scope line x → EmitsJump b.labels b c (over 1 scope) line op.SetupWith handler → EmitsTarget c d before line y → EmitsSuite d.labels d e before s
    → EmitsPlain e f before line op.PopBlock 0 → EmitsPlain f g (over 1 scope) line op.EnterFinally 0 → EmitsManaged a.labels a g scope line x y s handler
managed_emits {a} {b} {c} {d} {e} {f} {g} scope before line x y s handler is one two three four five six =
    let two_here : EmitsJump a.labels b c (over 1 scope) line op.SetupWith handler = subst (λ (l : ℕ). EmitsJump l b c (over 1 scope) line op.SetupWith handler) one.labels two in
    let three_there : EmitsTarget c d (before_finally handler (on scope)) line y = subst (λ (i : Scope). EmitsTarget c d i line y) is three in
    let four_here : EmitsSuite a.labels d e before s = subst (λ (l : ℕ). EmitsSuite l d e before s) (three.labels ∙ two.labels ∙ one.labels) four in
    let four_there : EmitsSuite a.labels d e (before_finally handler (on scope)) s = subst (λ (i : Scope). EmitsSuite a.labels d e i s) is four_here in
    let five_there : EmitsPlain e f (before_finally handler (on scope)) line op.PopBlock 0 = subst (λ (i : Scope). EmitsPlain e f i line op.PopBlock 0) is five in
    emits_as (emits_then (emits_then (emits_then (emits_then (emits_then one two_here) three_there) four_there) five_there) six) (λ w. refl)
    (λ room whole same (enters, _, _, (leaves, _, _, (begins, _, _, (binds, _, _, (sets, _, _, load, setup), bind), suite), pops), enter) fits around target
    placed. (sets, binds, begins, leaves, enters, load, setup fits, bind target, suite around placed, pops, enter))

pub with_emits : {a b c d : Draft} (scope within : Scope) (line : ℕ) (x : Expr) (y : Option Name) (s : Suite) (handler : ℕ) → within ≡ in_finally (on scope)
    → handler ≡ (end_of a + size_managed (weights_of a) x y (size_suite (weights_of a) s)) % 2 ^ 32
    → EmitsManaged a.labels a b scope line x y s handler → EmitsPlain b c within line op.WithCleanupStart 0 → EmitsPlain c d (over 1 within) line op.WithCleanupFinish 0
    → EmitsForm a.labels a d scope line (With x y s)
with_emits {a} {b} {c} {d} scope within line x y s handler is cut one two three =
    let two_there : EmitsPlain b c (in_finally (on scope)) line op.WithCleanupStart 0 = subst (λ (i : Scope). EmitsPlain b c i line op.WithCleanupStart 0) is two in
    let three_there : EmitsPlain c d (on (in_finally (on scope))) line op.WithCleanupFinish 0 = subst (λ (i : Scope). EmitsPlain c d (on i) line op.WithCleanupFinish 0) is three in
    emits_as (emits_then (emits_then one two_there) three_there) (λ w. refl)
    (λ room whole same (ends, _, next_is, (there, there_is, ends_is, managed, starts), finishes) around placed.
    let fits = label_fits {d = d} handler _ there a.labels room (three.labels ∙ two.labels ∙ one.labels) cut (sym there_is) (omega (arith, next_is, ends_is)) in
    let (sets, binds, begins, leaves, enters, load, setup, bind, suite, pops, enter) =
    subst (λ (h : ℕ). LaidManaged whole scope line x y s h (end_of a) there) fits.0 (managed fits.1 around placed.0 placed.1) in
    (sets, binds, begins, leaves, enters, there, ends, load, setup, bind, suite, pops, enter, starts, finishes))
