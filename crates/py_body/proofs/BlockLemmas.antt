-- What is emitted for suites, branches and loops.
use Rattle.std.proofs.Common.{◌≡◌, ◌<◌, ◌≤◌, ◌+◌, ◌%◌, ◌^◌, ℕ, zero, suc, refl, sym, ap, ◌∙◌, subst, arith}
use Rattle.py_code.specs.declared.instruction.Instruction.{Instruction}
use Rattle.py_code.specs.declared.instruction.Instruction.TheVariants as op
use Rattle.py_tree.specs.Tree.{Expr, Form, If, IfElse, Pass, While, Suite, nothing, first}
use Rattle.py_tree.specs.Suites.{add}
use Rattle.py_laid.specs.Code.{Parts, Labels, Scope, on, over, in_loop, Stands, LaidExpr, LaidForm, LaidSuite}
use Rattle.py_body.specs.Sizes.{size_expr, size_form, size_rounds, size_suite}
use Rattle.py_body.specs.Emitting.{Draft, end_of, weights_of, HasRoom, AroundFits, EmitsExpr, EmitsBranch, EmitsForm, EmitsJump, EmitsPlain, EmitsSuite}
use Rattle.py_body.proofs.Binding.{placed_add}
use Rattle.py_body.proofs.Trees.{size_add}
use Rattle.py_body.proofs.EmittingLemmas.{emits_as, emits_none, emits_then}

-- ---- labels

-- a number that fits the bytes of labels fits 32 bits
uncut : (labels k : ℕ) → labels ≤ 3 → k < 256 ^ suc labels → k % 2 ^ 32 ≡ k
uncut zero k low small = omega (arith, small)
uncut (suc zero) k low small = omega (arith, small)
uncut (suc (suc zero)) k low small = omega (arith, small)
uncut (suc (suc (suc zero))) k low small = omega (arith, small)
uncut (suc (suc (suc (suc labels)))) k low small = absurd (omega (arith, low))

-- a label of a place that is not behind the end is that place, and fits its bytes
pub label_fits : {d : Draft} (label place target labels : ℕ) → HasRoom d → d.labels ≡ labels → label ≡ place % 2 ^ 32 → place ≡ target → target ≤ end_of d
    → (label ≡ target) × (label < 256 ^ suc labels)
label_fits {d} label place target labels room same cut is low =
    let small : target < 256 ^ suc d.labels = omega (arith, room.units, low) in
    let whole : label ≡ target = cut ∙ ap (λ (n : ℕ). n % 2 ^ 32) is ∙ uncut d.labels target room.low small in
    let here : target < 256 ^ suc labels = subst (λ (n : ℕ). target < 256 ^ suc n) same small in
    (whole, omega (arith, whole, here))

-- ---- suites

pub suite_none : (labels : ℕ) (d : Draft) (scope : Scope) → EmitsSuite labels d d scope nothing
suite_none labels d scope = emits_as (emits_none {d = d} {A = λ whole at next. LaidSuite whole scope nothing at next} (λ whole. refl)) (λ w. refl) (λ room whole same laid around placed. laid)

-- a statement is laid behind others
laid_add : (parts : Parts) (scope : Scope) (s : Suite) (n : ℕ) (f : Form) (at mid next : ℕ) → LaidSuite parts scope s at mid → LaidForm parts scope n f mid next
    → LaidSuite parts scope (add s n f) at next
laid_add parts scope nothing n f at mid next same laid = (next, subst (λ (k : ℕ). LaidForm parts scope n f k next) same laid, refl)
laid_add parts scope (first m g more) n f at mid next (k, one, rest) laid = (k, one, laid_add parts scope more n f k mid next rest laid)

pub suite_add : {a b c : Draft} (scope : Scope) (s : Suite) (n : ℕ) (f : Form) → EmitsSuite a.labels a b scope s → EmitsForm b.labels b c scope n f → EmitsSuite a.labels a c scope (add s n f)
suite_add {a} {b} {c} scope s n f so_far one =
    let one_here : EmitsForm a.labels b c scope n f = subst (λ (l : ℕ). EmitsForm l b c scope n f) so_far.labels one in
    emits_as (emits_then so_far one_here) (λ w. sym (size_add w s n f))
    (λ room whole same (mid, _, _, front, last) around placed.
    let both = placed_add s whole.vars n f placed in
    laid_add whole scope s n f (end_of a) mid (end_of c) (front around both.0) (last around both.1))

pub pass_emits : (labels : ℕ) (d : Draft) (scope : Scope) (line : ℕ) → EmitsForm labels d d scope line Pass
pass_emits labels d scope line = emits_as (emits_none {d = d} {A = λ whole at next. LaidForm whole scope line Pass at next} (λ whole. refl)) (λ w. refl) (λ room whole same laid around placed. laid)

-- ---- branches

pub branch_emits : {a b c d : Draft} {i : Instruction} (scope : Scope) (line : ℕ) (x : Expr) (s : Suite) (behind : ℕ)
    → behind ≡ (end_of a + size_form (weights_of a) (If x s)) % 2 ^ 32
    → EmitsExpr a b scope line x → EmitsJump b.labels b c (over 1 scope) line i behind → EmitsSuite c.labels c d scope s → EmitsBranch a.labels a d scope line x i s
branch_emits {a} {b} {c} {d} {i} scope line x s behind cut one two three =
    let two_here : EmitsJump a.labels b c (over 1 scope) line i behind = subst (λ (l : ℕ). EmitsJump l b c (over 1 scope) line i behind) one.labels two in
    let three_here : EmitsSuite a.labels c d scope s = subst (λ (l : ℕ). EmitsSuite l c d scope s) (two.labels ∙ one.labels) three in
    emits_as (emits_then (emits_then one two_here) three_here) (λ w. refl)
    (λ room whole same (begins, begins_is, next_is, (asks, _, _, load, test), suite) around placed.
    let fits =
    label_fits {d = d} behind (end_of a + size_form (weights_of a) (If x s)) (end_of d) a.labels room (three.labels ∙ two.labels ∙ one.labels) cut (omega (arith, begins_is, next_is)) (omega arith) in
    (asks, begins, load, subst (λ (n : ℕ). Stands whole (on scope) line asks i n begins) fits.0 (test fits.1), suite around placed))

pub if_else_emits : {a b c d e f : Draft} (scope : Scope) (line : ℕ) (x : Expr) (s t : Suite) (second behind : ℕ)
    → second ≡ (end_of a + (size_expr (weights_of a) x + (weights_of a).jump + size_suite (weights_of a) s + (weights_of a).jump)) % 2 ^ 32
    → behind ≡ (end_of a + size_form (weights_of a) (IfElse x s t)) % 2 ^ 32
    → EmitsExpr a b scope line x → EmitsJump b.labels b c (over 1 scope) line op.JumpIfFalse second → EmitsSuite c.labels c d scope s → EmitsJump d.labels d e scope line op.Jump behind
    → EmitsSuite e.labels e f scope t
    → EmitsForm a.labels a f scope line (IfElse x s t)
if_else_emits {a} {b} {c} {d} {e} {f} scope line x s t second behind cut_second cut_behind one two three four five =
    let to_c = two.labels ∙ one.labels in
    let to_d = three.labels ∙ to_c in
    let to_e = four.labels ∙ to_d in
    let two_here : EmitsJump a.labels b c (over 1 scope) line op.JumpIfFalse second = subst (λ (l : ℕ). EmitsJump l b c (over 1 scope) line op.JumpIfFalse second) one.labels two in
    let three_here : EmitsSuite a.labels c d scope s = subst (λ (l : ℕ). EmitsSuite l c d scope s) to_c three in
    let four_here : EmitsJump a.labels d e scope line op.Jump behind = subst (λ (l : ℕ). EmitsJump l d e scope line op.Jump behind) to_d four in
    let five_here : EmitsSuite a.labels e f scope t = subst (λ (l : ℕ). EmitsSuite l e f scope t) to_e five in
    emits_as (emits_then (emits_then (emits_then (emits_then one two_here) three_here) four_here) five_here) (λ w. refl)
    (λ room whole same (other, other_is, next_is, (leaves, _, _, (begins, _, _, (asks, _, _, load, test), suite), leave), last) around placed.
    let fits = label_fits {d = f} second _ other a.labels room (five.labels ∙ to_e) cut_second (sym other_is) (omega (arith, next_is)) in
    let fits_end =
    label_fits {d = f} behind (end_of a + size_form (weights_of a) (IfElse x s t)) (end_of f) a.labels room (five.labels ∙ to_e) cut_behind (omega (arith, other_is, next_is)) (omega arith) in (
      asks,
      begins,
      leaves,
      other,
      load,
      subst (λ (n : ℕ). Stands whole (on scope) line asks op.JumpIfFalse n begins) fits.0 (test fits.1),
      suite around placed.0,
      subst (λ (n : ℕ). Stands whole scope line leaves op.Jump n other) fits_end.0 (leave fits_end.1),
      last around placed.1,
    ))

-- ---- loops

-- the code of a loop behind its set-up, inside of a scope
abbrev Rounds : Parts → ℕ → Expr → Suite → (tests asks begins repeats ends next : ℕ) → Scope → Type 0
Rounds whole line x s tests asks begins repeats ends next inner =
    LaidExpr whole inner line x tests asks × Stands whole (on inner) line asks op.JumpIfFalse ends begins × LaidSuite whole inner s begins repeats
    × Stands whole inner line repeats op.Jump tests ends × Stands whole inner line ends op.PopBlock 0 next

pub while_emits : {a b c d e f g : Draft} (scope inner : Scope) (line : ℕ) (x : Expr) (s : Suite) (labels : Labels) (end : ℕ) → inner ≡ in_loop labels scope
    → labels.again ≡ (end_of a + (weights_of a).plain) % 2 ^ 32 → labels.stop ≡ (end_of a + size_form (weights_of a) (While x s)) % 2 ^ 32 → end ≡ (end_of a + size_rounds (weights_of a) x s) % 2 ^ 32
    → EmitsPlain a b scope line op.SetupLoop 0 → EmitsExpr b c inner line x → EmitsJump c.labels c d (over 1 inner) line op.JumpIfFalse end → EmitsSuite d.labels d e inner s
    → EmitsJump e.labels e f inner line op.Jump labels.again → EmitsPlain f g inner line op.PopBlock 0 → EmitsForm a.labels a g scope line (While x s)
while_emits {a} {b} {c} {d} {e} {f} {g} scope inner line x s labels end inner_is cut_again cut_stop cut_end one two three four five six =
    let to_c = two.labels ∙ one.labels in
    let to_d = three.labels ∙ to_c in
    let to_e = four.labels ∙ to_d in
    let to_g = six.labels ∙ five.labels ∙ to_e in
    let three_here : EmitsJump a.labels c d (over 1 inner) line op.JumpIfFalse end = subst (λ (l : ℕ). EmitsJump l c d (over 1 inner) line op.JumpIfFalse end) to_c three in
    let four_here : EmitsSuite a.labels d e inner s = subst (λ (l : ℕ). EmitsSuite l d e inner s) to_d four in
    let five_here : EmitsJump a.labels e f inner line op.Jump labels.again = subst (λ (l : ℕ). EmitsJump l e f inner line op.Jump labels.again) to_e five in
    emits_as (emits_then (emits_then (emits_then (emits_then (emits_then one two) three_here) four_here) five_here) six) (λ w. refl)
    (λ room whole same (ends, ends_is, next_is, (repeats, repeats_is, e_is, (begins, begins_is, _, (asks, asks_is, _, (tests, tests_is, _, setup, load), test), suite), back), pop) around placed.
    let again = label_fits {d = g} labels.again _ tests a.labels room to_g cut_again (sym tests_is) (omega (arith, ends_is, next_is, tests_is)) in
    let stop = label_fits {d = g} labels.stop (end_of a + size_form (weights_of a) (While x s)) (end_of g) a.labels room to_g cut_stop (omega (arith, ends_is, next_is)) (omega arith) in
    let leave = label_fits {d = g} end _ ends a.labels room to_g cut_end (sym ends_is) (omega (arith, next_is)) in
    let labels_are : labels ≡ record { stop = end_of g; again = tests } = λ k. record { stop = stop.0 k; again = again.0 k } in
    let fits : AroundFits a.labels inner.around = subst (λ (i : Scope). AroundFits a.labels i.around) (sym inner_is) (stop.1, again.1) in
    let rounds : Rounds whole line x s tests asks begins repeats ends (end_of g) inner = (
      load,
      subst (λ (n : ℕ). Stands whole (on inner) line asks op.JumpIfFalse n begins) leave.0 (test leave.1),
      suite fits placed,
      subst (λ (n : ℕ). Stands whole inner line repeats op.Jump n ends) again.0 (back again.1),
      pop,
    ) in
    let (load_in, test_in, suite_in, back_in, pop_in) =
    subst (Rounds whole line x s tests asks begins repeats ends (end_of g)) (inner_is ∙ ap (λ (l : Labels). in_loop l scope) labels_are) rounds in
    (tests, asks, begins, repeats, ends, setup, load_in, test_in, suite_in, back_in, pop_in))
