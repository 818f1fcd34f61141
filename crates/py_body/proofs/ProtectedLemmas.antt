-- What is emitted for tries.
use Rattle.std.proofs.Common.{◌≡◌, ◌+◌, ◌%◌, ◌^◌, ℕ, List, refl, sym, ap, ◌∙◌, subst, arith}
use Rattle.std.specs.Prelude.{Option, Some, None}
use Rattle.py_code.specs.declared.instruction.Instruction.TheVariants as op
use Rattle.py_code.specs.declared.literal.Literal.{None as NoneLiteral}
use Rattle.py_code.specs.declared.operator.RaiseKind.TheVariants as kind
use Rattle.py_code.specs.declared.operator.TestOperator.TheVariants as test
use Rattle.py_code.specs.Numbers.{raise_number, test_number}
use Rattle.py_tree.specs.declared.expr.Atom.TheVariants as atom
use Rattle.py_tree.specs.Tree.{Name, TryExcept, TryFinally, Suite, Clauses, no_more, clause}
use Rattle.py_tree.specs.Suites.{joined_clauses}
use Rattle.py_laid.specs.Code.{Scope, on, over, before_finally, in_clauses, in_finally, in_try, LaidClauses}
use Rattle.py_body.specs.Sizes.{size_clause, size_form, size_opening, size_suite, size_tried}
use Rattle.py_body.specs.Emitting.{Draft, end_of, weights_of, ClausesPlaced, LaidMatch, LaidOpening, LaidTried, EmitsAtom, EmitsClause, EmitsClauses, EmitsConst}
use Rattle.py_body.specs.Emitting.{EmitsForget, EmitsForm, EmitsHandler, EmitsJump, EmitsLocal, EmitsMatch, EmitsOpening, EmitsPlain, EmitsSuite, EmitsTarget, EmitsTried}
use Rattle.py_body.proofs.BlockLemmas.{label_fits}
use Rattle.py_body.proofs.ClauseTrees.{size_with_clause}
use Rattle.py_body.proofs.EmittingLemmas.{emits_as, emits_none, emits_then}

-- ---- a try with a finally

pub opening_emits : {a b c d e : Draft} (scope before : Scope) (line : ℕ) (s : Suite) (handler : ℕ) → before ≡ before_finally handler scope
    → EmitsJump a.labels a b scope line op.SetupFinally handler → EmitsSuite b.labels b c before s → EmitsPlain c d before line op.PopBlock 0 → EmitsPlain d e scope line op.EnterFinally 0
    → EmitsOpening a.labels a e scope line s handler
opening_emits {a} {b} {c} {d} {e} scope before line s handler is one two three four =
    let two_here : EmitsSuite a.labels b c before s = subst (λ (l : ℕ). EmitsSuite l b c before s) one.labels two in
    let two_there : EmitsSuite a.labels b c (before_finally handler scope) s = subst (λ (i : Scope). EmitsSuite a.labels b c i s) is two_here in
    let three_there : EmitsPlain c d (before_finally handler scope) line op.PopBlock 0 = subst (λ (i : Scope). EmitsPlain c d i line op.PopBlock 0) is three in
    emits_as (emits_then (emits_then (emits_then one two_there) three_there) four) (λ w. refl)
    (λ room whole same (enters, _, _, (leaves, _, _, (begins, _, _, setup, suite), pops), enter) fits around placed. (begins, leaves, enters, setup fits, suite around placed, pops, enter))

pub try_finally_emits : {a b c d : Draft} (scope within : Scope) (line : ℕ) (s t : Suite) (handler : ℕ) → within ≡ in_finally scope
    → handler ≡ (end_of a + size_opening (weights_of a) (size_suite (weights_of a) s)) % 2 ^ 32
    → EmitsOpening a.labels a b scope line s handler → EmitsSuite b.labels b c within t → EmitsPlain c d within line op.EndFinally 0 → EmitsForm a.labels a d scope line (TryFinally s t)
try_finally_emits {a} {b} {c} {d} scope within line s t handler is cut one two three =
    let two_here : EmitsSuite a.labels b c within t = subst (λ (l : ℕ). EmitsSuite l b c within t) one.labels two in
    let two_there : EmitsSuite a.labels b c (in_finally scope) t = subst (λ (i : Scope). EmitsSuite a.labels b c i t) is two_here in
    let three_there : EmitsPlain c d (in_finally scope) line op.EndFinally 0 = subst (λ (i : Scope). EmitsPlain c d i line op.EndFinally 0) is three in
    emits_as (emits_then (emits_then one two_there) three_there) (λ w. refl)
    (λ room whole same (ends, _, next_is, (there, there_is, ends_is, opening, last), stands) around placed.
    let fits = label_fits {d = d} handler _ there a.labels room (three.labels ∙ two.labels ∙ one.labels) cut (sym there_is) (omega (arith, next_is, ends_is)) in
    let (begins, leaves, enters, setup, suite, pops, enter) = subst (λ (h : ℕ). LaidOpening whole scope line s h (end_of a) there) fits.0 (opening fits.1 around placed.0) in
    (begins, leaves, enters, there, ends, setup, suite, pops, enter, last around placed.1, stands))

-- ---- the suites of clauses

pub forget_emits : {a b c d : Draft} (scope : Scope) (line : ℕ) (x : Name) → EmitsConst a b scope line op.LoadConst NoneLiteral → EmitsLocal b c (over 1 scope) line op.StoreFast x
    → EmitsLocal c d scope line op.DeleteFast x
    → EmitsForget a d scope line x
forget_emits scope line x one two three =
    emits_as (emits_then (emits_then one two) three) (λ w. refl) (λ room whole same (deletes, _, _, (stores, _, _, load, store), delete) placed. (stores, deletes, load, store placed, delete placed))

pub forgetting_emits : {a b c d : Draft} (scope within : Scope) (line : ℕ) (x : Name) (s : Suite) (handler : ℕ) → within ≡ in_finally scope
    → handler ≡ (end_of a + size_opening (weights_of a) (size_suite (weights_of a) s)) % 2 ^ 32
    → EmitsOpening a.labels a b scope line s handler → EmitsForget b c within line x → EmitsPlain c d within line op.EndFinally 0 → EmitsHandler a.labels a d scope line (Some x) s
forgetting_emits {a} {b} {c} {d} scope within line x s handler is cut one two three =
    let two_there : EmitsForget b c (in_finally scope) line x = subst (λ (i : Scope). EmitsForget b c i line x) is two in
    let three_there : EmitsPlain c d (in_finally scope) line op.EndFinally 0 = subst (λ (i : Scope). EmitsPlain c d i line op.EndFinally 0) is three in
    emits_as (emits_then (emits_then one two_there) three_there) (λ w. refl)
    (λ room whole same (ends, _, next_is, (there, there_is, ends_is, opening, last), stands) around target placed.
    let fits = label_fits {d = d} handler _ there a.labels room (three.labels ∙ two.labels ∙ one.labels) cut (sym there_is) (omega (arith, next_is, ends_is)) in
    let (begins, leaves, enters, setup, suite, pops, enter) = subst (λ (h : ℕ). LaidOpening whole scope line s h (end_of a) there) fits.0 (opening fits.1 around placed) in
    (begins, leaves, enters, there, ends, setup, suite, pops, enter, last target, stands))

pub plain_handler_emits : {a b : Draft} (labels : ℕ) (scope : Scope) (line : ℕ) (s : Suite) → EmitsSuite labels a b scope s → EmitsHandler labels a b scope line None s
plain_handler_emits labels scope line s suite = emits_as suite (λ w. refl) (λ room whole same laid around target placed. laid around placed)

-- ---- clauses

pub match_emits : {a b c d e f : Draft} (scope : Scope) (line : ℕ) (c_name : Name) (x : Option Name) (other : ℕ)
    → EmitsPlain a b (over 1 scope) line op.Duplicate 0 → EmitsAtom b c (over 2 scope) line (atom.Name c_name) → EmitsPlain c d (over 3 scope) line op.TestOperation (test_number test.ExceptionMatch)
    → EmitsJump d.labels d e (over 2 scope) line op.JumpIfFalse other → EmitsTarget e f scope line x → EmitsMatch a.labels a f scope line c_name x other
match_emits {a} {b} {c} {d} {e} {f} scope line c_name x other one two three four five =
    let four_here : EmitsJump a.labels d e (over 2 scope) line op.JumpIfFalse other =
    subst (λ (l : ℕ). EmitsJump l d e (over 2 scope) line op.JumpIfFalse other) (three.labels ∙ two.labels ∙ one.labels) four in
    emits_as (emits_then (emits_then (emits_then (emits_then one two) three) four_here) five) (λ w. refl)
    (λ room whole same (binds, _, _, (decides, _, _, (asks, _, _, (loads, _, _, double, load), tests), jump), bind) fits
    placed. (loads, asks, decides, binds, double, load, tests, jump fits, bind placed))

pub clause_emits : {a b c d e : Draft} (scope within : Scope) (n : ℕ) (c_name : Name) (x : Option Name) (s : Suite) (other end : ℕ) → within ≡ in_clauses scope
    → other ≡ (end_of a + size_clause (weights_of a) x (size_suite (weights_of a) s)) % 2 ^ 32
    → EmitsMatch a.labels a b within n c_name x other → EmitsHandler b.labels b c within n x s → EmitsPlain c d within n op.PopException 0 → EmitsJump d.labels d e scope n op.Jump end
    → EmitsClause a.labels a e scope end n c_name x s
clause_emits {a} {b} {c} {d} {e} scope within n c_name x s other end is cut one two three four =
    let to_c = two.labels ∙ one.labels in
    let to_d = three.labels ∙ to_c in
    let one_there : EmitsMatch a.labels a b (in_clauses scope) n c_name x other = subst (λ (i : Scope). EmitsMatch a.labels a b i n c_name x other) is one in
    let two_here : EmitsHandler a.labels b c within n x s = subst (λ (l : ℕ). EmitsHandler l b c within n x s) one.labels two in
    let two_there : EmitsHandler a.labels b c (in_clauses scope) n x s = subst (λ (i : Scope). EmitsHandler a.labels b c i n x s) is two_here in
    let three_there : EmitsPlain c d (in_clauses scope) n op.PopException 0 = subst (λ (i : Scope). EmitsPlain c d i n op.PopException 0) is three in
    let four_here : EmitsJump a.labels d e scope n op.Jump end = subst (λ (l : ℕ). EmitsJump l d e scope n op.Jump end) to_d four in
    emits_as (emits_then (emits_then (emits_then one_there two_there) three_there) four_here) (λ w. refl)
    (λ room whole same (jumps, jumps_is, next_is, (leaves, _, _, (begins, _, _, matches, handler), pop), jump) end_fits around target placed line more rest.
    let fits = label_fits {d = e} other (end_of a + size_clause (weights_of a) x (size_suite (weights_of a) s)) (end_of e) a.labels room (four.labels ∙ to_d) cut
    (omega (arith, jumps_is, next_is)) (omega arith) in
    let (loads, asks, decides, binds, double, load, tests, decide, bind) = subst (λ (o : ℕ). LaidMatch whole (in_clauses scope) n c_name x o (end_of a) begins) fits.0 (matches fits.1 target) in
    (loads, asks, decides, binds, begins, leaves, jumps, end_of e, double, load, tests, decide, bind, handler around target placed, pop, jump end_fits, rest))

pub clauses_none : (labels : ℕ) (d : Draft) (scope : Scope) (end : ℕ) → EmitsClauses labels d d scope end no_more
clauses_none labels d scope end =
    emits_as
    (emits_none {d = d} {A = λ whole at next. (line : ℕ) (more : Clauses) → LaidClauses whole scope line more next end → LaidClauses whole scope line more at end} (λ whole line more rest. rest))
    (λ w. refl) (λ room whole same laid end_fits around placed. laid)

-- clauses behind a clause behind clauses
behind_behind : (cs : Clauses) (n : ℕ) (c_name : Name) (x : Option Name) (s : Suite) (more : Clauses)
    → joined_clauses (joined_clauses cs (clause n c_name x s no_more)) more ≡ joined_clauses cs (clause n c_name x s more)
behind_behind no_more n c_name x s more = refl
behind_behind (clause m d y t others) n c_name x s more = ap (clause m d y t) (behind_behind others n c_name x s more)

-- all targets have places if those of the first and of the last have
placed_behind : (vars : List Name) (cs : Clauses) (n : ℕ) (c_name : Name) (x : Option Name) (s : Suite) → ClausesPlaced vars (joined_clauses cs (clause n c_name x s no_more))
    → ClausesPlaced vars cs × ClausesPlaced vars (clause n c_name x s no_more)
placed_behind vars no_more n c_name x s placed = (tt, placed)
placed_behind vars (clause m d y t others) n c_name x s placed = let later = placed_behind vars others n c_name x s placed.2 in ((placed.0, placed.1, later.0), later.1)

pub clauses_add : {a b c : Draft} (scope : Scope) (end : ℕ) (cs : Clauses) (n : ℕ) (c_name : Name) (x : Option Name) (s : Suite) → EmitsClauses a.labels a b scope end cs
    → EmitsClause b.labels b c scope end n c_name x s
    → EmitsClauses a.labels a c scope end (joined_clauses cs (clause n c_name x s no_more))
clauses_add {a} {b} {c} scope end cs n c_name x s so_far one =
    let one_here : EmitsClause a.labels b c scope end n c_name x s = subst (λ (l : ℕ). EmitsClause l b c scope end n c_name x s) so_far.labels one in
    emits_as (emits_then so_far one_here) (λ w. sym (size_with_clause w cs n c_name x s))
    (λ room whole same (mid, _, _, front, last) end_fits around placed line more rest.
    let both = placed_behind whole.vars cs n c_name x s placed in
    subst (λ (all : Clauses). LaidClauses whole scope line all (end_of a) end) (sym (behind_behind cs n c_name x s more))
    (front end_fits around both.0 line (clause n c_name x s more) (last end_fits around both.1.0 both.1.1 line more rest)))

-- nothing follows
behind_none : (cs : Clauses) → joined_clauses cs no_more ≡ cs
behind_none no_more = refl
behind_none (clause n c_name x s more) = ap (clause n c_name x s) (behind_none more)

-- ---- a try with clauses

pub tried_emits : {a b c d e : Draft} (scope inner : Scope) (line : ℕ) (s : Suite) (handler end : ℕ) → inner ≡ in_try handler scope
    → EmitsJump a.labels a b scope line op.SetupExcept handler → EmitsSuite b.labels b c inner s → EmitsPlain c d inner line op.PopBlock 0 → EmitsJump d.labels d e scope line op.Jump end
    → EmitsTried a.labels a e scope line s handler end
tried_emits {a} {b} {c} {d} {e} scope inner line s handler end is one two three four =
    let two_here : EmitsSuite a.labels b c inner s = subst (λ (l : ℕ). EmitsSuite l b c inner s) one.labels two in
    let two_there : EmitsSuite a.labels b c (in_try handler scope) s = subst (λ (i : Scope). EmitsSuite a.labels b c i s) is two_here in
    let three_there : EmitsPlain c d (in_try handler scope) line op.PopBlock 0 = subst (λ (i : Scope). EmitsPlain c d i line op.PopBlock 0) is three in
    let four_here : EmitsJump a.labels d e scope line op.Jump end = subst (λ (l : ℕ). EmitsJump l d e scope line op.Jump end) (three.labels ∙ two.labels ∙ one.labels) four in
    emits_as (emits_then (emits_then (emits_then one two_there) three_there) four_here) (λ w. refl)
    (λ room whole same (jumps, _, _, (leaves, _, _, (begins, _, _, setup, suite), pops), jump) fits end_fits around
    placed. (begins, leaves, jumps, setup fits, suite around placed, pops, jump end_fits))

pub try_except_emits : {a b c d : Draft} (scope within : Scope) (line : ℕ) (s : Suite) (cs : Clauses) (handler end : ℕ) → within ≡ in_clauses scope
    → handler ≡ (end_of a + size_tried (weights_of a) s) % 2 ^ 32 → end ≡ (end_of a + size_form (weights_of a) (TryExcept s cs)) % 2 ^ 32
    → EmitsTried a.labels a b scope line s handler end → EmitsClauses b.labels b c scope end cs → EmitsPlain c d (over 1 within) line op.Raise (raise_number kind.Reraise)
    → EmitsForm a.labels a d scope line (TryExcept s cs)
try_except_emits {a} {b} {c} {d} scope within line s cs handler end is cut cut_end one two three =
    let to_d = three.labels ∙ two.labels ∙ one.labels in
    let two_here : EmitsClauses a.labels b c scope end cs = subst (λ (l : ℕ). EmitsClauses l b c scope end cs) one.labels two in
    let three_there : EmitsPlain c d (on (in_clauses scope)) line op.Raise (raise_number kind.Reraise) =
    subst (λ (i : Scope). EmitsPlain c d (on i) line op.Raise (raise_number kind.Reraise)) is three in
    emits_as (emits_then (emits_then one two_here) three_there) (λ w. refl)
    (λ room whole same (last, last_is, next_is, (there, there_is, also_last, tried, clauses), raises) around placed.
    let fits = label_fits {d = d} handler _ there a.labels room to_d cut (sym there_is) (omega (arith, next_is, also_last)) in
    let ends = label_fits {d = d} end (end_of a + size_form (weights_of a) (TryExcept s cs)) (end_of d) a.labels room to_d cut_end (omega (arith, last_is, next_is)) (omega arith) in
    let laid : LaidTried whole scope line s there (end_of d) (end_of a) there =
    subst (λ (h : ℕ). LaidTried whole scope line s h (end_of d) (end_of a) there) fits.0
    (subst (λ (n : ℕ). LaidTried whole scope line s handler n (end_of a) there) ends.0 (tried fits.1 ends.1 around placed.0)) in
    let (begins, leaves, jumps, setup, suite, pops, jump) = laid in
    let raised : LaidClauses whole scope line no_more last end = subst (λ (n : ℕ). LaidClauses whole scope line no_more last n) (sym ends.0) raises in
    let handled : LaidClauses whole scope line (joined_clauses cs no_more) there end = clauses ends.1 around placed.1 line no_more raised in (
      begins,
      leaves,
      jumps,
      there,
      setup,
      suite,
      pops,
      jump,
      subst (λ (n : ℕ). LaidClauses whole scope line cs there n) ends.0 (subst (λ (all : Clauses). LaidClauses whole scope line all there end) (behind_none cs) handled),
    ))
