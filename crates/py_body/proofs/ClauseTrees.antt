-- Clauses in their lists: their sizes, and what holds of them.
use Rattle.std.proofs.Common.{◌≡◌, ◌<◌, ◌≤◌, ◌+◌, ℕ, zero, suc, Bool, refl, sym, List, [], ◌∷◌, ◌++◌, ap, ◌∙◌, subst, length, take, get_or, arith, rules}
use Rattle.std.proofs.lemmas.List.{take_more}
use Rattle.py_tree.specs.declared.stmt.Clause.{Clause, Clause', out-Clause}
use Rattle.std.specs.Prelude.{Option, Some, None}
use Rattle.py_tree.specs.Tree.{Name, Suite, Clauses, no_more, clause}
use Rattle.py_tree.specs.declared.stmt.StmtForm.TheViews.{the_lemmas}
use Rattle.py_tree.specs.Views.{suite_of}
use Rattle.py_tree.specs.Binding.{bound_by, bound_if, bound_under}
use Rattle.py_tree.specs.Suites.{list_clauses, with_clause}
use Rattle.py_body.specs.declared.sizes.Weights.{Weights}
use Rattle.py_tree.specs.declared.body.BodyKind.{BodyKind}
use Rattle.py_tree.specs.Compilable.{ClausesFit, SuiteFits, ClausesNest, SuiteNests, statements, statements_under}
use Rattle.py_body.specs.Sizes.{size_clause, size_clauses, size_suite}

list_clauses_append : (clauses : List Clause) (c : Clause)
    → list_clauses (clauses ++ c ∷ []) ≡ with_clause (list_clauses clauses) (out-Clause c).line (out-Clause c).class (out-Clause c).target (suite_of (out-Clause c).suite)
list_clauses_append [] (Clause' line class target suite) = search (rules, the_lemmas)
list_clauses_append (Clause' line class target suite ∷ clauses) c = ap (clause line class target (suite_of suite)) (list_clauses_append clauses c)

-- a clause stands behind those in front of it
pub clauses_more : (clauses : List Clause) (i : ℕ) (c : Clause) → i < length clauses → c ≡ get_or clauses i c
    → list_clauses (take (i + 1) clauses) ≡ with_clause (list_clauses (take i clauses)) (out-Clause c).line (out-Clause c).class (out-Clause c).target (suite_of (out-Clause c).suite)
clauses_more clauses i c low is = ap list_clauses (take_more clauses i c low ∙ ap (λ (t : Clause). take i clauses ++ t ∷ []) (sym is)) ∙ list_clauses_append (take i clauses) c

-- ---- the parts of a clause

abbrev target_of : Clause → Option Name
target_of (Clause' line class target suite) = target

abbrev body_of : Clause → Suite
body_of (Clause' line class target suite) = suite_of suite

-- they are those that the program sees
target_out : (c : Clause) → (out-Clause c).target ≡ target_of c
target_out (Clause' line class target suite) = search (rules, the_lemmas)

body_out : (c : Clause) → suite_of (out-Clause c).suite ≡ body_of c
body_out (Clause' line class target suite) = search (rules, the_lemmas)

-- ---- sizes

-- how many units a clause takes
abbrev pub size_of : Weights → Clause → ℕ
size_of w c = size_clause w (out-Clause c).target (size_suite w (suite_of (out-Clause c).suite))

-- the same by the parts
abbrev size_in : Weights → Clause → ℕ
size_in w c = size_clause w (target_of c) (size_suite w (body_of c))

size_out : (w : Weights) (c : Clause) → size_of w c ≡ size_in w c
size_out w c = let target = target_out c in let body = body_out c in λ k. size_clause w (target k) (size_suite w (body k))

-- one clause more
pub size_with_clause : (w : Weights) (cs : Clauses) (line : ℕ) (class : Name) (target : Option Name) (suite : Suite)
    → size_clauses w (with_clause cs line class target suite) ≡ size_clauses w cs + size_clause w target (size_suite w suite)
size_with_clause w no_more line class target suite = omega arith
size_with_clause w (clause n x t s more) line class target suite = omega (arith, size_with_clause w more line class target suite)

at_in : (w : Weights) (clauses : List Clause) (i : ℕ) (c : Clause) → i < length clauses → c ≡ get_or clauses i c
    → size_clauses w (list_clauses (take i clauses)) + size_in w c ≤ size_clauses w (list_clauses clauses)
at_in w [] i c low is = absurd (omega arith)
at_in w (Clause' line class target suite ∷ clauses) zero c low is = omega (arith, ap (size_in w) is)
at_in w (Clause' line class target suite ∷ clauses) (suc i) c low is = let later = at_in w clauses i c (omega (arith, low)) is in omega (arith, later)

-- it takes no more units than all take
pub clause_size_at : (w : Weights) (clauses : List Clause) (i : ℕ) (c : Clause) → i < length clauses → c ≡ get_or clauses i c
    → size_clauses w (list_clauses (take i clauses)) + size_of w c ≤ size_clauses w (list_clauses clauses)
clause_size_at w clauses i c low is = omega (arith, at_in w clauses i c low is, size_out w c)

-- ---- statements

statements_in_at : (clauses : List Clause) (i : ℕ) (c : Clause) → i < length clauses → c ≡ get_or clauses i c → statements (body_of c) < statements_under (list_clauses clauses)
statements_in_at [] i c low is = absurd (omega arith)
statements_in_at (Clause' line class target suite ∷ clauses) zero c low is = omega (arith, ap (λ (d : Clause). statements (body_of d)) is)
statements_in_at (Clause' line class target suite ∷ clauses) (suc i) c low is = let later = statements_in_at clauses i c (omega (arith, low)) is in omega (arith, later)

-- there are fewer statements in it
pub clause_statements_at : (clauses : List Clause) (i : ℕ) (c : Clause) → i < length clauses → c ≡ get_or clauses i c
    → statements (suite_of (out-Clause c).suite) < statements_under (list_clauses clauses)
clause_statements_at clauses i c low is = omega (arith, statements_in_at clauses i c low is, ap statements (body_out c))

fits_in_at : (kind : BodyKind) (in_loop : Bool) (clauses : List Clause) (i : ℕ) (c : Clause) → i < length clauses → c ≡ get_or clauses i c → ClausesFit kind in_loop (list_clauses clauses) → SuiteFits kind in_loop (body_of c)
fits_in_at kind in_loop [] i c low is fits = absurd (omega arith)
fits_in_at kind in_loop (Clause' line class target suite ∷ clauses) zero c low is fits = subst (λ (d : Clause). SuiteFits kind in_loop (body_of d)) (sym is) fits.0
fits_in_at kind in_loop (Clause' line class target suite ∷ clauses) (suc i) c low is fits = fits_in_at kind in_loop clauses i c (omega (arith, low)) is fits.1

-- it fits if all do
pub clause_fits_at : (kind : BodyKind) (in_loop : Bool) (clauses : List Clause) (i : ℕ) (c : Clause) → i < length clauses → c ≡ get_or clauses i c → ClausesFit kind in_loop (list_clauses clauses)
    → SuiteFits kind in_loop (suite_of (out-Clause c).suite)
clause_fits_at kind in_loop clauses i c low is fits = subst (SuiteFits kind in_loop) (sym (body_out c)) (fits_in_at kind in_loop clauses i c low is fits)

nests_in_at : (around : ℕ) (clauses : List Clause) (i : ℕ) (c : Clause) → i < length clauses → c ≡ get_or clauses i c → ClausesNest around (list_clauses clauses) → SuiteNests around (body_of c)
nests_in_at around [] i c low is nests = absurd (omega arith)
nests_in_at around (Clause' line class target suite ∷ clauses) zero c low is nests = subst (λ (d : Clause). SuiteNests around (body_of d)) (sym is) nests.0
nests_in_at around (Clause' line class target suite ∷ clauses) (suc i) c low is nests = nests_in_at around clauses i c (omega (arith, low)) is nests.1

pub clause_nests_at : (around : ℕ) (clauses : List Clause) (i : ℕ) (c : Clause) → i < length clauses → c ≡ get_or clauses i c → ClausesNest around (list_clauses clauses)
    → SuiteNests around (suite_of (out-Clause c).suite)
clause_nests_at around clauses i c low is nests = subst (SuiteNests around) (sym (body_out c)) (nests_in_at around clauses i c low is nests)

-- the suite of a clause takes no more than the clause
pub suite_in_clause : (w : Weights) (x : Option Name) (body : ℕ) → body ≤ size_clause w x body
suite_in_clause w None body = omega arith
suite_in_clause w (Some x) body = omega arith

-- ---- what clauses bind

-- one clause more
bound_with_clause : (names : List Name) (cs : Clauses) (line : ℕ) (class : Name) (target : Option Name) (suite : Suite)
    → bound_under names (with_clause cs line class target suite) ≡ bound_by (bound_if (bound_under names cs) target) suite
bound_with_clause names no_more line class target suite = refl
bound_with_clause names (clause n x t s more) line class target suite = bound_with_clause (bound_by (bound_if names t) s) more line class target suite

pub bound_clause_more : (names : List Name) (clauses : List Clause) (i : ℕ) (c : Clause) → i < length clauses → c ≡ get_or clauses i c
    → bound_under names (list_clauses (take (i + 1) clauses)) ≡ bound_by (bound_if (bound_under names (list_clauses (take i clauses))) (out-Clause c).target) (suite_of (out-Clause c).suite)
bound_clause_more names clauses i c low is =
    let one = out-Clause c in
    ap (bound_under names) (clauses_more clauses i c low is) ∙ bound_with_clause names (list_clauses (take i clauses)) one.line one.class one.target (suite_of one.suite)
