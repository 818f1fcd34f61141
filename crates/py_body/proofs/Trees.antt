-- Statements in their lists: their sizes, and what holds of them.
use Rattle.std.proofs.Common.{◌≡◌, ◌<◌, ◌≤◌, ◌+◌, ℕ, zero, suc, Bool, refl, sym, List, [], ◌∷◌, ◌++◌, ap, ◌∙◌, subst, length, take, get_or, arith}
use Rattle.std.proofs.lemmas.List.{take_more}
use Rattle.py_tree.specs.declared.stmt.Stmt.{Stmt}
use Rattle.py_tree.specs.Tree.{Form, Suite, nothing, first}
use Rattle.py_tree.specs.Views.{form_of}
use Rattle.py_tree.specs.Suites.{add, list_suite}
use Rattle.py_body.specs.declared.sizes.Weights.{Weights}
use Rattle.py_tree.specs.declared.body.BodyKind.{BodyKind}
use Rattle.py_tree.specs.Compilable.{FormFits, SuiteFits, FormNests, SuiteNests, statements, statements_in}
use Rattle.py_body.specs.Sizes.{size_form, size_suite}

list_suite_append : (stmts : List Stmt) (s : Stmt) → list_suite (stmts ++ s ∷ []) ≡ add (list_suite stmts) s.line (form_of s.form)
list_suite_append [] s = refl
list_suite_append (t ∷ stmts) s = ap (first t.line (form_of t.form)) (list_suite_append stmts s)

-- a statement stands behind those in front of it
pub suite_more : (stmts : List Stmt) (i : ℕ) (s : Stmt) → i < length stmts → s ≡ get_or stmts i s → list_suite (take (i + 1) stmts) ≡ add (list_suite (take i stmts)) s.line (form_of s.form)
suite_more stmts i s low is = ap list_suite (take_more stmts i s low ∙ ap (λ (t : Stmt). take i stmts ++ t ∷ []) (sym is)) ∙ list_suite_append (take i stmts) s

-- one statement more
pub size_add : (w : Weights) (s : Suite) (n : ℕ) (f : Form) → size_suite w (add s n f) ≡ size_suite w s + size_form w f
size_add w nothing n f = omega arith
size_add w (first m g more) n f = omega (arith, size_add w more n f)

-- it takes no more units than all take
pub size_at : (w : Weights) (stmts : List Stmt) (i : ℕ) (s : Stmt) → i < length stmts → s ≡ get_or stmts i s
    → size_suite w (list_suite (take i stmts)) + size_form w (form_of s.form) ≤ size_suite w (list_suite stmts)
size_at w [] i s low is = absurd (omega arith)
size_at w (t ∷ stmts) zero s low is = omega (arith, ap (λ (u : Stmt). size_form w (form_of u.form)) is)
size_at w (t ∷ stmts) (suc i) s low is = let later = size_at w stmts i s (omega (arith, low)) is in omega (arith, later)

-- nor are there more statements in it
pub statements_at : (stmts : List Stmt) (i : ℕ) (s : Stmt) → i < length stmts → s ≡ get_or stmts i s → statements_in (form_of s.form) ≤ statements (list_suite stmts)
statements_at [] i s low is = absurd (omega arith)
statements_at (t ∷ stmts) zero s low is = omega (arith, ap (λ (u : Stmt). statements_in (form_of u.form)) is)
statements_at (t ∷ stmts) (suc i) s low is = let later = statements_at stmts i s (omega (arith, low)) is in omega (arith, later)

-- it fits if all do
pub fits_at : (kind : BodyKind) (in_loop : Bool) (stmts : List Stmt) (i : ℕ) (s : Stmt) → i < length stmts → s ≡ get_or stmts i s → SuiteFits kind in_loop (list_suite stmts) → FormFits kind in_loop (form_of s.form)
fits_at kind in_loop [] i s low is fits = absurd (omega arith)
fits_at kind in_loop (t ∷ stmts) zero s low is fits = subst (λ (u : Stmt). FormFits kind in_loop (form_of u.form)) (sym is) fits.0
fits_at kind in_loop (t ∷ stmts) (suc i) s low is fits = fits_at kind in_loop stmts i s (omega (arith, low)) is fits.1

pub nests_at : (around : ℕ) (stmts : List Stmt) (i : ℕ) (s : Stmt) → i < length stmts → s ≡ get_or stmts i s → SuiteNests around (list_suite stmts) → FormNests around (form_of s.form)
nests_at around [] i s low is nests = absurd (omega arith)
nests_at around (t ∷ stmts) zero s low is nests = subst (λ (u : Stmt). FormNests around (form_of u.form)) (sym is) nests.0
nests_at around (t ∷ stmts) (suc i) s low is nests = nests_at around stmts i s (omega (arith, low)) is nests.1
