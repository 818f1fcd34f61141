-- What a body binds has places among its locals.
use Rattle.std.proofs.Common.{List, Some, None, ◌≡◌, refl, ℕ}
use Rattle.std.specs.Prelude.{Option}
use Rattle.py_tree.specs.Tree.{Name, Form, Assign, If, IfElse, While, TryExcept, TryFinally, With, Suite, nothing, first, Clauses, no_more, clause}
use Rattle.py_tree.specs.Binding.{bound_if, bound_in, bound_by, bound_under}
use Rattle.py_tree.specs.Suites.{add}
use Rattle.py_laid.specs.Fits.{Continues}
use Rattle.py_laid.proofs.BindingLemmas.{Continues-trans, Continues-bound_by, Continues-bound_under}
use Rattle.py_body.specs.Emitting.{TargetPlaced, FormPlaced, SuitePlaced, ClausesPlaced}
use Rattle.py_body.proofs.Places.{placed_bound, placed_on}

-- ---- places stay as the names go on

target_on : (names vars : List Name) (target : Option Name) → Continues names vars → TargetPlaced names target → TargetPlaced vars target
target_on names vars None on placed = tt
target_on names vars (Some x) on placed = placed_on names vars x on placed

mutual
  form_on : (f : Form) (names vars : List Name) → Continues names vars → FormPlaced names f → FormPlaced vars f
  form_on (Assign x e) names vars on placed = placed_on names vars x on placed
  form_on (If a s) names vars on placed = suite_on s names vars on placed
  form_on (IfElse a s t) names vars on placed = (suite_on s names vars on placed.0, suite_on t names vars on placed.1)
  form_on (While a s) names vars on placed = suite_on s names vars on placed
  form_on (TryExcept s cs) names vars on placed = (suite_on s names vars on placed.0, clauses_on cs names vars on placed.1)
  form_on (TryFinally s t) names vars on placed = (suite_on s names vars on placed.0, suite_on t names vars on placed.1)
  form_on (With a x s) names vars on placed = (target_on names vars x on placed.0, suite_on s names vars on placed.1)
  form_on f names vars on placed = tt

  suite_on : (s : Suite) (names vars : List Name) → Continues names vars → SuitePlaced names s → SuitePlaced vars s
  suite_on nothing names vars on placed = tt
  suite_on (first n f more) names vars on placed = (form_on f names vars on placed.0, suite_on more names vars on placed.1)

  clauses_on : (cs : Clauses) (names vars : List Name) → Continues names vars → ClausesPlaced names cs → ClausesPlaced vars cs
  clauses_on no_more names vars on placed = tt
  clauses_on (clause n c x s more) names vars on placed = (target_on names vars x on placed.0, suite_on s names vars on placed.1, clauses_on more names vars on placed.2)

-- ---- all that a suite binds is bound by it

target_bound : (names : List Name) (target : Option Name) → TargetPlaced (bound_if names target) target
target_bound names None = tt
target_bound names (Some x) = placed_bound names x

mutual
  form_bound : (f : Form) (names : List Name) → FormPlaced (bound_in names f) f
  form_bound (Assign x e) names = placed_bound names x
  form_bound (If a s) names = suite_bound s names
  form_bound (IfElse a s t) names = (suite_on s (bound_by names s) _ (Continues-bound_by t (bound_by names s)) (suite_bound s names), suite_bound t (bound_by names s))
  form_bound (While a s) names = suite_bound s names
  form_bound (TryExcept s cs) names = (suite_on s (bound_by names s) _ (Continues-bound_under cs (bound_by names s)) (suite_bound s names), clauses_bound cs (bound_by names s))
  form_bound (TryFinally s t) names = (suite_on s (bound_by names s) _ (Continues-bound_by t (bound_by names s)) (suite_bound s names), suite_bound t (bound_by names s))
  form_bound (With a x s) names = (target_on (bound_if names x) _ x (Continues-bound_by s (bound_if names x)) (target_bound names x), suite_bound s (bound_if names x))
  form_bound f names = tt

  pub suite_bound : (s : Suite) (names : List Name) → SuitePlaced (bound_by names s) s
  suite_bound nothing names = tt
  suite_bound (first n f more) names = (form_on f (bound_in names f) _ (Continues-bound_by more (bound_in names f)) (form_bound f names), suite_bound more (bound_in names f))

  clauses_bound : (cs : Clauses) (names : List Name) → ClausesPlaced (bound_under names cs) cs
  clauses_bound no_more names = tt
  clauses_bound (clause n c x s more) names = (
    target_on (bound_if names x) _ x
        (Continues-trans (bound_if names x) (bound_by (bound_if names x) s) _ (Continues-bound_by s (bound_if names x)) (Continues-bound_under more (bound_by (bound_if names x) s)))
        (target_bound names x),
    suite_on s (bound_by (bound_if names x) s) _ (Continues-bound_under more (bound_by (bound_if names x) s)) (suite_bound s (bound_if names x)),
    clauses_bound more (bound_by (bound_if names x) s),
  )

-- ---- one behind others

pub bound_by-add : (s : Suite) (names : List Name) (n : ℕ) (f : Form) → bound_by names (add s n f) ≡ bound_in (bound_by names s) f
bound_by-add nothing names n f = refl
bound_by-add (first m g more) names n f = bound_by-add more (bound_in names g) n f

pub placed_add : (s : Suite) (vars : List Name) (n : ℕ) (f : Form) → SuitePlaced vars (add s n f) → SuitePlaced vars s × FormPlaced vars f
placed_add nothing vars n f placed = (tt, placed.0)
placed_add (first m g more) vars n f placed = let later = placed_add more vars n f placed.1 in ((placed.0, later.0), later.1)
