-- Names that a body binds stand behind those that were bound before.
use Rattle.std.proofs.Common.{◌≤◌, List, [], ◌∷◌, ◌++◌, Bool, true, false, cond, Some, None, refl, sym, ap, ◌∙◌, length, length-append, append-nil, append_assoc, arith}
use Rattle.std.specs.Prelude.{Option, bytes_eq}
use Rattle.std.specs.List.{list_any}
use Rattle.py_tree.specs.Tree.{Name, Form, Assign, If, IfElse, While, TryExcept, TryFinally, With, Suite, nothing, first, Clauses, no_more, clause}
use Rattle.py_tree.specs.Binding.{bound, bound_if, bound_in, bound_by, bound_under}
use Rattle.py_laid.specs.Fits.{Continues}

pub Continues-refl : {A : Type 0} (xs : List A) → Continues xs xs
Continues-refl xs = ([], sym (append-nil xs))

pub Continues-trans : {A : Type 0} (xs ys zs : List A) → Continues xs ys → Continues ys zs → Continues xs zs
Continues-trans {A} xs ys zs (m, e) (n, f) = (m ++ n, f ∙ ap (λ (l : List A). l ++ n) e ∙ append_assoc xs m n)

pub Continues-bound : (names : List Name) (x : Name) → Continues names (bound names x)
Continues-bound names x = by (list_any (bytes_eq x) names)
  where
    by : (b : Bool) → Continues names (cond b names (names ++ x ∷ []))
    by true = Continues-refl names
    by false = (x ∷ [], refl)

Continues-bound_if : (names : List Name) (target : Option Name) → Continues names (bound_if names target)
Continues-bound_if names None = Continues-refl names
Continues-bound_if names (Some x) = Continues-bound names x

mutual
  pub Continues-bound_in : (f : Form) (names : List Name) → Continues names (bound_in names f)
  Continues-bound_in (Assign x e) names = Continues-bound names x
  Continues-bound_in (If a s) names = Continues-bound_by s names
  Continues-bound_in (IfElse a s t) names = Continues-trans names (bound_by names s) _ (Continues-bound_by s names) (Continues-bound_by t (bound_by names s))
  Continues-bound_in (While a s) names = Continues-bound_by s names
  Continues-bound_in (TryExcept s cs) names = Continues-trans names (bound_by names s) _ (Continues-bound_by s names) (Continues-bound_under cs (bound_by names s))
  Continues-bound_in (TryFinally s t) names = Continues-trans names (bound_by names s) _ (Continues-bound_by s names) (Continues-bound_by t (bound_by names s))
  Continues-bound_in (With a x s) names = Continues-trans names (bound_if names x) _ (Continues-bound_if names x) (Continues-bound_by s (bound_if names x))
  Continues-bound_in f names = Continues-refl names

  pub Continues-bound_by : (s : Suite) (names : List Name) → Continues names (bound_by names s)
  Continues-bound_by nothing names = Continues-refl names
  Continues-bound_by (first n f more) names = Continues-trans names (bound_in names f) _ (Continues-bound_in f names) (Continues-bound_by more (bound_in names f))

  pub Continues-bound_under : (cs : Clauses) (names : List Name) → Continues names (bound_under names cs)
  Continues-bound_under no_more names = Continues-refl names
  Continues-bound_under (clause n c x s more) names =
      Continues-trans names (bound_if names x) _ (Continues-bound_if names x)
      (Continues-trans (bound_if names x) (bound_by (bound_if names x) s) _ (Continues-bound_by s (bound_if names x)) (Continues-bound_under more (bound_by (bound_if names x) s)))

-- no name is lost
pub bound_by-longer : (s : Suite) (names : List Name) → length names ≤ length (bound_by names s)
bound_by-longer s names = let (more, is) = Continues-bound_by s names in omega (arith, ap length is, length-append names more)
