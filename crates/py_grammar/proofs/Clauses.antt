-- Clauses that are read one after another.
use Rattle.std.proofs.Common.{◌≡◌, refl, ap}
use Rattle.py_tree.specs.Tree.{Clauses, no_more, clause}
use Rattle.py_tree.specs.Suites.{joined_clauses}

pub joined_clauses_assoc : (a b c : Clauses) → joined_clauses (joined_clauses a b) c ≡ joined_clauses a (joined_clauses b c)
joined_clauses_assoc no_more b c = refl
joined_clauses_assoc (clause n c x s more) b d = ap (clause n c x s) (joined_clauses_assoc more b d)

pub joined_clauses-no_more : (a : Clauses) → joined_clauses a no_more ≡ a
joined_clauses-no_more no_more = refl
joined_clauses-no_more (clause n c x s more) = ap (clause n c x s) (joined_clauses-no_more more)
