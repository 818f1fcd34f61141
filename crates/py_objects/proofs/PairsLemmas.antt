-- The pairs of a dict after one of them has another value.
use Rattle.std.proofs.Common.{◌≡◌, ℕ, zero, suc, ◌<◌, [], ◌∷◌, length, get_or, set, ap, arith}
use Rattle.py_objects.specs.Refs.{Obj}
use Rattle.py_objects.specs.Pairs.{Pairs, with_value}

-- a write of a pair that has the key of the one before
pub with_value-set : (ps : Pairs) (i : ℕ) (v : Obj) (q : Obj × Obj) → i < length ps → q ≡ get_or ps i q → set ps i (q.0, v) ≡ with_value ps i v
with_value-set [] i v q within is = absurd (omega arith)
with_value-set (p ∷ ps) zero v q within is = ap (λ r. (r.0, v) ∷ ps) is
with_value-set (p ∷ ps) (suc i) v q within is = ap (λ l. p ∷ l) (with_value-set ps i v q (omega arith) is)
