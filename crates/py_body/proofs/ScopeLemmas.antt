-- Scopes with more values.
use Rattle.std.proofs.Common.{◌≡◌, ◌+◌, ◌≤◌, ℕ, zero, suc, refl, arith}
use Rattle.py_laid.specs.Code.{Scope, on, over}

-- so many more values
pub over_depth : (n : ℕ) (scope : Scope) → (over n scope).depth ≡ scope.depth + n
over_depth zero scope = omega arith
over_depth (suc n) scope = let later = over_depth n (on scope) in omega (arith, later)

pub over_blocks : (n : ℕ) (scope : Scope) → (over n scope).blocks ≡ scope.blocks
over_blocks zero scope = refl
over_blocks (suc n) scope = over_blocks n (on scope)

-- and it is shallow enough
pub over_shallow : (n : ℕ) (scope : Scope) → scope.depth + n ≤ 65535 → (over n scope).depth ≤ 65535
over_shallow n scope low = omega (arith, over_depth n scope, low)
