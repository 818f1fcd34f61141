-- The locals of a frame as those of a body.
use Rattle.std.proofs.Common.{◌≡◌, ◌<◌, suc, List, [], ◌∷◌, Bool, true, false, cond, Some, None, refl, ap, length, arith}
use Rattle.std.specs.Prelude.{Option, slice_get, slice_set, bytes_eq, ◌||◌}
use Rattle.std.specs.List.{list_any}
use Rattle.py_objects.specs.Objects.{Obj}
use Rattle.py_rows.specs.RunOfRows.{filled}
use Rattle.py_tree.specs.Tree.{Name}
use Rattle.py_tree.specs.Binding.{Env, find_local, set_local, begun}
use Rattle.py_laid.specs.Code.{place}

-- the names with the locals of a frame
abbrev pub env_of : List Name → List (Option Obj) → Env
env_of [] locals = []
env_of (x ∷ xs) [] = []
env_of (x ∷ xs) (v ∷ locals) = (x, v) ∷ env_of xs locals

-- a name that isn't among them is no local
pub find_local-free : (vars : List Name) (locals : List (Option Obj)) (x : Name) → list_any (bytes_eq x) vars ≡ false → find_local x (env_of vars locals) ≡ None
find_local-free [] locals x free = refl
find_local-free (y ∷ ys) [] x free = refl
find_local-free (y ∷ ys) (w ∷ locals) x free = by (bytes_eq x y) free (find_local-free ys locals x)
  where
    by : (b : Bool) → (b || list_any (bytes_eq x) ys) ≡ false → (list_any (bytes_eq x) ys ≡ false → find_local x (env_of ys locals) ≡ None)
        → cond b (Some w) (find_local x (env_of ys locals)) ≡ None
    by true none later = absurd (cc)
    by false none later = later none

-- the local of one that is stands at its place
pub find_local-bound : (vars : List Name) (locals : List (Option Obj)) (x : Name) → length locals ≡ length vars → list_any (bytes_eq x) vars ≡ true
    → (v : Option Obj) × (find_local x (env_of vars locals) ≡ Some v) × (slice_get locals (place vars x) ≡ Some v)
find_local-bound [] locals x same bound = absurd (cc)
find_local-bound (y ∷ ys) [] x same bound = absurd (omega (arith, same))
find_local-bound (y ∷ ys) (w ∷ locals) x same bound = by (bytes_eq x y) bound (find_local-bound ys locals x (omega (arith, same)))
  where
    by : (b : Bool) → (b || list_any (bytes_eq x) ys) ≡ true
        → (list_any (bytes_eq x) ys ≡ true → (v : Option Obj) × (find_local x (env_of ys locals) ≡ Some v) × (slice_get locals (place ys x) ≡ Some v))
        → (v : Option Obj) × (cond b (Some w) (find_local x (env_of ys locals)) ≡ Some v) × (slice_get (w ∷ locals) (cond b 0 (suc (place ys x))) ≡ Some v)
    by true is later = (w, refl, refl)
    by false is later = later is

-- a store at the place of a name sets its local
pub set_local-env_of : (vars : List Name) (locals : List (Option Obj)) (x : Name) (v : Option Obj) → place vars x < length vars → length locals ≡ length vars
    → set_local x v (env_of vars locals) ≡ env_of vars (slice_set locals (place vars x) v)
set_local-env_of [] locals x v below same = absurd (omega arith)
set_local-env_of (y ∷ ys) [] x v below same = absurd (omega arith)
set_local-env_of (y ∷ ys) (w ∷ locals) x v below same = by (bytes_eq x y) (λ low. set_local-env_of ys locals x v low (omega (arith, same))) below
  where
    by : (b : Bool) → (place ys x < length ys → set_local x v (env_of ys locals) ≡ env_of ys (slice_set locals (place ys x) v)) → cond b 0 (suc (place ys x)) < suc (length ys)
        → cond b ((y, v) ∷ env_of ys locals) ((y, w) ∷ set_local x v (env_of ys locals)) ≡ env_of (y ∷ ys) (slice_set (w ∷ locals) (cond b 0 (suc (place ys x))) v)
    by true later low = refl
    by false later low = ap (λ (env : Env). (y, w) ∷ env) (later (omega (arith, low)))

-- the locals at the entry
pub begun-env_of : (vars : List Name) (vs : List Obj) → begun vars vs ≡ env_of vars (filled (length vars) vs)
begun-env_of [] vs = refl
begun-env_of (x ∷ xs) [] = ap (λ (env : Env). (x, None) ∷ env) (begun-env_of xs [])
begun-env_of (x ∷ xs) (v ∷ vs) = ap (λ (env : Env). (x, Some v) ∷ env) (begun-env_of xs vs)
