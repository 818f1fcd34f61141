-- Lists with one entry set.
use Rattle.std.proofs.Common.{◌≡◌, ◌≢◌, ℕ, zero, suc, ◌<◌, Option, List, [], ◌∷◌, Some, length, set, slice_get, refl, ap, sym, ◌∙◌, arith}

pub slice_get-set_same : {X : Type 0} (xs : List X) (i : ℕ) (x : X) → i < length xs → slice_get (set xs i x) i ≡ Some x
slice_get-set_same [] i x within = absurd (omega arith)
slice_get-set_same (y ∷ xs) zero x within = refl
slice_get-set_same (y ∷ xs) (suc i) x within = slice_get-set_same xs i x (omega arith)

pub slice_get-set_other : {X : Type 0} (xs : List X) (i j : ℕ) (x : X) → i ≢ j → slice_get (set xs i x) j ≡ slice_get xs j
slice_get-set_other [] i j x apart = refl
slice_get-set_other (y ∷ xs) zero zero x apart = absurd (apart refl)
slice_get-set_other (y ∷ xs) zero (suc j) x apart = refl
slice_get-set_other (y ∷ xs) (suc i) zero x apart = refl
slice_get-set_other (y ∷ xs) (suc i) (suc j) x apart = slice_get-set_other xs i j x (λ e. apart (ap suc e))

-- the later of two writes of one entry stays
pub set-set_same : {X : Type 0} (xs : List X) (i : ℕ) (x y : X) → set (set xs i x) i y ≡ set xs i y
set-set_same [] i x y = refl
set-set_same (z ∷ xs) zero x y = refl
set-set_same (z ∷ xs) (suc i) x y = ap (λ l. z ∷ l) (set-set_same xs i x y)

-- writes of two entries go in either order
pub set-set_other : {X : Type 0} (xs : List X) (i j : ℕ) (x y : X) → i ≢ j → set (set xs i x) j y ≡ set (set xs j y) i x
set-set_other [] i j x y apart = refl
set-set_other (z ∷ xs) zero zero x y apart = absurd (apart refl)
set-set_other (z ∷ xs) zero (suc j) x y apart = refl
set-set_other (z ∷ xs) (suc i) zero x y apart = refl
set-set_other (z ∷ xs) (suc i) (suc j) x y apart = ap (λ l. z ∷ l) (set-set_other xs i j x y (λ e. apart (ap suc e)))

-- where there is an entry, it can be read
pub there : {X : Type 0} (xs : List X) (i : ℕ) → i < length xs → (x : X) × (slice_get xs i ≡ Some x)
there [] i within = absurd (omega arith)
there (x ∷ xs) zero within = (x, refl)
there (x ∷ xs) (suc i) within = there xs i (omega arith)

-- what reads alike of an entry and of the one that takes its place is read at each place as before
pub read_set : {A B : Type 0} (f : Option A → B) (xs : List A) (i j : ℕ) (x y : A) → slice_get xs i ≡ Some x → f (Some y) ≡ f (Some x)
    → f (slice_get (set xs i y) j) ≡ f (slice_get xs j)
read_set f [] i j x y here same = refl
read_set f (z ∷ zs) zero zero x y here same = same ∙ ap f (sym here)
read_set f (z ∷ zs) zero (suc j) x y here same = refl
read_set f (z ∷ zs) (suc i) zero x y here same = refl
read_set f (z ∷ zs) (suc i) (suc j) x y here same = read_set f zs i j x y here same
