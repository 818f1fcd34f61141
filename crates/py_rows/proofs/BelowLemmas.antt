-- Values that are among the first n objects, put together and taken apart.
use Rattle.std.proofs.Common.{◌++◌, ℕ, zero, suc, List, [], ◌∷◌, sym, subst, take, drop, reverse}
use Rattle.std.specs.Prelude.{slice_get}
use Rattle.std.proofs.lemmas.List.{reverse-append}
use Rattle.py_objects.specs.Objects.{Obj, AllBelow, numbers}
use Rattle.py_check.specs.Taking.{at_place, picked}

-- numbers behind others
pub joined_below : (n : ℕ) (xs ys : List ℕ) → AllBelow n xs → AllBelow n ys → AllBelow n (xs ++ ys)
joined_below n [] ys below more = more
joined_below n (x ∷ xs) ys below more = (below.0, joined_below n xs ys below.1 more)

-- the lowest of values
pub drop_below : (n k : ℕ) (stack : List Obj) → AllBelow n (numbers stack) → AllBelow n (numbers (drop k stack))
drop_below n zero stack below = below
drop_below n (suc k) [] below = tt
drop_below n (suc k) (v ∷ stack) below = drop_below n k stack below.1

-- the upper ones
pub take_below : (n k : ℕ) (stack : List Obj) → AllBelow n (numbers stack) → AllBelow n (numbers (take k stack))
take_below n zero stack below = tt
take_below n (suc k) [] below = tt
take_below n (suc k) (v ∷ stack) below = (below.0, take_below n k stack below.1)

-- values behind others
pub values_below : (n : ℕ) (vs ws : List Obj) → AllBelow n (numbers vs) → AllBelow n (numbers ws) → AllBelow n (numbers (vs ++ ws))
values_below n [] ws below more = more
values_below n (v ∷ vs) ws below more = (below.0, values_below n vs ws below.1 more)

-- values the other way round
pub reverse_below : (n : ℕ) (vs : List Obj) → AllBelow n (numbers vs) → AllBelow n (numbers (reverse vs))
reverse_below n [] below = tt
reverse_below n (v ∷ vs) below =
    subst (λ (ws : List Obj). AllBelow n (numbers ws)) (sym (reverse-append (v ∷ []) vs)) (values_below n (reverse vs) (v ∷ []) (reverse_below n vs below.1) (below.0, tt))

-- those at some places
place_below : (n p : ℕ) (vs : List Obj) → AllBelow n (numbers vs) → AllBelow n (numbers (at_place (slice_get vs p)))
place_below n p [] below = tt
place_below n zero (v ∷ vs) below = (below.0, tt)
place_below n (suc p) (v ∷ vs) below = place_below n p vs below.1

pub picked_below : (n : ℕ) (ps : List ℕ) (vs : List Obj) → AllBelow n (numbers vs) → AllBelow n (numbers (picked ps vs))
picked_below n [] vs below = tt
picked_below n (p ∷ ps) vs below = values_below n (at_place (slice_get vs p)) (picked ps vs) (place_below n p vs below) (picked_below n ps vs below)
