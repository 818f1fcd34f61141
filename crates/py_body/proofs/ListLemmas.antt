-- Lists that go on, and entries in them.
use Rattle.std.proofs.Common.{◌≡◌, ◌<◌, ◌≤◌, ◌+◌, ℕ, zero, suc, List, [], ◌∷◌, ◌++◌, Some, refl, sym, ap, ◌∙◌, length, drop, replicate, arith, length-append, append_assoc, add-one, ◌⊎◌, inl, inr}
use Rattle.std.specs.Prelude.{slice_get}
use Rattle.py_laid.specs.Fits.{Continues}

-- a list that goes on is no shorter
pub longer : {A : Type 0} (xs ys : List A) → Continues xs ys → length xs ≤ length ys
longer xs ys (more, is) = omega (arith, ap length is, length-append xs more)

pub drop-front : {A : Type 0} (xs ys : List A) → drop (length xs) (xs ++ ys) ≡ ys
drop-front [] ys = refl
drop-front (x ∷ xs) ys = drop-front xs ys

replicate-last : {A : Type 0} (n : ℕ) (x : A) → replicate n x ++ x ∷ [] ≡ replicate (suc n) x
replicate-last zero x = refl
replicate-last {A} (suc n) x = ap (λ (l : List A). x ∷ l) (replicate-last n x)

-- one more of the same
pub replicate_more : {A : Type 0} (xs : List A) (n : ℕ) (x : A) → (xs ++ replicate n x) ++ x ∷ [] ≡ xs ++ replicate (n + 1) x
replicate_more {A} xs n x = append_assoc xs (replicate n x) (x ∷ []) ∙ ap (λ (l : List A). xs ++ l) (replicate-last n x) ∙ ap (λ (k : ℕ). xs ++ replicate k x) (sym (add-one n))

-- ---- an entry behind others

pub slice_get-behind : {A : Type 0} (xs ys : List A) (i : ℕ) → slice_get (xs ++ ys) (length xs + i) ≡ slice_get ys i
slice_get-behind {A} [] ys i = let same : 0 + i ≡ i = omega arith in ap (λ (k : ℕ). slice_get ys k) same
slice_get-behind {A} (x ∷ xs) ys i =
    let same : suc (length xs) + i ≡ suc (length xs + i) = omega arith in
    ap (λ (k : ℕ). slice_get (x ∷ (xs ++ ys)) k) same ∙ slice_get-behind xs ys i

-- an entry among equal ones
among : {A : Type 0} (n : ℕ) (x : A) (more : List A) (k : ℕ) → k < n → slice_get (replicate n x ++ more) k ≡ Some x
among zero x more k low = absurd (omega (arith, low))
among (suc n) x more zero low = refl
among (suc n) x more (suc k) low = among n x more k (omega (arith, low))

-- also behind others
pub equal_ones : {A : Type 0} (front : List A) (n : ℕ) (x : A) (more : List A) (k : ℕ) → length front ≤ k → k < length front + n → slice_get ((front ++ replicate n x) ++ more) k ≡ Some x
equal_ones [] n x more k low high = among n x more k (omega (arith, high))
equal_ones (y ∷ front) n x more zero low high = absurd (omega (arith, low))
equal_ones (y ∷ front) n x more (suc k) low high = equal_ones front n x more k (omega (arith, low)) (omega (arith, high))

-- an entry of equal ones is one of them
one_of : {A : Type 0} (n : ℕ) (x y : A) (k : ℕ) → slice_get (replicate n x) k ≡ Some y → x ≡ y
one_of zero x y k here = absurd (cc)
one_of (suc n) x y zero here = cc
one_of (suc n) x y (suc k) here = one_of n x y k here

-- an entry of a list with equal ones behind is one of the list's or one of those
pub either_of : {A : Type 0} (front : List A) (n : ℕ) (x y : A) (k : ℕ) → slice_get (front ++ replicate n x) k ≡ Some y → (slice_get front k ≡ Some y) ⊎ (x ≡ y)
either_of [] n x y k here = inr (one_of n x y k here)
either_of (z ∷ front) n x y zero here = inl here
either_of (z ∷ front) n x y (suc k) here = either_of front n x y k here

-- the last of a list stays where it is
last_one : {A : Type 0} (front : List A) (x : A) (more : List A) → slice_get ((front ++ x ∷ []) ++ more) (length front) ≡ Some x
last_one [] x more = refl
last_one (y ∷ front) x more = last_one front x more

-- also where the list goes on
pub last_stays : {A : Type 0} (front : List A) (x : A) (whole : List A) → Continues (front ++ x ∷ []) whole → slice_get whole (length front) ≡ Some x
last_stays front x whole (more, is) = rw is (last_one front x more)
