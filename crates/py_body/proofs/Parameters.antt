-- The names of parameters, bound one after another.
use Rattle.std.proofs.Common.{◌≡◌, ◌≢◌, ◌<◌, ◌+◌, ℕ, zero, suc, List, [], ◌∷◌, ◌++◌, Bool, true, false, cond, ◌||◌, refl, sym, ap, ◌∙◌, length, take, get_or, arith}
use Rattle.std.specs.Prelude.{bytes_eq, AllPairs}
use Rattle.std.specs.List.{list_any}
use Rattle.std.proofs.lemmas.List.{take_more}
use Rattle.std.proofs.lemmas.Slice.Eq.{bytes_eq-Decides}
use Rattle.py_tree.specs.Tree.{Name}
use Rattle.py_tree.specs.Binding.{bound}

any_at : (xs : List Name) (x : Name) → list_any (bytes_eq x) xs ≡ true → (k : ℕ) × (k < length xs) × (get_or xs k x ≡ x)
any_at [] x some = absurd (cc)
any_at (y ∷ ys) x some = by (bytes_eq x y) refl (any_at ys x) some
  where
    by : (b : Bool) → bytes_eq x y ≡ b → (list_any (bytes_eq x) ys ≡ true → (k : ℕ) × (k < length ys) × (get_or ys k x ≡ x)) → (b || list_any (bytes_eq x) ys) ≡ true
        → (k : ℕ) × (k < suc (length ys)) × (get_or (y ∷ ys) k x ≡ x)
    by true is later any = (0, omega arith, sym ((bytes_eq-Decides x y).0 is))
    by false is later any = let found = later any in (suc found.0, (let low = found.1 in omega (arith, low)), found.2)

get_or-take : (xs : List Name) (i k : ℕ) (d : Name) → k < length (take i xs) → (get_or (take i xs) k d ≡ get_or xs k d) × (k < i)
get_or-take [] zero k d low = absurd (omega (arith, low))
get_or-take [] (suc i) k d low = absurd (omega (arith, low))
get_or-take (x ∷ xs) zero k d low = absurd (omega (arith, low))
get_or-take (x ∷ xs) (suc i) zero d low = (refl, omega arith)
get_or-take (x ∷ xs) (suc i) (suc k) d low = let rest = get_or-take xs i k d (omega (arith, low)) in (rest.0, (let less = rest.1 in omega (arith, less)))

-- one more of names that all differ is bound behind the others
pub param_more : (params : List Name) (i : ℕ) (x : Name) → AllPairs (λ x y. x ≢ y) params → i < length params → x ≡ get_or params i x → bound (take i params) x ≡ take (i + 1) params
param_more params i x differ low is = by (list_any (bytes_eq x) (take i params)) refl
  where
    by : (b : Bool) → list_any (bytes_eq x) (take i params) ≡ b → cond b (take i params) (take i params ++ x ∷ []) ≡ take (i + 1) params
    by true some =
        let found = any_at (take i params) x some in
        let here = get_or-take params i found.0 x found.1 in
        absurd (differ found.0 i x here.1 low (sym here.0 ∙ found.2 ∙ is))
    by false none = sym (take_more params i x low ∙ ap (λ (y : Name). take i params ++ y ∷ []) (sym is))
