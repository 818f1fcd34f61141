-- Places of names, and the names that a body binds.
use Rattle.std.proofs.Common.{◌≡◌, ◌<◌, ◌≤◌, ◌+◌, ℕ, suc, List, [], ◌∷◌, ◌++◌, Bool, true, false, cond, not, ◌||◌, Some, None, refl, sym, ap, ◌∙◌, length, length-append, arith}
use Rattle.std.specs.Prelude.{Option, bytes_eq, position, unwrap_or, nat_lt, slice_get}
use Rattle.std.specs.List.{list_any, position_or_len}
use Rattle.std.proofs.lemmas.Bool.{ltb-false}
use Rattle.std.proofs.lemmas.Slice.Eq.{bytes_eq-Decides}
use Rattle.py_code.specs.Names.{place_of}
use Rattle.py_tree.specs.Tree.{Name}
use Rattle.py_tree.specs.Binding.{bound}
use Rattle.py_laid.specs.Fits.{Continues}
use Rattle.py_laid.specs.Code.{place}
use Rattle.py_body.specs.Emitting.{IsPlaced}

-- ---- places

place-append : (names more : List Name) (x : Name) → IsPlaced names x → IsPlaced (names ++ more) x
place-append [] more x below = absurd (omega arith)
place-append (y ∷ ys) more x below = by (bytes_eq x y) (place-append ys more x) below
  where
    by : (b : Bool) → (IsPlaced ys x → IsPlaced (ys ++ more) x) → cond b 0 (suc (place ys x)) < suc (length ys) → cond b 0 (suc (place (ys ++ more) x)) < suc (length (ys ++ more))
    by true later low = omega arith
    by false later low = omega (arith, later (omega (arith, low)))

-- a name that has a place has one where the names go on
pub placed_on : (names vars : List Name) (x : Name) → Continues names vars → IsPlaced names x → IsPlaced vars x
placed_on names vars x (more, is) below = rw is (place-append names more x below)

-- a name that is one of these has a place
pub placed_any : (names : List Name) (x : Name) → list_any (bytes_eq x) names ≡ true → IsPlaced names x
placed_any [] x some = absurd (cc)
placed_any (y ∷ ys) x some = by (bytes_eq x y) (placed_any ys x) some
  where
    by : (b : Bool) → (list_any (bytes_eq x) ys ≡ true → IsPlaced ys x) → (b || list_any (bytes_eq x) ys) ≡ true → cond b 0 (suc (place ys x)) < suc (length ys)
    by true later is = omega arith
    by false later is = omega (arith, later is)

placed_last : (names : List Name) (x : Name) → IsPlaced (names ++ x ∷ []) x
placed_last [] x = rw ((bytes_eq-Decides x x).1 refl) (omega arith)
placed_last (y ∷ ys) x = by (bytes_eq x y) (placed_last ys x)
  where
    by : (b : Bool) → IsPlaced (ys ++ x ∷ []) x → cond b 0 (suc (place (ys ++ x ∷ []) x)) < suc (length (ys ++ x ∷ []))
    by true later = omega arith
    by false later = omega (arith, later)

-- a name that is bound has a place
pub placed_bound : (names : List Name) (x : Name) → IsPlaced (bound names x) x
placed_bound names x = by (list_any (bytes_eq x) names) refl
  where
    by : (b : Bool) → list_any (bytes_eq x) names ≡ b → IsPlaced (cond b names (names ++ x ∷ [])) x
    by true some = placed_any names x some
    by false none = placed_last names x

-- a name that has a place is there
pub any-place : (names : List Name) (x : Name) → place names x < length names → list_any (bytes_eq x) names ≡ true
any-place [] x below = absurd (omega arith)
any-place (y ∷ ys) x below = by (bytes_eq x y) (any-place ys x) below
  where
    by : (b : Bool) → (place ys x < length ys → list_any (bytes_eq x) ys ≡ true) → cond b 0 (suc (place ys x)) < suc (length ys) → (b || list_any (bytes_eq x) ys) ≡ true
    by true later low = refl
    by false later low = later (omega (arith, low))

-- and one that has none is not
pub none-place : (names : List Name) (x : Name) → length names ≤ place names x → list_any (bytes_eq x) names ≡ false
none-place names x above = by (list_any (bytes_eq x) names) (placed_any names x)
  where
    by : (b : Bool) → (b ≡ true → place names x < length names) → b ≡ false
    by true below = absurd (omega (arith, above, below refl))
    by false below = refl

-- the name at its place
pub slice_get-place : (names : List Name) (x : Name) → place names x < length names → slice_get names (place names x) ≡ Some x
slice_get-place [] x below = absurd (omega arith)
slice_get-place (y ∷ ys) x below = by (bytes_eq x y) refl (slice_get-place ys x) below
  where
    by : (b : Bool) → bytes_eq x y ≡ b → (place ys x < length ys → slice_get ys (place ys x) ≡ Some x) → cond b 0 (suc (place ys x)) < suc (length ys)
        → slice_get (y ∷ ys) (cond b 0 (suc (place ys x))) ≡ Some x
    by true is later low = ap Some (sym ((bytes_eq-Decides x y).0 is))
    by false is later low = later (omega (arith, low))

-- as the program looks a place up
place-or_len : (vars : List Name) (x : Name) → position_or_len (bytes_eq x) vars ≡ place vars x
place-or_len [] x = refl
place-or_len (y ∷ ys) x = by (bytes_eq x y) (place-or_len ys x)
  where
    by : (b : Bool) → position_or_len (bytes_eq x) ys ≡ place ys x → cond (not b) (1 + position_or_len (bytes_eq x) ys) 0 ≡ cond b 0 (suc (place ys x))
    by true later = refl
    by false later = omega (arith, later)

pub place-within : (vars : List Name) (x : Name) → place vars x ≤ length vars
place-within [] x = omega arith
place-within (y ∷ ys) x = by (bytes_eq x y) (place-within ys x)
  where
    by : (b : Bool) → place ys x ≤ length ys → cond b 0 (suc (place ys x)) ≤ suc (length ys)
    by true later = omega arith
    by false later = omega (arith, later)

-- the place, as the program looks it up
pub place_position : (vars : List Name) (x : Name) → unwrap_or (position (bytes_eq x) vars) (length vars) ≡ place vars x
place_position vars x = rw (place-or_len vars x) (by (nat_lt (place vars x) (length vars)) refl)
  where
    by : (b : Bool) → nat_lt (place vars x) (length vars) ≡ b → unwrap_or (cond b (Some (place vars x)) None) (length vars) ≡ place vars x
    by true low = refl
    by false high = omega (arith, ltb-false _ _ high, place-within vars x)

-- and where it finds it
pub place_found : (names : List Name) (x : Name) (at : ℕ) → place_of names x ≡ Some at → at ≡ place names x
place_found names x at found = let P : Option ℕ → ℕ = λ o. unwrap_or o (length names) in sym (sym (place_position names x) ∙ ap P found)

-- and where it doesn't
pub place_absent : (names : List Name) (x : Name) → place_of names x ≡ None → length names ≤ place names x
place_absent names x none = let P : Option ℕ → ℕ = λ o. unwrap_or o (length names) in let same : place names x ≡ length names = sym (place_position names x) ∙ ap P none in omega (arith, same)

-- at most one name more is bound
pub length-bound : (names : List Name) (x : Name) → length (bound names x) ≤ length names + 1
length-bound names x = by (list_any (bytes_eq x) names)
  where
    by : (b : Bool) → length (cond b names (names ++ x ∷ [])) ≤ length names + 1
    by true = omega arith
    by false = omega (arith, length-append names (x ∷ []))
