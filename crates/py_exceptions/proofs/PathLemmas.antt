-- The part of a path behind its last /, as a loop over the path finds it.
use Rattle.std.proofs.Common.{◌≡◌, ℕ, [], ◌∷◌, Bool, true, false, cond, refl, ◌∙◌}
use Rattle.py_objects.specs.Objects.{Name}
use Rattle.py_exceptions.specs.Repr.{has}
use Rattle.py_exceptions.specs.Said.{base_name}

-- what has no / is all behind it
without_slash : (s : Name) → has 47 s ≡ false → base_name s ≡ s
without_slash [] none = refl
without_slash (c ∷ cs) none = rw none refl

-- where nothing was read yet
pub none_read : (path : Name) → base_name path ≡ cond (has 47 path) (base_name path) path
none_read path = by (has 47 path) (without_slash path)
  where
    by : (b : Bool) → (b ≡ false → base_name path ≡ path) → base_name path ≡ cond b (base_name path) path
    by true none = refl
    by false none = none refl

-- behind one character more, which is a /
pub slash_read : (path name rest : Name) (c : ℕ) (more : Name) → rest ≡ c ∷ more → c ≡ 47 → base_name path ≡ cond (has 47 rest) (base_name rest) name
    → base_name path ≡ cond (has 47 more) (base_name more) more
slash_read path name rest c more is slash read =
    let here : base_name path ≡ cond (has 47 (47 ∷ more)) (base_name (47 ∷ more)) name = rw (is, slash) at read in
    here ∙ none_read more
