-- A generator behind others, as it is found among them while its mode changes.
use Rattle.std.proofs.Common.{◌≡◌, ◌<◌, ◌++◌, ℕ, List, [], ◌∷◌, Bool, true, false, eqb, eq-eqb, ne_eqb, Some, None}
use Rattle.std.proofs.Common.{refl, ap, ◌∙◌, arith}
use Rattle.std.specs.Prelude.{if◌then◌else◌}
use Rattle.std.proofs.lemmas.Option.{same_Some}
use Rattle.py_objects.specs.Objects.{Obj}
use Rattle.py_coro.specs.Modes.{Mode, Running}
use Rattle.py_run.specs.Generators.{Generator, generator_at, running_at, with_mode}
use Rattle.py_run.proofs.GeneratorsLemmas.{entries, running_if}
use Rattle.made_runs.proofs.Lists.{Each}

-- the objects of generators, by their entries, have numbers below n
abbrev pub AreBelow : ℕ → List (Obj × ℕ) → Type 0
AreBelow n es = Each (λ (e : Obj × ℕ). e.0.number < n) es

-- a generator whose object isn't among those before is found behind them
pub found_last : (n : ℕ) (xs : List Generator) (x : Generator) → AreBelow n (entries xs) → x.object.number ≡ n
    → generator_at (xs ++ x ∷ []) x.object ≡ Some x
found_last n [] x below at = ap (λ (b : Bool). if b then Some x else None) (eq-eqb x.object.number x.object.number refl)
found_last n (y ∷ xs) x below at =
    let low : y.object.number < n = below.0 in
    ap (λ (b : Bool). if b then Some y else generator_at (xs ++ x ∷ []) x.object)
    (ne_eqb y.object.number x.object.number (λ same. omega (arith, low, at, same)))
    ∙ found_last n xs x below.1 at

-- a generator that is entered, or isn't, keeps its object
running_object : (a : ℕ) (x : Generator) → (running_if a x).object ≡ x.object
running_object a x = pick (eqb x.act a)
  where
    pick : (b : Bool) → (if b then record x { mode = Running } else x).object ≡ x.object
    pick true = refl
    pick false = refl

-- the generator of an activation that is entered is found running
pub found_running : (a : ℕ) (g : Obj) (xs : List Generator) (x : Generator) → x.act ≡ a → generator_at xs g ≡ Some x
    → generator_at (running_at a xs) g ≡ Some (record x { mode = Running })
found_running a g [] x own found = absurd (cc found)
found_running a g (y ∷ xs) x own found =
    ap (λ (v : Obj). if eqb v.number g.number then Some (running_if a y) else generator_at (running_at a xs) g)
    (running_object a y)
    ∙ pick (eqb y.object.number g.number) found (found_running a g xs x own)
  where
    runs : y ≡ x → running_if a y ≡ record x { mode = Running }
    runs same =
        ap (λ (z : Generator). running_if a z) same
        ∙ ap (λ (b : Bool). if b then record x { mode = Running } else x) (eq-eqb x.act a own)

    pick : (b : Bool) → (if b then Some y else generator_at xs g) ≡ Some x
        → (generator_at xs g ≡ Some x → generator_at (running_at a xs) g ≡ Some (record x { mode = Running }))
        → (if b then Some (running_if a y) else generator_at (running_at a xs) g) ≡ Some (record x { mode = Running })
    pick true here later = ap (λ (z : Generator). Some z) (runs (same_Some y x here))
    pick false here later = later here

-- a generator whose mode changes is found in its new mode
pub found_changed : (g : Obj) (f : Mode → Mode) (xs : List Generator) (x : Generator) → generator_at xs g ≡ Some x
    → generator_at (with_mode g f xs) g ≡ Some (record x { mode = f x.mode })
found_changed g f [] x found = absurd (cc found)
found_changed g f (y ∷ xs) x found = pick (eqb y.object.number g.number) refl found (found_changed g f xs x)
  where
    pick : (b : Bool) → eqb y.object.number g.number ≡ b → (if b then Some y else generator_at xs g) ≡ Some x
        → (generator_at xs g ≡ Some x → generator_at (with_mode g f xs) g ≡ Some (record x { mode = f x.mode }))
        → generator_at (if b then record y { mode = f y.mode } ∷ xs else y ∷ with_mode g f xs) g
        ≡ Some (record x { mode = f x.mode })
    pick true hit here later =
        ap (λ (b : Bool). if b then Some (record y { mode = f y.mode }) else generator_at xs g) hit
        ∙ ap (λ (z : Generator). Some (record z { mode = f z.mode })) (same_Some y x here)
    pick false miss here later =
        ap (λ (b : Bool). if b then Some y else generator_at (with_mode g f xs) g) miss ∙ later here
