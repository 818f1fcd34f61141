-- Lists of generators: the one that an object is, and what it becomes.
use Rattle.std.proofs.Common.{◌≡◌, ℕ, List, [], ◌∷◌, Bool, true, false, eqb, Some, inl, inr, refl, sym, ap, subst, ◌∙◌}
use Rattle.std.specs.Prelude.{Option, None, option_map, if◌then◌else◌}
use Rattle.std.proofs.lemmas.Bool.Decides.{eqb_tells}
use Rattle.py_objects.specs.Objects.{Obj}
use Rattle.py_coro.specs.Modes.{Mode, Running as Entered}
use Rattle.py_run.specs.Generators.{Generator, generator_at, running_at, with_mode}
use Rattle.py_vm.specs.declared.generators.KeptGenerator.{KeptGenerator}
use Rattle.py_vm.specs.declared.stage.Suspended.{Suspended}
use Rattle.py_vm.specs.Generators.{changed_at, kept_at, modes_of, seen_as}
use Rattle.py_vm.specs.Stands.{AreSingle, IsNoOnes, IsNot, IsOutside}

-- what is seen of the one that an object is
pub seen_at : (list : List KeptGenerator) (g : Obj) → generator_at (modes_of list) g ≡ option_map seen_as (kept_at list g)
seen_at [] g = refl
seen_at (x ∷ xs) g = both (eqb x.object.number g.number) (seen_at xs g)
  where
    both : (b : Bool) → generator_at (modes_of xs) g ≡ option_map seen_as (kept_at xs g) → (if b then Some (seen_as x) else generator_at (modes_of xs) g) ≡ option_map seen_as (if b then Some x else kept_at xs g)
    both true later = refl
    both false later = later

-- a test that a number is its own
same_number : (n m : ℕ) → n ≡ m → eqb n m ≡ true
same_number n m same = elim (eqb_tells n m) [
  | inl equal ↦ equal.0
  | inr other ↦ absurd (other.1 same)
]

-- the object of the one that is found
pub kept_object : (list : List KeptGenerator) (g : Obj) (x : KeptGenerator) → kept_at list g ≡ Some x → eqb x.object.number g.number ≡ true
kept_object [] g x here = absurd (cc here)
kept_object (y ∷ ys) g x here = found (eqb y.object.number g.number) refl here (kept_object ys g x)
  where
    found : (b : Bool) → eqb y.object.number g.number ≡ b → (if b then Some y else kept_at ys g) ≡ Some x → (kept_at ys g ≡ Some x → eqb x.object.number g.number ≡ true) → eqb x.object.number g.number ≡ true
    found true is here later = let same : y ≡ x = cc here in subst (λ (z : KeptGenerator). eqb z.object.number g.number ≡ true) same is
    found false is here later = later here

module _ (g : Obj) (f : KeptGenerator → KeptGenerator) (keeps : (x : KeptGenerator) → (f x).object ≡ x.object) where
  -- the one that changed is found as it is by then
  pub kept_changed : (list : List KeptGenerator) (x : KeptGenerator) → kept_at list g ≡ Some x → kept_at (changed_at g f list) g ≡ Some (f x)
  kept_changed [] x here = absurd (cc here)
  kept_changed (y ∷ ys) x here = found (eqb y.object.number g.number) refl here (kept_changed ys x)
    where
      found : (b : Bool) → eqb y.object.number g.number ≡ b → (if b then Some y else kept_at ys g) ≡ Some x → (kept_at ys g ≡ Some x → kept_at (changed_at g f ys) g ≡ Some (f x))
          → kept_at (if b then f y ∷ ys else y ∷ changed_at g f ys) g ≡ Some (f x)
      found true is here later =
          let same : y ≡ x = cc here in
          let found_so : eqb (f y).object.number g.number ≡ true = ap (λ (o : Obj). eqb o.number g.number) (keeps y) ∙ is in
          rw (found_so) (ap (λ z. Some (f z)) same)
      found false is here later = rw (is) (later here)

  -- another one is found as it was
  pub kept_elsewhere : (list : List KeptGenerator) (h : Obj) → eqb h.number g.number ≡ false → kept_at (changed_at g f list) h ≡ kept_at list h
  kept_elsewhere [] h other = refl
  kept_elsewhere (y ∷ ys) h other = found (eqb y.object.number g.number) refl (kept_elsewhere ys h other)
    where
      apart : eqb y.object.number g.number ≡ true → eqb y.object.number h.number ≡ false
      apart is = elim (eqb_tells y.object.number h.number) [
        | inl equal ↦ elim (eqb_tells y.object.number g.number) [
          | inl mine ↦ absurd (let clash : true ≡ false = sym (same_number h.number g.number (sym equal.1 ∙ mine.1)) ∙ other in cc clash)
          | inr differs ↦ absurd (let clash : true ≡ false = sym is ∙ differs.0 in cc clash)
        ]
        | inr differs ↦ differs.0
      ]

      found : (b : Bool) → eqb y.object.number g.number ≡ b → kept_at (changed_at g f ys) h ≡ kept_at ys h
          → kept_at (if b then f y ∷ ys else y ∷ changed_at g f ys) h ≡ kept_at (y ∷ ys) h
      found true is later =
          let passed_by : eqb (f y).object.number h.number ≡ false = ap (λ (o : Obj). eqb o.number h.number) (keeps y) ∙ apart is in
          rw (passed_by, apart is) refl
      found false is later = ap (λ o. if eqb y.object.number h.number then Some y else o) later

  -- none is found where none was
  pub kept_nowhere : (list : List KeptGenerator) → kept_at list g ≡ None → changed_at g f list ≡ list
  kept_nowhere [] here = refl
  kept_nowhere (y ∷ ys) here = found (eqb y.object.number g.number) refl here (kept_nowhere ys)
    where
      found : (b : Bool) → eqb y.object.number g.number ≡ b → (if b then Some y else kept_at ys g) ≡ None → (kept_at ys g ≡ None → changed_at g f ys ≡ ys) → (if b then f y ∷ ys else y ∷ changed_at g f ys) ≡ y ∷ ys
      found true is here later = absurd (cc here)
      found false is here later = ap (λ l. y ∷ l) (later here)

  -- two changes are one
  pub changed_twice : (f2 : KeptGenerator → KeptGenerator) (list : List KeptGenerator) → changed_at g f2 (changed_at g f list) ≡ changed_at g (λ x. f2 (f x)) list
  changed_twice f2 [] = refl
  changed_twice f2 (y ∷ ys) = found (eqb y.object.number g.number) refl (changed_twice f2 ys)
    where
      found : (b : Bool) → eqb y.object.number g.number ≡ b → changed_at g f2 (changed_at g f ys) ≡ changed_at g (λ x. f2 (f x)) ys
          → changed_at g f2 (if b then f y ∷ ys else y ∷ changed_at g f ys) ≡ (if b then f2 (f y) ∷ ys else y ∷ changed_at g (λ x. f2 (f x)) ys)
      found true is later =
          let found_so : eqb (f y).object.number g.number ≡ true = ap (λ (o : Obj). eqb o.number g.number) (keeps y) ∙ is in
          rw (found_so) refl
      found false is later = rw (is) (ap (λ l. y ∷ l) later)

  -- modes change as the state does
  pub modes_changed : (to : Mode → Mode) → ((x : KeptGenerator) → (f x).generator.mode ≡ to x.generator.mode) → ((x : KeptGenerator) → (f x).act ≡ x.act) → (list : List KeptGenerator)
      → modes_of (changed_at g f list) ≡ with_mode g to (modes_of list)
  modes_changed to moves acts [] = refl
  modes_changed to moves acts (y ∷ ys) = found (eqb y.object.number g.number) (modes_changed to moves acts ys)
    where
      one : seen_as (f y) ≡ record (seen_as y) { mode = to y.generator.mode }
      one = ap (λ (o : Obj). let z : Generator = record { object = o; act = (f y).act; mode = (f y).generator.mode } in z) (keeps y) ∙ ap (λ (n : ℕ). let z : Generator = record { object = y.object; act = n; mode = (f y).generator.mode } in z) (acts y)
          ∙ ap (λ (k : Mode). let z : Generator = record { object = y.object; act = y.act; mode = k } in z) (moves y)

      found : (b : Bool) → modes_of (changed_at g f ys) ≡ with_mode g to (modes_of ys)
          → modes_of (if b then f y ∷ ys else y ∷ changed_at g f ys) ≡ (if b then record (seen_as y) { mode = to y.generator.mode } ∷ modes_of ys else seen_as y ∷ with_mode g to (modes_of ys))
      found true later = ap (λ z. z ∷ modes_of ys) one
      found false later = ap (λ l. seen_as y ∷ l) later

  -- those that wait to be entered stay other than this number, where the one that changed does
  pub outside_changed : (a : ℕ) (list : List KeptGenerator) → ((x : KeptGenerator) → kept_at list g ≡ Some x → IsNot a (f x).act (f x).suspended) → IsOutside a list → IsOutside a (changed_at g f list)
  outside_changed a [] one out = tt
  outside_changed a (y ∷ ys) one out = found (eqb y.object.number g.number) one (λ next. outside_changed a ys next out.1)
    where
      found : (b : Bool) → ((x : KeptGenerator) → (if b then Some y else kept_at ys g) ≡ Some x → IsNot a (f x).act (f x).suspended)
          → (((x : KeptGenerator) → kept_at ys g ≡ Some x → IsNot a (f x).act (f x).suspended) → IsOutside a (changed_at g f ys)) → IsOutside a (if b then f y ∷ ys else y ∷ changed_at g f ys)
      found true one later = (one y refl, out.1)
      found false one later = (out.0, later one)

  module _ (acts : (x : KeptGenerator) → (f x).act ≡ x.act) where
    -- no one's stays no one's
    pub no_ones_changed : (a : ℕ) (list : List KeptGenerator) → IsNoOnes a list → IsNoOnes a (changed_at g f list)
    no_ones_changed a [] none = tt
    no_ones_changed a (y ∷ ys) none = found (eqb y.object.number g.number) (no_ones_changed a ys none.1)
      where
        found : (b : Bool) → IsNoOnes a (changed_at g f ys) → IsNoOnes a (if b then f y ∷ ys else y ∷ changed_at g f ys)
        found true later = (ap (λ n. eqb n a) (acts y) ∙ none.0, none.1)
        found false later = (none.0, later)

    -- no two of them have the same
    pub single_changed : (list : List KeptGenerator) → AreSingle list → AreSingle (changed_at g f list)
    single_changed [] single = tt
    single_changed (y ∷ ys) single = found (eqb y.object.number g.number) (single_changed ys single.1)
      where
        found : (b : Bool) → AreSingle (changed_at g f ys) → AreSingle (if b then f y ∷ ys else y ∷ changed_at g f ys)
        found true later = (subst (λ n. IsNoOnes n ys) (sym (acts y)) single.0, single.1)
        found false later = (no_ones_changed y.act ys single.0, later)

-- an activation that is no one's isn't one that waits
pub no_ones_outside : (a : ℕ) (list : List KeptGenerator) → IsNoOnes a list → IsOutside a list
no_ones_outside a [] none = tt
no_ones_outside a (x ∷ xs) none = (waits x.suspended, no_ones_outside a xs none.1)
  where
    waits : (s : Option Suspended) → IsNot a x.act s
    waits None = tt
    waits (Some s) = none.0

-- numbers are other ones either way
pub other_way : (n m : ℕ) → eqb n m ≡ false → eqb m n ≡ false
other_way n m other = elim (eqb_tells m n) [
  | inl equal ↦ absurd (let clash : true ≡ false = sym (same_number n m (sym equal.1)) ∙ other in cc clash)
  | inr differs ↦ differs.0
]

-- the activation of one is no other's, so it doesn't wait where this one doesn't
pub outside_itself : (g : Obj) (f : KeptGenerator → KeptGenerator) → ((x : KeptGenerator) → (f x).suspended ≡ None) → (list : List KeptGenerator) (x : KeptGenerator)
    → kept_at list g ≡ Some x → AreSingle list → IsOutside x.act (changed_at g f list)
outside_itself g f drops [] x here single = absurd (cc here)
outside_itself g f drops (y ∷ ys) x here single = found (eqb y.object.number g.number) here (λ next. outside_itself g f drops ys x next single.1)
  where
    act_there : (list : List KeptGenerator) (a : ℕ) → kept_at list g ≡ Some x → IsNoOnes a list → eqb x.act a ≡ false
    act_there [] a here none = absurd (cc here)
    act_there (z ∷ zs) a here none = at (eqb z.object.number g.number) here (λ next. act_there zs a next none.1)
      where
        at : (b : Bool) → (if b then Some z else kept_at zs g) ≡ Some x → (kept_at zs g ≡ Some x → eqb x.act a ≡ false) → eqb x.act a ≡ false
        at true here later = let same : z ≡ x = cc here in subst (λ (w : KeptGenerator). eqb w.act a ≡ false) same none.0
        at false here later = later here

    waits : (s : Option Suspended) → eqb y.act x.act ≡ false → IsNot x.act y.act s
    waits None other = tt
    waits (Some s) other = other

    found : (b : Bool) → (if b then Some y else kept_at ys g) ≡ Some x → (kept_at ys g ≡ Some x → IsOutside x.act (changed_at g f ys)) → IsOutside x.act (if b then f y ∷ ys else y ∷ changed_at g f ys)
    found true here later =
        let same : y ≡ x = cc here in
        (subst (λ s. IsNot x.act (f y).act s) (sym (drops y)) tt, no_ones_outside x.act ys (subst (λ (w : KeptGenerator). IsNoOnes w.act ys) same single.0))
    found false here later = (waits y.suspended (other_way x.act y.act (act_there ys y.act here single.0)), later here)

-- an activation that is no generator's runs none
pub modes_none_run : (a : ℕ) (list : List KeptGenerator) → IsNoOnes a list → running_at a (modes_of list) ≡ modes_of list
modes_none_run a [] none = refl
modes_none_run a (z ∷ zs) none = rw (none.0) (ap (λ l. seen_as z ∷ l) (modes_none_run a zs none.1))

-- what runs by its activation is what is entered by its object
pub modes_entered : (g : Obj) (closing : Bool) (f : KeptGenerator → KeptGenerator) → ((x : KeptGenerator) → (f x).object ≡ x.object) → ((x : KeptGenerator) → (f x).act ≡ x.act)
    → ((x : KeptGenerator) → (f x).generator.mode ≡ Entered) → (list : List KeptGenerator) (x : KeptGenerator) → kept_at list g ≡ Some x → AreSingle list → running_at x.act (modes_of list) ≡ modes_of (changed_at g f list)
modes_entered g closing f keeps acts runs [] x here single = absurd (cc here)
modes_entered g closing f keeps acts runs (y ∷ ys) x here single = found (eqb y.object.number g.number) here (λ next. modes_entered g closing f keeps acts runs ys x next single.1)
  where
    one : seen_as (f y) ≡ record (seen_as y) { mode = Entered }
    one = ap (λ (o : Obj). let z : Generator = record { object = o; act = (f y).act; mode = (f y).generator.mode } in z) (keeps y) ∙ ap (λ (n : ℕ). let z : Generator = record { object = y.object; act = n; mode = (f y).generator.mode } in z) (acts y)
        ∙ ap (λ (k : Mode). let z : Generator = record { object = y.object; act = y.act; mode = k } in z) (runs y)

    act_there : (list : List KeptGenerator) (a : ℕ) → kept_at list g ≡ Some x → IsNoOnes a list → eqb x.act a ≡ false
    act_there [] a here none = absurd (cc here)
    act_there (z ∷ zs) a here none = at (eqb z.object.number g.number) here (λ next. act_there zs a next none.1)
      where
        at : (b : Bool) → (if b then Some z else kept_at zs g) ≡ Some x → (kept_at zs g ≡ Some x → eqb x.act a ≡ false) → eqb x.act a ≡ false
        at true here later = let same : z ≡ x = cc here in subst (λ (w : KeptGenerator). eqb w.act a ≡ false) same none.0
        at false here later = later here

    found : (b : Bool) → (if b then Some y else kept_at ys g) ≡ Some x → (kept_at ys g ≡ Some x → running_at x.act (modes_of ys) ≡ modes_of (changed_at g f ys))
        → running_at x.act (seen_as y ∷ modes_of ys) ≡ modes_of (if b then f y ∷ ys else y ∷ changed_at g f ys)
    found true here later =
        let same : y ≡ x = cc here in
        let mine : eqb y.act x.act ≡ true = same_number y.act x.act (ap (λ (w : KeptGenerator). w.act) same) in
        rw (mine) (ap (λ l. record (seen_as y) { mode = Entered } ∷ l) (modes_none_run x.act ys (subst (λ (w : KeptGenerator). IsNoOnes w.act ys) same single.0)) ∙ ap (λ z. z ∷ modes_of ys) (sym one))
    found false here later = rw (other_way x.act y.act (act_there ys y.act here single.0)) (ap (λ l. seen_as y ∷ l) (later here))

-- modes change as the state of the one that changed does
pub modes_changed_one : (g : Obj) (f : KeptGenerator → KeptGenerator) → ((x : KeptGenerator) → (f x).object ≡ x.object) → ((x : KeptGenerator) → (f x).act ≡ x.act) → (to : Mode → Mode) (list : List KeptGenerator)
    → ((x : KeptGenerator) → kept_at list g ≡ Some x → (f x).generator.mode ≡ to x.generator.mode) → modes_of (changed_at g f list) ≡ with_mode g to (modes_of list)
modes_changed_one g f keeps acts to [] moves = refl
modes_changed_one g f keeps acts to (y ∷ ys) moves = found (eqb y.object.number g.number) moves (λ next. modes_changed_one g f keeps acts to ys next)
  where
    found : (b : Bool) → ((x : KeptGenerator) → (if b then Some y else kept_at ys g) ≡ Some x → (f x).generator.mode ≡ to x.generator.mode)
        → (((x : KeptGenerator) → kept_at ys g ≡ Some x → (f x).generator.mode ≡ to x.generator.mode) → modes_of (changed_at g f ys) ≡ with_mode g to (modes_of ys))
        → modes_of (if b then f y ∷ ys else y ∷ changed_at g f ys) ≡ (if b then record (seen_as y) { mode = to y.generator.mode } ∷ modes_of ys else seen_as y ∷ with_mode g to (modes_of ys))
    found true moves later = ap (λ z. z ∷ modes_of ys) (ap (λ (o : Obj). let z : Generator = record { object = o; act = (f y).act; mode = (f y).generator.mode } in z) (keeps y)
        ∙ ap (λ (n : ℕ). let z : Generator = record { object = y.object; act = n; mode = (f y).generator.mode } in z) (acts y) ∙ ap (λ (k : Mode). let z : Generator = record { object = y.object; act = y.act; mode = k } in z) (moves y refl))
    found false moves later = ap (λ l. seen_as y ∷ l) (later moves)

-- one that waits to be entered isn't what none that waits is
pub outside_at : (a : ℕ) (list : List KeptGenerator) (g : Obj) (x : KeptGenerator) (s : Suspended) → kept_at list g ≡ Some x → x.suspended ≡ Some s → IsOutside a list → eqb x.act a ≡ false
outside_at a [] g x s here waits out = absurd (cc here)
outside_at a (y ∷ ys) g x s here waits out = found (eqb y.object.number g.number) here (λ next. outside_at a ys g x s next waits out.1)
  where
    found : (b : Bool) → (if b then Some y else kept_at ys g) ≡ Some x → (kept_at ys g ≡ Some x → eqb x.act a ≡ false) → eqb x.act a ≡ false
    found true here later =
        let same : y ≡ x = cc here in
        subst (IsNot a x.act) waits (subst (λ (z : KeptGenerator). IsNot a z.act z.suspended) same out.0)
    found false here later = later here
