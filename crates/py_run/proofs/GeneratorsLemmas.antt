-- Lists of generators, as events change them.
use Rattle.std.proofs.Common.{◌≡◌, ◌≤◌, ℕ, List, [], ◌∷◌, ◌++◌, Bool, true, false, eqb, Some, None, refl, ap, ◌∙◌, length, arith}
use Rattle.std.specs.Prelude.{Option, option_map, if◌then◌else◌}
use Rattle.std.proofs.lemmas.Option.{same_Some}
use Rattle.py_objects.specs.declared.request.Request.{Request}
use Rattle.py_objects.specs.declared.request.Request.TheVariants as request
use Rattle.py_objects.specs.declared.event.DriveAnswer.{DriveAnswer}
use Rattle.py_objects.specs.declared.event.Event.TheVariants as event
use Rattle.py_objects.specs.Objects.{Obj}
use Rattle.py_coro.specs.declared.coro.CoroEnd.{CoroEnd}
use Rattle.py_coro.specs.Modes.{Mode, Fresh, Suspended, Running, Closed}
use Rattle.py_coro.specs.Leaving.{mode_behind}
use Rattle.py_run.specs.Run.{Plan, State, Due, question}
use Rattle.py_run.specs.Generators.{Generator, generator_at, running_at, with_mode, unentered, closed_by, settled, answered, value_of, returned_by, generators_after}
use Rattle.py_run.specs.Laws.{AnswersKeepGenerators}

-- ---- what an event makes of generators

-- so does a drive's result
pub result_due : (plan : Plan) (s : State) (xs : List Generator) (d : ℕ) (w : DriveAnswer) (how : CoroEnd) → s.phase ≡ Due how
    → generators_after plan s xs (event.Result d w) ≡ settled (question plan s) how xs
result_due plan s xs d w how is = ap (λ x. answered (question plan s) x (length s.made) (returned_by w) xs) is

-- ---- what is found among them

-- a generator in another mode
abbrev pub in_mode : (Mode → Mode) → Generator → Generator
in_mode f x = record x { mode = f x.mode }

-- a generator that runs where it is of this activation
abbrev pub running_if : ℕ → Generator → Generator
running_if a x = if eqb x.act a then record x { mode = Running } else x

-- its object stays
running_object : (a : ℕ) (x : Generator) → (running_if a x).object ≡ x.object
running_object a x = pick (eqb x.act a)
  where
    pick : (b : Bool) → (if b then record x { mode = Running } else x).object ≡ x.object
    pick true = refl
    pick false = refl

-- and its activation
running_act : (a : ℕ) (x : Generator) → (running_if a x).act ≡ x.act
running_act a x = pick (eqb x.act a)
  where
    pick : (b : Bool) → (if b then record x { mode = Running } else x).act ≡ x.act
    pick true = refl
    pick false = refl

-- where no fresh one is closed, a close without an entry changes none
unentered_keeps : (m : Mode) → (m ≡ Fresh → ⊥) → unentered m ≡ m
unentered_keeps Fresh other = absurd (other refl)
unentered_keeps Suspended other = refl
unentered_keeps Running other = refl
unentered_keeps Closed other = refl

-- so that no generator is changed where the one that is closed has begun
close_keeps : (g : Obj) (xs : List Generator) → ((x : Generator) → generator_at xs g ≡ Some x → x.mode ≡ Fresh → ⊥) → with_mode g unentered xs ≡ xs
close_keeps g [] other = refl
close_keeps g (x ∷ xs) other = pick (eqb x.object.number g.number) other (close_keeps g xs)
  where
    pick : (b : Bool) → ((y : Generator) → (if b then Some x else generator_at xs g) ≡ Some y → y.mode ≡ Fresh → ⊥)
        → (((y : Generator) → generator_at xs g ≡ Some y → y.mode ≡ Fresh → ⊥) → with_mode g unentered xs ≡ xs)
        → (if b then in_mode unentered x ∷ xs else x ∷ with_mode g unentered xs) ≡ x ∷ xs
    pick true other rest = ap (λ m. record x { mode = m } ∷ xs) (unentered_keeps x.mode (other x refl))
    pick false other rest = ap (λ l. x ∷ l) (rest other)

-- so no answer without an entry does
pub answers_keep : (r : Request) (xs : List Generator) → ((g : Obj) (x : Generator) → r ≡ request.Close g → generator_at xs g ≡ Some x → x.mode ≡ Fresh → ⊥)
    → closed_by (Some r) xs ≡ xs
answers_keep (request.Close g) xs other = close_keeps g xs (λ x. other g x refl)
answers_keep _ xs other = refl

-- whatever question is open, if one is
open_keeps : (q : Option Request) (xs : List Generator) → ((g : Obj) (x : Generator) → q ≡ Some (request.Close g) → generator_at xs g ≡ Some x → x.mode ≡ Fresh → ⊥)
    → closed_by q xs ≡ xs
open_keeps None xs other = refl
open_keeps (Some r) xs other = answers_keep r xs (λ g x is. other g x (ap (λ q. Some q) is))

-- be it to a body or to a drive
pub generators_kept : AnswersKeepGenerators
generators_kept plan s xs asks other = (λ a w. stay (value_of w), λ d w. stay (returned_by w))
  where
    stay : (v : Option Obj) → answered (question plan s) s.phase (length s.made) v xs ≡ xs
    stay v =
        ap (λ x. answered (question plan s) x (length s.made) v xs) asks
        ∙ open_keeps (question plan s) xs (λ g x asked there fresh. other (record { object = g; asked = asked; generator = x; there = there; fresh = fresh }))

-- ---- their objects and activations

-- the objects of generators, with the numbers of their activations
abbrev pub entries : List Generator → List (Obj × ℕ)
entries [] = []
entries (x ∷ xs) = (x.object, x.act) ∷ entries xs

-- the number of the activation of the generator that an object is, if it is one
abbrev pub act_in : List (Obj × ℕ) → Obj → Option ℕ
act_in [] g = None
act_in (e ∷ es) g = if eqb e.0.number g.number then Some e.1 else act_in es g

-- that of the generator that is found
pub act_found : (g : Obj) (xs : List Generator) → act_in (entries xs) g ≡ option_map (λ (x : Generator). x.act) (generator_at xs g)
act_found g [] = refl
act_found g (x ∷ xs) = pick (eqb x.object.number g.number) (act_found g xs)
  where
    pick : (b : Bool) → act_in (entries xs) g ≡ option_map (λ (y : Generator). y.act) (generator_at xs g)
        → (if b then Some x.act else act_in (entries xs) g) ≡ option_map (λ (y : Generator). y.act) (if b then Some x else generator_at xs g)
    pick true rest = refl
    pick false rest = rest

-- with one more behind them
pub entries_on : (xs : List Generator) (x : Generator) → entries (xs ++ x ∷ []) ≡ entries xs ++ (x.object, x.act) ∷ []
entries_on [] x = refl
entries_on (y ∷ xs) x = ap (λ l. (y.object, y.act) ∷ l) (entries_on xs x)

-- an entry keeps them
pub entries_running : (a : ℕ) (xs : List Generator) → entries (running_at a xs) ≡ entries xs
entries_running a [] = refl
entries_running a (x ∷ xs) =
    ap (λ o. (o, (running_if a x).act) ∷ entries (running_at a xs)) (running_object a x) ∙ ap (λ n. (x.object, n) ∷ entries (running_at a xs)) (running_act a x)
    ∙ ap (λ l. (x.object, x.act) ∷ l) (entries_running a xs)

-- a change of a mode does
pub entries_changed : (g : Obj) (f : Mode → Mode) (xs : List Generator) → entries (with_mode g f xs) ≡ entries xs
entries_changed g f [] = refl
entries_changed g f (x ∷ xs) = pick (eqb x.object.number g.number) (entries_changed g f xs)
  where
    pick : (b : Bool) → entries (with_mode g f xs) ≡ entries xs → entries (if b then in_mode f x ∷ xs else x ∷ with_mode g f xs) ≡ (x.object, x.act) ∷ entries xs
    pick true rest = refl
    pick false rest = ap (λ l. (x.object, x.act) ∷ l) rest

-- a close without an entry does
pub entries_closed : (q : Option Request) (xs : List Generator) → entries (closed_by q xs) ≡ entries xs
entries_closed None xs = refl
entries_closed (Some (request.Close g)) xs = entries_changed g unentered xs
entries_closed (Some _) xs = refl

-- so does what settles one
pub entries_settled : (q : Option Request) (how : CoroEnd) (xs : List Generator) → entries (settled q how xs) ≡ entries xs
entries_settled None how xs = refl
entries_settled (Some (request.Send g v)) how xs = entries_changed g (λ m. mode_behind false how) xs
entries_settled (Some (request.Throw g k v t)) how xs = entries_changed g (λ m. mode_behind false how) xs
entries_settled (Some (request.Close g)) how xs = entries_changed g (λ m. mode_behind true how) xs
entries_settled (Some _) how xs = refl

-- these activations were made among so many
abbrev pub AreMade : ℕ → List (Obj × ℕ) → Type 0
AreMade made [] = Unit {0}
AreMade made (e ∷ es) = (e.1 ≤ made) × AreMade made es

-- they were among more
pub made_more : (m n : ℕ) (es : List (Obj × ℕ)) → m ≤ n → AreMade m es → AreMade n es
made_more m n [] more are = tt
made_more m n (e ∷ es) more are = let here : e.1 ≤ m = are.0 in (omega (arith, here, more), made_more m n es more are.1)

-- with one more
pub made_on : (made : ℕ) (es : List (Obj × ℕ)) (e : Obj × ℕ) → e.1 ≤ made → AreMade made es → AreMade made (es ++ e ∷ [])
made_on made [] e here are = (here, tt)
made_on made (x ∷ es) e here are = (are.0, made_on made es e here are.1)

-- the one that is found is among these
pub made_found : (made : ℕ) (g : Obj) (xs : List Generator) (x : Generator) → AreMade made (entries xs) → generator_at xs g ≡ Some x → x.act ≤ made
made_found made g [] x are found = absurd (cc found)
made_found made g (y ∷ xs) x are found = pick (eqb y.object.number g.number) found (made_found made g xs x are.1)
  where
    pick : (b : Bool) → (if b then Some y else generator_at xs g) ≡ Some x → (generator_at xs g ≡ Some x → x.act ≤ made) → x.act ≤ made
    pick true found rest = let same : y.act ≡ x.act = ap (λ (z : Generator). z.act) (same_Some y x found) in let here : y.act ≤ made = are.0 in omega (arith, here, same)
    pick false found rest = rest found
