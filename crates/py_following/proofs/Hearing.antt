-- What activations hear among events whose numbers are there, and fronts of own events that are accepted.
use Rattle.std.proofs.Common.{◌≡◌, ℕ, suc, Bool, true, false, eqb, List, [], ◌∷◌, ◌++◌, Some, None, refl}
use Rattle.std.specs.Prelude.{Option, slice_get}
use Rattle.py_objects.specs.declared.payload.Payload.{Payload}
use Rattle.py_objects.specs.declared.event.Event.{Event}
use Rattle.py_objects.specs.declared.event.Event.TheVariants as event
use Rattle.py_objects.specs.Objects.{Obj, AllBelow, event_numbers}
use Rattle.py_objects.specs.Own.{Own, whose, own_of, own_if, told_by, own_from}
use Rattle.py_places.specs.Place.{Place}
use Rattle.py_places.specs.Stepping.{step}
use Rattle.py_places.specs.Checking.{run_on, is_there, AllHear}

-- what one event lets its activation hear
one_hears : (n k : ℕ) (x : Event) → AllBelow n (event_numbers x) → AllHear n (own_of k x)
one_hears n k (event.Drive d) low = tt
one_hears n k (event.Result d w) low = tt
one_hears n k (event.Make a f vs) low = (tt, tt)
one_hears n k (event.Resume a h) low = (low, tt)
one_hears n k (event.Ask a r own at) low = (tt, tt)
one_hears n k (event.Got a w) low = (low, tt)
one_hears n k (event.Round a at) low = (tt, tt)
one_hears n k (event.Yield a v at) low = (tt, tt)
one_hears n k (event.End a e at) low = (tt, tt)

if_hears : (n : ℕ) (b : Bool) (es : List Own) → AllHear n es → AllHear n (own_if b es)
if_hears n true es heard = heard
if_hears n false es heard = tt

both_hear : (n : ℕ) (xs ys : List Own) → AllHear n xs → AllHear n ys → AllHear n (xs ++ ys)
both_hear n [] ys first others = others
both_hear n (x ∷ xs) ys first others = (first.0, both_hear n xs ys first.1 others)

-- each activation hears objects that are there
pub own_hears : (n b k : ℕ) (es : List Event) → ((i : ℕ) (x : Event) → slice_get es i ≡ Some x → AllBelow n (event_numbers x)) → AllHear n (own_from b k es)
unfolding own_from told_by
own_hears n b k [] low = tt
own_hears n b k (x ∷ es) low =
    both_hear n (told_by b k x) (own_from b (suc k) es) (if_hears n (eqb b (whose x)) (own_of k x) (one_hears n k x (low 0 x refl)))
    (own_hears n b (suc k) es (λ i y at. low (suc i) y at))

-- a front of what is accepted is accepted
pub front_there : (objects : List Payload) (g : Obj) (xs ys : List Own) (m : Option Place) → is_there objects g (run_on objects g m (xs ++ ys)) ≡ true
    → is_there objects g (run_on objects g m xs) ≡ true
front_there objects g xs ys None there = absurd (cc there)
front_there objects g [] ys (Some p) there = refl
front_there objects g (x ∷ xs) ys (Some p) there = front_there objects g xs ys (step objects g p x) there
