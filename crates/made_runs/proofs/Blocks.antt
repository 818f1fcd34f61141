-- Events of a group, whose drives and activations are numbered from 0, are shifted behind those of a run: what each
-- activation tells by them, and which activations and objects they name.
use Rattle.std.proofs.Common.{◌≡◌, ◌+◌, ◌<◌, ◌≤◌, ◌++◌, ℕ, zero, suc, List, [], ◌∷◌, Bool, true, false, map, eqb}
use Rattle.std.proofs.Common.{eq-eqb, ne_eqb, refl, sym, ap, ◌∙◌, length, append_assoc, inl, inr, arith}
use Rattle.std.specs.Prelude.{nat_lt}
use Rattle.std.specs.List.{list_all}
use Rattle.std.proofs.lemmas.Bool.{and_parts, ltb-true}
use Rattle.std.proofs.lemmas.Bool.Decides.{eqb_tells}
use Rattle.py_objects.specs.declared.event.Event.{Event}
use Rattle.py_objects.specs.declared.event.Event.TheVariants as event
use Rattle.py_objects.specs.Objects.{event_numbers, AllBelow}
use Rattle.py_objects.proofs.GrowthLemmas.{below_more}
use Rattle.py_run.proofs.OwnLemmas.{told_by_other}
use Rattle.py_objects.specs.Own.{Own, Makes, Resumes, Asks, Gets, Rounds, Yields, Ends, whose, own_if, told_by}
use Rattle.py_objects.specs.Own.{own_from}
use Rattle.made_runs.proofs.Lists.{Each, each_both, each_so}

-- m and n more
abbrev pub up : ℕ → ℕ → ℕ
up m zero = m
up m (suc n) = suc (up m n)

-- this is their sum
pub up_is : (m n : ℕ) → up m n ≡ m + n
up_is m zero = omega arith
up_is m (suc n) = let rest = up_is m n in omega (arith, rest)

-- an event, where so many activations and drives came before
abbrev pub shifted : (m d : ℕ) → Event → Event
shifted m d (event.Drive n) = event.Drive (suc (up d n))
shifted m d (event.Result n w) = event.Result (suc (up d n)) w
shifted m d (event.Make a f vs) = event.Make (suc (up m a)) f vs
shifted m d (event.Resume a h) = event.Resume (suc (up m a)) h
shifted m d (event.Ask a r own at) = event.Ask (suc (up m a)) r own at
shifted m d (event.Got a w) = event.Got (suc (up m a)) w
shifted m d (event.Round a at) = event.Round (suc (up m a)) at
shifted m d (event.Yield a v at) = event.Yield (suc (up m a)) v at
shifted m d (event.End a e at) = event.End (suc (up m a)) e at

-- events, each of which is shifted so
abbrev pub block : (m d : ℕ) → List Event → List Event
block m d es = map (shifted m d) es

-- each of them is of one of so many activations, or of none
abbrev pub Acts : ℕ → List Event → Type 0
Acts m es = Each (λ (e : Event). whose e ≤ m) es

-- ---- own events

-- no own events stay none
none_if : (b : Bool) → own_if b [] ≡ []
none_if true = refl
none_if false = refl

-- numbers that are shifted are the same one where they were
eqb_up : (m l a : ℕ) → eqb (suc (up m l)) (suc (up m a)) ≡ eqb l a
eqb_up m l a = elim (eqb_tells l a) [
  | inl hit ↦ eq-eqb (suc (up m l)) (suc (up m a)) (ap (λ (n : ℕ). suc (up m n)) hit.1) ∙ sym hit.0
  | inr miss ↦
      ne_eqb (suc (up m l)) (suc (up m a)) (λ same. miss.1 (omega (arith, same, up_is m l, up_is m a)))
      ∙ sym miss.0
]

-- an event that is shifted tells the shifted activation what it told
told_shifted : (m d l k : ℕ) (e : Event) → told_by (suc (up m l)) k (shifted m d e) ≡ told_by l k e
unfolding told_by
told_shifted m d l k (event.Drive n) = none_if (eqb (suc (up m l)) 0) ∙ sym (none_if (eqb l 0))
told_shifted m d l k (event.Result n w) = none_if (eqb (suc (up m l)) 0) ∙ sym (none_if (eqb l 0))
told_shifted m d l k (event.Make a f vs) = ap (λ (b : Bool). own_if b (Makes ∷ [])) (eqb_up m l a)
told_shifted m d l k (event.Resume a h) = ap (λ (b : Bool). own_if b (Resumes k h ∷ [])) (eqb_up m l a)
told_shifted m d l k (event.Ask a r own at) = ap (λ (b : Bool). own_if b (Asks at r own ∷ [])) (eqb_up m l a)
told_shifted m d l k (event.Got a w) = ap (λ (b : Bool). own_if b (Gets k w ∷ [])) (eqb_up m l a)
told_shifted m d l k (event.Round a at) = ap (λ (b : Bool). own_if b (Rounds at ∷ [])) (eqb_up m l a)
told_shifted m d l k (event.Yield a v at) = ap (λ (b : Bool). own_if b (Yields at v ∷ [])) (eqb_up m l a)
told_shifted m d l k (event.End a e at) = ap (λ (b : Bool). own_if b (Ends at e ∷ [])) (eqb_up m l a)

-- and so do events
pub own_shifted : (m d l k : ℕ) (es : List Event) → own_from (suc (up m l)) k (block m d es) ≡ own_from l k es
unfolding own_from
own_shifted m d l k [] = refl
own_shifted m d l k (e ∷ es) =
    ap (λ (xs : List Own). xs ++ own_from (suc (up m l)) (suc k) (block m d es)) (told_shifted m d l k e)
    ∙ ap (λ (xs : List Own). told_by l k e ++ xs) (own_shifted m d l (suc k) es)

-- another activation's event tells nothing
told_other : (a k : ℕ) (e : Event) → (a ≡ whose e → ⊥) → told_by a k e ≡ []
told_other a k e other = told_by_other a k e (ne_eqb a (whose e) other)

-- a shifted event is of none of the activations before
not_earlier : (m d a : ℕ) (e : Event) → a < m → suc a ≡ whose (shifted m d e) → ⊥
not_earlier m d a (event.Drive n) low same = omega (arith, same)
not_earlier m d a (event.Result n w) low same = omega (arith, same)
not_earlier m d a (event.Make b f vs) low same = omega (arith, same, low, up_is m b)
not_earlier m d a (event.Resume b h) low same = omega (arith, same, low, up_is m b)
not_earlier m d a (event.Ask b r own at) low same = omega (arith, same, low, up_is m b)
not_earlier m d a (event.Got b w) low same = omega (arith, same, low, up_is m b)
not_earlier m d a (event.Round b at) low same = omega (arith, same, low, up_is m b)
not_earlier m d a (event.Yield b v at) low same = omega (arith, same, low, up_is m b)
not_earlier m d a (event.End b e at) low same = omega (arith, same, low, up_is m b)

-- so shifted events tell an earlier activation nothing
pub own_earlier : (m d a k : ℕ) (es : List Event) → a < m → own_from (suc a) k (block m d es) ≡ []
unfolding own_from
own_earlier m d a k [] low = refl
own_earlier m d a k (e ∷ es) low =
    ap (λ (xs : List Own). xs ++ own_from (suc a) (suc k) (block m d es))
    (told_other (suc a) k (shifted m d e) (not_earlier m d a e low))
    ∙ own_earlier m d a (suc k) es low

-- events of the first m activations tell a later one nothing
pub own_later : (m l k : ℕ) (es : List Event) → Acts m es → own_from (suc (up m l)) k es ≡ []
unfolding own_from
own_later m l k [] low = refl
own_later m l k (e ∷ es) low =
    let here : whose e ≤ m = low.0 in
    ap (λ (xs : List Own). xs ++ own_from (suc (up m l)) (suc k) es)
    (told_other (suc (up m l)) k e (λ same. omega (arith, same, here, up_is m l)))
    ∙ own_later m l (suc k) es low.1

-- own events of two lists, one behind the other
pub own_lists : (a k : ℕ) (es more : List Event)
    → own_from a k (es ++ more) ≡ own_from a k es ++ own_from a (k + length es) more
unfolding own_from
own_lists a k [] more = ap (λ (i : ℕ). own_from a i more) (omega arith)
own_lists a k (e ∷ es) more =
    ap (λ (xs : List Own). told_by a k e ++ xs)
    (own_lists a (suc k) es more
    ∙ ap (λ (i : ℕ). own_from a (suc k) es ++ own_from a i more)
    (let same : suc k + length es ≡ k + suc (length es) = omega arith in same))
    ∙ sym (append_assoc (told_by a k e) (own_from a (suc k) es) (own_from a (k + suc (length es)) more))

-- ---- what else is so of them

-- the activation of a shifted event is at most so many later
whose_shifted : (m d : ℕ) (e : Event) → whose (shifted m d e) ≤ suc (m + whose e)
whose_shifted m d (event.Drive n) = omega arith
whose_shifted m d (event.Result n w) = omega arith
whose_shifted m d (event.Make a f vs) = omega (arith, up_is m a)
whose_shifted m d (event.Resume a h) = omega (arith, up_is m a)
whose_shifted m d (event.Ask a r own at) = omega (arith, up_is m a)
whose_shifted m d (event.Got a w) = omega (arith, up_is m a)
whose_shifted m d (event.Round a at) = omega (arith, up_is m a)
whose_shifted m d (event.Yield a v at) = omega (arith, up_is m a)
whose_shifted m d (event.End a e at) = omega (arith, up_is m a)

-- shifted events are of the activations before and of n more
pub acts_shifted : (m d n : ℕ) (es : List Event) → list_all (λ (e : Event). nat_lt (whose e) n) es ≡ true
    → Acts (m + n) (block m d es)
acts_shifted m d n [] few = tt
acts_shifted m d n (e ∷ es) few =
    let (low, lower) = and_parts (nat_lt (whose e) n) (list_all (λ (x : Event). nat_lt (whose x) n) es) few in
    let one : whose e < n = ltb-true (whose e) n low in
    (omega (arith, one, whose_shifted m d e), acts_shifted m d n es lower)

-- events of so many activations are of more activations
pub acts_wider : (m n : ℕ) (es : List Event) → m ≤ n → Acts m es → Acts n es
acts_wider m n es more acts =
    each_so (λ (e : Event). whose e ≤ m) (λ (e : Event). whose e ≤ n) (λ e low. omega (arith, low, more)) es acts

-- a shifted event names the same objects
numbers_shifted : (m d : ℕ) (e : Event) → event_numbers (shifted m d e) ≡ event_numbers e
numbers_shifted m d (event.Drive n) = refl
numbers_shifted m d (event.Result n w) = refl
numbers_shifted m d (event.Make a f vs) = refl
numbers_shifted m d (event.Resume a h) = refl
numbers_shifted m d (event.Ask a r own at) = refl
numbers_shifted m d (event.Got a w) = refl
numbers_shifted m d (event.Round a at) = refl
numbers_shifted m d (event.Yield a v at) = refl
numbers_shifted m d (event.End a e at) = refl

-- each names objects with numbers below n
abbrev pub Names : ℕ → List Event → Type 0
Names n es = Each (λ (e : Event). AllBelow n (event_numbers e)) es

-- shifted events name objects below n where the events do
pub names_shifted : (m d n : ℕ) (es : List Event) → Names n es → Names n (block m d es)
names_shifted m d n [] below = tt
names_shifted m d n (e ∷ es) below = (rw (numbers_shifted m d e) below.0, names_shifted m d n es below.1)

-- objects below m are below n
pub names_wider : (m n : ℕ) (es : List Event) → m ≤ n → Names m es → Names n es
names_wider m n es more names =
    each_so (λ (e : Event). AllBelow m (event_numbers e)) (λ (e : Event). AllBelow n (event_numbers e))
    (λ e below. below_more m n (event_numbers e) more below) es names

-- two lists of events, one behind the other, name what both name
pub names_both : (n : ℕ) (es more : List Event) → Names n es → Names n more → Names n (es ++ more)
names_both n es more front back = each_both (λ (e : Event). AllBelow n (event_numbers e)) es more front back
