-- What an activation hears has the number of its event.
use Rattle.std.proofs.Common.{◌≡◌, ◌+◌, ℕ, zero, suc, List, [], ◌∷◌, ◌++◌, Some, inl, inr, refl, sym, ap, subst, ◌∙◌, arith}
use Rattle.std.specs.Prelude.{Option, slice_get}
use Rattle.std.proofs.lemmas.Bool.Decides.{eqb_tells}
use Rattle.py_objects.specs.declared.event.ResumeHow.{ResumeHow}
use Rattle.py_objects.specs.declared.refs.PyBaseExceptionRef.{PyBaseExceptionRef}
use Rattle.py_objects.specs.declared.request.Request.{Request}
use Rattle.py_objects.specs.declared.event.ResumeHow.TheVariants as how
use Rattle.py_objects.specs.declared.event.GotAnswer.{GotAnswer}
use Rattle.py_objects.specs.declared.event.GotAnswer.TheVariants as got
use Rattle.py_objects.specs.declared.event.Event.{Event}
use Rattle.py_objects.specs.declared.event.Event.TheVariants as event
use Rattle.py_objects.specs.Own.{Own, Makes, Resumes, Asks, Gets, whose, own_of, own_if, told_by, own_from, own_events}
use Rattle.py_objects.specs.Objects.{Obj}
use Rattle.py_objects.specs.Telling.{Answered, Given}

-- an event of the activation a tells this, where the first of all has the number j
abbrev TellsAt : ℕ → ℕ → List Event → Own → Type 0
TellsAt a j es x = (i : ℕ) × (e : Event) × (slice_get es i ≡ Some e) × (a ≡ whose e) × (own_of (j + i) e ≡ x ∷ [])

-- an event behind the first
later : (a j : ℕ) (e : Event) (es : List Event) (x : Own) → TellsAt a (suc j) es x → TellsAt a j (e ∷ es) x
later a j e es x (i, d, here, mine, tells) =
    let same : suc j + i ≡ j + suc i = omega arith in
    (suc i, d, here, mine, subst (λ (k : ℕ). own_of k d ≡ x ∷ []) same tells)

-- an event tells one thing at most
one_at_most : (k : ℕ) (e : Event) (x y : Own) (ys : List Own) → own_of k e ≡ x ∷ y ∷ ys → ⊥
one_at_most k (event.Drive d) x y ys is = absurd (cc is)
one_at_most k (event.Result d w) x y ys is = absurd (cc is)
one_at_most k (event.Make a f vs) x y ys is = absurd (cc is)
one_at_most k (event.Resume a h) x y ys is = absurd (cc is)
one_at_most k (event.Ask a r own at) x y ys is = absurd (cc is)
one_at_most k (event.Got a w) x y ys is = absurd (cc is)
one_at_most k (event.Round a at) x y ys is = absurd (cc is)
one_at_most k (event.Yield a v at) x y ys is = absurd (cc is)
one_at_most k (event.End a r at) x y ys is = absurd (cc is)

-- what an activation tells is told by an event of its own
told_at : (a j : ℕ) (es : List Event) (at : ℕ) (x : Own) → slice_get (own_from a j es) at ≡ Some x → TellsAt a j es x
unfolding own_from told_by
told_at a j [] at x here = absurd (cc here)
told_at a j (e ∷ es) at x here = elim (eqb_tells a (whose e)) [
  | inl mine ↦ of_own (λ n here. told_at a (suc j) es n x here) (own_of j e) refl mine.1 at (ap (λ c. slice_get (own_if c (own_of j e) ++ own_from a (suc j) es) at) (sym mine.0) ∙ here)
  | inr other ↦ later a j e es x (told_at a (suc j) es at x (ap (λ c. slice_get (own_if c (own_of j e) ++ own_from a (suc j) es) at) (sym other.0) ∙ here))
]
  where
    of_own : ((n : ℕ) → slice_get (own_from a (suc j) es) n ≡ Some x → TellsAt a (suc j) es x) → (o : List Own) → own_of j e ≡ o → a ≡ whose e → (n : ℕ) → slice_get (own_of j e ++ own_from a (suc j) es) n ≡ Some x → TellsAt a j (e ∷ es) x
    of_own next [] is mine n at_n = later a j e es x (next n (ap (λ l. slice_get (l ++ own_from a (suc j) es) n) (sym is) ∙ at_n))
    of_own next (y ∷ []) is mine zero at_n =
        let first : Some y ≡ Some x = ap (λ l. slice_get (l ++ own_from a (suc j) es) zero) (sym is) ∙ at_n in
        let same : y ≡ x = cc first in
        let none : j ≡ j + 0 = omega arith in
        (0, e, refl, mine, subst (λ (k : ℕ). own_of k e ≡ x ∷ []) none (is ∙ ap (λ z. z ∷ []) same))
    of_own next (y ∷ []) is mine (suc n) at_n = later a j e es x (next n (ap (λ l. slice_get (l ++ own_from a (suc j) es) (suc n)) (sym is) ∙ at_n))
    of_own next (y ∷ z ∷ o) is mine n at_n = absurd (one_at_most j e y z o is)

-- an answer that is heard is the event at its number
pub gets_numbered : (a : ℕ) (es : List Event) (at k : ℕ) (w : GotAnswer) → slice_get (own_events a es) at ≡ Some (Gets k w) → slice_get es k ≡ Some (event.Got a w)
gets_numbered a es at k w here = by_event (told_at a 0 es at (Gets k w) here)
  where
    by_event : TellsAt a 0 es (Gets k w) → slice_get es k ≡ Some (event.Got a w)
    by_event (i, event.Got b v, found, mine, tells) = let none : 0 + i ≡ i = omega arith in cc (found, mine, tells, none)
    by_event (i, event.Drive d, found, mine, tells) = absurd (cc tells)
    by_event (i, event.Result d v, found, mine, tells) = absurd (cc tells)
    by_event (i, event.Make b f vs, found, mine, tells) = absurd (cc tells)
    by_event (i, event.Resume b h, found, mine, tells) = absurd (cc tells)
    by_event (i, event.Ask b r own unit, found, mine, tells) = absurd (cc tells)
    by_event (i, event.Round b unit, found, mine, tells) = absurd (cc tells)
    by_event (i, event.Yield b v unit, found, mine, tells) = absurd (cc tells)
    by_event (i, event.End b e unit, found, mine, tells) = absurd (cc tells)

-- so is a resumption
pub resumes_numbered : (a : ℕ) (es : List Event) (at k : ℕ) (h : ResumeHow) → slice_get (own_events a es) at ≡ Some (Resumes k h) → slice_get es k ≡ Some (event.Resume a h)
resumes_numbered a es at k h here = by_event (told_at a 0 es at (Resumes k h) here)
  where
    by_event : TellsAt a 0 es (Resumes k h) → slice_get es k ≡ Some (event.Resume a h)
    by_event (i, event.Resume b g, found, mine, tells) = let none : 0 + i ≡ i = omega arith in cc (found, mine, tells, none)
    by_event (i, event.Drive d, found, mine, tells) = absurd (cc tells)
    by_event (i, event.Result d v, found, mine, tells) = absurd (cc tells)
    by_event (i, event.Make b f vs, found, mine, tells) = absurd (cc tells)
    by_event (i, event.Got b v, found, mine, tells) = absurd (cc tells)
    by_event (i, event.Ask b r own unit, found, mine, tells) = absurd (cc tells)
    by_event (i, event.Round b unit, found, mine, tells) = absurd (cc tells)
    by_event (i, event.Yield b v unit, found, mine, tells) = absurd (cc tells)
    by_event (i, event.End b e unit, found, mine, tells) = absurd (cc tells)

-- the events of two activations, worked by hand
pub worked_numbers : (f : Obj) (r : Request) (h : Option PyBaseExceptionRef) (w : GotAnswer)
    → own_events 1 (event.Drive 1 ∷ event.Make 1 f [] ∷ event.Resume 1 how.Start ∷ event.Ask 1 r h 4 ∷ event.Make 2 f [] ∷ event.Resume 2 how.Start ∷ event.Got 1 w ∷ []) ≡ Makes ∷ Resumes 2 how.Start ∷ Asks 4 r h ∷ Gets 6 w ∷ []
unfolding own_from told_by
worked_numbers f r h w = refl

-- what hears an answer goes on with the answer's number
pub answer_numbered : (k i : ℕ) (v : Obj) (ts : List Own) → Answered k (Gets i (got.Value v) ∷ ts) (λ x j rest. (x ≡ Given v) × (j ≡ i) × (rest ≡ ts))
answer_numbered k i v ts = inr (i, got.Value v, ts, refl, (refl, refl, refl))
