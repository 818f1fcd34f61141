-- Own events and the state behind a list of events, as one more comes.
use Rattle.std.proofs.Common.{◌≡◌, ◌≤◌, ◌+◌, ℕ, suc, List, [], ◌∷◌, ◌++◌, false, eqb, refl, sym, ap, ◌∙◌, append_assoc, append-nil, eq-eqb, length, length-append, arith}
use Rattle.py_objects.specs.declared.event.Event.{Event}
use Rattle.py_objects.specs.declared.event.Event.TheVariants as event
use Rattle.py_objects.specs.Own.{whose, own_of, own_if, told_by, own_from, own_events}
use Rattle.py_run.specs.Run.{State, start, after, state_after}

-- own events behind one more event, which has this number
own_from-append : (b k n : ℕ) (es : List Event) (e : Event) → n ≡ k + length es → own_from b k (es ++ e ∷ []) ≡ own_from b k es ++ told_by b n e
unfolding own_from
own_from-append b k n [] e number = append-nil (told_by b k e) ∙ ap (λ i. told_by b i e) (omega (arith, number))
own_from-append b k n (x ∷ es) e number =
    ap (λ l. told_by b k x ++ l) (own_from-append b (suc k) n es e (omega (arith, number))) ∙ sym (append_assoc (told_by b k x) (own_from b (suc k) es) (told_by b n e))

-- own events behind one more event
pub own_events-append : (b : ℕ) (es : List Event) (e : Event) → own_events b (es ++ e ∷ []) ≡ own_events b es ++ told_by b (length es) e
own_events-append b es e = own_from-append b 0 (length es) es e (omega arith)

-- nobody has own events in an empty journal
pub own_events-nil : (b : ℕ) → own_events b [] ≡ []
unfolding own_from
own_events-nil b = refl

-- an event of another activation tells nothing
pub told_by_other : (b k : ℕ) (e : Event) → eqb b (whose e) ≡ false → told_by b k e ≡ []
unfolding told_by
told_by_other b k e other = ap (λ c. own_if c (own_of k e)) other

-- an event tells its activation what it is
pub told_by_own : (b k : ℕ) (e : Event) → b ≡ whose e → told_by b k e ≡ own_of k e
unfolding told_by
told_by_own b k e own = ap (λ c. own_if c (own_of k e)) (eq-eqb b (whose e) own)

-- other activations' own events stay
pub own_events_other : (b : ℕ) (es : List Event) (e : Event) → eqb b (whose e) ≡ false → own_events b (es ++ e ∷ []) ≡ own_events b es
own_events_other b es e other = own_events-append b es e ∙ ap (λ l. own_events b es ++ l) (told_by_other b (length es) e other) ∙ append-nil (own_events b es)

-- the activation whose event it is has one more
pub own_events_own : (b : ℕ) (es : List Event) (e : Event) → b ≡ whose e → own_events b (es ++ e ∷ []) ≡ own_events b es ++ own_of (length es) e
own_events_own b es e own = own_events-append b es e ∙ ap (λ l. own_events b es ++ l) (told_by_own b (length es) e own)

-- the state behind a list and another one
pub state_lists : (s : State) (es more : List Event) → state_after s (es ++ more) ≡ state_after (state_after s es) more
state_lists s [] more = refl
state_lists s (e ∷ es) more = state_lists (after s e) es more

-- the state behind one more event
pub state_after-append : (s : State) (es : List Event) (e : Event) → state_after s (es ++ e ∷ []) ≡ after (state_after s es) e
state_after-append s es e = state_lists s es (e ∷ [])

-- at most as many drives are done as there are events
done_counted : (s : State) (es : List Event) → (state_after s es).done ≤ s.done + length es
done_counted s [] = omega arith
done_counted s (event.Result d w ∷ es) = let rest = done_counted (after s (event.Result d w)) es in omega (arith, rest)
done_counted s (e ∷ es) = let rest = done_counted (after s e) es in omega (arith, rest)

-- at most as many activations are made
made_counted : (s : State) (es : List Event) → length (state_after s es).made ≤ length s.made + length es
made_counted s [] = omega arith
made_counted s (event.Make a f vs ∷ es) =
    let rest = made_counted (after s (event.Make a f vs)) es in
    let one : length (s.made ++ record { function = f; args = vs } ∷ []) ≡ length s.made + 1 = length-append s.made (record { function = f; args = vs } ∷ []) in
    omega (arith, rest, one)
made_counted s (e ∷ es) = let rest = made_counted (after s e) es in omega (arith, rest)

-- the same of drives from the start
pub done_below : (es : List Event) → (state_after start es).done ≤ length es
done_below es = let all = done_counted start es in omega (arith, all)

-- and of activations
pub made_below : (es : List Event) → length (state_after start es).made ≤ length es
made_below es = let all = made_counted start es in omega (arith, all)
