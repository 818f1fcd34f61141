-- Which numbers events name: those of what was asked and of what an end raised are among them, and those of new objects aren't.
use Rattle.std.proofs.Common.{◌≡◌, ◌≤◌, ◌++◌, ◌||◌, ◌∙◌, ◌⊎◌, ℕ, zero, suc, List, [], ◌∷◌, true, false, not, Some, inl, inr, eqb, eq-eqb, refl, sym, ap, subst, length}
use Rattle.std.specs.Prelude.{Option, slice_get}
use Rattle.std.proofs.Math.Bool.{or_assoc, or-true}
use Rattle.std.proofs.lemmas.Option.{same_Some}
use Rattle.py_objects.specs.declared.refs.PyBaseExceptionRef.{PyBaseExceptionRef}
use Rattle.py_objects.specs.declared.payload.Payload.{Payload}
use Rattle.py_objects.specs.declared.request.Request.{Request}
use Rattle.py_objects.specs.declared.event.Ending.TheVariants as ending
use Rattle.py_objects.specs.declared.event.Event.{Event}
use Rattle.py_objects.specs.declared.event.Event.TheVariants as event
use Rattle.py_objects.specs.Objects.{AreNamed, IsNew, event_numbers, is_among, number_if, request_numbers}
use Rattle.py_objects.proofs.NewLemmas.{not_among}
use Rattle.py_coro.specs.declared.coro.CoroEnd.TheVariants as left
use Rattle.py_run.specs.Run.{State, Due, start, after, state_after}
use Rattle.py_run.specs.Links.{is_fresh, named_by}

-- what is among the numbers of two lists
pub among_joined : (n : ℕ) (ms ns : List ℕ) → is_among n (ms ++ ns) ≡ (is_among n ms || is_among n ns)
among_joined n [] ns = refl
among_joined n (m ∷ ms) ns = ap (λ b. eqb n m || b) (among_joined n ms ns) ∙ sym (or_assoc (eqb n m) (is_among n ms) (is_among n ns))

pub among_first : (n : ℕ) (ms ns : List ℕ) → is_among n ms ≡ true → is_among n (ms ++ ns) ≡ true
among_first n ms ns among = among_joined n ms ns ∙ ap (λ b. b || is_among n ns) among

pub among_last : (n : ℕ) (ms ns : List ℕ) → is_among n ns ≡ true → is_among n (ms ++ ns) ≡ true
among_last n ms ns among = among_joined n ms ns ∙ ap (λ b. is_among n ms || b) among ∙ or-true (is_among n ms)

-- what an event names, the events name
pub named_at : (n : ℕ) (events : List Event) (i : ℕ) (e : Event) → slice_get events i ≡ Some e → is_among n (event_numbers e) ≡ true → is_among n (named_by events) ≡ true
named_at n [] i e here among = absurd (cc here)
named_at n (x ∷ events) zero e here among = among_first n (event_numbers x) (named_by events) (subst (λ y. is_among n (event_numbers y) ≡ true) (sym (same_Some x e here)) among)
named_at n (x ∷ events) (suc i) e here among = among_last n (event_numbers x) (named_by events) (named_at n events i e here among)

-- so they do what was asked of
pub asked_named : (n : ℕ) (events : List Event) (i act : ℕ) (r : Request) (own : Option PyBaseExceptionRef) (at : ℕ)
    → slice_get events i ≡ Some (event.Ask act r own at) → is_among n (request_numbers r) ≡ true → is_among n (named_by events) ≡ true
asked_named n events i act r own at here among = named_at n events i (event.Ask act r own at) here (among_last n (number_if own) (request_numbers r) among)

-- an activation was left by a raise at first, or these events name what was raised
due_from : (s : State) (es : List Event) (e : PyBaseExceptionRef) → (state_after s es).phase ≡ Due (left.Raise e) → (s.phase ≡ Due (left.Raise e)) ⊎ (is_among e.number (named_by es) ≡ true)
due_from s [] e due = inl due
due_from s (x ∷ es) e due = elim (due_from (after s x) es e due) [ inl now ↦ by x now | inr among ↦ inr (among_last e.number (event_numbers x) (named_by es) among) ]
  where
    by : (y : Event) → (after s y).phase ≡ Due (left.Raise e) → (s.phase ≡ Due (left.Raise e)) ⊎ (is_among e.number (event_numbers y ++ named_by es) ≡ true)
    by (event.End a (ending.Raise f) at) now =
        let same : e.number ≡ f.number = cc now in
        inr (ap (λ b. b || is_among e.number (named_by es)) (eq-eqb e.number f.number same))
    by (event.End a (ending.Return v) at) now = absurd (cc now)
    by (event.Round a at) now = inl now
    by _ now = absurd (cc now)

-- what an end raised is named while the answer to the question around it is due
pub due_named : (events : List Event) (e : PyBaseExceptionRef) → (state_after start events).phase ≡ Due (left.Raise e) → is_among e.number (named_by events) ≡ true
due_named events e due = elim (due_from start events e due) [ inl now ↦ absurd (cc now) | inr among ↦ among ]

-- what none of the events names, they don't
none_named : (n : ℕ) (events : List Event) → ((i : ℕ) (e : Event) → slice_get events i ≡ Some e → is_among n (event_numbers e) ≡ false) → is_among n (named_by events) ≡ false
none_named n [] none = refl
none_named n (x ∷ events) none =
    among_joined n (event_numbers x) (named_by events) ∙ ap (λ b. b || is_among n (named_by events)) (none 0 x refl) ∙ none_named n events (λ i e here. none (suc i) e here)

-- a new exception is fresh
pub new_fresh : (objects : List Payload) (events : List Event) (e : PyBaseExceptionRef) → IsNew objects events e.number → is_fresh events e ≡ true
new_fresh objects events e new = ap not (none_named e.number events new.unnamed)

-- so is one that comes behind all objects that events name
pub behind_fresh : (objects : List Payload) (events : List Event) (e : PyBaseExceptionRef) → AreNamed objects events → length objects ≤ e.number → is_fresh events e ≡ true
behind_fresh objects events e named past = ap not (none_named e.number events (λ i x here. not_among e.number (length objects) (event_numbers x) (named.in_events i x here) past))
