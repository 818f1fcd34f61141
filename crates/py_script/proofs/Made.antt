-- The activations of a run have own events.
use Rattle.std.proofs.Common.{◌≡◌, ◌<◌, ◌≤◌, ◌+◌, ℕ, suc, List, [], ◌∷◌, ◌++◌, length, Bool, true, false, Some, refl, sym, ap, ◌∙◌, subst, arith, length-append, inl, inr, eqb, eq-eqb}
use Rattle.std.specs.Prelude.{slice_get}
use Rattle.std.proofs.lemmas.Bool.Decides.{eqb_tells}
use Rattle.std.proofs.lemmas.Option.{slice_get_within}
use Rattle.py_objects.specs.declared.payload.Payload.{Payload}
use Rattle.py_objects.specs.declared.event.Event.{Event}
use Rattle.py_objects.specs.declared.event.Event.TheVariants as event
use Rattle.py_objects.specs.Objects.{Obj}
use Rattle.py_objects.specs.Own.{Own, Makes, own_if, told_by, own_from, own_events}
use Rattle.py_run.specs.Run.{Plan, Activation, State, start, after, state_after}
use Rattle.py_run.specs.Coming.{Past, nothing, past_after, Comes}

-- some event was told
pub record HasTold (ts : List Own) : Type 0 where
  pub front : Own
  pub behind : List Own
  pub is : ts ≡ front ∷ behind

told_behind : (xs ts : List Own) → HasTold ts → HasTold (xs ++ ts)
told_behind [] ts told = told
told_behind (x ∷ xs) ts told = record { front = x; behind = xs ++ ts; is = refl }

-- each activation that these events make has told, where the first of them has this number
abbrev MadeTell : State → ℕ → List Event → Type 0
MadeTell s k es = (i : ℕ) → length s.made ≤ i → i < length (state_after s es).made → HasTold (own_from (suc i) k es)

-- so has each activation behind an event that makes none
still_tell : (s : State) (k : ℕ) (e : Event) (es : List Event) → (after s e).made ≡ s.made → MadeTell (after s e) (suc k) es → MadeTell s k (e ∷ es)
unfolding own_from
still_tell s k e es same tell i low high = told_behind (told_by (suc i) k e) (own_from (suc i) (suc k) es) (tell i (subst (λ (l : List Activation). length l ≤ i) (sym same) low) high)

-- an event that makes an activation is its own
make_tells : (s : State) (k a : ℕ) (f : Obj) (vs : List Obj) (es : List Event) → a ≡ suc (length s.made) → MadeTell (after s (event.Make a f vs)) (suc k) es → MadeTell s k (event.Make a f vs ∷ es)
unfolding own_from told_by
make_tells s k a f vs es numbered tell i low high = go (eqb (suc i) a) refl
  where
    go : (b : Bool) → eqb (suc i) a ≡ b → HasTold (own_from (suc i) k (event.Make a f vs ∷ es))
    go true mine = record { front = Makes; behind = own_from (suc i) (suc k) es; is = ap (λ c. own_if c (Makes ∷ []) ++ own_from (suc i) (suc k) es) mine }
    go false other =
        let apart : i ≡ length s.made → ⊥ = λ e. absurd (let hit : eqb (suc i) a ≡ true = eq-eqb (suc i) a (ap suc e ∙ sym numbered) in let clash : true ≡ false = sym hit ∙ other in cc clash) in
        let grown : length (after s (event.Make a f vs)).made ≡ length s.made + 1 = length-append s.made (record { function = f; args = vs } ∷ []) in
        told_behind (told_by (suc i) k (event.Make a f vs)) (own_from (suc i) (suc k) es) (tell i (above grown apart) high)
      where
        above : length (after s (event.Make a f vs)).made ≡ length s.made + 1 → (i ≡ length s.made → ⊥) → length (after s (event.Make a f vs)).made ≤ i
        above grown apart = elim (eqb_tells i (length s.made)) [ inl y ↦ absurd (apart y.1) | inr n ↦ let ne : i ≡ length s.made → ⊥ = n.1 in omega (arith, grown, low, ne) ]

pub made_tell : (plan : Plan) (objects : List Payload) (p : Past) (k : ℕ) (es : List Event) → Comes plan objects p es → MadeTell p.state k es
made_tell plan objects p k [] comes = λ i low high. absurd (omega (arith, low, high))
made_tell plan objects p k (event.Make a f vs ∷ es) comes = make_tells p.state k a f vs es comes.0.0 (made_tell plan objects (past_after plan p (event.Make a f vs)) (suc k) es comes.1)
made_tell plan objects p k (e ∷ es) comes = still_tell p.state k e es refl (made_tell plan objects (past_after plan p e) (suc k) es comes.1)

-- each activation of a whole list of events has told
pub activation_tells : (plan : Plan) (objects : List Payload) (es : List Event) (i : ℕ) (a : Activation) → Comes plan objects nothing es → slice_get (state_after start es).made i ≡ Some a → HasTold (own_events (suc i) es)
activation_tells plan objects es i a comes made = made_tell plan objects nothing 0 es comes i (omega arith) (slice_get_within (state_after start es).made i a made)
