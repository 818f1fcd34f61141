-- In which dicts the events of a run look names up, where this is known of each activation.
use Rattle.std.proofs.Common.{◌≡◌, ◌++◌, ◌∙◌, ℕ, suc, List, [], ◌∷◌, Some, refl, sym, ap, subst, length, append_assoc, arith}
use Rattle.std.specs.Prelude.{slice_get}
use Rattle.py_objects.specs.declared.payload.Payload.{Payload}
use Rattle.py_objects.specs.declared.event.Event.{Event}
use Rattle.py_objects.specs.declared.event.Event.TheVariants as event
use Rattle.py_objects.specs.Objects.{Obj}
use Rattle.py_objects.specs.Own.{Own, Makes, Resumes, Asks, Gets, Rounds, Yields, Ends, whose, own_events, own_from, own_of, told_by}
use Rattle.py_objects.proofs.Slots.{there}
use Rattle.py_run.specs.Run.{Plan, Activation, start, state_after}
use Rattle.py_run.specs.Coming.{May, Past, nothing, past_after, MayCome, Comes, EachTells}
use Rattle.py_run.specs.Past.{past_behind}
use Rattle.py_run.proofs.CutLemmas.{IsNumbered, numbered_behind}
use Rattle.py_run.proofs.OwnLemmas.{state_lists, told_by_own}
use Rattle.py_run.proofs.PastLemmas.{past_on, past_state}
use Rattle.py_run.proofs.RunLemmas.{comes_front}
use Rattle.py_determined.proofs.NamedBefore.{EachAsks, NameIn, NamesIn}
use Rattle.py_determined.proofs.RunsAgree.{behind_one, top_below}
use Rattle.py_determined.proofs.Telling.{IsPositive, made_stays, positive_behind, top_positive}

module _ (P : Obj → Type 0) where
  -- ---- what an activation tells

  each_behind : (ts us : List Own) → EachAsks P (ts ++ us) → EachAsks P us
  each_behind [] us each = each
  each_behind (Makes ∷ ts) us each = each_behind ts us each
  each_behind (Resumes k h ∷ ts) us each = each_behind ts us each
  each_behind (Asks at r h ∷ ts) us each = each_behind ts us each.1
  each_behind (Gets k w ∷ ts) us each = each_behind ts us each
  each_behind (Rounds at ∷ ts) us each = each_behind ts us each
  each_behind (Yields at v ∷ ts) us each = each_behind ts us each
  each_behind (Ends at e ∷ ts) us each = each_behind ts us each

  first_asks : (k : ℕ) (e : Event) (us : List Own) → EachAsks P (own_of k e ++ us) → NamesIn P e
  first_asks k (event.Ask a r own at) us each = each.0
  first_asks k _ us each = tt

  -- so it is of an event that it tells
  asks_at : (a k : ℕ) (front : List Event) (e : Event) (rest : List Event) → a ≡ whose e → EachAsks P (own_from a k (front ++ e ∷ rest)) → NamesIn P e
  unfolding own_from
  asks_at a k [] e rest own each = first_asks k e (own_from a (suc k) rest) (subst (λ l. EachAsks P (l ++ own_from a (suc k) rest)) (told_by_own a k e own) each)
  asks_at a k (x ∷ front) e rest own each = asks_at a (suc k) front e rest own (each_behind (told_by a k x) (own_from a (suc k) (front ++ e ∷ rest)) each)

  -- ---- what all tell

  module _ (objects : List Payload) (plan : Plan) (may : May) (events : List Event) (comes : Comes plan objects nothing events) (tells : EachTells may events)
      (each : (f : Obj) (vs : List Obj) (ts : List Own) → may f vs ts → EachAsks P ts) where
    module _ (p : Past) (behind : p ≡ past_behind plan nothing p.events) (e : Event) (es : List Event) (is : events ≡ p.events ++ e ∷ es) where
      front : Comes plan objects nothing p.events
      front = comes_front plan objects nothing p.events (e ∷ es) (subst (Comes plan objects nothing) is comes)

      numbered : IsNumbered p
      numbered = subst IsNumbered (sym behind) (numbered_behind plan objects p.events front)

      positive : IsPositive p
      positive = subst IsPositive (sym behind) (positive_behind plan objects p.events front)

      -- an activation that was made so far tells what it may
      made_asks : (i : ℕ) (x : Activation) → slice_get p.state.made i ≡ Some x → EachAsks P (own_events (suc i) (p.events ++ e ∷ es))
      made_asks i x found =
          let state : p.state ≡ state_after start p.events = ap (λ (r : Past). r.state) behind ∙ past_state plan p.events in
          let made : slice_get (state_after start events).made i ≡ Some x =
          subst (λ l. slice_get (state_after start l).made i ≡ Some x) (sym is)
          (subst (λ s. slice_get s.made i ≡ Some x) (ap (λ s. state_after s (e ∷ es)) state ∙ sym (state_lists start p.events (e ∷ es))) (made_stays p.state (e ∷ es) i x found)) in
          subst (λ l. EachAsks P (own_events (suc i) l)) is (each x.function x.args (own_events (suc i) events) (tells i x made))

      names_in : MayCome plan objects p e → NamesIn P e
      names_in coming = by e refl coming
        where
          by : (x : Event) → e ≡ x → MayCome plan objects p x → NamesIn P x
          by (event.Ask a r own at) same (going, top) =
              let (i, number) = behind_one a (top_positive a p.state.stack positive.stack top) in
              let low = top_below (length p.state.made) a p.state.stack numbered.stack top in
              let (x, found) = there p.state.made i (omega (arith, low, number)) in
              subst (NamesIn P) same (asks_at (suc i) 0 p.events e es (sym number ∙ sym (ap whose same)) (made_asks i x found))
          by _ same come = tt

    name_from : (p : Past) (es : List Event) → events ≡ p.events ++ es → p ≡ past_behind plan nothing p.events → Comes plan objects p es → NameIn P es
    name_from p [] is behind rest = tt
    name_from p (e ∷ es) is behind (coming, rest) = (
      names_in p behind e es is coming,
      name_from (past_after plan p e) es (is ∙ sym (append_assoc p.events (e ∷ []) es)) (ap (λ (r : Past). past_after plan r e) behind ∙ sym (past_on plan nothing p.events e)) rest,
    )

    -- each event looks names up in such a dict
    pub name_in : NameIn P events
    name_in = name_from nothing events refl refl comes
