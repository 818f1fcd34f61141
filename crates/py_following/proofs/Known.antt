-- What is known behind events, by these events alone.
use Rattle.std.proofs.Common.{◌≡◌, ◌+◌, ◌⊎◌, ◌∙◌, ℕ, suc, List, [], ◌∷◌, ◌++◌, Bool, true, false, Some, None, inl, inr, refl, sym, ap, subst, append_assoc, append-nil, eqb-true, length, length-append, arith}
use Rattle.std.specs.Prelude.{Option, ◌==◌, if◌then◌else◌, option_map, slice_get}
use Rattle.std.specs.Option.{option_or}
use Rattle.std.proofs.lemmas.Bool.{eqb-false}
use Rattle.py_objects.specs.declared.payload.Payload.{Payload}
use Rattle.py_objects.specs.declared.refs.PyBaseExceptionRef.{PyBaseExceptionRef}
use Rattle.py_objects.specs.declared.request.Request.TheVariants as request
use Rattle.py_objects.specs.declared.event.DriveAnswer.{DriveAnswer}
use Rattle.py_objects.specs.declared.event.Event.{Event}
use Rattle.py_objects.specs.declared.event.Event.TheVariants as event
use Rattle.py_objects.specs.Objects.{Obj, Name}
use Rattle.py_objects.specs.Originals.{IsDict}
use Rattle.py_objects.proofs.GrowthLemmas.{slice_get_grown}
use Rattle.py_objects.proofs.NewLemmas.{newest}
use Rattle.py_lines.specs.declared.drive.DriveLine.{DriveLine}
use Rattle.py_grammar.specs.Grammar.{Coded}
use Rattle.py_coro.specs.declared.coro.CoroEnd.TheVariants as left
use Rattle.py_run.specs.Run.{Posed, State, Phase, Idle, Asking, Going, start, after, left_by, state_after}
use Rattle.py_run.proofs.OwnLemmas.{state_after-append}
use Rattle.py_run.proofs.RunLemmas.{going_busy, asking_busy, made_busy, due_busy}
use Rattle.py_determined.specs.Raises.{raises_after, raises_of}
use Rattle.py_determined.proofs.RaisesLemmas.{raises_on}
use Rattle.py_meaning.proofs.Entries.{one_more}
use Rattle.py_meaning.proofs.WorkedObjects.{some_is}
use Rattle.py_following.specs.Drives.{posed_by, shown_by}
use Rattle.py_following.specs.Followed.{Followed, unbegun, answers_after, looked_up_by, LooksUp, Passes, followed_by, FollowsTo}

module _ (coded : List Coded) (objects : List Payload) (drives : List DriveLine) where
  -- an event may come next
  abbrev pub MayPass : Followed → Event → Type 0
  MayPass f e = Passes coded objects drives f e

  -- what is known behind it
  abbrev pub known_after : (f : Followed) (e : Event) → MayPass f e → Followed
  known_after f e p = followed_by coded objects f e p.asked p.places

  -- these events lead from what is known to this
  abbrev pub Leads : Followed → List Event → Followed → Type 0
  Leads f es g = FollowsTo coded objects drives f es g

  -- ---- events one after another

  -- what each event keeps holds behind all of them
  pub leads_keep : (P : Followed → Type 0) → ((f : Followed) (e : Event) (p : MayPass f e) → P f → P (known_after f e p))
      → (f g : Followed) (es : List Event) → Leads f es g → P f → P g
  leads_keep P keep f g [] same holds = subst P same holds
  leads_keep P keep f g (e ∷ es) (p, more) holds = leads_keep P keep (known_after f e p) g es more (keep f e p holds)

  -- one more event behind the others
  pub leads_on : (f g : Followed) (es : List Event) (e : Event) (p : MayPass g e) → Leads f es g
      → Leads f (es ++ e ∷ []) (known_after g e p)
  leads_on f g [] e p same = subst (λ h. Leads h (e ∷ []) (known_after g e p)) (sym same) (p, refl)
  leads_on f g (x ∷ es) e p (first, more) = (first, leads_on (known_after f x first) g es e p more)

  -- events that one ends lead to where it may come
  pub leads_back : (f h : Followed) (es : List Event) (e : Event) → Leads f (es ++ e ∷ []) h
      → (g : Followed) × Leads f es g × ((p : MayPass g e) × (known_after g e p ≡ h))
  leads_back f h [] e (p, same) = (f, refl, (p, same))
  leads_back f h (x ∷ es) e (first, more) = let (g, front, last) = leads_back (known_after f x first) h es e more in (g, (first, front), last)

  -- the events that are known are these
  pub leads_events : (f g : Followed) (es : List Event) → Leads f es g → g.past.events ≡ f.past.events ++ es
  leads_events f g [] same = ap (λ (h : Followed). h.past.events) (sym same) ∙ sym (append-nil f.past.events)
  leads_events f g (e ∷ es) (p, more) = leads_events (known_after f e p) g es more ∙ append_assoc f.past.events (e ∷ []) es

  -- from the start on
  pub events_known : (f : Followed) (es : List Event) → Leads unbegun es f → f.past.events ≡ es
  events_known f es leads = leads_events unbegun f es leads

  -- what holds before any event, and is kept, holds behind all
  pub known_keep : (P : Followed → Type 0) → ((f : Followed) (e : Event) (p : MayPass f e) → P f → P (known_after f e p))
      → P unbegun
      → (f : Followed) (es : List Event) → Leads unbegun es f → P f
  known_keep P keep first f es leads = leads_keep P keep unbegun f es leads first

  -- ---- states and raises

  -- the state, and what was raised, are those of the events
  pub record IsOfEvents (f : Followed) : Type 0 where
    pub state : f.past.state ≡ state_after start f.past.events
    pub raises : f.raises ≡ raises_of f.past.events

  pub of_events_after : (f : Followed) (e : Event) (p : MayPass f e) → IsOfEvents f → IsOfEvents (known_after f e p)
  of_events_after f e p is = record {
    state = ap (λ s. after s e) is.state ∙ sym (state_after-append start f.past.events e);
    raises =
        ap (λ s. raises_after s f.raises e) is.state
        ∙ ap (λ xs. raises_after (state_after start f.past.events) xs e) is.raises
        ∙ sym (raises_on f.past.events e);
  }

  pub of_events : (f : Followed) (es : List Event) → Leads unbegun es f → IsOfEvents f
  of_events f es leads = known_keep IsOfEvents of_events_after (record { state = refl; raises = refl }) f es leads

  -- ---- what the drives ask

  -- so many drives ask something: those that are done, and one more behind the first event of a drive that runs
  abbrev pub AskedSo : Followed → Type 0
  AskedSo f =
      ((f.past.state.phase ≡ Idle) × (f.past.state.stack ≡ []) × (length f.asked ≡ f.past.state.done))
      ⊎ ((f.past.state.phase ≡ Asking) × (f.past.state.stack ≡ []) × (length f.asked ≡ f.past.state.done))
      ⊎ ((f.past.state.phase ≡ Idle → ⊥) × (length f.asked ≡ suc f.past.state.done))

  -- what a drive asks goes behind the others
  abbrev pub asked_on : List Posed → Option Posed → Option (List Posed)
  asked_on asked q = option_map (λ x. asked ++ x ∷ []) q

  asked_by_one : (asked : List Posed) (q : Option Posed) (new : List Posed) → asked_on asked q ≡ Some new
      → (x : Posed) × (q ≡ Some x) × (new ≡ asked ++ x ∷ [])
  asked_by_one asked None new is = absurd (cc is)
  asked_by_one asked (Some x) new is = (x, refl, sym (some_is (asked ++ x ∷ []) new is))

  -- what the drive that runs asks, by what an event shows
  abbrev pub posed_next : Followed → Event → Option Posed
  posed_next f e = posed_by objects f.answers (slice_get drives f.past.state.done) (shown_by objects f.answers e)

  -- what the drives ask behind the first event of one, and behind the others
  abbrev pub AsksMore : (f : Followed) (e : Event) (asked : List Posed) → Type 0
  AsksMore f e asked =
      ((length f.asked ≡ f.past.state.done)
      × ((q : Posed) × (posed_next f e ≡ Some q) × (asked ≡ f.asked ++ q ∷ [])))
      ⊎ ((length f.asked ≡ f.past.state.done → ⊥) × (asked ≡ f.asked))

  pub asks_more : (f : Followed) (e : Event) (p : MayPass f e) → AsksMore f e p.asked
  asks_more f e p = by (length f.asked == f.past.state.done) refl p.is_asked
    where
      by : (b : Bool) → length f.asked == f.past.state.done ≡ b
          → (if b then asked_on f.asked (posed_next f e) else Some f.asked) ≡ Some p.asked
          → AsksMore f e p.asked
      by true same is =
          inl (
            eqb-true (length f.asked) f.past.state.done same,
            asked_by_one f.asked (posed_next f e) p.asked is,
          )
      by false other is = inr (eqb-false (length f.asked) f.past.state.done other, sym (some_is f.asked p.asked is))

  -- one more asks than are done, by any event
  pub asks_one_more : (f : Followed) (e : Event) (p : MayPass f e) → AskedSo f → length p.asked ≡ suc f.past.state.done
  asks_one_more f e p so = elim (asks_more f e p) [
    | inl (done, (q, is, more)) ↦
        let sum : length (f.asked ++ q ∷ []) ≡ length f.asked + 1 = length-append f.asked (q ∷ []) in
        let long : length p.asked ≡ length (f.asked ++ q ∷ []) = ap length more in
        omega (arith, done, sum, long)
    | inr (other, same) ↦ ap length same ∙ elim so [
      | inl (idle, none, done) ↦ absurd (other done)
      | inr (inl (asks, none, done)) ↦ absurd (other done)
      | inr (inr (busy, more)) ↦ more
    ]
  ]

  -- where nothing is open, as many ask as are done
  pub idle_asked : (f : Followed) → AskedSo f → f.past.state.phase ≡ Idle
      → (f.past.state.stack ≡ []) × (length f.asked ≡ f.past.state.done)
  idle_asked f (inl (idle, none, done)) is = (none, done)
  idle_asked f (inr (inl (asks, none, done))) is = (none, done)
  idle_asked f (inr (inr (busy, more))) is = absurd (busy is)

  busy_in : (s : State) (x : Phase) → (x ≡ Idle → ⊥) → s.phase ≡ x → s.phase ≡ Idle → ⊥
  busy_in s x busy is idle = busy (sym is ∙ idle)

  pub asked_so_after : (f : Followed) (e : Event) (p : MayPass f e) → AskedSo f → AskedSo (known_after f e p)
  asked_so_after f e p so = by e p
    where
      by : (e : Event) (p : MayPass f e) → AskedSo (known_after f e p)
      by (event.Drive d) p = let (none, done) = idle_asked f so p.may.0 in inr (inl (refl, none, done))
      by (event.Result d w) p = inl (refl, p.may.1, asks_one_more f (event.Result d w) p so)
      by (event.Make a g vs) p = inr (inr (made_busy g, asks_one_more f (event.Make a g vs) p so))
      by (event.Resume a h) p = inr (inr (going_busy, asks_one_more f (event.Resume a h) p so))
      by (event.Ask a r own at) p = inr (inr (asking_busy, asks_one_more f (event.Ask a r own at) p so))
      by (event.Got a w) p = inr (inr (going_busy, asks_one_more f (event.Got a w) p so))
      by (event.Round a at) p =
          inr (inr (busy_in f.past.state Going going_busy p.may.0, asks_one_more f (event.Round a at) p so))
      by (event.Yield a v at) p = inr (inr (due_busy (left.Yield v), asks_one_more f (event.Yield a v at) p so))
      by (event.End a x at) p = inr (inr (due_busy (left_by x), asks_one_more f (event.End a x at) p so))

  pub asked_so : (f : Followed) (es : List Event) → Leads unbegun es f → AskedSo f
  asked_so f es leads = known_keep AskedSo asked_so_after (inl (refl, refl, refl)) f es leads

  -- ---- answers

  -- the answers are those of the results, in order: drive number n + 1 has the answer number n
  pub record AreAnswers (f : Followed) : Type 0 where
    pub count : length f.answers ≡ f.past.state.done
    pub result : (n : ℕ) (w : DriveAnswer) → slice_get f.answers n ≡ Some w
        → (i : ℕ) × (slice_get f.past.events i ≡ Some (event.Result (suc n) w))
    pub answer : (i d : ℕ) (w : DriveAnswer) → slice_get f.past.events i ≡ Some (event.Result d w)
        → (n : ℕ) × (d ≡ suc n) × (slice_get f.answers n ≡ Some w)

  -- where an event is no result
  unanswered : (f : Followed) (e : Event) (p : MayPass f e) → (after f.past.state e).done ≡ f.past.state.done
      → answers_after f.answers e ≡ f.answers
      → ((d : ℕ) (w : DriveAnswer) → e ≡ event.Result d w → ⊥) → AreAnswers f → AreAnswers (known_after f e p)
  unanswered f e p done same none are = record {
    count = ap length same ∙ are.count ∙ sym done;
    result = λ n w at.
        let (i, here) = are.result n w (subst (λ ws. slice_get ws n ≡ Some w) same at) in
        (i, slice_get_grown f.past.events (e ∷ []) i (event.Result (suc n) w) here);
    answer = λ i d w at. elim (one_more f.past.events e (event.Result d w) i at) [
      | inl before ↦ let (n, is, here) = are.answer i d w before in (n, is, subst (λ ws. slice_get ws n ≡ Some w) (sym same) here)
      | inr (last, is) ↦ absurd (none d w is)
    ];
  }

  answered_by : (f : Followed) (d : ℕ) (w : DriveAnswer) (p : MayPass f (event.Result d w)) → AreAnswers f
      → AreAnswers (known_after f (event.Result d w) p)
  answered_by f d w p are = record {
    count =
        let sum : length (f.answers ++ w ∷ []) ≡ length f.answers + 1 = length-append f.answers (w ∷ []) in
        let count = are.count in
        omega (arith, sum, count);
    result = λ n x at. elim (one_more f.answers w x n at) [
      | inl before ↦ let (i, here) = are.result n x before in (i, slice_get_grown f.past.events (event.Result d w ∷ []) i (event.Result (suc n) x) here)
      | inr (last, is) ↦
          let number : d ≡ suc n = p.may.0 ∙ ap suc (sym are.count ∙ sym last) in
          (length f.past.events, newest f.past.events (event.Result d w) ∙ cc (number, is))
    ];
    answer = λ i c x at. elim (one_more f.past.events (event.Result d w) (event.Result c x) i at) [
      | inl before ↦ let (n, is, here) = are.answer i c x before in (n, is, slice_get_grown f.answers (w ∷ []) n x here)
      | inr (last, is) ↦
          let number : d ≡ c = cc is in
          let same : w ≡ x = cc is in
          (length f.answers, sym number ∙ p.may.0 ∙ ap suc (sym are.count), newest f.answers w ∙ ap Some same)
    ];
  }

  answers_are_after : (f : Followed) (e : Event) (p : MayPass f e) → AreAnswers f → AreAnswers (known_after f e p)
  answers_are_after f e p are = by e p
    where
      by : (e : Event) (p : MayPass f e) → AreAnswers (known_after f e p)
      by (event.Drive d) p = unanswered f (event.Drive d) p refl refl (λ d w is. absurd (cc is)) are
      by (event.Result d w) p = answered_by f d w p are
      by (event.Make a g vs) p = unanswered f (event.Make a g vs) p refl refl (λ d w is. absurd (cc is)) are
      by (event.Resume a h) p = unanswered f (event.Resume a h) p refl refl (λ d w is. absurd (cc is)) are
      by (event.Ask a r own at) p = unanswered f (event.Ask a r own at) p refl refl (λ d w is. absurd (cc is)) are
      by (event.Got a w) p = unanswered f (event.Got a w) p refl refl (λ d w is. absurd (cc is)) are
      by (event.Round a at) p = unanswered f (event.Round a at) p refl refl (λ d w is. absurd (cc is)) are
      by (event.Yield a v at) p = unanswered f (event.Yield a v at) p refl refl (λ d w is. absurd (cc is)) are
      by (event.End a x at) p = unanswered f (event.End a x at) p refl refl (λ d w is. absurd (cc is)) are

  pub are_answers : (f : Followed) (es : List Event) → Leads unbegun es f → AreAnswers f
  are_answers f es leads =
      known_keep AreAnswers answers_are_after (record { count = refl; result = λ n w at. absurd (cc at); answer = λ i d w at. absurd (cc at) }) f es leads

  -- ---- the globals

  -- some event looks a name up in this dict
  abbrev pub LookedUp : List Event → Obj → Type 0
  LookedUp es d =
      (i : ℕ) × (a : ℕ) × (x : Name) × (own : Option PyBaseExceptionRef) × (at : ℕ) × (slice_get es i ≡ Some (event.Ask a (request.Global d x) own at))

  -- the dict of the globals is the one that names are looked up in, where some are
  pub record AreGlobals (f : Followed) : Type 0 where
    pub only : (d : Obj) → LookedUp f.past.events d → f.globals ≡ Some d
    pub is_dict : (d : Obj) → f.globals ≡ Some d → IsDict objects d
    pub looked : (d : Obj) → f.globals ≡ Some d → LookedUp f.past.events d

  pub only_globals : (known looked : Option Obj) (d : Obj) → LooksUp coded objects known looked → looked ≡ Some d
      → option_or known looked ≡ Some d
  only_globals known None d looks is = absurd (cc is)
  only_globals None (Some c) d looks is = is
  only_globals (Some g) (Some c) d looks is = ap Some (sym looks) ∙ is

  pub globals_stay : (known looked : Option Obj) (d : Obj) → known ≡ Some d → option_or known looked ≡ Some d
  globals_stay None looked d is = absurd (cc is)
  globals_stay (Some g) looked d is = is

  -- the dict is known from before, or by this event
  globals_from : (known looked : Option Obj) (d : Obj) → LooksUp coded objects known looked → option_or known looked ≡ Some d
      → (known ≡ Some d) ⊎ ((looked ≡ Some d) × IsDict objects d)
  globals_from None None d looks is = absurd (cc is)
  globals_from None (Some c) d looks is = inr (is, subst (IsDict objects) (some_is c d is) looks)
  globals_from (Some g) looked d looks is = inl is

  looks_up_last : (es : List Event) (e : Event) (d : Obj) → looked_up_by e ≡ Some d → LookedUp (es ++ e ∷ []) d
  looks_up_last es (event.Ask a (request.Global c x) own at) d is = (
    length es,
    a,
    x,
    own,
    at,
    newest es (event.Ask a (request.Global c x) own at)
        ∙ ap (λ (v : Obj). Some (event.Ask a (request.Global v x) own at)) (some_is c d is),
  )
  looks_up_last es _ d is = absurd (cc is)

  globals_are_after : (f : Followed) (e : Event) (p : MayPass f e) → AreGlobals f → AreGlobals (known_after f e p)
  globals_are_after f e p are = record {
    only = λ d (i, a, x, own, at, here). elim (one_more f.past.events e (event.Ask a (request.Global d x) own at) i here) [
      | inl before ↦ globals_stay f.globals (looked_up_by e) d (are.only d (i, a, x, own, at, before))
      | inr (last, is) ↦ only_globals f.globals (looked_up_by e) d p.looks_up (ap looked_up_by is)
    ];
    is_dict =
        λ d is. elim (globals_from f.globals (looked_up_by e) d p.looks_up is) [ inl before ↦ are.is_dict d before | inr (now, dict) ↦ dict ];
    looked = λ d is. elim (globals_from f.globals (looked_up_by e) d p.looks_up is) [
      | inl before ↦
          let (i, a, x, own, at, here) = are.looked d before in
          (i, a, x, own, at, slice_get_grown f.past.events (e ∷ []) i (event.Ask a (request.Global d x) own at) here)
      | inr (now, dict) ↦ looks_up_last f.past.events e d now
    ];
  }

  pub are_globals : (f : Followed) (es : List Event) → Leads unbegun es f → AreGlobals f
  are_globals f es leads =
      known_keep AreGlobals globals_are_after
      (record { only = λ d (i, a, x, own, at, here). absurd (cc here); is_dict = λ d is. absurd (cc is); looked = λ d is. absurd (cc is) }) f es leads
