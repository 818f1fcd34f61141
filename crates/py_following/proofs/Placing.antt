-- The place of each activation is the one that its own events lead to.
use Rattle.std.proofs.Common.{◌≡◌, ◌<◌, ◌+◌, ◌∙◌, ℕ, zero, suc, List, [], ◌∷◌, ◌++◌, Bool, true, false, Some, None, inl, inr, eqb, eqb-true, refl, sym, ap, subst, length, length-append, arith}
use Rattle.std.specs.Prelude.{Option, slice_get, slice_set}
use Rattle.std.proofs.lemmas.Bool.{eqb-false, ne_eqb}
use Rattle.std.proofs.lemmas.Option.{slice_get_within}
use Rattle.py_objects.specs.declared.payload.Payload.{Payload}
use Rattle.py_objects.specs.declared.payload.Payload.TheVariants as payload
use Rattle.py_objects.specs.declared.payload.FunctionBody.{FunctionBody}
use Rattle.py_objects.specs.declared.request.Request.{Request}
use Rattle.py_objects.specs.declared.request.Request.TheVariants as request
use Rattle.py_objects.specs.declared.event.Event.{Event}
use Rattle.py_objects.specs.declared.event.Event.TheVariants as event
use Rattle.py_objects.specs.Objects.{Obj, HasPayload, AllBelow, numbers}
use Rattle.py_objects.specs.Own.{Own, Makes, Resumes, Asks, Gets, Rounds, Yields, Ends, whose, own_of, own_events}
use Rattle.py_objects.proofs.GrowthLemmas.{slice_get_grown}
use Rattle.py_objects.proofs.NewLemmas.{newest}
use Rattle.py_lines.specs.declared.drive.DriveLine.{DriveLine}
use Rattle.py_grammar.specs.Grammar.{Coded, OfBody, OfRaw}
use Rattle.py_tree.specs.Tree.{Tree}
use Rattle.py_run.specs.Run.{Activation, after}
use Rattle.py_run.proofs.OwnLemmas.{own_events-nil, own_events_other, own_events_own}
use Rattle.py_meaning.proofs.Entries.{one_more}
use Rattle.py_meaning.proofs.WorkedObjects.{some_is}
use Rattle.py_places.specs.Cells.{Cells}
use Rattle.py_places.specs.Place.{Question, Looks_up, Requests, Rest, Asking, Waiting, Place}
use Rattle.py_places.specs.Stepping.{meet_question, meet_handled, if_met, step, step_rest}
use Rattle.py_places.specs.Checking.{made, run_on, HearsBelow, AllHear}
use Rattle.py_following.specs.Followed.{Followed, unbegun, looked_up, looked_up_by, globals_after, some_object, made_of, made_by, with_made, with_place, stepped, placed}
use Rattle.py_following.proofs.Known.{MayPass, known_after, Leads, known_keep, only_globals, globals_stay}

-- ---- elements that are replaced

set_length : {X : Type 0} (xs : List X) (i : ℕ) (x : X) → length (slice_set xs i x) ≡ length xs
set_length [] i x = refl
set_length (y ∷ ys) zero x = refl
set_length (y ∷ ys) (suc i) x = ap suc (set_length ys i x)

set_here : {X : Type 0} (xs : List X) (i : ℕ) (x : X) → i < length xs → slice_get (slice_set xs i x) i ≡ Some x
set_here [] i x low = absurd (omega (arith, low))
set_here (y ∷ ys) zero x low = refl
set_here (y ∷ ys) (suc i) x low = set_here ys i x (omega (arith, low))

set_other : {X : Type 0} (xs : List X) (i j : ℕ) (x : X) → (j ≡ i → ⊥) → slice_get (slice_set xs i x) j ≡ slice_get xs j
set_other [] i j x apart = refl
set_other (y ∷ ys) zero zero x apart = absurd (apart refl)
set_other (y ∷ ys) zero (suc j) x apart = refl
set_other (y ∷ ys) (suc i) zero x apart = refl
set_other (y ∷ ys) (suc i) (suc j) x apart = set_other ys i j x (λ same. apart (ap suc same))

pub hears_on : (n : ℕ) (es : List Own) (own : Own) → AllHear n es → HearsBelow n own → AllHear n (es ++ own ∷ [])
hears_on n [] own all last = (last, tt)
hears_on n (e ∷ es) own all last = (all.0, hears_on n es own all.1 last)

-- what a body looks names up in, if it does
abbrev pub looked_up_in : Own → Option Obj
looked_up_in (Asks at r own) = looked_up r
looked_up_in _ = None

module _ (objects : List Payload) (g h : Obj) where
  -- ---- which dict stands for the globals counts only where a name is looked up

  question_same : (q : Question) (r : Request) (m : Option Cells) → ((d : Obj) → looked_up r ≡ Some d → h ≡ g)
      → meet_question objects h q r m ≡ meet_question objects g q r m
  question_same (Looks_up x) (request.Global d y) m same =
      ap (λ v. meet_question objects v (Looks_up x) (request.Global d y) m) (same d refl)
  question_same (Looks_up x) _ m same = refl
  question_same (Requests q) r m same = refl

  step_same_rest : (rest : Rest) (own : Own) (cells : Cells) → ((d : Obj) → looked_up_in own ≡ Some d → h ≡ g)
      → step_rest objects h rest own cells ≡ step_rest objects g rest own cells
  step_same_rest (Asking env l q th fs) (Asks at r own) cells same =
      ap (if_met objects (Waiting env l th fs)) (question_same q r (meet_handled objects l own (Some cells)) same)
  step_same_rest _ _ cells same = refl

  pub step_same : (p : Place) (own : Own) → ((d : Obj) → looked_up_in own ≡ Some d → h ≡ g)
      → step objects h p own ≡ step objects g p own
  step_same p own same = step_same_rest p.rest own p.cells same

module _ (objects : List Payload) (g : Obj) where
  -- ---- one more own event

  pub run_end : (m : Option Place) → run_on objects g m [] ≡ m
  run_end None = refl
  run_end (Some p) = refl

  pub run_last : (es : List Own) (m : Option Place) (p : Place) (own : Own) → run_on objects g m es ≡ Some p
      → run_on objects g m (es ++ own ∷ []) ≡ step objects g p own
  run_last es None p own is = absurd (cc is)
  run_last [] (Some q) p own is = run_end (step objects g q own) ∙ ap (λ x. step objects g x own) (some_is q p is)
  run_last (e ∷ es) (Some q) p own is = run_last es (step objects g q e) p own is

module _ (coded : List Coded) (objects : List Payload) (drives : List DriveLine) where
  -- a function runs the body of this tree
  abbrev pub IsTreeOf : Obj → Tree → Type 0
  IsTreeOf f t = (b : FunctionBody) × HasPayload objects f (payload.Function b) × (slice_get coded b.code ≡ Some (OfBody t))

  made_coded : (f : Obj) (b : FunctionBody) (vs : List Obj) (p : Place) (c : Option Coded)
      → HasPayload objects f (payload.Function b) → slice_get coded b.code ≡ c
      → made_of coded objects c vs ≡ Some p → (t : Tree) × IsTreeOf f t × (made t vs ≡ Some p)
  made_coded f b vs p None has at is = absurd (cc is)
  made_coded f b vs p (Some (OfBody t)) has at is = (t, (b, has, at), is)
  made_coded f b vs p (Some (OfRaw r)) has at is = absurd (cc is)

  pub made_from : (f : Obj) (vs : List Obj) (p : Place) (o : Option Payload) → slice_get objects f.number ≡ o
      → made_by coded objects o vs ≡ Some p
      → (t : Tree) × IsTreeOf f t × (made t vs ≡ Some p)
  made_from f vs p (Some (payload.Function b)) has is = made_coded f b vs p (slice_get coded b.code) has refl is
  made_from f vs p _ has is = absurd (cc is)

  with_made_is : (places new : List Place) (m : Option Place) → with_made coded objects places m ≡ Some new
      → (p : Place) × (m ≡ Some p) × (new ≡ places ++ p ∷ [])
  with_made_is places new None is = absurd (cc is)
  with_made_is places new (Some p) is = (p, refl, sym (some_is (places ++ p ∷ []) new is))

  -- the place of one activation moves on
  record MovesOn (dict : Obj) (places new : List Place) (a : ℕ) (own : Own) : Type 0 where
    index : ℕ
    number : a ≡ suc index
    before : Place
    was : slice_get places index ≡ Some before
    behind : Place
    steps : step objects dict before own ≡ Some behind
    is : new ≡ slice_set places index behind

  moves_on : (dict : Obj) (places new : List Place) (a : ℕ) (own : Own) → placed coded objects dict places a own ≡ Some new
      → MovesOn dict places new a own
  moves_on dict places new zero own is = absurd (cc is)
  moves_on dict places new (suc i) own is = by (slice_get places i) refl is
    where
      then : (p : Place) → slice_get places i ≡ Some p → (m : Option Place) → step objects dict p own ≡ m
          → with_place coded objects places i m ≡ Some new
          → MovesOn dict places new (suc i) own
      then p at None steps same = absurd (cc same)
      then p at (Some q) steps same =
          record { index = i; number = refl; before = p; was = at; behind = q; steps = steps; is = sym (some_is (slice_set places i q) new same) }

      by : (o : Option Place) → slice_get places i ≡ o
          → with_place coded objects places i (stepped coded objects dict o own) ≡ Some new
          → MovesOn dict places new (suc i) own
      by None at same = absurd (cc same)
      by (Some p) at same = then p at (step objects dict p own) refl same

  module _ (g : Obj) where
    -- the place of the activation of an index among those that were made is where its own events lead, if this is the dict of the globals
    pub record IsPlacedAt (f : Followed) (i : ℕ) (a : Activation) : Type 0 where
      pub tree : Tree
      pub of : IsTreeOf a.function tree
      pub args : AllBelow (length objects) (numbers a.args)
      pub told : List Own
      pub own : own_events (suc i) f.past.events ≡ Makes ∷ told
      pub heard : AllHear (length objects) told
      pub place : Place
      pub at : slice_get f.places i ≡ Some place
      pub leads : run_on objects g (made tree a.args) told ≡ Some place

    pub record ArePlaced (f : Followed) : Type 0 where
      pub count : length f.places ≡ length f.past.state.made
      pub untold : (b : ℕ) → length f.past.state.made < b → own_events b f.past.events ≡ []
      pub each : (i : ℕ) (a : Activation) → slice_get f.past.state.made i ≡ Some a → IsPlacedAt f i a

    -- of an activation that tells nothing
    placed_still : (f h : Followed) (i : ℕ) (a : Activation)
        → own_events (suc i) h.past.events ≡ own_events (suc i) f.past.events
        → ((p : Place) → slice_get f.places i ≡ Some p → slice_get h.places i ≡ Some p) → IsPlacedAt f i a → IsPlacedAt h i a
    placed_still f h i a same still is = record {
      tree = is.tree;
      of = is.of;
      args = is.args;
      told = is.told;
      own = same ∙ is.own;
      heard = is.heard;
      place = is.place;
      at = still is.place is.at;
      leads = is.leads;
    }

    -- behind an event of none
    placed_outside : (f : Followed) (e : Event) (p : MayPass coded objects drives f e) → whose e ≡ 0
        → (after f.past.state e).made ≡ f.past.state.made → p.places ≡ f.places
        → ArePlaced f → ArePlaced (known_after coded objects drives f e p)
    placed_outside f e p none made_same same are = record {
      count = ap length same ∙ are.count ∙ ap length (sym made_same);
      untold = λ b more.
          let low : length f.past.state.made < b = subst (λ l. length l < b) made_same more in
          own_events_other b f.past.events e (ne_eqb b (whose e) (λ is. absurd (omega (arith, low, is, none)))) ∙ are.untold b low;
      each = λ i a at.
          placed_still f (known_after coded objects drives f e p) i a
          (own_events_other (suc i) f.past.events e (ne_eqb (suc i) (whose e) (λ is. absurd (omega (arith, is, none)))))
          (λ q here. ap (λ l. slice_get l i) same ∙ here) (are.each i a (subst (λ l. slice_get l i ≡ Some a) made_same at));
    }

    -- behind the making of one
    placed_made : (f : Followed) (n : ℕ) (fn : Obj) (vs : List Obj) (p : MayPass coded objects drives f (event.Make n fn vs))
        → ArePlaced f
        → ArePlaced (known_after coded objects drives f (event.Make n fn vs) p)
    placed_made f n fn vs p are =
        let (q, is, same) = with_made_is f.places p.places (made_by coded objects (slice_get objects fn.number) vs) p.are_placed in
        let (t, of, leads) = made_from fn vs q (slice_get objects fn.number) refl is in
        let next : n ≡ suc (length f.past.state.made) = p.may.0 in
        let count : length f.places ≡ length f.past.state.made = are.count in
        let more_places : length (f.places ++ q ∷ []) ≡ length f.places + 1 = length-append f.places (q ∷ []) in
        let more_made : length (f.past.state.made ++ record { function = fn; args = vs } ∷ []) ≡ length f.past.state.made + 1 =
        length-append f.past.state.made (record { function = fn; args = vs } ∷ []) in
        record {
          count = ap length same ∙ omega (arith, count, more_places, more_made);
          untold = λ b more.
              let low : length (f.past.state.made ++ record { function = fn; args = vs } ∷ []) < b = more in
              own_events_other b f.past.events (event.Make n fn vs) (ne_eqb b n (λ here. absurd (omega (arith, low, here, next, more_made))))
              ∙ are.untold b (omega (arith, low, more_made));
          each = λ i a at. elim (one_more f.past.state.made (record { function = fn; args = vs }) a i at) [
            | inl before ↦
                let within : i < length f.past.state.made = slice_get_within f.past.state.made i a before in
                placed_still f (known_after coded objects drives f (event.Make n fn vs) p) i a
                (own_events_other (suc i) f.past.events (event.Make n fn vs) (ne_eqb (suc i) n (λ here. absurd (omega (arith, here, next, within)))))
                (λ x here. ap (λ l. slice_get l i) same ∙ slice_get_grown f.places (q ∷ []) i x here) (are.each i a before)
            | inr (last, one) ↦
                subst (IsPlacedAt (known_after coded objects drives f (event.Make n fn vs) p) i) one
                (record {
                  tree = t;
                  of = of;
                  args = p.named.1;
                  told = [];
                  own =
                      own_events_own (suc i) f.past.events (event.Make n fn vs) (ap suc last ∙ sym next)
                      ∙ ap (λ l. l ++ Makes ∷ []) (are.untold (suc i) (omega (arith, last)));
                  heard = tt;
                  place = q;
                  at =
                      ap (λ l. slice_get l i) same ∙ ap (slice_get (f.places ++ q ∷ [])) (last ∙ sym count) ∙ newest f.places q;
                  leads = run_end objects g (made t vs) ∙ leads;
                })
          ];
        }

    -- behind an event of one that was made
    placed_told : (f : Followed) (e : Event) (p : MayPass coded objects drives f e) (own : Own)
        → own_of (length f.past.events) e ≡ own ∷ []
        → (after f.past.state e).made ≡ f.past.state.made → HearsBelow (length objects) own
        → ((d : Obj) → looked_up_in own ≡ Some d → some_object (globals_after f.globals e) ≡ g)
        → placed coded objects (some_object (globals_after f.globals e)) f.places (whose e) own ≡ Some p.places → ArePlaced f
        → ArePlaced (known_after coded objects drives f e p)
    placed_told f e p own tells made_same heard dict is are =
        let m = moves_on (some_object (globals_after f.globals e)) f.places p.places (whose e) own is in
        let within : m.index < length f.places = slice_get_within f.places m.index m.before m.was in
        let count : length f.places ≡ length f.past.state.made = are.count in
        let number : whose e ≡ suc m.index = m.number in
        record {
          count = ap length m.is ∙ set_length f.places m.index m.behind ∙ count ∙ ap length (sym made_same);
          untold = λ b more.
              let low : length f.past.state.made < b = subst (λ l. length l < b) made_same more in
              own_events_other b f.past.events e (ne_eqb b (whose e) (λ here. absurd (omega (arith, low, here, number, within, count)))) ∙ are.untold b low;
          each =
              λ i a at. by m within i a (are.each i a (subst (λ l. slice_get l i ≡ Some a) made_same at)) (eqb (suc i) (whose e)) refl;
        }
      where
        by : (m : MovesOn (some_object (globals_after f.globals e)) f.places p.places (whose e) own) → m.index < length f.places
            → (i : ℕ) (a : Activation) → IsPlacedAt f i a
            → (b : Bool) → eqb (suc i) (whose e) ≡ b → IsPlacedAt (known_after coded objects drives f e p) i a
        by m within i a was false other =
            let apart : suc i ≡ whose e → ⊥ = eqb-false (suc i) (whose e) other in
            placed_still f (known_after coded objects drives f e p) i a (own_events_other (suc i) f.past.events e other)
            (λ q here. ap (λ l. slice_get l i) m.is ∙ set_other f.places m.index i m.behind (λ same. apart (ap suc same ∙ sym m.number)) ∙ here) was
        by m within i a was true mine =
            let here : suc i ≡ whose e = eqb-true (suc i) (whose e) mine in
            let number : whose e ≡ suc m.index = m.number in
            let same : i ≡ m.index = omega (arith, here, number) in
            let place : was.place ≡ m.before = some_is was.place m.before (sym was.at ∙ ap (slice_get f.places) same ∙ m.was) in
            record {
              tree = was.tree;
              of = was.of;
              args = was.args;
              told = was.told ++ own ∷ [];
              own =
                  own_events_own (suc i) f.past.events e here
                  ∙ ap (λ l. own_events (suc i) f.past.events ++ l) tells
                  ∙ ap (λ l. l ++ own ∷ []) was.own;
              heard = hears_on (length objects) was.told own was.heard heard;
              place = m.behind;
              at =
                  ap (λ l. slice_get l i) m.is ∙ ap (slice_get (slice_set f.places m.index m.behind)) same ∙ set_here f.places m.index m.behind within;
              leads =
                  run_last objects g was.told (made was.tree a.args) was.place own was.leads
                  ∙ ap (λ q. step objects g q own) place
                  ∙ sym (step_same objects g (some_object (globals_after f.globals e)) m.before own dict)
                  ∙ m.steps;
            }

    -- the dict of the globals is this one, if it is known
    abbrev pub Agrees : Option Obj → Type 0
    Agrees known = (d : Obj) → known ≡ Some d → d ≡ g

    placed_after : (f : Followed) (e : Event) (p : MayPass coded objects drives f e) → (Agrees f.globals → ArePlaced f)
        → Agrees (globals_after f.globals e)
        → ArePlaced (known_after coded objects drives f e p)
    placed_after f e p before agrees = by e p agrees
      where
        was : (e : Event) → Agrees (globals_after f.globals e) → ArePlaced f
        was e agrees = before (λ d known. agrees d (globals_stay coded objects drives f.globals (looked_up_by e) d known))

        dict : (e : Event) (p : MayPass coded objects drives f e) → Agrees (globals_after f.globals e) → (d : Obj)
            → looked_up_by e ≡ Some d → some_object (globals_after f.globals e) ≡ g
        dict e p agrees d looks =
            let known = only_globals coded objects drives f.globals (looked_up_by e) d p.looks_up looks in
            ap some_object known ∙ agrees d known

        by : (e : Event) (p : MayPass coded objects drives f e) → Agrees (globals_after f.globals e)
            → ArePlaced (known_after coded objects drives f e p)
        by (event.Drive d) p agrees =
            placed_outside f (event.Drive d) p refl refl (sym (some_is f.places p.places p.are_placed)) (was (event.Drive d) agrees)
        by (event.Result d w) p agrees =
            placed_outside f (event.Result d w) p refl refl (sym (some_is f.places p.places p.are_placed)) (was (event.Result d w) agrees)
        by (event.Make n fn vs) p agrees = placed_made f n fn vs p (was (event.Make n fn vs) agrees)
        by (event.Resume a h) p agrees =
            placed_told f (event.Resume a h) p (Resumes (length f.past.events) h) refl refl p.named
            (dict (event.Resume a h) p agrees) p.are_placed (was (event.Resume a h) agrees)
        by (event.Ask a r own at) p agrees =
            placed_told f (event.Ask a r own at) p (Asks at r own) refl refl tt
            (dict (event.Ask a r own at) p agrees) p.are_placed (was (event.Ask a r own at) agrees)
        by (event.Got a w) p agrees =
            placed_told f (event.Got a w) p (Gets (length f.past.events) w) refl refl p.named
            (dict (event.Got a w) p agrees) p.are_placed (was (event.Got a w) agrees)
        by (event.Round a at) p agrees =
            placed_told f (event.Round a at) p (Rounds at) refl refl tt
            (dict (event.Round a at) p agrees) p.are_placed (was (event.Round a at) agrees)
        by (event.Yield a v at) p agrees =
            placed_told f (event.Yield a v at) p (Yields at v) refl refl tt
            (dict (event.Yield a v at) p agrees) p.are_placed (was (event.Yield a v at) agrees)
        by (event.End a x at) p agrees =
            placed_told f (event.End a x at) p (Ends at x) refl refl tt
            (dict (event.End a x at) p agrees) p.are_placed (was (event.End a x at) agrees)

    pub are_placed : (f : Followed) (es : List Event) → Leads coded objects drives unbegun es f → Agrees f.globals → ArePlaced f
    are_placed f es leads =
        known_keep coded objects drives (λ h. Agrees h.globals → ArePlaced h) (λ h e p before agrees. placed_after h e p before agrees)
        (λ agrees. record { count = refl; untold = λ b more. own_events-nil b; each = λ i a at. absurd (cc at) }) f es leads
