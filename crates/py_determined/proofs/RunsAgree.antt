-- Two runs of one script are the same, event by event, as far as both go, but for the numbers of objects and of units.
use Rattle.std.proofs.Common.{◌≡◌, ◌<◌, ℕ, zero, suc, ◌+◌, ◌⊎◌, inl, inr, List, [], ◌∷◌, ◌++◌, length, length-append, Some, refl, sym, ap, subst, ◌∙◌, append_assoc, append-nil, arith}
use Rattle.std.specs.Prelude.{None, slice_get}
use Rattle.py_objects.specs.declared.payload.Payload.{Payload}
use Rattle.py_objects.specs.declared.event.Event.{Event}
use Rattle.py_objects.specs.declared.event.Event.TheVariants as event
use Rattle.py_objects.specs.Objects.{Obj}
use Rattle.py_objects.specs.Own.{Own, whose, own_from, own_events}
use Rattle.py_run.specs.Run.{Plan, Idle, Act, Activation, State, start, after, state_after, IsTop, question}
use Rattle.py_run.specs.Generators.{generators_after}
use Rattle.py_determined.specs.Raises.{raises_after, raises_of, TellsRaise, TellRaises}
use Rattle.py_run.specs.Coming.{May, Past, nothing, past_after, setting, IsReply, MayCome, Comes, EachTells}
use Rattle.py_run.specs.Past.{past_behind}
use Rattle.py_run.proofs.PastLemmas.{past_state, past_on}
use Rattle.py_run.proofs.RunLemmas.{comes_front, asking_busy, going_busy, made_busy}
use Rattle.py_run.proofs.OwnLemmas.{state_lists}
use Rattle.py_determined.proofs.RaisesLemmas.{raises_on}
use Rattle.py_run.proofs.CoursesLemmas.{IsResumed, resumed}
use Rattle.py_run.proofs.CutLemmas.{AreBelow, IsNumbered, numbered_behind}
use Rattle.py_agreement.specs.Agreement.{Relation, SameMaybe, SameAll, Agree}
use Rattle.py_determined.specs.Alike.{AreAlike}
use Rattle.py_determined.specs.Sameness.{SameAsked, SameSetting, SameGenerators}
use Rattle.py_determined.specs.Events.{SameEvent, SameEvents}
use Rattle.py_determined.specs.Related.{paired, pairs_of, value_numbers, IsPair, Related, Paired}
use Rattle.py_determined.proofs.SameStates.{SamePosed, SameState, SameRaises}
use Rattle.py_determined.proofs.Growing.{maybe_grows, event_grows, events_grow, state_grows, posed_grows, generators_grow, raises_grow}
use Rattle.py_determined.proofs.StatesAgree.{tops_same, after_same, forms_none, question_same, setting_same}
use Rattle.py_determined.proofs.GeneratorsAgree.{ArePlain, generators_same}
use Rattle.py_determined.proofs.RaisesAgree.{raises_same}
use Rattle.py_determined.proofs.Pairing.{pairs_on, pairs_end, pairs_related, event_same, no_more_alike, born_alike, new_left, new_right, pair_left, pair_right, related_on, related_either}
use Rattle.py_determined.proofs.Telling.{IsPositive, positive_behind, top_positive, made_stays, both_found, told_behind, told_first, IsTelling, SameTelling, telling_same}
use Rattle.py_determined.proofs.Phases.{at_phase, IsTold, Requesting, told_top, idle_next, plain_next}
use Rattle.py_determined.proofs.Steps.{OrBoth, AreNext, phase_next}

-- the same events, with one more behind them
events_on : (S : Relation) (es fs : List Event) (e f : Event) → length es ≡ length fs → SameEvents S es fs → SameEvent S e f → SameEvents S (es ++ e ∷ []) (fs ++ f ∷ [])
events_on S [] [] e f count s same = (same, tt)
events_on S (x ∷ es) (y ∷ fs) e f count s same = (s.0, events_on S es fs e f (omega (arith, count)) s.1 same)
events_on S [] (y ∷ fs) e f count s same = absurd (omega (arith, count))
events_on S (x ∷ es) [] e f count s same = absurd (omega (arith, count))

-- more behind one of both changes nothing
events_end : (S : Relation) (es fs more : List Event) → length es ≡ length fs → SameEvents S es fs → SameEvents S (es ++ more) fs × SameEvents S es (fs ++ more)
events_end S [] [] [] count s = (tt, tt)
events_end S [] [] (x ∷ more) count s = (tt, tt)
events_end S (x ∷ es) (y ∷ fs) more count s = let rest = events_end S es fs more (omega (arith, count)) s.1 in ((s.0, rest.0), (s.0, rest.1))
events_end S [] (y ∷ fs) more count s = absurd (omega (arith, count))
events_end S (x ∷ es) [] more count s = absurd (omega (arith, count))

-- an event that is told belongs to an activation, and is told by it
telling_of : (plan : Plan) (objects : List Payload) (p : Past) (e : Event) → IsTold plan objects p e → IsTelling e
telling_of plan objects p (event.Ask a r own at) told = tt
telling_of plan objects p (event.Round a at) told = tt
telling_of plan objects p (event.Yield a v at) told = tt
telling_of plan objects p (event.End a e at) told = tt
telling_of plan objects p _ told = absurd told

-- the innermost one was made among so many
pub top_below : (made a : ℕ) (stack : List Act) → AreBelow made stack → IsTop a stack → a < suc made
top_below made a [] below top = absurd top
top_below made a (x ∷ stack) below top = let here = below.0 in omega (arith, here, top)

-- where an activation is entered, something runs
resumed_busy : (plan : Plan) (p : Past) (a : ℕ) → IsResumed plan p a → p.state.phase ≡ Idle → ⊥
resumed_busy plan p a (inl (f, made, last)) idle = made_busy f (sym made ∙ idle)
resumed_busy plan p a (inr (asks, opens)) idle = asking_busy (sym asks ∙ idle)

-- a number from 1 on is behind one
pub behind_one : (a : ℕ) → 0 < a → (i : ℕ) × (a ≡ suc i)
behind_one zero some = absurd (omega (arith, some))
behind_one (suc i) some = (i, refl)

module _ (plan plan' : Plan) (objects objects' : List Payload) (may may' : May) (events events' : List Event) where
  -- what two runs of one script have in common from the beginning: the signatures; that at any pairing whose objects are alike
  -- related functions' activations with related arguments tell what agrees; that what is declared is alike; and that each drive asks the same, as far as the events in front of it relate objects
  pub record OfOneScript : Type 0 where
    pub signatures : plan.signatures ≡ plan'.signatures
    pub bodies : (es fs : List Event) (f g : Obj) (vs ws : List Obj) (ts us : List Own) → AreAlike (Paired objects objects' es fs) objects objects' → Paired objects objects' es fs f g
        → SameAll (Paired objects objects' es fs) vs ws → may f vs ts → may' g ws us → Agree (Paired objects objects' es fs) ts us
    pub alike : AreAlike (Paired objects objects' [] []) objects objects'
    pub drives : (es fs more more' : List Event) (d : ℕ) → events ≡ es ++ event.Drive (suc d) ∷ more → events' ≡ fs ++ event.Drive (suc d) ∷ more' → length es ≡ length fs
        → SameEvents (Paired objects objects' es fs) es fs → SameMaybe (SamePosed (Paired objects objects' es fs)) (slice_get plan.asked d) (slice_get plan'.asked d)

  module _ (script : OfOneScript) (comes : Comes plan objects nothing events) (comes' : Comes plan' objects' nothing events') (tells : EachTells may events) (tells' : EachTells may' events') where
    -- which objects two pasts relate
    abbrev pub At : Past → Past → Relation
    At p q = Paired objects objects' p.events q.events

    -- two pasts are the same
    pub record AreSame (p q : Past) : Type 0 where
      pub count : length p.events ≡ length q.events
      pub behind : p ≡ past_behind plan nothing p.events
      pub behind' : q ≡ past_behind plan' nothing q.events
      pub alike : AreAlike (At p q) objects objects'
      pub recorded : SameEvents (At p q) p.events q.events
      pub state : SameState (At p q) p.state q.state
      pub generators : SameGenerators (At p q) p.generators q.generators
      pub plain : ArePlain objects p.generators
      pub raises : SameRaises (At p q) objects (raises_of p.events) (raises_of q.events)
      pub posed : (p.state.phase ≡ Idle) ⊎ SameMaybe (SamePosed (At p q)) (slice_get plan.asked p.state.done) (slice_get plan'.asked q.state.done)

    module _ (p q : Past) (e f : Event) (es fs : List Event) (is : events ≡ p.events ++ e ∷ es) (is' : events' ≡ q.events ++ f ∷ fs)
        (coming : MayCome plan objects p e) (coming' : MayCome plan' objects' q f) (same : AreSame p q) where
      -- ---- the relation grows

      -- the pairs of both events come behind those in front
      further : pairs_of (p.events ++ e ∷ []) (q.events ++ f ∷ []) ≡ pairs_of p.events q.events ++ (paired (value_numbers e) (value_numbers f) ++ [])
      further = pairs_on p.events q.events e f same.count

      -- what one event more relates
      abbrev Then : Relation
      Then = Paired objects objects' (p.events ++ e ∷ []) (q.events ++ f ∷ [])

      -- what was related stays so
      grows : (v w : Obj) → At p q v w → Then v w
      grows v w s = subst (λ ps. Related objects objects' ps v w) (sym further)
          (related_on objects objects' p.events q.events (pairs_of p.events q.events) (paired (value_numbers e) (value_numbers f) ++ []) v w s)

      -- what both events name at one place is related
      joins : (v w : Obj) → IsPair (paired (value_numbers e) (value_numbers f)) v w → Then v w
      joins v w pair = subst (λ ps. Related objects objects' ps v w) (sym further)
          (inr (inr (pair_right (pairs_of p.events q.events) (paired (value_numbers e) (value_numbers f) ++ []) v w (pair_left (paired (value_numbers e) (value_numbers f)) [] v w pair))))

      -- and nothing else is
      splits : (v w : Obj) → Then v w → At p q v w ⊎ IsPair (paired (value_numbers e) (value_numbers f)) v w
      splits v w s =
          let pair : IsPair (paired (value_numbers e) (value_numbers f) ++ []) v w → IsPair (paired (value_numbers e) (value_numbers f)) v w =
          subst (λ ps. IsPair ps v w) (append-nil (paired (value_numbers e) (value_numbers f))) in
          elim (related_either objects objects' p.events q.events (pairs_of p.events q.events) (paired (value_numbers e) (value_numbers f) ++ []) v w
          (subst (λ ps. Related objects objects' ps v w) further s)) [
            | inl old ↦ inl old
            | inr new ↦ inr (pair new)
          ]

      -- ---- both go on by the same event

      numbered : IsNumbered p
      numbered = subst IsNumbered (sym same.behind) (numbered_behind plan objects p.events (comes_front plan objects nothing p.events (e ∷ es) (subst (Comes plan objects nothing) is comes)))

      positive : IsPositive p
      positive = subst IsPositive (sym same.behind) (positive_behind plan objects p.events (comes_front plan objects nothing p.events (e ∷ es) (subst (Comes plan objects nothing) is comes)))

      state_is : p.state ≡ state_after start p.events
      state_is = ap (λ (r : Past). r.state) same.behind ∙ past_state plan p.events

      state_is' : q.state ≡ state_after start q.events
      state_is' = ap (λ (r : Past). r.state) same.behind' ∙ past_state plan' q.events

      -- what the activation of this number tells agrees
      own_agree : (i : ℕ) (x y : Activation) → slice_get p.state.made i ≡ Some x → slice_get q.state.made i ≡ Some y → At p q x.function y.function → SameAll (At p q) x.args y.args
          → Agree (At p q) (own_events (suc i) (p.events ++ e ∷ es)) (own_events (suc i) (q.events ++ f ∷ fs))
      own_agree i x y there there' function args =
          let made = made_in events p.events (e ∷ es) is p.state state_is i x there in
          let made' = made_in events' q.events (f ∷ fs) is' q.state state_is' i y there' in
          script.bodies p.events q.events x.function y.function x.args y.args _ _ same.alike function args
          (subst (λ l. may x.function x.args (own_events (suc i) l)) is (tells i x made)) (subst (λ l. may' y.function y.args (own_events (suc i) l)) is' (tells' i y made'))
        where
          made_in : (all xs ys : List Event) → all ≡ xs ++ ys → (s : State) → s ≡ state_after start xs → (j : ℕ) (z : Activation) → slice_get s.made j ≡ Some z
              → slice_get (state_after start all).made j ≡ Some z
          made_in all xs ys whole s front j z found =
              subst (λ l. slice_get (state_after start l).made j ≡ Some z) (sym whole)
              (subst (λ (r : State). slice_get r.made j ≡ Some z) (ap (λ r. state_after r ys) front ∙ sym (state_lists start xs ys)) (made_stays s ys j z found))

      -- so what it tells next does
      pub telling : IsTold plan objects p e → IsTold plan' objects' q f → SameTelling (At p q) e f
      telling told told' =
          let top = told_top plan objects p e told in
          let top' = told_top plan' objects' q f told' in
          let one : whose e ≡ whose f = tops_same (At p q) (whose e) (whose f) p.state.stack q.state.stack same.state.stack top top' in
          let (i, number) = behind_one (whose e) (top_positive (whose e) p.state.stack positive.stack top) in
          let low = top_below (length p.state.made) (whose e) p.state.stack numbered.stack top in
          let found = both_found (At p q) p.state.made q.state.made i (omega (arith, low, number)) same.state.made in
          let agree = own_agree i found.first found.second found.is_first found.is_second found.same.function found.same.args in
          let (j, rest) = told_behind (At p q) (suc i) 0 p.events q.events (e ∷ es) (f ∷ fs) same.count same.recorded agree in
          telling_same (At p q) j e f (own_from (suc i) (suc j) es) (own_from (suc i) (suc j) fs) (telling_of plan objects p e told) (telling_of plan' objects' q f told')
          (told_first (At p q) (suc i) j e f es fs (sym number) (sym number ∙ one) rest)

      open_now : (p.state.phase ≡ Idle) ⊎ (SameSetting (At p q) (setting plan p) (setting plan' q) × SameMaybe (SameAsked (At p q)) (question plan p.state) (question plan' q.state))
      open_now = elim same.posed [
        | inl idle ↦ inl idle
        | inr posed ↦ inr (setting_same (At p q) plan plan' p q script.signatures posed same.state same.generators, question_same (At p q) plan plan' p.state q.state posed same.state)
      ]

      -- something is requested
      no_forms : (p.state.phase ≡ Idle) ⊎ (Requesting plan objects p × Requesting plan' objects' q)
      no_forms = elim same.posed [
        | inl idle ↦ inl idle
        | inr posed ↦ inr (forms_none (At p q) (slice_get plan.asked p.state.done) (slice_get plan'.asked q.state.done) posed)
      ]

      -- ---- behind it both are the same, where exits are told the tracebacks of raises

      module _ (told : TellsRaise objects p.events e) (told' : TellsRaise objects' q.events f) where
        pub next : AreNext (At p q) objects objects' p q e f
        next =
            phase_next plan plan' objects objects' script.signatures (At p q) same.alike p q same.state p.state.phase q.state.phase e f same.state.phase
            same.raises open_now no_forms (λ going. telling) told told' coming coming'

        then_event : SameEvent Then e f
        then_event = elim next.same [
          | inl old ↦ event_grows (At p q) Then grows e f old
          | inr (x, y, born, brings, new, pair) ↦ event_grows (OrBoth (At p q) x y) Then (covered x y pair) e f new
        ]
          where
            covered : (x y : Obj) → IsPair (paired (value_numbers e) (value_numbers f)) x y → (v w : Obj) → OrBoth (At p q) x y v w → Then v w
            covered x y pair v w (inl s) = grows v w s
            covered x y pair v w (inr (here, there)) = subst (λ (z : Obj). Then z w) (sym here) (subst (λ (z : Obj). Then x z) (sym there) (joins x y pair))

        then_alike : AreAlike Then objects objects'
        then_alike = elim next.same [
          | inl old ↦ no_more_alike (At p q) Then objects objects' grows (λ v w s. within old v w (splits v w s)) same.alike
          | inr (x, y, born, brings, new, pair) ↦
              born_alike (At p q) Then objects objects' grows p.events q.events x y born (λ v w s. either x y new v w (splits v w s))
              (new_left objects objects' p.events q.events x born.first born.has_first born.is_first born.new_first)
              (new_right objects objects' p.events q.events y born.second born.has_second born.is_second born.new_second) same.alike
        ]
          where
            within : SameEvent (At p q) e f → (v w : Obj) → At p q v w ⊎ IsPair (paired (value_numbers e) (value_numbers f)) v w → At p q v w
            within old v w (inl s) = s
            within old v w (inr pair) = pairs_related (At p q) (value_numbers e) (value_numbers f) v w (event_same (At p q) e f old) pair

            either : (x y : Obj) → SameEvent (OrBoth (At p q) x y) e f → (v w : Obj) → At p q v w ⊎ IsPair (paired (value_numbers e) (value_numbers f)) v w → OrBoth (At p q) x y v w
            either x y new v w (inl s) = inl s
            either x y new v w (inr pair) = pairs_related (OrBoth (At p q) x y) (value_numbers e) (value_numbers f) v w (event_same (OrBoth (At p q) x y) e f new) pair

        then_state : SameState Then p.state q.state
        then_state = state_grows (At p q) Then grows p.state q.state same.state

        -- the drive that runs behind an event asks the same
        then_posed : ((after p.state e).phase ≡ Idle) ⊎ SameMaybe (SamePosed Then) (slice_get plan.asked (after p.state e).done) (slice_get plan'.asked (after q.state f).done)
        then_posed = posed_of e f then_event is is' coming coming' same.posed
          where
            stays : (p.state.phase ≡ Idle → ⊥) → (p.state.phase ≡ Idle) ⊎ SameMaybe (SamePosed (At p q)) (slice_get plan.asked p.state.done) (slice_get plan'.asked q.state.done)
                → SameMaybe (SamePosed Then) (slice_get plan.asked p.state.done) (slice_get plan'.asked q.state.done)
            stays busy (inl idle) = absurd (busy idle)
            stays busy (inr posed) = maybe_grows (SamePosed (At p q)) (SamePosed Then) (posed_grows (At p q) Then grows) _ _ posed

            posed_of : (x y : Event) → SameEvent Then x y → events ≡ p.events ++ x ∷ es → events' ≡ q.events ++ y ∷ fs → MayCome plan objects p x → MayCome plan' objects' q y
                → (p.state.phase ≡ Idle) ⊎ SameMaybe (SamePosed (At p q)) (slice_get plan.asked p.state.done) (slice_get plan'.asked q.state.done)
                → ((after p.state x).phase ≡ Idle) ⊎ SameMaybe (SamePosed Then) (slice_get plan.asked (after p.state x).done) (slice_get plan'.asked (after q.state y).done)
            posed_of (event.Drive d) (event.Drive d') s whole whole' (idle, step, more) (idle', step', more') posed =
                let here : events ≡ p.events ++ event.Drive (suc p.state.done) ∷ es = subst (λ n. events ≡ p.events ++ event.Drive n ∷ es) step whole in
                let there : events' ≡ q.events ++ event.Drive (suc p.state.done) ∷ fs =
                subst (λ n. events' ≡ q.events ++ event.Drive n ∷ fs) (step' ∙ sym (ap suc same.state.done)) whole' in
                let asked = script.drives p.events q.events es fs p.state.done here there same.count same.recorded in
                inr (maybe_grows (SamePosed (At p q)) (SamePosed Then) (posed_grows (At p q) Then grows) _ _
                (subst (λ n. SameMaybe (SamePosed (At p q)) (slice_get plan.asked p.state.done) (slice_get plan'.asked n)) same.state.done asked))
            posed_of (event.Result d w) (event.Result d' w') s whole whole' may may' posed = inl refl
            posed_of (event.Make a g vs) (event.Make b h ws) s whole whole' (step, (asks, opens)) may' posed = inr (stays (λ idle. asking_busy (sym asks ∙ idle)) posed)
            posed_of (event.Resume a h) (event.Resume b h') s whole whole' may may' posed = inr (stays (λ idle. resumed_busy plan p a (resumed plan objects p a h may) idle) posed)
            posed_of (event.Ask a r own at) (event.Ask b r' own' at') s whole whole' (goes, top) may' posed = inr (stays (λ idle. going_busy (sym goes ∙ idle)) posed)
            posed_of (event.Got a w) (event.Got b w') s whole whole' (top, (reply, (r, open_, is), gives)) may' posed =
                inr (stays (λ idle. subst (λ x. IsReply plan objects p x r reply) idle is) posed)
            posed_of (event.Round a at) (event.Round b at') s whole whole' (goes, top) may' posed = inr (stays (λ idle. going_busy (sym goes ∙ idle)) posed)
            posed_of (event.Yield a v at) (event.Yield b w at') s whole whole' (goes, top) may' posed = inr (stays (λ idle. going_busy (sym goes ∙ idle)) posed)
            posed_of (event.End a x at) (event.End b y at') s whole whole' (goes, top) may' posed = inr (stays (λ idle. going_busy (sym goes ∙ idle)) posed)
            posed_of _ _ s whole whole' may may' posed = absurd s

        -- a drive leaves the generators
        drive_generators : (d : ℕ) (y : Event) → SameEvent Then (event.Drive d) y
            → SameGenerators Then (generators_after plan p.state p.generators (event.Drive d)) (generators_after plan' q.state q.generators y)
        drive_generators d (event.Drive d') s = generators_grow (At p q) Then grows p.generators q.generators same.generators
        drive_generators d _ s = absurd s

        then_generators : SameGenerators Then (generators_after plan p.state p.generators e) (generators_after plan' q.state q.generators f)
        then_generators = elim same.posed [
          | inl idle ↦
              let (d, drive, step) = idle_next plan objects p e (subst (λ x. MayCome plan objects (at_phase p x) e) idle coming) in
              subst (λ x. SameGenerators Then (generators_after plan p.state p.generators x) (generators_after plan' q.state q.generators f)) (sym drive)
              (drive_generators d f (subst (λ x. SameEvent Then x f) drive then_event))
          | inr posed ↦
              generators_same Then objects objects' then_alike plan plan' p.state q.state p.generators q.generators e f then_state
              (question_same Then plan plan' p.state q.state (maybe_grows (SamePosed (At p q)) (SamePosed Then) (posed_grows (At p q) Then grows) _ _ posed) then_state) same.plain
              (generators_grow (At p q) Then grows p.generators q.generators same.generators) then_event
        ]

        then_raises : SameRaises Then objects (raises_of (p.events ++ e ∷ [])) (raises_of (q.events ++ f ∷ []))
        then_raises =
            let here : raises_after p.state (raises_of p.events) e ≡ raises_of (p.events ++ e ∷ []) = ap (λ s. raises_after s (raises_of p.events) e) state_is ∙ sym (raises_on p.events e) in
            let there : raises_after q.state (raises_of q.events) f ≡ raises_of (q.events ++ f ∷ []) = ap (λ s. raises_after s (raises_of q.events) f) state_is' ∙ sym (raises_on q.events f) in
            subst (λ l. SameRaises Then objects l (raises_of (q.events ++ f ∷ []))) here
            (subst (λ l. SameRaises Then objects (raises_after p.state (raises_of p.events) e) l) there
            (raises_same Then objects objects' then_alike p.state q.state (raises_of p.events) (raises_of q.events) e f then_state
            (raises_grow (At p q) Then grows objects (raises_of p.events) (raises_of q.events) same.raises) then_event next.right))

        pub then_same : AreSame (past_after plan p e) (past_after plan' q f)
        then_same = record {
          count =
              let here : length (p.events ++ e ∷ []) ≡ length p.events + 1 = length-append p.events (e ∷ []) in
              let there : length (q.events ++ f ∷ []) ≡ length q.events + 1 = length-append q.events (f ∷ []) in
              let count : length p.events ≡ length q.events = same.count in omega (arith, here, there, count);
          behind = ap (λ (r : Past). past_after plan r e) same.behind ∙ sym (past_on plan nothing p.events e);
          behind' = ap (λ (r : Past). past_after plan' r f) same.behind' ∙ sym (past_on plan' nothing q.events f);
          alike = then_alike;
          recorded = events_on Then p.events q.events e f same.count (events_grow (At p q) Then grows p.events q.events same.recorded) then_event;
          state = after_same Then p.state q.state e f then_state then_event;
          generators = then_generators;
          plain = plain_next plan objects p e coming same.plain;
          raises = then_raises;
          posed = then_posed;
        }

    -- ---- all of them

    -- two lists of events are the same over what they relate, and the objects are alike
    abbrev pub Agrees : List Event → List Event → Type 0
    Agrees es fs = SameEvents (Paired objects objects' es fs) es fs × AreAlike (Paired objects objects' es fs) objects objects'

    -- more behind one of both changes nothing
    ended : (es fs more : List Event) → length es ≡ length fs → Agrees es fs → Agrees (es ++ more) fs × Agrees es (fs ++ more)
    ended es fs more count agrees =
        let pairs = pairs_end es fs more count in
        let both = events_end (Paired objects objects' es fs) es fs more count agrees.0 in (
          subst (λ ps. SameEvents (Related objects objects' ps) (es ++ more) fs × AreAlike (Related objects objects' ps) objects objects') (sym pairs.0) (both.0, agrees.1),
          subst (λ ps. SameEvents (Related objects objects' ps) es (fs ++ more) × AreAlike (Related objects objects' ps) objects objects') (sym pairs.1) (both.1, agrees.1),
        )

    -- event by event, from two pasts that are the same
    agree_from : (p q : Past) (es fs : List Event) → events ≡ p.events ++ es → events' ≡ q.events ++ fs → Comes plan objects p es → Comes plan' objects' q fs
        → TellRaises objects p.events es → TellRaises objects' q.events fs → AreSame p q → Agrees events events'
    agree_from p q [] fs is is' rest rest' told told' same =
        subst (λ l. Agrees l events') (sym (is ∙ append-nil p.events))
        (subst (λ l. Agrees p.events l) (sym is') (ended p.events q.events fs same.count (same.recorded, same.alike)).1)
    agree_from p q (e ∷ es) [] is is' rest rest' told told' same =
        subst (λ l. Agrees events l) (sym (is' ∙ append-nil q.events))
        (subst (λ l. Agrees l q.events) (sym is) (ended p.events q.events (e ∷ es) same.count (same.recorded, same.alike)).0)
    agree_from p q (e ∷ es) (f ∷ fs) is is' rest rest' told told' same =
        agree_from (past_after plan p e) (past_after plan' q f) es fs (is ∙ sym (append_assoc p.events (e ∷ []) es)) (is' ∙ sym (append_assoc q.events (f ∷ []) fs)) rest.1 rest'.1 told.1 told'.1
        (then_same p q e f es fs is is' rest.0 rest'.0 same told.0 told'.0)

    -- nothing happened in both
    pub first_same : AreSame nothing nothing
    first_same = record {
      count = refl;
      behind = refl;
      behind' = refl;
      alike = script.alike;
      recorded = tt;
      state = record { done = refl; phase = tt; stack = tt; made = tt };
      generators = tt;
      plain = tt;
      raises = tt;
      posed = inl refl;
    }

    -- two runs of one script are the same as far as both go, where exits are told the tracebacks of raises
    pub runs_agree : TellRaises objects [] events → TellRaises objects' [] events' → Agrees events events'
    runs_agree told told' = agree_from nothing nothing events events' refl refl comes comes' told told' first_same
