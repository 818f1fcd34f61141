-- Each event of a run may come behind those before it.
use Rattle.std.proofs.Common.{◌≡◌, ◌⊎◌, ◌+◌, ◌∙◌, ℕ, suc, List, [], ◌∷◌, ◌++◌, true, Some, None, inl, inr, refl, sym, ap, subst, append_assoc, append-nil, eq-eqb, ne_eqb, ◌<◌, ◌≤◌, length, length-append, arith}
use Rattle.std.specs.Prelude.{Option, if◌then◌else◌, option_map, slice_get, slice_set}
use Rattle.std.proofs.lemmas.Option.{same_Some, slice_get_within}
use Rattle.py_objects.specs.declared.payload.Payload.{Payload}
use Rattle.py_objects.specs.declared.payload.Payload.TheVariants as payload
use Rattle.py_objects.specs.declared.payload.FunctionBody.{FunctionBody}
use Rattle.py_objects.specs.declared.refs.PyBaseExceptionRef.{PyBaseExceptionRef}
use Rattle.py_objects.specs.declared.request.Request.{Request}
use Rattle.py_objects.specs.declared.request.Request.TheVariants as request
use Rattle.py_objects.specs.declared.event.Event.{Event}
use Rattle.py_objects.specs.declared.event.Event.TheVariants as event
use Rattle.py_objects.specs.Objects.{Obj, Name, HasPayload, AllBelow, declared, event_numbers, numbers}
use Rattle.py_objects.specs.Own.{Own, Makes, Resumes, Asks, Gets, Rounds, Yields, Ends, whose, own_of, own_events}
use Rattle.py_objects.specs.Telling.{under_any}
use Rattle.py_objects.proofs.NewLemmas.{newest}
use Rattle.py_determined.proofs.Telling.{IsPositive, positive_behind, made_stays}
use Rattle.py_objects.specs.Originals.{IsDict}
use Rattle.py_objects.proofs.GrowthLemmas.{slice_get_behind, slice_get_grown}
use Rattle.py_objects.proofs.Slots.{there}
use Rattle.py_lines.specs.declared.drive.DriveLine.{DriveLine}
use Rattle.py_grammar.specs.Grammar.{Decl, Coded, OfBody, OfRaw, codes_in}
use Rattle.py_grammar.specs.WellFormed.{AreWellFormed, IsFunction}
use Rattle.py_meaning.specs.Core.{IsCore}
use Rattle.py_run.specs.Run.{Posed, Plan, Act, Activation, State, IsTop, Idle, Asking, start, after, state_after, top_asks}
use Rattle.py_run.specs.Coming.{Past, nothing, past_after, MayCome, Comes}
use Rattle.py_run.specs.Past.{past_behind}
use Rattle.py_run.proofs.CutLemmas.{numbered_behind}
use Rattle.py_run.proofs.PastLemmas.{past_on, past_state}
use Rattle.py_run.proofs.RunLemmas.{comes_front, comes_rest}
use Rattle.py_determined.specs.Raises.{Tells, TellsRaise, TellRaises, raises_of}
use Rattle.py_meaning.specs.Whole.{Tells as CodeTells, thrown_in, plan_of}
use Rattle.py_meaning.proofs.CoreLemmas.{core_codes, core_drives}
use Rattle.py_core.specs.Runs.{IsRunAmong, named_objects}
use Rattle.py_tree.specs.Tree.{Tree}
use Rattle.py_places.specs.Place.{Place}
use Rattle.py_places.specs.Stepping.{step}
use Rattle.py_places.specs.Checking.{made, run_on, is_there, accepts}
use Rattle.py_places.proofs.Folding.{decided}
use Rattle.py_following.specs.Drives.{left_by, left_at, request_by, posed_by, shown_by}
use Rattle.py_following.specs.Followed.{Followed, unbegun, TellsNext, LooksUp, looked_up_by, globals_after, some_object, asked_after, asked_by, with_made, made_of, made_by, placed, places_after, Passes, followed_by, FollowsTo}
use Rattle.py_following.specs.Laws.{RunsAreFollowed}
use Rattle.py_following.proofs.Known.{AskedSo, asked_so, are_answers, leads_on, events_known, IsOfEvents, of_events, only_globals}
use Rattle.py_following.proofs.Placing.{IsTreeOf, IsPlacedAt, step_same, are_placed}
use Rattle.py_following.proofs.Hearing.{own_hears}
use Rattle.py_following.proofs.Functions.{IsUnraised, unraised}
use Rattle.py_following.proofs.Told.{IsMade, told_made, looks_alike, own_next, step_there, tree_same, placed_on}
use Rattle.py_following.proofs.Plans.{AskBoth, posing, IsBegun, may_alike, past_alike}
use Rattle.py_following.proofs.Chosen.{LeftKnown, left_is}
use Rattle.py_following.proofs.Opening.{AreGenerators, IsFound}
use Rattle.py_following.proofs.Runs.{result_front, run_generators, IsRequest, request_at, open_asks, idle_drive, within_some}
use Rattle.py_following.proofs.Opened.{AskSo, may_here, past_here, so_here, line_found}

-- the element behind a front
middle : {X : Type 0} (front back : List X) (e : X) → slice_get (front ++ e ∷ back) (length front) ≡ Some e
middle front back e =
    let same : length front + 0 ≡ length front = omega arith in
    subst (λ i. slice_get (front ++ e ∷ back) i ≡ Some e) same (slice_get_behind front (e ∷ back) 0)

-- what an event behind a front tells of raises
tells_behind : (objects : List Payload) (before front back : List Event) (e : Event) → TellRaises objects before (front ++ e ∷ back) → TellsRaise objects (before ++ front) e
tells_behind objects before [] back e tells = subst (λ es. TellsRaise objects es e) (sym (append-nil before)) tells.0
tells_behind objects before (x ∷ front) back e tells =
    subst (λ es. TellsRaise objects es e) (append_assoc before (x ∷ []) front) (tells_behind objects (before ++ x ∷ []) front back e tells.1)

-- where the innermost activation is one, some run
top_runs : (a : ℕ) (r : Option Request) (own : Option PyBaseExceptionRef) (at : ℕ) (stack : List Act) → IsTop a stack → top_asks r own at stack ≡ [] → ⊥
top_runs a r own at [] top none = absurd top
top_runs a r own at (x ∷ stack) top none = absurd (cc none)

-- the state behind a list and another one
state_on : (s : State) (es more : List Event) → state_after s (es ++ more) ≡ state_after (state_after s es) more
state_on s [] more = refl
state_on s (e ∷ es) more = state_on (after s e) es more

-- an activation is made where what it tells is accepted
made_some : (objects : List Payload) (g : Obj) (m : Option Place) (es : List Own) → is_there objects g (run_on objects g m es) ≡ true → (q : Place) × (m ≡ Some q)
made_some objects g None es there = absurd (cc there)
made_some objects g (Some q) es there = (q, refl)

made_there : (objects : List Payload) (g : Obj) (t : Tree) (vs : List Obj) (es : List Own) → accepts objects g t vs es ≡ true → (q : Place) × (made t vs ≡ Some q)
made_there objects g t vs [] accepted = absurd (cc accepted)
made_there objects g t vs (Makes ∷ es) accepted = made_some objects g (made t vs) es accepted
made_there objects g t vs (_ ∷ es) accepted = absurd (cc accepted)

-- no exception is of what is declared under the name of a function
abbrev pub AreUnraised : List Decl → List Payload → Type 0
AreUnraised decls objects = (f : Name) (g : Obj) → IsFunction decls f → declared objects f ≡ Some g → IsUnraised objects g

module _ (decls : List Decl) (drives : List DriveLine) (objects : List Payload) (well : AreWellFormed decls drives) (core : IsCore decls drives)
    (none_of : AreUnraised decls objects) (front back : List Event) (e : Event)
    (run : IsRunAmong decls drives objects (front ++ e ∷ back)) where
  abbrev coded : List Coded
  coded = codes_in decls

  -- the run's own plan
  abbrev own_plan : Plan
  own_plan = plan_of coded run.asked

  -- its past in front of the event
  abbrev before : Past
  before = past_behind own_plan nothing front

  run_named : AllBelow (length objects) (event_numbers e)
  run_named = run.run.named.in_events (length front) e (middle front back e)

  run_may : MayCome own_plan objects before e
  run_may = (comes_rest own_plan objects nothing front (e ∷ back) run.run.comes).0

  -- ---- what the event tells of raises, and looks up

  tells_by : (x : Event) (f : Followed) → f.past.events ≡ front → f.raises ≡ raises_of front → TellsRaise objects front x → TellsNext coded objects f x
  tells_by (event.Ask a r own at) f events raises tells =
      subst (λ xs. Tells objects f.past.events xs r) (sym raises) (subst (λ es. Tells objects es (raises_of front) r) (sym events) tells)
  tells_by _ f events raises tells = tt

  run_tells : (f : Followed) → FollowsTo coded objects drives unbegun front f → TellsNext coded objects f e
  run_tells f leads =
      let events : f.past.events ≡ front = events_known coded objects drives f front leads in
      let is : IsOfEvents coded objects drives f = of_events coded objects drives f front leads in
      tells_by e f events (is.raises ∙ ap raises_of events) (tells_behind objects [] front back e run.tells)

  -- a dict that is known is that of the run
  abbrev GlobalsAre : Option Obj → Type 0
  GlobalsAre known = (d : Obj) → known ≡ Some d → d ≡ run.globals

  looks_in : (known : Option Obj) (d : Obj) → d ≡ run.globals → IsDict objects run.globals → GlobalsAre known → LooksUp coded objects known (Some d)
  looks_in None d is dict are = subst (IsDict objects) (sym is) dict
  looks_in (Some g) d is dict are = is ∙ sym (are g refl)

  looks_by : (x : Event) (known : Option Obj) (i : ℕ) → slice_get (front ++ e ∷ back) i ≡ Some x → GlobalsAre known → LooksUp coded objects known (looked_up_by x)
  looks_by (event.Ask a (request.Global d x) own at) known i here are = let (is, dict) = run.looked_up i a x d own at here in looks_in known d is dict are
  looks_by (event.Ask a _ own at) known i here are = tt
  looks_by _ known i here are = tt

  looked_is : (x : Event) (i : ℕ) → slice_get (front ++ e ∷ back) i ≡ Some x → GlobalsAre (looked_up_by x)
  looked_is (event.Ask a (request.Global c x) own at) i here d same = sym (same_Some c d same) ∙ (run.looked_up i a x c own at here).0
  looked_is (event.Ask a _ own at) i here d same = absurd (cc same)
  looked_is _ i here d same = absurd (cc same)

  globals_on : (x : Event) (known : Option Obj) (i : ℕ) → slice_get (front ++ e ∷ back) i ≡ Some x → GlobalsAre known → GlobalsAre (globals_after known x)
  globals_on x None i here are = looked_is x i here
  globals_on x (Some g) i here are = are

  -- an event of the front stands among those of the run
  front_at : (es rest : List Event) (x : Event) → front ≡ es ++ x ∷ rest → slice_get (front ++ e ∷ back) (length es) ≡ Some x
  front_at es rest x is = slice_get_grown front (e ∷ back) (length es) x (subst (λ xs. slice_get xs (length es) ≡ Some x) (sym is) (middle es rest x))

  globals_lead : (es rest : List Event) (f g : Followed) → front ≡ es ++ rest → GlobalsAre f.globals → FollowsTo coded objects drives f rest g → GlobalsAre g.globals
  globals_lead es [] f g is are same = subst (λ (h : Followed). GlobalsAre h.globals) same are
  globals_lead es (x ∷ rest) f g is are (p, more) =
      globals_lead (es ++ x ∷ []) rest (followed_by coded objects f x p.asked p.places) g (is ∙ sym (append_assoc es (x ∷ []) rest))
      (globals_on x f.globals (length es) (front_at es rest x is) are) more

  run_looks : (f : Followed) → FollowsTo coded objects drives unbegun front f → LooksUp coded objects f.globals (looked_up_by e)
  run_looks f leads =
      looks_by e f.globals (length front) (middle front back e)
      (globals_lead [] front unbegun f refl (λ d same. absurd (cc same)) leads)

  -- ---- what the drives ask

  -- the drives that are done are all that are known to ask, or the one that runs asks alike in the run
  abbrev AsksSo : List Posed → State → Type 0
  AsksSo asked s = (length asked ≡ s.done) ⊎ (AskBoth asked run.asked s.done × IsBegun s)

  -- what a drive asks of which no event was seen, by this one: that may come, comes to the same, and the drive asks alike from then on
  record IsOpened (f : Followed) (x : Event) : Type 0 where
    posed : Posed
    is : posed_by objects f.answers (slice_get drives f.past.state.done) (shown_by objects f.answers x) ≡ Some posed
    may : MayCome (plan_of coded (f.asked ++ posed ∷ [])) objects f.past x
    same : past_after (plan_of coded (f.asked ++ posed ∷ [])) f.past x ≡ past_after own_plan f.past x
    so : AsksSo (asked_after f.asked (f.asked ++ posed ∷ []) x) (after f.past.state x)

  -- what earlier drives left is known, where these events are in front
  left_known : (es rest : List Event) (f : Followed) (x : Event) → front ++ e ∷ back ≡ es ++ x ∷ rest → FollowsTo coded objects drives unbegun es f
      → LeftKnown objects f.answers decls (front ++ e ∷ back) f.past.state.done
  left_known es rest f x is leads n v number (i, w, at, left) =
      let events : f.past.events ≡ es = events_known coded objects drives f es leads in
      let comes : Comes own_plan objects nothing (es ++ x ∷ rest) = subst (Comes own_plan objects nothing) is run.run.comes in
      let state : f.past.state ≡ state_after start es = (of_events coded objects drives f es leads).state ∙ ap (state_after start) events in
      let few : n ≤ (state_after start es).done = subst (λ (s : State). n ≤ s.done) state number.1 in
      let there : slice_get es i ≡ Some (event.Result n w) =
      result_front own_plan objects nothing es (x ∷ rest) i n w comes few (subst (λ xs. slice_get xs i ≡ Some (event.Result n w)) is at) in
      let (m, same, answer) = (are_answers coded objects drives f es leads).answer i n w (subst (λ xs. slice_get xs i ≡ Some (event.Result n w)) (sym events) there) in
      (left_by w, ap (left_at objects f.answers) same ∙ ap (option_map left_by) answer, left_is objects w v left)

  -- what the drive asks, where it asks something in the run
  found_at : (es rest : List Event) (f : Followed) (x : Event) → front ++ e ∷ back ≡ es ++ x ∷ rest → FollowsTo coded objects drives unbegun es f
      → (q : Posed) → slice_get run.asked f.past.state.done ≡ Some q
      → (r : IsRequest objects (front ++ e ∷ back) drives f.past.state.done q) × IsFound objects f.past.events f.answers r.line x r.request
  found_at es rest f x is leads q there =
      let r = request_at objects (front ++ e ∷ back) drives run.asked f.past.state.done q (core_drives drives core.drives_plainly) run.are_asked there in (
        r,
        line_found objects f.past.events (front ++ e ∷ back) f.answers decls f.past.state.done (left_known es rest f x is leads) none_of x r.line r.request
            (well.driven f.past.state.done r.line r.is_line) r.asks,
      )

  -- so the drive asks that behind the others
  found_here : (f : Followed) (r : Request) → length f.asked ≡ f.past.state.done → slice_get (f.asked ++ posing r ∷ []) f.past.state.done ≡ Some (posing r)
  found_here f r done = subst (λ n. slice_get (f.asked ++ posing r ∷ []) n ≡ Some (posing r)) done (newest f.asked (posing r))

  found_is : (f : Followed) (x : Event) (line : DriveLine) (r : Request) → slice_get drives f.past.state.done ≡ Some line
      → request_by objects f.answers line (shown_by objects f.answers x) ≡ Some r
      → posed_by objects f.answers (slice_get drives f.past.state.done) (shown_by objects f.answers x) ≡ Some (posing r)
  found_is f x line r at is = ap (λ l. posed_by objects f.answers l (shown_by objects f.answers x)) at ∙ ap (option_map posing) is

  one_longer : (f : Followed) (q : Posed) → length f.asked ≡ f.past.state.done → length (f.asked ++ q ∷ []) ≡ suc f.past.state.done
  one_longer f q done = let sum : length (f.asked ++ q ∷ []) ≡ length f.asked + 1 = length-append f.asked (q ∷ []) in omega (arith, sum, done)

  idle_opened : (es rest : List Event) (f : Followed) (x : Event) → front ++ e ∷ back ≡ es ++ x ∷ rest → FollowsTo coded objects drives unbegun es f → length f.asked ≡ f.past.state.done
      → f.past ≡ past_behind own_plan nothing es → MayCome own_plan objects f.past x → f.past.state.phase ≡ Idle → f.past.state.stack ≡ [] → IsOpened f x
  idle_opened es rest f x is leads done past may idle alone =
      let (d, same) = idle_drive own_plan objects f.past x idle alone may in
      let begins : MayCome own_plan objects f.past (event.Drive d) = subst (λ y. MayCome own_plan objects f.past y) same may in
      let (q, there) = within_some run.asked f.past.state.done begins.2 in
      let (r, found) = found_at es rest f x is leads q there in
      let longer = one_longer f (posing found.request) done in
      subst (IsOpened f) (sym same)
      (record {
        posed = posing found.request;
        is = subst (λ y. posed_by objects f.answers (slice_get drives f.past.state.done) (shown_by objects f.answers y) ≡ Some (posing found.request)) same (found_is f x r.line found.request r.is_line found.is);
        may = (begins.0, begins.1, (omega (arith, longer)));
        same = refl;
        so = inl done;
      })

  so_opened : (f : Followed) (q : Posed) (y : Event) → length f.asked ≡ f.past.state.done → AskSo coded objects (f.asked ++ q ∷ []) run.asked f.past y
      → AsksSo (asked_after f.asked (f.asked ++ q ∷ []) y) (after f.past.state y)
  so_opened f q (event.Drive d) done so = inl done
  so_opened f q (event.Result d w) done so = inl (one_longer f q done)
  so_opened f q (event.Make a g vs) done so = inr so
  so_opened f q (event.Resume a h) done so = inr so
  so_opened f q (event.Ask a r own at) done so = inr so
  so_opened f q (event.Got a w) done so = inr so
  so_opened f q (event.Round a at) done so = inr so
  so_opened f q (event.Yield a v at) done so = inr so
  so_opened f q (event.End a y at) done so = inr so

  asking_opened : (es rest : List Event) (f : Followed) (x : Event) → front ++ e ∷ back ≡ es ++ x ∷ rest → FollowsTo coded objects drives unbegun es f → length f.asked ≡ f.past.state.done
      → f.past ≡ past_behind own_plan nothing es → MayCome own_plan objects f.past x → f.past.state.phase ≡ Asking → f.past.state.stack ≡ [] → IsOpened f x
  asking_opened es rest f x is leads done past may asks alone =
      let comes : Comes own_plan objects nothing (es ++ x ∷ rest) = subst (Comes own_plan objects nothing) is run.run.comes in
      let are : AreGenerators objects f.past.generators =
      subst (λ (p : Past). AreGenerators objects p.generators) (sym past) (run_generators own_plan objects nothing es (x ∷ rest) comes tt) in
      let (q, there) = open_asks own_plan objects f.past x asks alone may in
      let (r, found) = found_at es rest f x is leads q there in
      let new : List Posed = f.asked ++ posing found.request ∷ [] in
      let here = found_here f found.request done in
      let at : slice_get run.asked f.past.state.done ≡ Some (posing r.request) = there ∙ ap (λ (p : Posed). Some p) r.is in
      record {
        posed = posing found.request;
        is = found_is f x r.line found.request r.is_line found.is;
        may = may_here coded objects new run.asked f.answers f.past r.line x r.request found here at asks alone x refl may;
        same = past_here coded objects new run.asked f.answers f.past r.line x r.request found here at asks alone x are;
        so = so_opened f (posing found.request) x done (so_here coded objects new run.asked f.answers f.past r.line x r.request found here at asks alone x may);
      }

  opened : (es rest : List Event) (f : Followed) (x : Event) → front ++ e ∷ back ≡ es ++ x ∷ rest → FollowsTo coded objects drives unbegun es f → length f.asked ≡ f.past.state.done
      → f.past ≡ past_behind own_plan nothing es → MayCome own_plan objects f.past x → IsOpened f x
  opened es rest f x is leads done past may = elim (asked_so coded objects drives f es leads) [
    | inl (idle, alone, more) ↦ idle_opened es rest f x is leads done past may idle alone
    | inr (inl (asks, alone, more)) ↦ asking_opened es rest f x is leads done past may asks alone
    | inr (inr (busy, more)) ↦ absurd (omega (arith, done, more))
  ]

  -- what the drives ask by an event of the run
  record IsPosed (f : Followed) (x : Event) : Type 0 where
    asked : List Posed
    is : asked_by coded objects (slice_get drives f.past.state.done) f x ≡ Some asked
    may : MayCome (plan_of coded asked) objects f.past x
    same : past_after (plan_of coded asked) f.past x ≡ past_after own_plan f.past x
    so : AsksSo (asked_after f.asked asked x) (after f.past.state x)

  -- where the drive that runs asks alike, it does behind one more event
  begun_on : (f : Followed) (x : Event) → AskedSo coded objects drives f → AskBoth f.asked run.asked f.past.state.done → IsBegun f.past.state → MayCome own_plan objects f.past x
      → AsksSo (asked_after f.asked f.asked x) (after f.past.state x)
  begun_on f x so both begun may = by x may so
    where
      there : f.past.state.done < length f.asked
      there = slice_get_within f.asked f.past.state.done (posing both.request) both.here

      by : (x : Event) → MayCome own_plan objects f.past x → AskedSo coded objects drives f → AsksSo (asked_after f.asked f.asked x) (after f.past.state x)
      by (event.Drive d) may (inl (idle, none, done)) = let here = there in absurd (omega (arith, here, done))
      by (event.Drive d) may (inr (inl (asks, none, done))) = let here = there in absurd (omega (arith, here, done))
      by (event.Drive d) may (inr (inr (busy, more))) = absurd (busy may.0)
      by (event.Result d w) may (inl (idle, none, done)) = let here = there in absurd (omega (arith, here, done))
      by (event.Result d w) may (inr (inl (asks, none, done))) = let here = there in absurd (omega (arith, here, done))
      by (event.Result d w) may (inr (inr (busy, more))) = inl more
      by (event.Make a g vs) may so = inr (both, λ asks none. absurd (cc asks))
      by (event.Resume a h) may so = inr (both, λ asks none. absurd (cc asks))
      by (event.Ask a r own at) may so = inr (both, λ asks none. top_runs a (Some r) own at f.past.state.stack may.1 none)
      by (event.Got a w) may so = inr (both, λ asks none. absurd (cc asks))
      by (event.Round a at) may so = inr (both, begun)
      by (event.Yield a v at) may so = inr (both, λ asks none. absurd (cc asks))
      by (event.End a y at) may so = inr (both, λ asks none. absurd (cc asks))

  posed_on : (es rest : List Event) (f : Followed) (x : Event) → front ++ e ∷ back ≡ es ++ x ∷ rest → FollowsTo coded objects drives unbegun es f → AsksSo f.asked f.past.state
      → f.past ≡ past_behind own_plan nothing es → MayCome own_plan objects f.past x → IsPosed f x
  posed_on es rest f x is leads (inl done) past may =
      let o = opened es rest f x is leads done past may in
      record {
        asked = f.asked ++ o.posed ∷ [];
        is =
            ap (λ b. if b then option_map (λ q. f.asked ++ q ∷ []) (posed_by objects f.answers (slice_get drives f.past.state.done) (shown_by objects f.answers x)) else Some f.asked)
            (eq-eqb (length f.asked) f.past.state.done done)
            ∙ ap (option_map (λ (q : Posed). f.asked ++ q ∷ [])) o.is;
        may = o.may;
        same = o.same;
        so = o.so;
      }
  posed_on es rest f x is leads (inr (both, begun)) past may =
      let there : f.past.state.done < length f.asked = slice_get_within f.asked f.past.state.done (posing both.request) both.here in
      let other : length f.asked ≡ f.past.state.done → ⊥ = λ (same : length f.asked ≡ f.past.state.done). absurd (omega (arith, there, same)) in
      record {
        asked = f.asked;
        is =
            ap (λ b. if b then option_map (λ q. f.asked ++ q ∷ []) (posed_by objects f.answers (slice_get drives f.past.state.done) (shown_by objects f.answers x)) else Some f.asked)
            (ne_eqb (length f.asked) f.past.state.done other);
        may = may_alike coded objects f.asked run.asked f.past x both begun may;
        same = past_alike coded objects f.asked run.asked f.past x both begun;
        so = begun_on f x (asked_so coded objects drives f es leads) both begun may;
      }

  -- the same of an event that is followed
  posed_so : (f : Followed) (x : Event) (p : Passes coded objects drives f x) (o : IsPosed f x)
      → AsksSo (asked_after f.asked p.asked x) (after f.past.state x) × (past_after (plan_of coded p.asked) f.past x ≡ past_after own_plan f.past x)
  posed_so f x p o =
      let same : o.asked ≡ p.asked = same_Some o.asked p.asked (sym o.is ∙ p.is_asked) in
      (subst (λ qs. AsksSo (asked_after f.asked qs x) (after f.past.state x)) same o.so, subst (λ qs. past_after (plan_of coded qs) f.past x ≡ past_after own_plan f.past x) same o.same)

  -- so the past of the run is the one that is followed
  past_lead : (es rest : List Event) (f g : Followed) → front ≡ es ++ rest → FollowsTo coded objects drives unbegun es f → AsksSo f.asked f.past.state
      → f.past ≡ past_behind own_plan nothing es → FollowsTo coded objects drives f rest g → AsksSo g.asked g.past.state × (g.past ≡ before)
  past_lead es [] f g is leads so past same =
      let whole : es ≡ front = sym (is ∙ append-nil es) in
      (subst (λ (h : Followed). AsksSo h.asked h.past.state) same so, ap (λ (h : Followed). h.past) (sym same) ∙ past ∙ ap (past_behind own_plan nothing) whole)
  past_lead es (x ∷ rest) f g is leads so past (p, more) =
      let whole : front ++ e ∷ back ≡ es ++ x ∷ (rest ++ e ∷ back) = ap (λ xs. xs ++ e ∷ back) is ∙ append_assoc es (x ∷ rest) (e ∷ back) in
      let comes : Comes own_plan objects nothing (es ++ x ∷ (rest ++ e ∷ back)) = subst (Comes own_plan objects nothing) whole run.run.comes in
      let may : MayCome own_plan objects f.past x =
      subst (λ q. MayCome own_plan objects q x) (sym past) (comes_rest own_plan objects nothing es (x ∷ (rest ++ e ∷ back)) comes).0 in
      let both = posed_so f x p (posed_on es (rest ++ e ∷ back) f x whole leads so past may) in
      past_lead (es ++ x ∷ []) rest (followed_by coded objects f x p.asked p.places) g (is ∙ sym (append_assoc es (x ∷ []) rest))
      (leads_on coded objects drives unbegun f es x p leads) both.0
      (both.1 ∙ ap (λ q. past_after own_plan q x) past ∙ sym (past_on own_plan nothing es x)) more

  -- ---- places

  -- what each activation of the run tells is accepted
  tree_accepts : (i : ℕ) (a : Activation) (b : FunctionBody) (c : Coded) → HasPayload objects a.function (payload.Function b) → slice_get coded b.code ≡ Some c
      → AllBelow (length objects) (numbers a.args) → CodeTells (thrown_in under_any objects run.globals) c a.args (own_events (suc i) (front ++ e ∷ back))
      → (t : Tree) × IsTreeOf coded objects drives a.function t × (accepts objects run.globals t a.args (own_events (suc i) (front ++ e ∷ back)) ≡ true)
  tree_accepts i a b (OfBody t) has at low tells =
      let heard = own_hears (length objects) (suc i) 0 (front ++ e ∷ back) run.run.named.in_events in
      (t, (b, has, at), (decided objects run.globals t a.args (own_events (suc i) (front ++ e ∷ back)) low heard).1 tells)
  tree_accepts i a b (OfRaw r) has at low tells = absurd (core_codes decls core.declares b.code r at)

  run_accepts : (i : ℕ) (a : Activation) → slice_get (state_after start (front ++ e ∷ back)).made i ≡ Some a → AllBelow (length objects) (numbers a.args)
      → (t : Tree) × IsTreeOf coded objects drives a.function t × (accepts objects run.globals t a.args (own_events (suc i) (front ++ e ∷ back)) ≡ true)
  run_accepts i a at low = let (b, has, (c, there, tells)) = run.run.tells i a at in tree_accepts i a b c has there low tells

  -- the activation that the event makes has a place
  run_made : (f : Followed) → FollowsTo coded objects drives unbegun front f → (a : ℕ) (g : Obj) (vs : List Obj) → e ≡ event.Make a g vs
      → (places : List Place) × (with_made coded objects f.places (made_by coded objects (slice_get objects g.number) vs) ≡ Some places)
  run_made f leads a g vs is =
      let n = length (state_after start front).made in
      let x : Activation = record { function = g; args = vs } in
      let there : slice_get (after (state_after start front) e).made n ≡ Some x =
      ap (λ y. slice_get (after (state_after start front) y).made n) is ∙ newest (state_after start front).made x in
      let at : slice_get (state_after start (front ++ e ∷ back)).made n ≡ Some x =
      ap (λ (s : State). slice_get s.made n) (state_on start front (e ∷ back)) ∙ made_stays (after (state_after start front) e) back n x there in
      let low = (subst (λ y. AllBelow (length objects) (event_numbers y)) is run_named).1 in
      let (t, (b, has, coded_at), accepted) = run_accepts n x at low in
      let (q, made_is) = made_there objects run.globals t vs (own_events (suc n) (front ++ e ∷ back)) accepted in (
        f.places ++ q ∷ [],
        ap (with_made coded objects f.places)
            (ap (λ o. made_by coded objects o vs) has ∙ ap (λ c. made_of coded objects c vs) coded_at ∙ made_is),
      )

  -- where the event looks a name up, the dict that is known is that of the run
  dict_of : (f : Followed) → FollowsTo coded objects drives unbegun front f → (d : Obj) → looked_up_by e ≡ Some d → some_object (globals_after f.globals e) ≡ run.globals
  dict_of f leads d looks =
      ap some_object (only_globals coded objects drives f.globals (looked_up_by e) d (run_looks f leads) looks) ∙ looked_is e (length front) (middle front back e) d looks

  -- the events of the front come, and so do they with the event
  comes_front_of : Comes own_plan objects nothing front
  comes_front_of = comes_front own_plan objects nothing front (e ∷ back) run.run.comes

  comes_upto : Comes own_plan objects nothing (front ++ e ∷ [])
  comes_upto =
      comes_front own_plan objects nothing (front ++ e ∷ []) back
      (subst (Comes own_plan objects nothing) (sym (append_assoc front (e ∷ []) back)) run.run.comes)

  -- the event is of an activation that was made, if it doesn't make it
  run_is_made : (own : Own) → own_of (length front) e ≡ own ∷ [] → (own ≡ Makes → ⊥) → IsMade before (whose e)
  run_is_made own next other =
      told_made own_plan objects before (length front) e own run_may (numbered_behind own_plan objects front comes_front_of) (positive_behind own_plan objects front comes_front_of)
      (subst IsPositive (past_on own_plan nothing front e) (positive_behind own_plan objects (front ++ e ∷ []) comes_upto)) next other

  -- from its place it goes on by what the event tells
  run_goes_on : (f : Followed) → FollowsTo coded objects drives unbegun front f → (i : ℕ) (x : Activation) (own : Own) → suc i ≡ whose e → own_of (length front) e ≡ own ∷ []
      → slice_get (state_after start front).made i ≡ Some x → (was : IsPlacedAt coded objects drives run.globals f i x)
      → (q : Place) × (step objects run.globals was.place own ≡ Some q)
  run_goes_on f leads i x own number next here was =
      let at : slice_get (state_after start (front ++ e ∷ back)).made i ≡ Some x =
      ap (λ (s : State). slice_get s.made i) (state_on start front (e ∷ back)) ∙ made_stays (state_after start front) (e ∷ back) i x here in
      let (t, of_tree, accepted) = run_accepts i x at was.args in
      let (rest, told) = own_next (suc i) front back e own number next in
      let front_told : own_events (suc i) front ≡ Makes ∷ was.told = ap (own_events (suc i)) (sym (events_known coded objects drives f front leads)) ∙ was.own in
      step_there objects run.globals was.tree x.args (own_events (suc i) (front ++ e ∷ back)) was.told rest own was.place
      (subst (λ u. accepts objects run.globals u x.args (own_events (suc i) (front ++ e ∷ back)) ≡ true) (tree_same coded objects drives x.function t was.tree of_tree was.of) accepted)
      (told ∙ ap (λ l. (l ++ own ∷ []) ++ rest) front_told) was.leads

  -- so one that was made goes on by what the event tells
  run_told : (f : Followed) → FollowsTo coded objects drives unbegun front f → (a : ℕ) (own : Own) → whose e ≡ a → own_of (length f.past.events) e ≡ own ∷ []
      → (own ≡ Makes → ⊥) → (places : List Place) × (placed coded objects (some_object (globals_after f.globals e)) f.places a own ≡ Some places)
  run_told f leads a own of tells other =
      let events : f.past.events ≡ front = events_known coded objects drives f front leads in
      let next : own_of (length front) e ≡ own ∷ [] = ap (λ (es : List Event). own_of (length es) e) (sym events) ∙ tells in
      let (i, number, within) = run_is_made own next other in
      let (x, here) = there (state_after start front).made i (subst (λ (s : State). i < length s.made) (past_state own_plan front) within) in
      let state : f.past.state ≡ state_after start front = (of_events coded objects drives f front leads).state ∙ ap (state_after start) events in
      by i x next (sym number) here
      ((are_placed coded objects drives run.globals f front leads (globals_lead [] front unbegun f refl (λ d same. absurd (cc same)) leads)).each i x
      (ap (λ (s : State). slice_get s.made i) state ∙ here))
    where
      by : (i : ℕ) (x : Activation) → own_of (length front) e ≡ own ∷ [] → suc i ≡ whose e → slice_get (state_after start front).made i ≡ Some x
          → IsPlacedAt coded objects drives run.globals f i x
          → (places : List Place) × (placed coded objects (some_object (globals_after f.globals e)) f.places a own ≡ Some places)
      by i x next number here was =
          let (q, steps) = run_goes_on f leads i x own number next here was in
          let alike =
          step_same objects run.globals (some_object (globals_after f.globals e)) was.place own
          (λ d looks. dict_of f leads d (sym (looks_alike (length front) e own next) ∙ looks)) in (
            slice_set f.places i q,
            placed_on coded objects drives (some_object (globals_after f.globals e)) f.places a i own was.place q (sym of ∙ sym number) was.at (alike ∙ steps),
          )

  run_places : (f : Followed) → FollowsTo coded objects drives unbegun front f
      → (places : List Place) × (places_after coded objects (some_object (globals_after f.globals e)) f.places (length f.past.events) e ≡ Some places)
  run_places f leads = by e refl
    where
      tells : (x : Event) → e ≡ x → own_of (length f.past.events) e ≡ own_of (length f.past.events) x
      tells x is = ap (own_of (length f.past.events)) is

      by : (x : Event) → e ≡ x → (places : List Place) × (places_after coded objects (some_object (globals_after f.globals e)) f.places (length f.past.events) x ≡ Some places)
      by (event.Drive d) is = (f.places, refl)
      by (event.Result d w) is = (f.places, refl)
      by (event.Make a g vs) is = run_made f leads a g vs is
      by (event.Resume a h) is = run_told f leads a (Resumes (length f.past.events) h) (ap whose is) (tells (event.Resume a h) is) (λ same. cc same)
      by (event.Ask a r own at) is = run_told f leads a (Asks at r own) (ap whose is) (tells (event.Ask a r own at) is) (λ same. cc same)
      by (event.Got a w) is = run_told f leads a (Gets (length f.past.events) w) (ap whose is) (tells (event.Got a w) is) (λ same. cc same)
      by (event.Round a at) is = run_told f leads a (Rounds at) (ap whose is) (tells (event.Round a at) is) (λ same. cc same)
      by (event.Yield a v at) is = run_told f leads a (Yields at v) (ap whose is) (tells (event.Yield a v at) is) (λ same. cc same)
      by (event.End a y at) is = run_told f leads a (Ends at y) (ap whose is) (tells (event.End a y at) is) (λ same. cc same)

  -- the event may come
  pub run_passes : (f : Followed) → FollowsTo coded objects drives unbegun front f → Passes coded objects drives f e
  run_passes f leads =
      let (so, past) = past_lead [] front unbegun f refl refl (inl refl) refl leads in
      let may : MayCome own_plan objects f.past e = subst (λ q. MayCome own_plan objects q e) (sym past) run_may in
      let o = posed_on front back f e refl leads so past may in
      let (places, placed) = run_places f leads in
      record {
        named = run_named;
        asked = o.asked;
        is_asked = o.is;
        may = o.may;
        tells = run_tells f leads;
        looks_up = run_looks f leads;
        places = places;
        are_placed = placed;
      }

pub runs_are_followed : RunsAreFollowed
runs_are_followed decls drives objects front back e f can run leads =
    run_passes decls drives (named_objects decls objects) can.well can.core (unraised decls objects can.entries) front back e run f leads
