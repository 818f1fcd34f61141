-- Frames that run go on to run.
use Rattle.std.proofs.Common.{◌≡◌, ◌∙◌, ◌++◌, ◌+◌, ◌-◌, ◌<◌, ◌≤◌, ℕ, List, [], ◌∷◌, None, Some, refl, sym, ap, subst, length, append-nil, append_assoc, arith}
use Rattle.std.specs.Prelude.{Option, Result, Ok, Err, OnErr}
use Rattle.py_objects.specs.Edits.{Kept}
use Rattle.py_objects.specs.declared.event.Ending.TheVariants as ending
use Rattle.std.proofs.lemmas.Option.{slice_get_within, slice_get-get_or}
use Rattle.py_objects.specs.declared.refs.PyBaseExceptionRef.{PyBaseExceptionRef}
use Rattle.py_objects.specs.declared.payload.Payload.{Payload}
use Rattle.py_objects.specs.declared.payload.Payload.TheVariants as payload
use Rattle.py_objects.specs.declared.event.GotAnswer.TheVariants as got
use Rattle.py_objects.specs.declared.scope.Scope.{Scope}
use Rattle.py_objects.specs.declared.refs.FrameRef.{FrameRef}
use Rattle.py_objects.specs.Objects.{Obj, AllBelow, numbers}
use Rattle.py_objects.specs.Growth.{Grows}
use Rattle.py_objects.specs.Telling.{under_any}
use Rattle.py_objects.specs.Own.{Own, Asks, Rounds, Yields, Ends}
use Rattle.py_check.specs.declared.annotated.Annotated.{Annotated}
use Rattle.py_check.specs.Depths.{deepest}
use Rattle.py_rows.specs.declared.expect.Expect.{Expect}
use Rattle.py_rows.specs.declared.expect.Expect.TheVariants as expect
use Rattle.py_rows.specs.States.{Setting, State, Step, Goes, Tells, Stuck, Move, Plainly, Loads, Decides, Manages, Resolves, Exits, begun}
use Rattle.py_rows.specs.Slot.{KeepsSlot}
use Rattle.py_rows.specs.Receiving.{moves}
use Rattle.py_rows.specs.RunOfRows.{started, MayLead, Steps, silent, telling, Runs, none, on}
use Rattle.py_rows.specs.Standing.{IsOf, IsStanding}
use Rattle.py_rows.specs.Below.{HearsBelow, TellsBelow, HoldsBelow}
use Rattle.py_rows.specs.Fitting.{FitsAt}
use Rattle.py_rows.specs.Sound.{IsSound}
use Rattle.py_rows.specs.Laws.{LeadsTo, AlwaysLeads, IsMoving, IsWithin}
use Rattle.py_rows.proofs.TypingLemmas.{unit_kept}
use Rattle.py_rows.proofs.StepLemmas.{next_fits, start_fits, steps_fit, steps_tell, within}
use Rattle.py_rows.proofs.StandingLemmas.{slot_kept, start_below, start_stands, steps_stand, steps_below, events_told, silent_later}
use Rattle.py_rows.proofs.GrowingLemmas.{fits_grown, run_grown}
use Rattle.py_frame.specs.Frames.{Framed, setting_of, unfilled}
use Rattle.py_frame.specs.Steps.{told}
use Rattle.py_frame.specs.Running.{IsRunning, IsSame, HasTold, IsCut}
use Rattle.py_frame.specs.UnitSteps.{HasRoom, HasNeeds, done, tells}
use Rattle.py_frame.specs.declared.unit_step.UnitStep.{UnitStep}
use Rattle.py_frame.specs.declared.unit_step.UnitStep.TheVariants as unit
use Rattle.py_frame.specs.declared.input.FrameStep.{FrameStep}
use Rattle.py_frame.specs.declared.input.FrameStep.TheVariants as frame_step
use Rattle.py_objects.proofs.GrowthLemmas.{length_grown}
use Rattle.py_frame.proofs.MoreLemmas.{holds_more}
use Rattle.py_frame.proofs.SeenLemmas.{SeenBelow, seen_there}

pub same_joined : (f g h : Framed) → IsSame f g → IsSame g h → IsSame f h
same_joined f g h x y = record {
  code = y.code ∙ x.code;
  entry = y.entry ∙ x.entry;
  scope = y.scope ∙ x.scope;
  closure = y.closure ∙ x.closure;
  room = y.room ∙ x.room;
  block_room = y.block_room ∙ x.block_room;
}

pub same_first : (f : Framed) → IsSame f f
same_first f = record { code = refl; entry = refl; scope = refl; closure = refl; room = refl; block_room = refl }

pub run_joined : (objects : List Payload) (setting : Setting) (s t u : State) (xs ys : List Own) → Runs objects setting s xs t → Runs objects setting t ys u → Runs objects setting s (xs ++ ys) u
run_joined objects setting s t _ xs _ run none = subst (λ (zs : List Own). Runs objects setting s zs t) (sym (append-nil xs)) run
run_joined objects setting s t _ xs _ run (on {us = us} {vs = vs} {t = m} u more step) =
    subst (λ (zs : List Own). Runs objects setting s zs u) (append_assoc xs us vs) (on u (run_joined objects setting s t m xs us run more) step)

pub run_keeps : (objects : List Payload) (setting : Setting) (first : Option PyBaseExceptionRef) (s t : State) (xs : List Own) → KeepsSlot first s → Runs objects setting s xs t → KeepsSlot first t
run_keeps objects setting first s _ _ keeps none = keeps
run_keeps objects setting first s _ _ keeps (on {us = us} {vs = vs} {t = t} u run step) = slot_kept objects setting first t u vs (run_keeps objects setting first s t us keeps run) step

-- a frame that goes on has a unit that runs next, or that waited
pub unit_there : (objects : List Payload) (names : List (List ℕ)) (code : Annotated) (x : Expect) (s : State) → IsSound names code → FitsAt objects code x s → IsMoving x → s.at < length code.code.code.instructions.items
unit_there objects names code expect.Go s sound fits moving = slice_get_within code.code.code.instructions.items s.at _ (unit_kept names code s.at fits.kinds fits.block_notes sound fits.note).is
unit_there objects names code (expect.Heard (got.Value v)) s sound fits moving = slice_get_within code.code.code.instructions.items s.at fits.1.unit fits.1.is
unit_there objects names code (expect.Heard (got.Raise e)) s sound fits moving = fits.1.there
unit_there objects names code (expect.Heard (got.Stop v)) s sound fits moving = absurd fits
unit_there objects names code _ s sound fits moving = absurd moving

-- a row that was done leads on, or tells an event
pub row_goes : (objects : List Payload) (m : Move) (at : ℕ) (u : UnitStep) (s : State) → u ≡ unit.Goes → MayLead objects m (done at u s) → MayLead objects m (Goes s)
row_goes objects m at u s is may = subst (λ (x : UnitStep). MayLead objects m (done at x s)) is may

pub row_tells : (objects : List Payload) (m : Move) (at : ℕ) (u : UnitStep) (step : FrameStep) (s : State) → u ≡ unit.Tells step → MayLead objects m (done at u s) → MayLead objects m (tells (told at step) s)
row_tells objects m at u step s is may = subst (λ (x : UnitStep). MayLead objects m (done at x s)) is may

pub store_on : (a b c : Kept) → b ≡ record a { made = b.made } → c ≡ record b { made = c.made } → c ≡ record a { made = c.made }
store_on a b c first second = second ∙ ap (λ (s : Kept). record s { made = c.made }) first

pub erred : {A E : Type 0} (r : Result A E) (P : Type 0) → P → OnErr r P
erred (Ok v) P p = tt
erred (Err e) P p = p

-- an event that is told is of the unit that tells it, and hears nothing
told_at : (at n : ℕ) (t : State) (step : FrameStep) (x : Own) → told at step ≡ Some x → IsOf n t x → at ≡ n
told_at at n t (frame_step.Ask r own) x is of = let same : Asks at r own ≡ x = cc in (subst (IsOf n t) (sym same) of).0
told_at at n t frame_step.Round x is of = let same : Rounds at ≡ x = cc in (subst (IsOf n t) (sym same) of).0
told_at at n t (frame_step.Yield v) x is of = let same : Yields at v ≡ x = cc in (subst (IsOf n t) (sym same) of).0
told_at at n t (frame_step.Return v) x is of = let same : Ends at (ending.Return v) ≡ x = cc in (subst (IsOf n t) (sym same) of).0
told_at at n t (frame_step.Raise e) x is of = let same : Ends at (ending.Raise e) ≡ x = cc in (subst (IsOf n t) (sym same) of).0
told_at at n t frame_step.NoMemory x is of = cc

told_hears : (n at : ℕ) (step : FrameStep) (x : Own) → told at step ≡ Some x → HearsBelow n (x ∷ [])
told_hears n at (frame_step.Ask r own) x is = let same : Asks at r own ≡ x = cc in subst (λ (y : Own). HearsBelow n (y ∷ [])) same (tt, tt)
told_hears n at frame_step.Round x is = let same : Rounds at ≡ x = cc in subst (λ (y : Own). HearsBelow n (y ∷ [])) same (tt, tt)
told_hears n at (frame_step.Yield v) x is = let same : Yields at v ≡ x = cc in subst (λ (y : Own). HearsBelow n (y ∷ [])) same (tt, tt)
told_hears n at (frame_step.Return v) x is = let same : Ends at (ending.Return v) ≡ x = cc in subst (λ (y : Own). HearsBelow n (y ∷ [])) same (tt, tt)
told_hears n at (frame_step.Raise e) x is = let same : Ends at (ending.Raise e) ≡ x = cc in subst (λ (y : Own). HearsBelow n (y ∷ [])) same (tt, tt)
told_hears n at frame_step.NoMemory x is = cc

-- a frame that has come to a state by silent steps goes on
pub record IsSilent (objects : List Payload) (names : List (List ℕ)) (code : Annotated) (f g : Framed) : Type 0 where
  pub fits : FitsAt objects code g.state.wants g.state
  pub first : Option PyBaseExceptionRef
  pub stands : IsStanding first g.state
  pub below : HoldsBelow (length objects) g.state
  pub globals : g.scope.globals.number < length objects
  pub moving : IsMoving g.state.wants
  pub run : Runs objects (setting_of names code f) f.state [] g.state
  pub same : IsSame f g

pub silent_first : (objects : List Payload) (names : List (List ℕ)) (code : Annotated) (f : Framed) → IsRunning objects names code f → IsMoving f.state.wants → IsSilent objects names code f f
silent_first objects names code f running moving = record {
  fits = running.fits;
  first = running.first;
  stands = running.stands;
  below = running.below;
  globals = running.globals;
  moving = moving;
  run = none;
  same = same_first f;
}

module _ (names : List (List ℕ)) (code : Annotated) (sound : IsSound names code) where
  -- a frame that has this room has it for a step that leads where the frame fits
  module _ (g : Framed) (room : code.code.code.max_stackdepth ≤ length g.state.stack + g.room) (block_room : deepest code.notes ≤ length g.state.blocks + g.block_room) where
    state_done : (objects : List Payload) (t : State) → FitsAt objects code t.wants t → IsWithin (length g.state.stack + g.room) (length g.state.blocks + g.block_room) t
    state_done objects t fits = let sizes = within objects names g.scope.globals g.closure code sound t t.wants fits in (omega (arith, sizes.0, room), omega (arith, sizes.1, block_room))

    step_done : (objects : List Payload) (step : Step) → LeadsTo (λ t. FitsAt objects code t.wants t) step → HasRoom g step
    step_done objects (Goes t) fits = state_done objects t fits
    step_done objects (Tells x t) fits = state_done objects t fits
    step_done objects Stuck fits = fits

    move_done : (objects : List Payload) (m : Move) → SeenBelow (length objects) m → ((objects' : List Payload) → Grows objects objects' → AlwaysLeads objects' (λ t. FitsAt objects' code t.wants t) m) → HasNeeds objects g m
    move_done objects (Plainly step) there all = step_done objects step (all objects ([], sym (append-nil objects)))
    move_done objects (Loads c f) there all = λ objects' v grows has. step_done objects' (f v) (all objects' grows v has)
    move_done objects (Decides v f) there all = let here = all objects ([], sym (append-nil objects)) in (here.0, λ b. step_done objects (f b) (here.1 b))
    move_done objects (Manages m f) there all = ((_, slice_get-get_or objects m.number payload.None there), λ b. step_done objects (f b) (all objects ([], sym (append-nil objects)) b))
    move_done objects (Resolves v f) there all = ((_, slice_get-get_or objects v.number payload.None there), λ p. step_done objects (f p) (all objects ([], sym (append-nil objects)) p))
    move_done objects (Exits e f) there all = let here = all objects ([], sym (append-nil objects)) in (here.0, λ t v b. step_done objects (f t v b) (here.1 t v b))

    -- a frame that goes on can do what it does next
    pub can_move : (objects : List Payload) → FitsAt objects code g.state.wants g.state → HoldsBelow (length objects) g.state → IsMoving g.state.wants → HasNeeds objects g (moves (setting_of names code g) g.state.wants g.state)
    can_move objects fits below moving =
        move_done objects (moves (setting_of names code g) g.state.wants g.state) (seen_there (length objects) (setting_of names code g) g.state.wants g.state below.in_stack)
        (λ objects' grows. next_fits objects' names g.scope.globals g.closure code sound g.state g.state.wants (fits_grown objects objects' grows code g.state.wants g.state fits) moving)

  never_stuck : (objects : List Payload) (P : State → Type 0) (m : Move) → AlwaysLeads objects P m → MayLead objects m Stuck → ⊥
  never_stuck objects P (Plainly done) all may = subst (LeadsTo P) may all
  never_stuck objects P (Loads c f) all (v, has, is) = subst (LeadsTo P) is (all v has)
  never_stuck objects P (Decides v f) all (b, has, is) = subst (LeadsTo P) is (all.1 b)
  never_stuck objects P (Manages m f) all (b, manages, is) = subst (LeadsTo P) is (all b)
  never_stuck objects P (Resolves v f) all (p, has, is) = subst (LeadsTo P) is (all p)
  never_stuck objects P (Exits e f) all (t, v, b, exits, is) = subst (LeadsTo P) is (all.1 t v b)

  -- silent steps, and one more step of the same frame
  module _ (objects objects' : List Payload) (f g h : Framed) (silently : IsSilent objects names code f g) (grows : Grows objects objects') (same : IsSame g h) where
    settings : setting_of names code g ≡ setting_of names code f
    settings = ap (setting_with g.closure) silently.same.scope ∙ ap (λ (c : List Obj). setting_with c f.scope) silently.same.closure
      where
        setting_with : List Obj → Scope → Setting
        setting_with c s = record { code = code.code; names = names; globals = s.globals; closure = c; throws_under = under_any }

    globals_there : h.scope.globals.number < length objects'
    globals_there = subst (λ (s : Scope). s.globals.number < length objects') (sym same.scope) (omega (arith, silently.globals, length_grown objects objects' grows))

    holds : HoldsBelow (length objects') g.state
    holds = holds_more (length objects) (length objects') (length_grown objects objects' grows) g.state silently.below

    -- what is known behind the step
    module _ (xs : List Own) (step : Steps objects' (setting_of names code g) g.state xs h.state) where
      fits_on : FitsAt objects' code h.state.wants h.state
      fits_on = steps_fit objects' names g.scope.globals g.closure code sound g.state xs h.state (fits_grown objects objects' grows code g.state.wants g.state silently.fits) step

      stands_on : IsStanding silently.first h.state
      stands_on = steps_stand objects' (setting_of names code g) silently.first g.state h.state xs silently.stands step

      below_on : HearsBelow (length objects') xs → TellsBelow (length objects') xs × HoldsBelow (length objects') h.state
      below_on hears = steps_below objects' (setting_of names code g) g.state h.state xs (omega (arith, silently.globals, length_grown objects objects' grows)) holds hears step

      run_on : Runs objects' (setting_of names code f) f.state xs h.state
      run_on = on h.state (run_grown objects objects' grows (setting_of names code f) f.state g.state [] silently.run) (subst (λ (s : Setting). Steps objects' s g.state xs h.state) settings step)

    -- the step is silent too
    module _ (may : MayLead objects' (moves (setting_of names code g) g.state.wants g.state) (Goes h.state)) where
      later : (g.state.at < h.state.at) × (h.state.wants ≡ expect.Go)
      later = silent_later objects' (setting_of names code g) silently.first g.state h.state silently.stands (silent h.state may)

      pub silent_falls : g.state.at < h.state.at
      silent_falls = later.0

      pub silent_on : IsSilent objects' names code f h
      silent_on = record {
        fits = fits_on [] (silent h.state may);
        first = silently.first;
        stands = stands_on [] (silent h.state may);
        below = (below_on [] (silent h.state may) tt).1;
        globals = globals_there;
        moving = subst IsMoving (sym later.1) tt;
        run = run_on [] (silent h.state may);
        same = same_joined f g h silently.same same;
      }

    -- it tells an event
    pub tells_on : (first : List Payload) → IsRunning first names code f → (step : FrameStep) (x : Own) → told g.state.at step ≡ Some x → MayLead objects' (moves (setting_of names code g) g.state.wants g.state) (Tells x h.state) → HasTold objects' names code f step h
    tells_on first running step x is may =
        let told_step : Steps objects' (setting_of names code g) g.state (x ∷ []) h.state = telling x h.state may in
        let of : IsOf (h.state.last - 1) h.state x = events_told objects' (setting_of names code g) silently.first g.state h.state x silently.stands told_step in
        let here : g.state.at ≡ h.state.last - 1 = told_at g.state.at (h.state.last - 1) h.state step x is of in
        let below = below_on (x ∷ []) told_step (told_hears (length objects') g.state.at step x is) in
        let sames : IsSame f h = same_joined f g h silently.same same in
        let there : g.state.at < length code.code.code.instructions.items = unit_there objects names code g.state.wants g.state sound silently.fits silently.moving in
        record {
          event = x;
          told = subst (λ (n : ℕ). told n step ≡ Some x) here is;
          run = run_on (x ∷ []) told_step;
          of = of;
          may = steps_tell objects' names g.scope.globals g.closure code sound g.state (x ∷ []) h.state (fits_grown objects objects' grows code g.state.wants g.state silently.fits) told_step;
          below = below.0;
          running = record {
            sound = sound;
            fits = fits_on (x ∷ []) told_step;
            first = silently.first;
            stands = stands_on (x ∷ []) told_step;
            below = below.1;
            globals = globals_there;
            within = omega (arith, here, there);
            room = omega (arith, running.room, sames.room);
            block_room = omega (arith, running.block_room, sames.block_room);
          };
        }

  -- memory ran out in the unit that had begun
  pub cut_short : (objects objects' : List Payload) (f g h : Framed) → IsSilent objects names code f g → Grows objects objects' → h ≡ record g { state = begun g.state } → IsCut objects' code f h
  cut_short objects objects' f g h silently grows same =
      let low : HoldsBelow (length objects') g.state = holds_more (length objects) (length objects') (length_grown objects objects' grows) g.state silently.below in
      let cut : IsCut objects' code f (record g { state = begun g.state }) = record {
        begun = refl;
        there = unit_there objects names code g.state.wants g.state sound silently.fits silently.moving;
        within = (within objects names g.scope.globals g.closure code sound g.state g.state.wants silently.fits).0;
        below = record { in_stack = low.in_stack; in_locals = low.in_locals; in_blocks = low.in_blocks; in_slot = low.in_slot; in_wants = tt };
        keeps = λ first keeps. let kept = run_keeps objects (setting_of names code f) first f.state g.state [] keeps silently.run in record { slot = kept.slot; outer = kept.outer };
      } in
      subst (IsCut objects' code f) (sym same) cut

  -- a unit that tells isn't stuck
  pub told_there : (objects objects' : List Payload) (f g h : Framed) → IsSilent objects names code f g → Grows objects objects' → (step : FrameStep)
      → MayLead objects' (moves (setting_of names code g) g.state.wants g.state) (tells (told g.state.at step) h.state)
      → (x : Own) × (told g.state.at step ≡ Some x) × MayLead objects' (moves (setting_of names code g) g.state.wants g.state) (Tells x h.state)
  told_there objects objects' f g h silently grows step may = by_event (told g.state.at step) refl may
    where
      by_event : (o : Option Own) → told g.state.at step ≡ o → MayLead objects' (moves (setting_of names code g) g.state.wants g.state) (tells o h.state)
          → (x : Own) × (told g.state.at step ≡ Some x) × MayLead objects' (moves (setting_of names code g) g.state.wants g.state) (Tells x h.state)
      by_event None is may =
          absurd (never_stuck objects' (λ t. FitsAt objects' code t.wants t) (moves (setting_of names code g) g.state.wants g.state)
          (next_fits objects' names g.scope.globals g.closure code sound g.state g.state.wants (fits_grown objects objects' grows code g.state.wants g.state silently.fits) silently.moving) may)
      by_event (Some x) is may = (x, is, may)

-- a frame that was filled and hasn't begun runs
pub fresh_runs : (objects : List Payload) (names : List (List ℕ)) (code : Annotated) (number : ℕ) (entry : FrameRef) (scope : Scope) (closure : List Obj) (room block_room : ℕ) (args : List Obj) → IsSound names code → scope.globals.number < length objects
    → AllBelow (length objects) (numbers args) → code.code.code.max_stackdepth ≤ room → deepest code.notes ≤ block_room → IsRunning objects names code (record (unfilled code number entry scope closure room block_room) { state = started code.code None args })
fresh_runs objects names code number entry scope closure room block_room args sound globals low has_room has_blocks = record {
  sound = sound;
  fits = start_fits objects names code None args sound;
  first = None;
  stands = start_stands code.code None args;
  below = start_below (length objects) code.code None args tt low;
  globals = globals;
  within = omega arith;
  room = omega (arith, has_room);
  block_room = omega (arith, has_blocks);
}

-- a frame that runs goes on to run as objects are added
pub running_grown : (objects objects' : List Payload) (names : List (List ℕ)) (code : Annotated) (f : Framed) → Grows objects objects' → IsRunning objects names code f → IsRunning objects' names code f
running_grown objects objects' names code f grows running = record {
  sound = running.sound;
  fits = fits_grown objects objects' grows code f.state.wants f.state running.fits;
  first = running.first;
  stands = running.stands;
  below = holds_more (length objects) (length objects') (length_grown objects objects' grows) f.state running.below;
  globals = omega (arith, running.globals, length_grown objects objects' grows);
  within = running.within;
  room = running.room;
  block_room = running.block_room;
}
