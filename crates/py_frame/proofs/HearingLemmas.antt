-- Frames that take an input, and what holds behind a step.
use Rattle.std.proofs.Common.{◌≡◌, ◌⊎◌, ◌∙◌, ◌++◌, ◌+◌, ◌-◌, ◌<◌, ℕ, List, [], ◌∷◌, inl, inr, None, Some, refl, sym, ap, subst, length, arith}
use Rattle.std.specs.Prelude.{Option, slice_get}
use Rattle.py_objects.specs.declared.refs.PyBaseExceptionRef.{PyBaseExceptionRef}
use Rattle.py_objects.specs.declared.payload.Payload.{Payload}
use Rattle.py_objects.specs.declared.event.GotAnswer.TheVariants as got
use Rattle.py_objects.specs.declared.event.ResumeHow.TheVariants as how
use Rattle.py_objects.specs.declared.event.Ending.TheVariants as ending
use Rattle.py_objects.specs.declared.scope.Scope.{Scope}
use Rattle.py_objects.specs.Objects.{AllBelow, number_if}
use Rattle.py_objects.specs.Growth.{Grows}
use Rattle.py_objects.specs.Own.{Own, Resumes, Asks, Gets, Rounds, Yields, Ends}
use Rattle.py_check.specs.declared.note.BlockNote.{BlockNote}
use Rattle.py_check.specs.declared.note.Note.TheVariants.{Live}
use Rattle.py_check.specs.declared.annotated.Annotated.{Annotated}
use Rattle.py_rows.specs.declared.block.Block.{Block}
use Rattle.py_rows.specs.declared.block.BlockType.{BlockType}
use Rattle.py_rows.specs.declared.block.BlockType.TheVariants.{Loop, TryExcept, Finally, FinallyHandler, ExceptHandler}
use Rattle.py_rows.specs.declared.expect.Expect.{Expect}
use Rattle.py_rows.specs.declared.expect.Expect.TheVariants as expect
use Rattle.py_rows.specs.States.{Setting, State, waiting}
use Rattle.py_rows.specs.Handled.{handled_by, handled_in}
use Rattle.py_rows.specs.Slot.{Keeps, AllKeep, KeepsSlot}
use Rattle.py_rows.specs.RunOfRows.{Hears, Steps, hearing as hearing_step, Runs, none, on}
use Rattle.py_rows.specs.Standing.{IsPlaced, IsOf}
use Rattle.py_rows.specs.Below.{TypeBelow, BlocksBelow, HearsBelow, TellsBelow}
use Rattle.py_rows.specs.Fitting.{AreBlocks, FitsAt}
use Rattle.py_rows.specs.Laws.{AllMayTell, IsMoving}
use Rattle.py_rows.proofs.TypingLemmas.{typed_whole}
use Rattle.py_rows.proofs.StepLemmas.{steps_fit}
use Rattle.py_rows.proofs.StandingLemmas.{steps_stand, steps_below}
use Rattle.py_rows.proofs.GrowingLemmas.{run_grown}
use Rattle.py_rows.proofs.UnderLemmas.{any_is_under}
use Rattle.py_frame.specs.Frames.{Framed, setting_of, handed}
use Rattle.py_frame.specs.Steps.{Expects, GivesBack, IfTold, NamesHandled, events, expected, got_of, heard, hearing, slot_taken, taken, told, unless_ended}
use Rattle.py_frame.specs.Running.{IsRunning, IsSame, SlotFits, HasTold, IsCut, IsStepped}
use Rattle.py_frame.specs.declared.input.Input.{Input}
use Rattle.py_frame.specs.declared.input.Input.TheVariants as input
use Rattle.py_frame.specs.declared.input.FrameStep.{FrameStep}
use Rattle.py_frame.specs.declared.input.FrameStep.TheVariants as frame_step
use Rattle.py_objects.proofs.GrowthLemmas.{length_grown}
use Rattle.py_frame.proofs.RunningLemmas.{run_joined, run_keeps}

-- a frame that hears hasn't ended
not_ended : (objects : List Payload) (setting : Setting) (x y z : Expect) (own : Own) → Hears objects setting x own y → unless_ended x z ≡ z
not_ended objects setting expect.Start y z own hears = refl
not_ended objects setting expect.Go y z own hears = refl
not_ended objects setting (expect.Answer w) y z own hears = refl
not_ended objects setting expect.Resume y z own hears = refl
not_ended objects setting (expect.Heard w) y z own hears = refl
not_ended objects setting expect.Ended y z own hears = absurd hears

-- a frame that takes an input goes on
pub taken_moves : (objects : List Payload) (setting : Setting) (x : Expect) (i : Input) → Expects objects setting x i → IsMoving (taken i x)
taken_moves objects setting x input.Start expects = subst IsMoving (sym (not_ended objects setting x _ expect.Go (Resumes 0 how.Start) (expects 0))) tt
taken_moves objects setting x input.Go expects = expects 0
taken_moves objects setting x (input.Send v) expects = subst IsMoving (sym (not_ended objects setting x _ (expect.Heard (got.Value v)) (Resumes 0 (how.Send v)) (expects 0))) tt
taken_moves objects setting x (input.Throw e) expects = subst IsMoving (sym (not_ended objects setting x _ (expect.Heard (got.Raise e)) (Resumes 0 (how.Throw e)) (expects 0))) tt
taken_moves objects setting x (input.Answer w) expects = subst IsMoving (sym (not_ended objects setting x _ (expect.Heard (got_of w)) (Gets 0 (got_of w)) (expects 0))) tt

-- taking it is a step of the run, or none
heard_run : (objects : List Payload) (names : List (List ℕ)) (code : Annotated) (f : Framed) (s : State) (i : Input) → Expects objects (setting_of names code f) s.wants i
    → (k : ℕ) → Runs objects (setting_of names code f) s (events (heard k i)) (waiting (taken i s.wants) s)
heard_run objects names code f s input.Start expects k = on _ none (hearing_step (Resumes k how.Start) (taken input.Start s.wants) (expects k) tt)
heard_run objects names code f s input.Go expects k = none
heard_run objects names code f s (input.Send v) expects k = on _ none (hearing_step (Resumes k (how.Send v)) (taken (input.Send v) s.wants) (expects k) tt)
heard_run objects names code f s (input.Throw e) expects k = on _ none (hearing_step (Resumes k (how.Throw e)) (taken (input.Throw e) s.wants) (expects k) refl)
heard_run objects names code f s (input.Answer w) expects k = on _ none (hearing_step (Gets k (got_of w)) (taken (input.Answer w) s.wants) (expects k) tt)

-- a slot that is handed in where the frame hasn't begun, or as the frame left it, is the one that it has
pub slot_same : (slot left : Option PyBaseExceptionRef) (x : Expect) → (x ≡ expect.Start) ⊎ (slot ≡ left) → slot_taken slot x left ≡ slot
slot_same slot left x (inl start) = ap (λ (y : Expect). slot_taken slot y left) start
slot_same slot left expect.Start (inr same) = refl
slot_same slot left expect.Go (inr same) = sym same
slot_same slot left (expect.Answer w) (inr same) = sym same
slot_same slot left expect.Resume (inr same) = sym same
slot_same slot left (expect.Heard w) (inr same) = sym same
slot_same slot left expect.Ended (inr same) = sym same

pub handed_hears : (objects : List Payload) (slot : Option PyBaseExceptionRef) (i : Input) (s : State) → SlotFits objects s slot → hearing slot i s ≡ waiting (taken i s.wants) (handed slot s)
handed_hears objects slot i s slots = ap (λ (x : Option PyBaseExceptionRef). waiting (taken i s.wants) (handed x s)) (slot_same slot s.slot s.wants slots.left)

no_blocks : (objects : List Payload) (bs : List Block) (cs : List BlockNote) → cs ≡ [] → AreBlocks objects bs cs → bs ≡ []
no_blocks objects [] cs empty are = refl
no_blocks objects (b ∷ bs) [] empty are = absurd are
no_blocks objects (b ∷ bs) (c ∷ cs) empty are = cc

module _ (objects : List Payload) (names : List (List ℕ)) (code : Annotated) where
  -- a frame that hasn't begun has no blocks
  start_blocks : (f : Framed) → IsRunning objects names code f → f.state.wants ≡ expect.Start → f.state.blocks ≡ []
  start_blocks f running start =
      let fits : FitsAt objects code expect.Start f.state = subst (λ (x : Expect). FitsAt objects code x f.state) start running.fits in
      let note : Some (Live fits.1.kinds fits.1.block_notes) ≡ Some (Live [] []) = sym fits.1.note ∙ ap (λ (n : ℕ). slice_get code.notes n) fits.0 ∙ (typed_whole running.sound.shapes code running.sound.typed).start in
      let nothing : fits.1.block_notes ≡ [] = cc in
      no_blocks objects f.state.blocks fits.1.block_notes nothing fits.1.blocks

  slot_fits : (slot : Option PyBaseExceptionRef) (x : Expect) (s : State) → x ≡ expect.Start → FitsAt objects code x s → FitsAt objects code x (handed slot s)
  slot_fits slot x s start fits =
      let first : FitsAt objects code expect.Start s = subst (λ (y : Expect). FitsAt objects code y s) start fits in
      let f = first.1 in
      let same : FitsAt objects code expect.Start (handed slot s) =
      (first.0, record { kinds = f.kinds; block_notes = f.block_notes; note = f.note; holds = f.holds; blocks = f.blocks; carries = f.carries; locals = f.locals }) in
      subst (λ (y : Expect). FitsAt objects code y (handed slot s)) (sym start) same

  slot_placed : (slot : Option PyBaseExceptionRef) (at : ℕ) (x : Expect) (s : State) → x ≡ expect.Start → IsPlaced at x s → IsPlaced at x (handed slot s)
  slot_placed slot at x s start placed =
      subst (λ (y : Expect). IsPlaced at y (handed slot s)) (sym start) (let here : IsPlaced at expect.Start s = subst (λ (y : Expect). IsPlaced at y s) start placed in here)

  -- a frame is handed the slot
  handed_runs : (f : Framed) (slot : Option PyBaseExceptionRef) → IsRunning objects names code f → SlotFits objects f.state slot → IsRunning objects names code (record f { state = handed slot f.state })
  handed_runs f slot running slots = elim slots.left [ inl start ↦ first start | inr same ↦ again same ]
    where
      first : f.state.wants ≡ expect.Start → IsRunning objects names code (record f { state = handed slot f.state })
      first start =
          let blocks : f.state.blocks ≡ [] = start_blocks f running start in
          record {
            sound = running.sound;
            fits = slot_fits slot f.state.wants f.state start running.fits;
            first = slot;
            stands = record {
              placed = slot_placed slot (f.state.last - 1) f.state.wants f.state start running.stands.placed;
              slot = record { slot = sym (ap (handled_in slot) blocks); outer = subst (AllKeep slot) (sym blocks) tt };
            };
            below = record { in_stack = running.below.in_stack; in_locals = running.below.in_locals; in_blocks = running.below.in_blocks; in_slot = slots.below; in_wants = running.below.in_wants };
            globals = running.globals;
            within = running.within;
            room = running.room;
            block_room = running.block_room;
          }

      again : slot ≡ f.state.slot → IsRunning objects names code (record f { state = handed slot f.state })
      again same = subst (λ (x : Option PyBaseExceptionRef). IsRunning objects names code (record f { state = handed x f.state })) (sym same) running

  -- and hears an event
  event_runs : (f : Framed) (x : Own) (w : Expect) → IsRunning objects names code f → Hears objects (setting_of names code f) f.state.wants x w → HearsBelow (length objects) (x ∷ []) → IsRunning objects names code (record f { state = waiting w f.state })
  event_runs f x w running hears named =
      let step : Steps objects (setting_of names code f) f.state (x ∷ []) (waiting w f.state) = hearing_step x w hears (any_is_under (handled_in None f.state.blocks) x) in
      record {
        sound = running.sound;
        fits = steps_fit objects names f.scope.globals f.closure code running.sound f.state (x ∷ []) (waiting w f.state) running.fits step;
        first = running.first;
        stands = steps_stand objects (setting_of names code f) running.first f.state (waiting w f.state) (x ∷ []) running.stands step;
        below = (steps_below objects (setting_of names code f) f.state (waiting w f.state) (x ∷ []) running.globals running.below named step).1;
        globals = running.globals;
        within = running.within;
        room = running.room;
        block_room = running.block_room;
      }

  input_runs : (f : Framed) (i : Input) → IsRunning objects names code f → Expects objects (setting_of names code f) f.state.wants i → (k : ℕ) → HearsBelow (length objects) (events (heard k i))
      → IsRunning objects names code (record f { state = waiting (taken i f.state.wants) f.state })
  input_runs f input.Start running expects k named = event_runs f (Resumes k how.Start) (taken input.Start f.state.wants) running (expects k) named
  input_runs f input.Go running expects k named = running
  input_runs f (input.Send v) running expects k named = event_runs f (Resumes k (how.Send v)) (taken (input.Send v) f.state.wants) running (expects k) named
  input_runs f (input.Throw e) running expects k named = event_runs f (Resumes k (how.Throw e)) (taken (input.Throw e) f.state.wants) running (expects k) named
  input_runs f (input.Answer w) running expects k named = event_runs f (Gets k (got_of w)) (taken (input.Answer w) f.state.wants) running (expects k) named

  -- a frame that takes an input runs
  pub hearing_runs : (f : Framed) (slot : Option PyBaseExceptionRef) (i : Input) → IsRunning objects names code f → SlotFits objects f.state slot → Expects objects (setting_of names code f) f.state.wants i
      → (k : ℕ) → HearsBelow (length objects) (events (heard k i))
      → IsRunning objects names code (record f { state = hearing slot i f.state })
  hearing_runs f slot i running slots expects k named =
      subst (λ (s : State). IsRunning objects names code (record f { state = s })) (sym (handed_hears objects slot i f.state slots)) (input_runs (record f { state = handed slot f.state }) i (handed_runs f slot running slots) expects k named)

-- what a step that told an event leaves: what it expects, what is handled, and what it gives back
told_expects : (n : ℕ) (t : State) (step : FrameStep) (x : Own) → told n step ≡ Some x → IsOf n t x → (t.wants ≡ expected step) × NamesHandled t step
told_expects n t (frame_step.Ask r own) x is of = let same : Asks n r own ≡ x = cc in let here = subst (IsOf n t) (sym same) of in (here.2, here.1)
told_expects n t frame_step.Round x is of = let same : Rounds n ≡ x = cc in ((subst (IsOf n t) (sym same) of).1, tt)
told_expects n t (frame_step.Yield v) x is of = let same : Yields n v ≡ x = cc in ((subst (IsOf n t) (sym same) of).1, tt)
told_expects n t (frame_step.Return v) x is of = let same : Ends n (ending.Return v) ≡ x = cc in ((subst (IsOf n t) (sym same) of).1, tt)
told_expects n t (frame_step.Raise e) x is of = let same : Ends n (ending.Raise e) ≡ x = cc in ((subst (IsOf n t) (sym same) of).1, tt)
told_expects n t frame_step.NoMemory x is of = cc

ended_gives : (first : Option PyBaseExceptionRef) (n : ℕ) (t : State) → IsPlaced n t.wants t → KeepsSlot first t → t.wants ≡ expect.Ended → t.slot ≡ first
ended_gives first n t placed keeps ended =
    let here : IsPlaced n expect.Ended t = subst (λ (x : Expect). IsPlaced n x t) ended placed in keeps.slot ∙ ap (handled_in first) here.1

-- what the slot held at first is among the objects, where what it holds is and what handlers kept
kept_below : (n : ℕ) (first : Option PyBaseExceptionRef) (typ : BlockType) (outer : List Block) → TypeBelow n typ → Keeps typ (handled_in first outer) → AllBelow n (number_if (handled_by typ (handled_in first outer))) → AllBelow n (number_if (handled_in first outer))
kept_below n first Loop outer low keeps handled = handled
kept_below n first (TryExcept handler) outer low keeps handled = handled
kept_below n first (Finally handler) outer low keeps handled = handled
kept_below n first (FinallyHandler r kept) outer low keeps handled = subst (λ (x : Option PyBaseExceptionRef). AllBelow n (number_if x)) keeps low.1
kept_below n first (ExceptHandler e kept) outer low keeps handled = subst (λ (x : Option PyBaseExceptionRef). AllBelow n (number_if x)) keeps low.1

first_below : (n : ℕ) (first : Option PyBaseExceptionRef) (blocks : List Block) → BlocksBelow n blocks → AllKeep first blocks → AllBelow n (number_if (handled_in first blocks)) → AllBelow n (number_if first)
first_below n first [] low keep handled = handled
first_below n first (b ∷ blocks) low keep handled = first_below n first blocks low.1 keep.1 (kept_below n first b.typ blocks low.0 keep.0 handled)

if_told : (step : FrameStep) (P : Type 0) → P → IfTold step P
if_told (frame_step.Ask r own) P p = p
if_told frame_step.Round P p = p
if_told (frame_step.Yield v) P p = p
if_told (frame_step.Return v) P p = p
if_told (frame_step.Raise e) P p = p
if_told frame_step.NoMemory P p = tt

module _ (objects objects' : List Payload) (names : List (List ℕ)) (code : Annotated) (slot : Option PyBaseExceptionRef) (i : Input) (f h : Framed) (slots : SlotFits objects f.state slot) (grows : Grows objects objects') where
  -- the frame that took the input, and went on
  abbrev took : Framed
  took = record f { state = hearing slot i f.state }

  heard_there : waiting (taken i f.state.wants) (handed slot f.state) ≡ took.state
  heard_there = sym (handed_hears objects slot i f.state slots)

  pub stepped_told : (step : FrameStep) → Expects objects (setting_of names code f) f.state.wants i → HasTold objects' names code took step h → IsSame took h → IsStepped objects' names code slot i f step h
  stepped_told step expects has same =
      let setting : Setting = setting_of names code f in
      let hears : (k : ℕ) → Runs objects setting (handed slot f.state) (events (heard k i)) took.state = λ k. subst (λ (t : State). Runs objects setting (handed slot f.state) (events (heard k i)) t) heard_there (heard_run objects names code f (handed slot f.state) i expects k) in
      let before : (k : ℕ) → Runs objects' setting (handed slot f.state) (events (heard k i)) took.state = λ k. run_grown objects objects' grows setting (handed slot f.state) took.state (events (heard k i)) (hears k) in
      let behind : Runs objects' setting took.state (events (told (h.state.last - 1) step)) h.state = subst (λ (o : Option Own). Runs objects' setting took.state (events o) h.state) (sym has.told) has.run in
      let whole : (k : ℕ) → Runs objects' setting (handed slot f.state) (events (heard k i) ++ events (told (h.state.last - 1) step)) h.state =
      λ k. run_joined objects' setting (handed slot f.state) took.state h.state (events (heard k i)) (events (told (h.state.last - 1) step)) (before k) behind in
      let known = told_expects (h.state.last - 1) h.state step has.event has.told has.of in
      record {
        extends = λ k. if_told step _ (λ first past run. run_joined objects' setting first (handed slot f.state) h.state past (events (heard k i) ++ events (told (h.state.last - 1) step)) run (whole k));
        expects = known.0;
        own = known.1;
        may = subst (λ (o : Option Own). AllMayTell objects' code.code (events o)) (sym has.told) has.may;
        told = subst (λ (o : Option Own). TellsBelow (length objects') (events o)) (sym has.told) has.below;
        given_back =
            let kept : (first : Option PyBaseExceptionRef) → KeepsSlot first (handed slot f.state) → KeepsSlot first h.state = λ first keeps. run_keeps objects' setting first (handed slot f.state) h.state _ keeps (whole 0) in
            (kept, λ ended first keeps. ended_gives first (h.state.last - 1) h.state has.running.stands.placed (kept first keeps) ended);
        running = has.running;
        same = record { code = same.code; entry = same.entry; scope = same.scope; closure = same.closure; room = same.room; block_room = same.block_room };
      }

  -- it has ended where memory ran out
  pub stepped_cut : (k : Framed) → IsRunning objects names code took → IsCut objects' code took k → IsSame took k
      → h ≡ record k { state = record k.state { blocks = []; slot = h.state.slot; wants = expect.Ended }; block_room = h.block_room } → GivesBack k.state h.state
      → h.block_room ≡ length k.state.blocks + k.block_room → IsStepped objects' names code slot i f frame_step.NoMemory h
  stepped_cut k running cut same is back room = subst (λ (x : Framed). IsStepped objects' names code slot i f frame_step.NoMemory x) (sym is) stepped
    where
      ended : Framed
      ended = record k { state = record k.state { blocks = []; slot = h.state.slot; wants = expect.Ended }; block_room = h.block_room }

      globals : k.scope.globals.number < length objects'
      globals = subst (λ (s : Scope). s.globals.number < length objects') (sym same.scope) (omega (arith, running.globals, length_grown objects objects' grows))

      -- the slot is as before the frame was entered
      given : GivesBack (handed slot f.state) h.state
      given first keeps = back first (cut.keeps first (subst (KeepsSlot first) heard_there (record { slot = keeps.slot; outer = keeps.outer })))

      slot_below : AllBelow (length objects') (number_if h.state.slot)
      slot_below =
          let keeps : KeepsSlot running.first k.state = cut.keeps running.first running.stands.slot in
          let Below : Option PyBaseExceptionRef → Type 0 = λ x. AllBelow (length objects') (number_if x) in
          subst Below (sym (back running.first keeps)) (first_below (length objects') running.first k.state.blocks cut.below.in_blocks keeps.outer (subst Below keeps.slot cut.below.in_slot))

      runs : IsRunning objects' names code ended
      runs = record {
        sound = running.sound;
        fits = (refl, cut.within);
        first = running.first;
        stands = record { placed = (omega (arith, cut.begun), refl); slot = record { slot = back running.first (cut.keeps running.first running.stands.slot); outer = tt } };
        below = record { in_stack = cut.below.in_stack; in_locals = cut.below.in_locals; in_blocks = tt; in_slot = slot_below; in_wants = tt };
        globals = globals;
        within = omega (arith, cut.begun, cut.there);
        room = omega (arith, running.room, same.room);
        block_room = omega (arith, running.block_room, same.block_room, room);
      }

      stepped : IsStepped objects' names code slot i f frame_step.NoMemory ended
      stepped = record {
        extends = λ k. tt;
        expects = refl;
        own = tt;
        may = tt;
        told = tt;
        given_back = (λ first keeps. record { slot = given first keeps; outer = tt }, λ ended. given);
        running = runs;
        same = record { code = same.code; entry = same.entry; scope = same.scope; closure = same.closure; room = same.room; block_room = omega (arith, same.block_room, room) };
      }
