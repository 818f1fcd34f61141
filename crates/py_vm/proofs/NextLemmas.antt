-- One more event: the frames of what runs stay, where a question stands, and what an event has to show, so that a machine turns.
use Rattle.std.proofs.Common.{◌≡◌, ◌≤◌, ◌+◌, ◌++◌, ℕ, suc, List, [], ◌∷◌, Some, refl, sym, ap, subst, ◌∙◌, length, length-append, arith, ◌⊎◌}
use Rattle.std.specs.Prelude.{Option, None, slice_get, slice_set}
use Rattle.py_objects.specs.declared.refs.FrameRef.{FrameRef}
use Rattle.py_objects.specs.declared.refs.PyBaseExceptionRef.{PyBaseExceptionRef}
use Rattle.py_objects.specs.declared.payload.CoroKind.{CoroKind}
use Rattle.py_objects.specs.declared.event.Event.{Event}
use Rattle.py_objects.specs.declared.event.DriveAnswer.{DriveAnswer}
use Rattle.py_objects.specs.Objects.{AllBelow, event_numbers}
use Rattle.py_objects.specs.Edits.{Kept}
use Rattle.py_objects.specs.Growth.{IsGrown, IsLonger}
use Rattle.py_objects.specs.Own.{whose}
use Rattle.py_objects.proofs.GrownLemmas.{objects_grow}
use Rattle.py_stack.specs.Slots.{Slots, topmost, top_of}
use Rattle.py_rows.specs.declared.expect.Expect.{Expect}
use Rattle.py_rows.specs.declared.expect.Expect.TheVariants as expect
use Rattle.py_frame.specs.Steps.{slot_taken}
use Rattle.py_frame.proofs.HearingLemmas.{slot_same}
use Rattle.py_run.specs.declared.drive.Question.{Question}
use Rattle.py_run.specs.Run.{Act, Posed, State, start, state_after, entered_in, depth, handled_among, after}
use Rattle.py_run.specs.Calls.{Setting}
use Rattle.py_run.specs.Generators.{Generator, generators_after}
use Rattle.py_run.specs.Coming.{Past, setting, MayCome}
use Rattle.py_run.proofs.OwnLemmas.{state_after-append, done_below, made_below}
use Rattle.py_vm.specs.declared.stage.Running.{Running}
use Rattle.py_vm.specs.declared.stage.Halted.{Halted}
use Rattle.py_vm.specs.declared.stage.Stage.{Stage}
use Rattle.py_vm.specs.declared.stage.Stage.TheVariants as stage
use Rattle.py_vm.specs.declared.machinery.Core.{Core}
use Rattle.py_vm.specs.Codes.{signatures_of}
use Rattle.py_vm.specs.Generators.{modes_of}
use Rattle.py_vm.specs.Machine.{posed, plan_of}
use Rattle.py_vm.specs.Stands.{AreApart, AreKept, AtStage, IsTold, Keeps, Plays, acts_of, caller_acts, caller_frames, frames_at, phase_of, slots_at, stacked}
use Rattle.py_vm.specs.Turns.{setting_at, past_at, AfterTurn, Turns}
use Rattle.py_vm.proofs.JournalLemmas.{acted_on, low_at, made_same, marked_on, nobody_on, runnable_on, stored_on, told_still}
use Rattle.py_vm.proofs.PlaysLemmas.{plays_rows}

-- as many frames are listed as activations run
one_more : (acts : List Act) (frames : List FrameRef) (entry : FrameRef) → length acts ≡ length frames → suc (length acts) ≡ length (frames ++ entry ∷ [])
one_more acts frames entry same = let one : length (frames ++ entry ∷ []) ≡ length frames + 1 = length-append frames (entry ∷ []) in omega (arith, same, one)

-- of those that called
caller_count : (events : List Event) (hs : List Halted) → length (caller_acts events hs) ≡ length (caller_frames hs)
caller_count events [] = refl
caller_count events (h ∷ hs) = one_more (caller_acts events hs) (caller_frames hs) h.running.frame.entry (caller_count events hs)

-- of all that run at a stage
pub frames_count : (events : List Event) (hs : List Halted) (s : Stage) → length (acts_of events hs s) ≡ length (frames_at hs s)
frames_count events hs stage.Idle = caller_count events hs
frames_count events hs stage.Begins = caller_count events hs
frames_count events hs stage.Asking = caller_count events hs
frames_count events hs (stage.Made r f) = caller_count events hs
frames_count events hs (stage.Going r) = one_more (caller_acts events hs) (caller_frames hs) r.frame.entry (caller_count events hs)
frames_count events hs (stage.Waiting h) = caller_count events (h ∷ hs)
frames_count events hs (stage.Due s how) = caller_count events hs

-- the drive that a machine makes is the next one of these
abbrev pub IsNext : Core → Question → List Posed → Type 0
IsNext m d asked = slice_get asked m.done ≡ Some (posed m.entered d)

-- a question of a run stands where one of the machine does, where what is in the slots is handled
pub setting_is : (m : Core) (d : Question) (s : Stage) (asked : List Posed) → Keeps m d s → handled_among (state_after start m.events).stack ≡ topmost m.slots → IsNext m d asked
    → setting (plan_of m.world.codes asked) (past_at m) ≡ setting_at m
setting_is m d s asked k handled is =
    let st : State = state_after start m.events in
    let at : ℕ → Option PyBaseExceptionRef → Setting = λ n e. record { signatures = signatures_of m.world.codes; depth = n; handled = e; generators = modes_of m.world.generators } in
    let deep : depth (plan_of m.world.codes asked) st ≡ m.entered + length m.frames =
    ap (λ n. entered_in (slice_get asked n) + length st.stack) k.follows.done ∙ ap (λ q. entered_in q + length st.stack) is
    ∙ ap (λ l. m.entered + length l) k.follows.stack ∙ ap (λ n. m.entered + n) (frames_count m.events m.callers s ∙ ap length (sym k.nested.frames)) in
    ap (λ n. at n (handled_among st.stack)) deep ∙ ap (at (m.entered + length m.frames)) handled

-- this machine with one more event, and otherwise with what a turn may change as that one has it
abbrev pub next_to : Core → Event → Core → Core
next_to m e n =
    record m { world = record m.world { store = n.world.store; generators = n.world.generators }; events = m.events ++ e ∷ []; done = n.done; made = n.made; frames = n.frames; callers = n.callers; slots = n.slots; raising = n.raising; stage = n.stage }

-- where a run is behind the event, what the journal keeps, and what runs
pub record Next (m : Core) (d : Question) (e : Event) (n : Core) : Type 0 where
  pub grown : IsLonger m.world.store n.world.store
  pub done : (after (state_after start m.events) e).done ≡ n.done
  pub phase : (after (state_after start m.events) e).phase ≡ phase_of n.stage
  pub stack : (after (state_after start m.events) e).stack ≡ acts_of (m.events ++ e ∷ []) n.callers n.stage
  pub made : length (after (state_after start m.events) e).made ≡ n.made
  pub modes : (asked : List Posed) → IsNext m d asked → generators_after (plan_of m.world.codes asked) (state_after start m.events) (modes_of m.world.generators) e ≡ modes_of n.world.generators
  pub told : IsTold m.world.codes m.globals n.world.store.made (m.events ++ e ∷ []) n.made
  pub kept : AreKept m.world.codes m.globals n.world.store.made (m.events ++ e ∷ []) n.made n.world.generators
  pub apart : AreApart n.callers
  pub frames : n.frames ≡ frames_at n.callers n.stage
  pub slots : n.slots ≡ slots_at n.callers n.stage
  pub at_stage : AtStage m.world.codes m.globals n.world.store.made (m.events ++ e ∷ []) n.world.generators d n.made n.callers n.stage

-- the machine turns
pub next_law : (m : Core) (d : Question) (s : Stage) (e : Event) (a : Option DriveAnswer) (n : Core) → Keeps m d s → Next m d e n → AfterTurn m (next_to m e n) e a
    → ((asked : List Posed) → IsNext m d asked → MayCome (plan_of m.world.codes asked) n.world.store.made (past_at m) e) → Turns m d s a (next_to m e n)
next_law m d s e a n k x ends comes =
    let next = state_after-append start m.events e in
    record {
      keeps = record {
        follows = record {
          done = ap (λ (y : State). y.done) next ∙ x.done;
          phase = ap (λ (y : State). y.phase) next ∙ x.phase;
          stack = ap (λ (y : State). y.stack) next ∙ x.stack;
          made = ap (λ (y : State). length y.made) next ∙ x.made;
        };
        stored = stored_on m.world.zoo m.globals m.world.declarations m.world.store n.world.store x.grown k.stored;
        marked = marked_on m.world.store n.world.store m.events e x.grown k.marked;
        runnable = runnable_on m.world.codes m.world.store.made n.world.store.made x.grown.objects k.runnable;
        told = x.told;
        kept = x.kept;
        nested = record {
          apart = x.apart;
          frames = x.frames;
          slots = x.slots;
        };
        at_stage = x.at_stage;
      };
      added = e;
      events = refl;
      kept = record { grows = x.grown; codes = refl; globals = refl; entered = refl; failed = refl; state = refl };
      ends = ends;
      comes = comes;
      follows = λ asked is. ap (λ (st : State). past m.events st (generators_after (plan_of m.world.codes asked) (state_after start m.events) (modes_of m.world.generators) e)) (sym next)
          ∙ ap (λ (xs : List Generator). past m.events (state_after start (m.events ++ e ∷ [])) xs) (x.modes asked is);
    }
  where
    past : List Event → State → List Generator → Past
    past events st xs = record { events = events ++ e ∷ []; state = st; generators = xs }

module _ (m : Core) (s : Stage) (store : Kept) (e : Event) (d : Question) (k : Keeps m d s) (grown : IsGrown m.world.store store)
    (same : (after (state_after start m.events) e).made ≡ (state_after start m.events).made) (below : AllBelow (length store.made) (event_numbers e)) where
  -- the journal behind an event of the drive
  pub drive_told : 0 ≡ whose e → IsTold m.world.codes m.globals store.made (m.events ++ e ∷ []) m.made
  drive_told nobody =
      let fit = grown.objects.fit k.stored.readable.fit in
      nobody_on m.world.codes m.globals store.made m.events m.made e nobody (made_same m.events e same) fit below
      (told_still m.world.codes m.globals m.world.store.made store.made m.events m.made (objects_grow m.world.store store grown) fit grown.frames k.told)

  -- and behind one of an activation that plays on
  pub played_told : (r : Running) (slot : Option PyBaseExceptionRef) → r.act ≡ whose e → Plays m.world.codes m.globals store.made (m.events ++ e ∷ []) r slot → IsTold m.world.codes m.globals store.made (m.events ++ e ∷ []) m.made
  played_told r slot mine p =
      let made = made_same m.events e same in
      acted_on m.world.codes m.globals m.world.store.made store.made m.events m.made e r p.at p.activation (objects_grow m.world.store store grown) mine p.numbered (low_at m.made _ p.at _ (ap length made ∙ k.follows.made) p.is_made) made p.is_made
      (plays_rows m.world.codes m.globals store.made (m.events ++ e ∷ []) r slot p) (grown.objects.fit k.stored.readable.fit) below grown.frames k.told

-- what is in the slots of a machine whose frame takes an input, as the frame left its own or where it begins
pub slots_heard : (k : Option CoroKind) (outer slots : Slots) (left : Option PyBaseExceptionRef) (x : Expect) → (x ≡ expect.Start) ⊎ (top_of slots ≡ left) → slots ≡ stacked k (top_of slots) outer
    → slots ≡ stacked k (slot_taken (top_of slots) x left) outer
slots_heard k outer slots left x fits is = is ∙ ap (λ y. stacked k y outer) (sym (slot_same (top_of slots) left x fits))

-- and of one whose frame has made a step
pub slots_left : (k : Option CoroKind) (outer slots : Slots) (before slot : Option PyBaseExceptionRef) → slots ≡ stacked k before outer → slice_set slots 0 slot ≡ stacked k slot outer
slots_left None outer slots before slot is = ap (λ l. slice_set l 0 slot) is
slots_left (Some kind) outer slots before slot is = ap (λ l. slice_set l 0 slot) is

-- at most as many drives are done, and activations made, as there are events
pub done_counted : (m : Core) (d : Question) (s : Stage) → Keeps m d s → m.done ≤ length m.events
done_counted m d s k = subst (λ n. n ≤ length m.events) k.follows.done (done_below m.events)

pub made_counted : (m : Core) (d : Question) (s : Stage) → Keeps m d s → m.made ≤ length m.events
made_counted m d s k = subst (λ n. n ≤ length m.events) k.follows.made (made_below m.events)
