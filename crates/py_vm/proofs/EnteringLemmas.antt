-- Activations that are entered: a function's as it was made, a generator's where a question enters it, and one that becomes a generator.
use Rattle.std.proofs.Common.{◌≡◌, ◌++◌, ℕ, List, [], ◌∷◌, Some, Bool, true, false, refl, sym, ap, subst, ◌∙◌, length, ◌<◌, inl, inr, arith, ◌⊎◌}
use Rattle.std.specs.Prelude.{Option, None, drop, ◌||◌, ◌==◌}
use Rattle.py_code.specs.declared.flags.TheConstants.CodeFlags.{IS_GENERATOR, IS_COROUTINE}
use Rattle.py_check.specs.WholeCode.{counts_if}
use Rattle.py_check.specs.declared.note.Kind.TheVariants as kind
use Rattle.py_rows.specs.declared.expect.Wanted.TheVariants as want
use Rattle.py_objects.specs.declared.refs.PyBaseExceptionRef.{PyBaseExceptionRef}
use Rattle.py_objects.specs.declared.payload.Payload.{Payload}
use Rattle.py_objects.specs.declared.payload.Payload.TheVariants as payload
use Rattle.py_objects.specs.declared.payload.CoroKind.{CoroKind}
use Rattle.py_objects.specs.declared.request.Request.{Request}
use Rattle.py_objects.specs.declared.event.ResumeHow.{ResumeHow}
use Rattle.py_objects.specs.declared.event.ResumeHow.TheVariants as how
use Rattle.py_objects.specs.declared.event.Event.{Event}
use Rattle.py_objects.specs.declared.event.Event.TheVariants as event
use Rattle.py_objects.specs.Objects.{as_object, number_if, how_numbers, AllBelow, HasPayload, Obj}
use Rattle.py_objects.specs.Growth.{Grows, IsGrown}
use Rattle.py_objects.specs.Own.{whose, Own, Resumes}
use Rattle.py_objects.specs.Edits.{Kept}
use Rattle.py_objects.proofs.GrowthLemmas.{below_more, length_grown, plainly_grows, grows_plainly_refl}
use Rattle.py_objects.proofs.GrownLemmas.{objects_grow, grown_refl, grown_longer, longer_refl}
use Rattle.py_coro.specs.Modes.{Mode, Fresh, Suspended as Left, Running as Entered, Closed}
use Rattle.py_coro.specs.Coros.{entered}
use Rattle.py_stack.specs.Slots.{Slots, top_of}
use Rattle.py_rows.specs.declared.expect.Expect.{Expect}
use Rattle.py_rows.specs.declared.expect.Expect.TheVariants as expect
use Rattle.py_rows.specs.Answers.{HasKind}
use Rattle.py_rows.specs.States as rows
use Rattle.py_rows.specs.States.{State as FrameState}
use Rattle.py_rows.specs.RunOfRows.{is_thrown_into, Runs, started, none as still}
use Rattle.py_rows.specs.Laws.{IsMoving, RaisedThere}
use Rattle.py_rows.specs.Signature.{kind_by}
use Rattle.py_frame.specs.declared.input.Input.TheVariants as input
use Rattle.py_frame.specs.Frames.{handed}
use Rattle.py_frame.specs.Steps.{Expects, heard, taken}
use Rattle.py_run.specs.declared.drive.Question.{Question}
use Rattle.py_run.specs.Drives.{request_of}
use Rattle.py_run.specs.Run.{Made, Posed, start, state_after}
use Rattle.py_run.specs.Generators.{running_at}
use Rattle.py_run.specs.Coming.{IsEntered, Starts}
use Rattle.py_vm.specs.declared.stage.Running.{Running}
use Rattle.py_vm.specs.declared.stage.Halted.{Halted}
use Rattle.py_vm.specs.declared.stage.Suspended.{Suspended}
use Rattle.py_vm.specs.declared.stage.Stage.{Stage}
use Rattle.py_vm.specs.declared.stage.Stage.TheVariants as stage
use Rattle.py_vm.specs.declared.generators.KeptGenerator.{KeptGenerator}
use Rattle.py_vm.specs.declared.machinery.Core.{Core}
use Rattle.py_vm.specs.Courses.{EntersBy, TakesThrows}
use Rattle.py_vm.specs.Generators.{changed_at, entered_at, generator_asked, is_close, kept_at, modes_of, without_activation}
use Rattle.py_vm.specs.Machine.{plan_of}
use Rattle.py_vm.specs.Stands.{AreEach, AreSingle, HasEntered, IsApart, IsFresh, IsGoing, IsInside, IsLeft, IsOutside, IsUnentered, Keeps, KeepsIn, Plays, first_slot, slots_in, stacked}
use Rattle.py_vm.specs.Codes.{signature_in}
use Rattle.py_vm.specs.Turns.{past_at, entered_by, heard_by, input_of, resumed_by, setting_at, IsEntering, Turns}
use Rattle.py_vm.proofs.CallsLemmas.{signature_at}
use Rattle.py_vm.proofs.PlaysLemmas.{plays_hears, setting_in}
use Rattle.py_vm.proofs.KeptLemmas.{changed_twice, kept_changed, modes_entered, modes_none_run, no_ones_outside, other_way, outside_at, outside_itself, single_changed}
use Rattle.py_vm.proofs.ChainLemmas.{Anyone, AreHalted, IsCarried, acts_still, all_others, carried_same, each_still, first_holds, halted_still, inside_halted, inside_on, slots_low, slots_shape}
use Rattle.py_vm.proofs.ChangesLemmas.{IsStill, each_at, entered_carried, entered_each}
use Rattle.py_vm.proofs.NextLemmas.{next_law, played_told, slots_heard}
use Rattle.py_vm.proofs.QuestionsLemmas.{IsOpen, resumes_there}
use Rattle.py_vm.proofs.AskedLemmas.{AskedBy}
use Rattle.py_vm.proofs.TurnsLemmas.{apart_of, frames_of, slots_of, stack_of, IsTheirs}
use Rattle.py_rows.specs.Slot.{KeepsSlot}
use Rattle.py_rows.proofs.RunLemmas.{runs_keep_slot}
use Rattle.py_rows.specs.Fitting.{FitsBut, FitsAt}
use Rattle.py_rows.proofs.HandledLemmas.{handled_there}

-- a frame that hasn't begun, and of whose run nothing was told, is where a run begins that has this in the slot
module _ (m : Core) (r : Running) (f : IsFresh m.world.codes m.globals m.world.store.made m.events r) (slot : Option PyBaseExceptionRef) where
  begun_run : Runs m.world.store.made (setting_in m.world.codes m.globals f.plays.code r.frame.closure) (started f.plays.code.code slot f.plays.activation.args) f.plays.told (handed slot r.frame.state)
  begun_run =
      let setting : rows.Setting = setting_in m.world.codes m.globals f.plays.code r.frame.closure in
      let begun : FrameState = started f.plays.code.code slot f.plays.activation.args in
      subst (λ (t : FrameState). Runs m.world.store.made setting begun f.plays.told (handed slot t)) (sym f.begins) (subst (λ (ts : List Own). Runs m.world.store.made setting begun ts begun) (sym f.unheard) still)

-- the activation of a function that was made is entered, and its frame hears so, with what is in the slot
pub entered_law : (m : Core) (d : Question) (r : Running) (f : Obj) → r.kind ≡ None → Keeps m d (stage.Made r f) → Turns m d (stage.Made r f) None (entered_by m r)
entered_law m d r f plain k =
    let e : Event = event.Resume r.act how.Start in
    let objects : List Payload = m.world.store.made in
    let slot : Option PyBaseExceptionRef = top_of m.slots in
    let first : Option PyBaseExceptionRef = first_slot r.kind m.callers in
    let shares : slot ≡ first = ap top_of k.nested.slots ∙ sym (ap (λ x. first_slot x m.callers) plain) in
    let fresh_one : IsFresh m.world.codes m.globals objects m.events r = k.at_stage.0 in
    let old = fresh_one.plays in
    let inside = k.at_stage.5 in
    let halted : AreHalted m m.callers = inside_halted m m.world.generators d None r.act m.callers inside in
    let grows : Grows objects objects = plainly_grows objects objects (grows_plainly_refl objects) in
    let starts : r.frame.state.wants ≡ expect.Start = ap (λ (t : FrameState). t.wants) fresh_one.begins in
    let low : AllBelow (length objects) (number_if slot) = subst (λ (x : Option PyBaseExceptionRef). AllBelow (length objects) (number_if x)) (sym shares)
    (first_holds m (λ x. AllBelow (length objects) (number_if x)) r.kind m.callers tt (slots_low m m.callers halted)) in
    let now : Running = heard_by m r input.Start in
    let plays : Plays m.world.codes m.globals objects (m.events ++ e ∷ []) now slot = plays_hears m.world.codes m.globals objects objects m.events e grows r refl None slot slot input.Start (Resumes (length m.events) how.Start) refl refl tt
    (record { below = low; left = inl starts }) old (subst (λ (x : Expect). Expects objects (setting_in m.world.codes m.globals old.code r.frame.closure) x input.Start) (sym starts) (λ k. refl)) (begun_run m r fresh_one slot) in
    next_law m d (stage.Made r f) e None (entered_by m r) k (record {
      grown = longer_refl m.world.store;
      done = k.follows.done;
      phase = refl;
      stack = ap (λ l. record { number = r.act; asks = None; own = None; at = 0 } ∷ l) (k.follows.stack ∙ acts_still m e m.callers halted);
      made = k.follows.made;
      modes = λ asked is. modes_none_run r.act m.world.generators k.at_stage.4;
      told = played_told m (stage.Made r f) m.world.store e d k (grown_refl m.world.store) refl tt now slot refl plays;
      kept = record {
        each = each_still m objects e grows m.made m.made m.world.generators (omega arith) (no_ones_outside r.act m.world.generators k.at_stage.4) k.kept.each;
        single = k.kept.single;
      };
      apart = k.nested.apart;
      frames = ap (λ l. l ++ r.frame.entry ∷ []) k.nested.frames;
      slots = slots_heard r.kind (slots_in m.callers) m.slots r.frame.state.slot r.frame.state.wants (inl starts) (plain_slots r.kind plain);
      at_stage = (
        subst (IsGoing m.world.codes m.globals objects (m.events ++ e ∷ []) now) shares (record { plays = plays; moves = subst (λ (x : Expect). IsMoving (taken input.Start x)) (sym starts) tt }),
        record {
          apart = k.at_stage.3;
          outside = no_ones_outside r.act m.world.generators k.at_stage.4;
          inside = subst (λ x. IsInside m.world.codes m.globals objects (m.events ++ e ∷ []) m.world.generators d x r.act m.callers) (sym plain)
              (inside_on m objects e grows Anyone m.world.generators m.world.generators (carried_same m.world.generators) d None r.act m.callers k.at_stage.3 (all_others m.callers) tt inside);
        },
      );
    }) (refl, tt) (λ asked is. starts_there asked)
  where
    plain_slots : (x : Option CoroKind) → x ≡ None → m.slots ≡ stacked x (top_of m.slots) (slots_in m.callers)
    plain_slots None is = k.nested.slots ∙ slots_shape m m.callers ∙ ap (λ l. top_of l ∷ drop 1 (slots_in m.callers)) (sym k.nested.slots)
    plain_slots (Some kind) is = absurd (cc is)

    starts_there : (asked : List Posed) → IsEntered (plan_of m.world.codes asked) m.world.store.made (past_at m) how.Start r.act
    starts_there asked =
        let p = k.at_stage.0.plays in
        let phase : (state_after start m.events).phase ≡ Made f = k.follows.phase in
        subst (λ y. Starts (plan_of m.world.codes asked) m.world.store.made (past_at m) y r.act) (sym phase) (
          k.at_stage.2 ∙ sym k.follows.made,
          record {
            body = p.body;
            entry = subst (λ o. HasPayload m.world.store.made o (payload.Function p.body)) k.at_stage.1 p.is_function;
            signature = signature_in m.world.codes.names p.code;
            signed = signature_at m.world.codes p.body.code p.code p.is_code;
            kind_is = sym p.kind_is ∙ plain;
          },
        )

-- ---- a generator is entered

-- a code whose activations can be suspended takes throws before it begins
takes_throws : (generator coroutine : Bool) (kind : CoroKind) → kind_by generator coroutine ≡ Some kind → (generator || coroutine) ≡ true
takes_throws false false kind is = absurd (cc is)
takes_throws true false kind is = refl
takes_throws false true kind is = refl
takes_throws true true kind is = refl

-- an activation that waited is ready to be entered like this, among these objects
pub record IsReadyFor (m : Core) (objects : List Payload) (s : Suspended) (h : ResumeHow) : Type 0 where
  pub plays : Plays m.world.codes m.globals m.world.store.made m.events s.running None
  pub run : Runs m.world.store.made (setting_in m.world.codes m.globals plays.code s.running.frame.closure) (started plays.code.code None plays.activation.args) plays.told (handed s.slot s.running.frame.state)
  pub left : (s.running.frame.state.wants ≡ expect.Start) ⊎ (s.slot ≡ s.running.frame.state.slot)
  pub slot_low : AllBelow (length m.world.store.made) (number_if s.slot)
  pub slot_there : RaisedThere m.world.store.made s.slot
  pub expects : Expects objects (setting_in m.world.codes m.globals plays.code s.running.frame.closure) s.running.frame.state.wants (input_of h)
  pub moves : IsMoving (taken (input_of h) s.running.frame.state.wants)
  pub named : AllBelow (length objects) (how_numbers h)
  pub kind : CoroKind
  pub kind_is : s.running.kind ≡ Some kind

-- one that hasn't begun
unentered_ready : (m : Core) (objects : List Payload) (s : Suspended) (h : ResumeHow) → IsUnentered m.world.codes m.globals m.world.store.made m.events s → AllBelow (length objects) (how_numbers h)
    → ((setting : rows.Setting) → is_thrown_into setting.code.code.flags ≡ true → Expects objects setting expect.Start (input_of h)) → IsMoving (taken (input_of h) expect.Start) → IsReadyFor m objects s h
unentered_ready m objects s h x named expects moves =
    let f = x.fresh in
    let starts : s.running.frame.state.wants ≡ expect.Start = ap (λ (t : FrameState). t.wants) f.begins in
    let flags : is_thrown_into f.plays.code.code.code.flags ≡ true =
    takes_throws (counts_if f.plays.code.code.code.flags IS_GENERATOR == 1) (counts_if f.plays.code.code.code.flags IS_COROUTINE == 1) x.kind (sym f.plays.kind_is ∙ x.kind_is) in
    record {
      plays = f.plays;
      run = subst (λ slot. Runs m.world.store.made (setting_in m.world.codes m.globals f.plays.code s.running.frame.closure) (started f.plays.code.code None f.plays.activation.args) f.plays.told (handed slot s.running.frame.state)) (sym x.slot) (begun_run m s.running f None);
      left = inl starts;
      slot_low = subst (λ slot. AllBelow (length m.world.store.made) (number_if slot)) (sym x.slot) tt;
      slot_there = subst (RaisedThere m.world.store.made) (sym x.slot) tt;
      expects = subst (λ y. Expects objects (setting_in m.world.codes m.globals f.plays.code s.running.frame.closure) y (input_of h)) (sym starts) (expects (setting_in m.world.codes m.globals f.plays.code s.running.frame.closure) flags);
      moves = subst (λ y. IsMoving (taken (input_of h) y)) (sym starts) moves;
      named = named;
      kind = x.kind;
      kind_is = x.kind_is;
    }

-- what is in the slot of one that was left by a yield is an exception
left_there : (m : Core) (s : Suspended) → IsLeft m.world.codes m.globals m.world.store.made m.events s → RaisedThere m.world.store.made s.slot
left_there m s x =
    let p = x.plays in
    let state = s.running.frame.state in
    let keeps : KeepsSlot None state = runs_keep_slot m.world.store.made (setting_in m.world.codes m.globals p.code s.running.frame.closure) None p.activation.args state p.told p.run in
    let fits : FitsBut m.world.store.made p.code (want.Of kind.Any) state = subst (λ (w : Expect). FitsAt m.world.store.made p.code w state) x.waits p.running.fits in
    subst (RaisedThere m.world.store.made) (sym (x.slot ∙ keeps.slot)) (handled_there m.world.store.made None state.blocks fits.left.blocks fits.has.blocks tt)

-- one that was left by a yield
left_ready : (m : Core) (objects : List Payload) (s : Suspended) (h : ResumeHow) → IsLeft m.world.codes m.globals m.world.store.made m.events s → AllBelow (length objects) (how_numbers h)
    → ((setting : rows.Setting) → Expects objects setting expect.Resume (input_of h)) → IsMoving (taken (input_of h) expect.Resume) → IsReadyFor m objects s h
left_ready m objects s h x named expects moves = record {
  plays = x.plays;
  run = subst (λ slot. Runs m.world.store.made (setting_in m.world.codes m.globals x.plays.code s.running.frame.closure) (started x.plays.code.code None x.plays.activation.args) x.plays.told (handed slot s.running.frame.state)) (sym x.slot) x.plays.run;
  left = inr x.slot;
  slot_low = subst (λ slot. AllBelow (length m.world.store.made) (number_if slot)) (sym x.slot) x.plays.running.below.in_slot;
  slot_there = left_there m s x;
  expects = subst (λ y. Expects objects (setting_in m.world.codes m.globals x.plays.code s.running.frame.closure) y (input_of h)) (sym x.waits) (expects (setting_in m.world.codes m.globals x.plays.code s.running.frame.closure));
  moves = subst (λ y. IsMoving (taken (input_of h) y)) (sym x.waits) moves;
  named = named;
  kind = x.kind;
  kind_is = x.kind_is;
}

-- what is kept of it is what waits
same_waits : {A : Type 0} (o : Option A) (x y : A) → o ≡ Some x → o ≡ Some y → x ≡ y
same_waits o x y is other = let both : Some x ≡ Some y = sym is ∙ other in cc both

-- what was thrown is thrown into it, in either mode
thrown_ready : (m : Core) (objects : List Payload) (x : KeptGenerator) (s : Suspended) (e : PyBaseExceptionRef) (mode : Mode) → TakesThrows mode → KeepsIn m.world.codes m.globals m.world.store.made m.events mode x → x.suspended ≡ Some s
    → HasKind objects (as_object e) kind.Exc → e.number < length objects → IsReadyFor m objects s (how.Throw e) × (s.running.act ≡ x.act)
thrown_ready m objects x s e Fresh takes (t, is, act, unentered) waits raises below =
    let same : t ≡ s = same_waits x.suspended t s is waits in
    (unentered_ready m objects s (how.Throw e) (subst (IsUnentered m.world.codes m.globals m.world.store.made m.events) same unentered) (below, tt) (λ setting flags k. (raises, refl, flags)) tt, ap (λ (z : Suspended). z.running.act) (sym same) ∙ act)
thrown_ready m objects x s e Left takes (t, is, act, left) waits raises below =
    let same : t ≡ s = same_waits x.suspended t s is waits in
    (left_ready m objects s (how.Throw e) (subst (IsLeft m.world.codes m.globals m.world.store.made m.events) same left) (below, tt) (λ setting k. (raises, refl)) tt, ap (λ (z : Suspended). z.running.act) (sym same) ∙ act)
thrown_ready m objects x s e Entered takes keeps waits raises below = absurd takes
thrown_ready m objects x s e Closed takes keeps waits raises below = absurd takes

-- so is each that a question enters
pub enters_ready : (m : Core) (q : Request) (store : Kept) (x : KeptGenerator) (s : Suspended) (h : ResumeHow) → KeepsIn m.world.codes m.globals m.world.store.made m.events x.generator.mode x → x.suspended ≡ Some s
    → EntersBy (setting_at m) m.world.store.made store.made q x h → IsReadyFor m store.made s h × (s.running.act ≡ x.act) × IsStill x.generator.mode
enters_ready m q store x s how.Start keeps waits (comes, mode) =
    let (t, is, act, unentered) = subst (λ k. KeepsIn m.world.codes m.globals m.world.store.made m.events k x) mode keeps in
    let same : t ≡ s = same_waits x.suspended t s is waits in (
      unentered_ready m store.made s how.Start (subst (IsUnentered m.world.codes m.globals m.world.store.made m.events) same unentered) tt (λ setting flags k. refl) tt,
      ap (λ (z : Suspended). z.running.act) (sym same) ∙ act,
      subst IsStill (sym mode) tt,
    )
enters_ready m q store x s (how.Send v) keeps waits (comes, mode, below) =
    let (t, is, act, left) = subst (λ k. KeepsIn m.world.codes m.globals m.world.store.made m.events k x) mode keeps in
    let same : t ≡ s = same_waits x.suspended t s is waits in (
      left_ready m store.made s (how.Send v) (subst (IsLeft m.world.codes m.globals m.world.store.made m.events) same left) (below, tt) (λ setting k. refl) tt,
      ap (λ (z : Suspended). z.running.act) (sym same) ∙ act,
      subst IsStill (sym mode) tt,
    )
enters_ready m q store x s (how.Throw e) keeps waits (raise, comes, thrown, takes) =
    let (ready, act) = thrown_ready m store.made x s e x.generator.mode takes keeps waits thrown.raises thrown.below in
    (ready, act, still x.generator.mode takes)
  where
    still : (mode : Mode) → TakesThrows mode → IsStill mode
    still Fresh takes = tt
    still Left takes = tt
    still Entered takes = takes
    still Closed takes = tt

-- those that wait aren't what waits to be entered
chain_apart : (m : Core) (d : Question) (k : Option CoroKind) (a : ℕ) (hs : List Halted) (g : Obj) (x : KeptGenerator) (s : Suspended) → kept_at m.world.generators g ≡ Some x → x.suspended ≡ Some s
    → IsInside m.world.codes m.globals m.world.store.made m.events m.world.generators d k a hs → IsApart x.act hs
chain_apart m d k a [] g x s here waits inside = tt
chain_apart m d k a (h ∷ hs) g x s here waits inside =
    (other_way x.act h.running.act (outside_at h.running.act m.world.generators g x s here waits inside.2), chain_apart m d h.running.kind h.running.act hs g x s here waits inside.3)

asked_apart : (m : Core) (d : Question) (hs : List Halted) (g : Obj) (x : KeptGenerator) (s : Suspended) → kept_at m.world.generators g ≡ Some x → x.suspended ≡ Some s → AskedBy m d hs → IsApart x.act hs
asked_apart m d [] g x s here waits alone = tt
asked_apart m d (h ∷ hs) g x s here waits asked =
    (other_way x.act h.running.act (outside_at h.running.act m.world.generators g x s here waits asked.outside), chain_apart m d h.running.kind h.running.act hs g x s here waits asked.inside)

pub asked_halted : (m : Core) (d : Question) (hs : List Halted) → AskedBy m d hs → AreHalted m hs
asked_halted m d [] alone = tt
asked_halted m d (h ∷ hs) asked = (asked.halted, inside_halted m m.world.generators d h.running.kind h.running.act hs asked.inside)

-- an activation with a slot of its own over those around
own_slots : (k : Option CoroKind) (kind : CoroKind) (slot : Option PyBaseExceptionRef) (slots outer : Slots) → k ≡ Some kind → slots ≡ outer → slot ∷ slots ≡ stacked k slot outer
own_slots None kind slot slots outer is same = absurd (cc is)
own_slots (Some other) kind slot slots outer is same = ap (λ l. slot ∷ l) same

no_first : (k : Option CoroKind) (kind : CoroKind) (hs : List Halted) → k ≡ Some kind → None ≡ first_slot k hs
no_first None kind hs is = absurd (cc is)
no_first (Some other) kind hs is = refl

-- the generator that an open question enters
pub resumed_law : (m : Core) (d : Question) (s : Stage) (hs : List Halted) (q : Request) (store : Kept) (list : List KeptGenerator) (x : Suspended) (h : ResumeHow) → Keeps m d s → IsOpen m d q → (asked_by : AskedBy m d hs)
    → IsTheirs m d hs asked_by q → IsEntering m q store list x h → Turns m d s None (resumed_by (record m { world = record m.world { store = store; generators = list }; callers = hs }) x h)
resumed_law m d s hs q store list x h k opened asked_by theirs entering =
    let g : Obj = entering.object in
    let kept : KeptGenerator = entering.kept in
    let here : kept_at m.world.generators g ≡ Some kept = entering.is_kept in
    let (ready, act, at_rest) = enters_ready m q store kept x h (each_at m.world.codes m.globals m.world.store.made m.events m.made m.world.generators g kept here k.kept.each).activation entering.waiting entering.enters in
    let r : Running = x.running in
    let e : Event = event.Resume r.act h in
    let grown : IsGrown m.world.store store = entering.grown in
    let grows : Grows m.world.store.made store.made = objects_grow m.world.store store grown in
    let f : KeptGenerator → KeptGenerator = λ z. without_activation (entered_at (is_close q) z) in
    let become : list ≡ changed_at g f m.world.generators = entering.changes ∙ changed_twice g (entered_at (is_close q)) (λ z. refl) without_activation m.world.generators in
    let outside : IsOutside r.act list = subst (IsOutside r.act) (sym become) (subst (λ n. IsOutside n (changed_at g f m.world.generators)) (sym act) (outside_itself g f (λ z. refl) m.world.generators kept here k.kept.single)) in
    let apart : IsApart r.act hs = subst (λ n. IsApart n hs) (sym act) (asked_apart m d hs g kept x here entering.waiting asked_by) in
    let carried = subst (IsCarried Anyone m.world.generators) (sym become) (entered_carried (is_close q) m.world.generators g kept here at_rest) in
    let halted : AreHalted m hs = asked_halted m d hs asked_by in
    let now : Running = heard_by (record m { slots = x.slot ∷ m.slots }) r (input_of h) in
    let low = below_more _ _ _ (length_grown m.world.store.made store.made grows) ready.slot_low in
    let plays : Plays m.world.codes m.globals store.made (m.events ++ e ∷ []) now None = plays_hears m.world.codes m.globals m.world.store.made store.made m.events e grows r refl None x.slot None (input_of h) (Resumes (length m.events) h) refl (heard_so h) (named_so h ready.named)
    (record { below = low; left = ready.left }) ready.plays ready.expects ready.run in
    next_law m d s e None (resumed_by (record m { world = record m.world { store = store; generators = list }; callers = hs }) x h) k (record {
      grown = grown_longer m.world.store store grown;
      done = k.follows.done;
      phase = refl;
      stack = ap (λ l. record { number = r.act; asks = None; own = None; at = 0 } ∷ l) (stack_of m d hs asked_by ∙ acts_still m e hs halted);
      made = k.follows.made;
      modes = λ asked is. ap (λ n. running_at n (modes_of m.world.generators)) act ∙ modes_entered g (is_close q) f (λ z. refl) (λ z. refl) (λ z. refl) m.world.generators kept here k.kept.single ∙ ap modes_of (sym become);
      told = played_told m s store e d k grown refl ready.named now None refl plays;
      kept = record {
        each = each_still m store.made e grows m.made m.made list (omega arith) outside (subst (AreEach m.world.codes m.globals m.world.store.made m.events m.made) (sym become) (entered_each (is_close q) m.world.codes m.globals m.world.store.made m.events m.made g m.world.generators k.kept.each));
        single = subst AreSingle (sym become) (single_changed g f (λ z. refl) (λ z. refl) m.world.generators k.kept.single);
      };
      apart = apart_of m d hs asked_by;
      frames = ap (λ l. l ++ r.frame.entry ∷ []) (frames_of m d hs asked_by);
      slots = slots_heard r.kind (slots_in hs) (x.slot ∷ m.slots) r.frame.state.slot r.frame.state.wants ready.left (own_slots r.kind ready.kind x.slot m.slots (slots_in hs) ready.kind_is (slots_of m d hs asked_by));
      at_stage = (
        subst (IsGoing m.world.codes m.globals store.made (m.events ++ e ∷ []) now) (no_first r.kind ready.kind hs ready.kind_is) (record { plays = plays; moves = ready.moves }),
        record {
          apart = apart;
          outside = outside;
          inside = inside_of_resumed e grows apart carried hs asked_by apart (has_entered r.kind ready.kind ready.kind_is list become act hs asked_by theirs);
        },
      );
    }) (refl, tt) (λ asked is. subst (IsEntered (plan_of m.world.codes asked) store.made (past_at m) h) (sym act) (resumes_there m d s q store kept h asked k opened grown entering.enters is))
  where
    heard_so : (h : ResumeHow) → heard (length m.events) (input_of h) ≡ Some (Resumes (length m.events) h)
    heard_so how.Start = refl
    heard_so (how.Send v) = refl
    heard_so (how.Throw e) = refl

    named_so : (h : ResumeHow) → AllBelow (length store.made) (how_numbers h) → AllBelow (length store.made) (how_numbers h)
    named_so h low = low

    their_request : (hs : List Halted) → AskedBy m d hs → Request
    their_request [] alone = request_of d
    their_request (h ∷ hs) asked = asked.halted.question.request

    has_entered : (k : Option CoroKind) (kind : CoroKind) → k ≡ Some kind → (list : List KeptGenerator) → list ≡ changed_at entering.object (λ z. without_activation (entered_at (is_close q) z)) m.world.generators → x.running.act ≡ entering.kept.act
        → (hs : List Halted) (asked : AskedBy m d hs) → IsTheirs m d hs asked q → HasEntered list (their_request hs asked) k x.running.act
    has_entered None kind is list become act hs asked theirs = absurd (cc is)
    has_entered (Some other) kind is list become act hs asked theirs = record {
      object = entering.object;
      asks = ap generator_asked (is_theirs hs asked theirs) ∙ entering.asks;
      kept = without_activation (entered_at (is_close q) entering.kept);
      is_kept = ap (λ l. kept_at l entering.object) become ∙ kept_changed entering.object (λ z. without_activation (entered_at (is_close q) z)) (λ z. refl) m.world.generators entering.kept entering.is_kept;
      act = sym act;
      runs = refl;
      closing = ap is_close (sym (is_theirs hs asked theirs));
    }
      where
        is_theirs : (hs : List Halted) (asked : AskedBy m d hs) → IsTheirs m d hs asked q → their_request hs asked ≡ q
        is_theirs [] alone theirs = theirs
        is_theirs (h ∷ hs) asked theirs = theirs

    inside_of_resumed : (e : Event) → Grows m.world.store.made store.made → IsApart (whose e) hs → IsCarried Anyone m.world.generators list → (hs : List Halted) (asked : AskedBy m d hs) → IsApart (whose e) hs
        → HasEntered list (their_request hs asked) x.running.kind x.running.act → IsInside m.world.codes m.globals store.made (m.events ++ e ∷ []) list d x.running.kind x.running.act hs
    inside_of_resumed e grows first carried [] alone apart entered = entered
    inside_of_resumed e grows first carried (h ∷ hs) asked apart entered = (
      halted_still m store.made e grows h (first_slot h.running.kind hs) apart.0 asked.halted,
      entered,
      carried.outside h.running.act tt asked.outside,
      inside_on m store.made e grows Anyone m.world.generators list carried d h.running.kind h.running.act hs apart.1 (all_others hs) tt asked.inside,
    )
