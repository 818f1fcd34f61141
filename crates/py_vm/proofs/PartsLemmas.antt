-- What the functions of a turn come to.
use Rattle.std.proofs.Common.{◌≡◌, ◌<◌, ◌≤◌, ◌+◌, ◌-◌, ◌++◌, ℕ, List, [], ◌∷◌, Bool, true, false, Some, inl, inr, refl, sym, ap, subst, ◌∙◌, eqb, length, arith}
use Rattle.std.specs.Prelude.{Option, None, slice_get, slice_set, if◌then◌else◌}
use Rattle.std.proofs.lemmas.Option.{same_Some}
use Rattle.py_objects.specs.declared.refs.FrameRef.{FrameRef}
use Rattle.py_objects.specs.declared.refs.PyBaseExceptionRef.{PyBaseExceptionRef}
use Rattle.py_objects.specs.declared.payload.Payload.{Payload}
use Rattle.py_objects.specs.declared.payload.Payload.TheVariants as payload
use Rattle.py_objects.specs.declared.payload.CoroKind.{CoroKind}
use Rattle.py_objects.specs.declared.scope.Scope.{Scope}
use Rattle.py_objects.specs.declared.request.Request.{Request}
use Rattle.py_objects.specs.declared.event.Event.{Event}
use Rattle.py_objects.specs.declared.event.Event.TheVariants as event
use Rattle.py_objects.specs.declared.event.DriveAnswer.{DriveAnswer}
use Rattle.py_objects.specs.declared.event.ResumeHow.{ResumeHow}
use Rattle.py_objects.specs.declared.event.ResumeHow.TheVariants as how
use Rattle.py_objects.specs.Objects.{Obj, AllFit, IsFunction}
use Rattle.py_objects.specs.Edits.{Kept}
use Rattle.py_objects.specs.Growth.{with_object, IsGrown, IsLonger}
use Rattle.py_objects.specs.Scopes.{scope_of}
use Rattle.py_objects.proofs.GrownLemmas.{added_grown, objects_grow, frame_longer, grown_longer, grown_refl, longer_refl, longer_trans}
use Rattle.py_exceptions.specs.Classes.{HaveClasses}
use Rattle.py_exceptions.proofs.ClassesLemmas.{classes_grown}
use Rattle.py_stack.specs.Slots.{Slots, topmost}
use Rattle.py_check.specs.declared.annotated.Annotated.{Annotated}
use Rattle.py_rows.specs.Below.{TellsBelow}
use Rattle.py_rows.specs.Laws.{AllMayTell, RaisedThere}
use Rattle.py_rows.specs.RunOfRows.{filled}
use Rattle.py_rows.specs.Signature.{kind_of}
use Rattle.py_frame.specs.declared.input.Answer.{Answer}
use Rattle.py_frame.specs.declared.input.FrameStep.{FrameStep}
use Rattle.py_frame.specs.declared.input.FrameStep.TheVariants as step
use Rattle.py_frame.specs.Frames.{Framed, handed, setting_of, unfilled}
use Rattle.py_frame.specs.Running.{IsRunning, IsSame}
use Rattle.py_frame.specs.Steps.{Extends, IfTold, NamesHandled, events as own_of_step, expected, told}
use Rattle.py_coro.specs.declared.coro.CoroEnd.{CoroEnd}
use Rattle.py_coro.specs.Modes.{Mode, Fresh, Suspended as Left, Running as Entered, Closed}
use Rattle.py_answers.specs.Answers.{Reply}
use Rattle.py_answers.specs.Readable.{IsReadable}
use Rattle.py_answers.specs.Replying.{IsGenerator}
use Rattle.py_run.specs.declared.drive.Question.{Question}
use Rattle.py_run.specs.Calls.{Setting}
use Rattle.py_vm.specs.declared.calls.Course.{Course as MadeCourse}
use Rattle.py_vm.specs.declared.calls.Course.TheVariants as course
use Rattle.py_vm.specs.declared.reply.Reply.{Reply as MadeReply}
use Rattle.py_vm.specs.declared.reply.Reply.TheVariants as made
use Rattle.py_vm.specs.declared.generators.KeptGenerator.{KeptGenerator}
use Rattle.py_vm.specs.declared.stage.Running.{Running}
use Rattle.py_vm.specs.declared.stage.Halted.{Halted}
use Rattle.py_vm.specs.declared.stage.Suspended.{Suspended}
use Rattle.py_vm.specs.declared.stage.Stage.{Stage}
use Rattle.py_vm.specs.declared.stage.Stage.TheVariants as stage
use Rattle.py_vm.specs.declared.machinery.Core.{Core}
use Rattle.py_vm.specs.declared.calls.Standing.{Standing}
use Rattle.py_vm.specs.declared.world.World.{World}
use Rattle.py_vm.specs.Worlds.{setting_in, GrowsTo, IsCourseFrom}
use Rattle.py_vm.specs.Holds.{AreRunnable}
use Rattle.py_vm.specs.Codes.{Checked}
use Rattle.py_vm.specs.Courses.{EntersBy, IsCourse, IsReplied, IsResumption, NamesThere, TakesThrows}
use Rattle.py_vm.specs.Generators.{changed_at, entered_at, generator_asked, is_close, kept_at, without_activation, IsRunningNow}
use Rattle.py_vm.specs.declared.raising.Raising.{Raising}
use Rattle.py_vm.specs.Raising.{raising_in, NotedOne}
use Rattle.py_vm.specs.Turns.{fresh, next_frame, passed, setting_at, AnsweredOne, Comes_on, CreatedOne, Finished, FollowedOne, Halts, IsCreated, IsEntering, IsFreshFor, IsOpened, IsResumable, IsSaid, IsStepped, IsToldStep, MadeOne, Questioned, Replies, ResumedOne, SettledOne, WentOn}
use Rattle.py_vm.specs.Ready.{AreReady, AsksNoRaise, CanFinish, CanFollow, CanReply, FirstAsks, FirstRaises, HasOwnSlot, HoldsIn}
use Rattle.py_vm.proofs.JournalLemmas.{readable_on}
use Rattle.py_vm.proofs.KeptLemmas.{kept_changed}
use Rattle.py_vm.proofs.NotedLemmas.{noted_grown}
use Rattle.py_vm.proofs.RaisingLemmas.{first_grown, object_raises, replied_raises, said_raises, AsksThis}
use Rattle.py_vm.proofs.QuestionsLemmas.{opened_call}
use Rattle.py_vm.proofs.LeavingLemmas.{finished_call, finished_generator, replies_at, some_question}

-- what leaves a machine's events, codes and globals halts, where it got no more than objects
pub halts_with : (m m' : Core) → m'.events ≡ m.events → IsLonger m.world.store m'.world.store → m'.world.codes ≡ m.world.codes → m'.globals ≡ m.globals → m'.entered ≡ m.entered → m'.failed ≡ m.failed → m'.state ≡ m.state → Halts m m'
halts_with m m' events grown codes globals entered failed state = record { events = events; kept = record { grows = grown; codes = codes; globals = globals; entered = entered; failed = failed; state = state } }

-- a machine that was left as it is halts
pub halts_refl : (m : Core) → Halts m m
halts_refl m = halts_with m m refl (longer_refl m.world.store) refl refl refl refl refl

-- a machine of a longer store halts
longer_halts : (m : Core) (store : Kept) → IsLonger m.world.store store → Halts m (record m { world = record m.world { store = store } })
longer_halts m store longer = halts_with m (record m { world = record m.world { store = store } }) refl longer refl refl refl refl refl

-- a machine that got no more than objects, generators, frames, callers and what is in its slots halts
pub grew_halts : (m : Core) (store : Kept) (generators : List KeptGenerator) (frames : List FrameRef) (callers : List Halted) (slots : Slots) (stage : Stage) → IsGrown m.world.store store
    → Halts m (record m { world = record m.world { store = store; generators = generators }; frames = frames; callers = callers; slots = slots; stage = stage })
grew_halts m store generators frames callers slots stage grown = halts_with m (record m { world = record m.world { store = store; generators = generators }; frames = frames; callers = callers; slots = slots; stage = stage }) refl (grown_longer m.world.store store grown) refl refl refl refl refl

-- so does one that halts in a call behind another one
pub halts_trans : (m n m' : Core) → Halts m n → Halts n m' → Halts m m'
halts_trans m n m' first later = record {
  events = later.events ∙ first.events;
  kept = record {
    grows = longer_trans m.world.store n.world.store m'.world.store first.kept.grows later.kept.grows;
    codes = later.kept.codes ∙ first.kept.codes;
    globals = later.kept.globals ∙ first.kept.globals;
    entered = later.kept.entered ∙ first.kept.entered;
    failed = later.kept.failed ∙ first.kept.failed;
    state = later.kept.state ∙ first.kept.state;
  };
}

-- and one whose next stage was set, whatever became of its frames and slots, where no event came
pub staged_halts : (m k n : Core) (s : Stage) (frames : List FrameRef) (slots : Slots) (events : List Event) → Halts m k → n ≡ record k { stage = s } → events ≡ n.events
    → Halts m (record n { events = events; frames = frames; slots = slots })
staged_halts m k n s frames slots events halts staged same =
    let there : Halts m (record k { stage = s; frames = frames; slots = slots }) = halts_trans m k _ halts (grew_halts k k.world.store k.world.generators frames k.callers slots s (grown_refl k.world.store)) in
    subst (λ l. Halts m (record n { events = l; frames = frames; slots = slots })) (sym same) (subst (λ (x : Core). Halts m (record x { frames = frames; slots = slots })) (sym staged) there)

-- so does one whose next stage was set, and whose event couldn't be pushed
pub untold_halts : (m n : Core) (s : Stage) (events : List Event) → n ≡ record m { stage = s } → events ≡ n.events → Halts m (record n { events = events })
untold_halts m n s events staged same = staged_halts m m n s n.frames n.slots events (halts_refl m) staged same

pub halted_on : (m m' : Core) (store : Kept) (generators : List KeptGenerator) (frames : List FrameRef) (callers : List Halted) (slots : Slots) (stage : Stage) → IsGrown m.world.store store
    → Halts (record m { world = record m.world { store = store; generators = generators }; frames = frames; callers = callers; slots = slots; stage = stage }) m' → Halts m m'
halted_on m m' store generators frames callers slots stage grown halts =
    halts_trans m (record m { world = record m.world { store = store; generators = generators }; frames = frames; callers = callers; slots = slots; stage = stage }) m' (grew_halts m store generators frames callers slots stage grown) halts

-- and one by which an exception was brought in
pub raising_halts : (m m' : Core) (raising : Option Raising) → Halts (record m { raising = raising }) m' → Halts m m'
raising_halts m m' raising halts = halts_trans m (record m { raising = raising }) m' (halts_with m (record m { raising = raising }) refl (longer_refl m.world.store) refl refl refl refl refl) halts

-- so does one that noted a raise
pub noted_halts : (m n : Core) (h : Halted) (w : Answer) → NotedOne m h w n → Halts m n
noted_halts m n h w (store, raising, noted, same) =
    let grown : IsGrown m.world.store store = noted_grown m.world.codes m.world.store h.running (raising_in m.events h w) store m.raising raising noted in
    subst (Halts m) (sym same) (halts_with m (record m { world = record m.world { store = store }; raising = raising }) refl (grown_longer m.world.store store grown) refl refl refl refl refl)

-- where only a frame's object was made
pub object_halts : (m : Core) (store : Kept) (place : ℕ) → store ≡ with_object m.world.store (payload.Frame place) → Halts m (record m { world = record m.world { store = store } })
object_halts m store place added = longer_halts m store (subst (IsLonger m.world.store) (sym added) (frame_longer m.world.store place))

-- an activation that was made, and whose making couldn't be told
pub fresh_halts : (m n k : Core) (s : Stage) (act : ℕ) (f : Obj) (vs : List Obj) (r : Running) (events : List Event) → IsFreshFor m act f vs r n → k ≡ record n { stage = s } → events ≡ k.events
    → Halts m (record k { events = events })
fresh_halts m n k s act f vs r events (b, has, c, is_code, unbegun, is) staged same =
    let made : Halts m n = subst (Halts m) (sym is) (longer_halts m (with_object m.world.store (payload.Frame b.code)) (frame_longer m.world.store b.code)) in
    staged_halts m n k s k.frames k.slots events made staged same

-- an activation that was made and told
pub made_one : (m n k : Core) (f : Obj) (vs : List Obj) (r : Running) (events : List Event) → IsFreshFor m (m.made + 1) f vs r n → k ≡ record n { stage = stage.Made r f }
    → events ≡ k.events ++ event.Make (m.made + 1) f vs ∷ [] → MadeOne m f vs (record k { events = events; made = m.made + 1 })
made_one m n k f vs r events (b, has, c, is_code, unbegun, is) staged added =
    let told : Core → Core = λ x. record x { events = x.events ++ event.Make (m.made + 1) f vs ∷ []; made = m.made + 1 } in
    let built : Core → Core = λ x. told (record x { stage = stage.Made r f }) in
    (b, has, c, is_code, r, unbegun, ap (λ l. let x : Core = record k { events = l; made = m.made + 1 } in x) added ∙ ap told staged ∙ ap built is)

-- a frame that was made for a function and filled with its arguments
pub fresh_filled : (m : Core) (act number : ℕ) (entry : FrameRef) (code : Annotated) (vs closure : List Obj) (scope : Scope) (room block_room : ℕ) (locals : List (Option Obj)) (frame full : Framed) (kind : Option CoroKind)
    → frame ≡ unfilled code number entry scope closure room block_room → locals ≡ filled (length code.code.code.varnames.items) vs → full ≡ record frame { state = record frame.state { locals = locals } }
    → entry ≡ next_frame m → scope ≡ scope_of None m.globals → room ≡ code.code.code.max_stackdepth → kind ≡ kind_of code.code.code.flags
    → record { act = act; frame = full; kind = kind } ≡ fresh act (next_frame m) m.globals number code closure vs block_room
fresh_filled m act number entry code vs closure scope room block_room locals frame full kind made locals_are full_is entry_is scope_is room_is kind_is =
    let with_locals : Framed → List (Option Obj) → Framed = λ f l. record f { state = record f.state { locals = l } } in
    let first : FrameRef → Scope → ℕ → Framed = λ x y n. with_locals (unfilled code number x y closure n block_room) (filled (length code.code.code.varnames.items) vs) in
    let same : full ≡ first entry scope room = full_is ∙ ap (λ (f : Framed). with_locals f locals) made ∙ ap (with_locals (unfilled code number entry scope closure room block_room)) locals_are in
    let all : full ≡ first (next_frame m) (scope_of None m.globals) code.code.code.max_stackdepth =
    same ∙ ap (λ x. first x scope room) entry_is ∙ ap (λ y. first (next_frame m) y room) scope_is ∙ ap (first (next_frame m) (scope_of None m.globals)) room_is in
    ap (λ (f : Framed). let r : Running = record { act = act; frame = f; kind = kind } in r) all
    ∙ ap (λ (k : Option CoroKind). let r : Running = record { act = act; frame = first (next_frame m) (scope_of None m.globals) code.code.code.max_stackdepth; kind = k } in r) kind_is

-- the frame of a running activation makes a step with the code and the names that were found
module _ (codes : Checked) (objects : List Payload) (r : Running) (s : FrameStep) (f : Framed) (c : Annotated) (number : ℕ) (place : number ≡ r.frame.code) (found : slice_get codes.codes number ≡ Some c)
    (may : AllMayTell objects c.code (own_of_step (told (f.state.last - 1) s))) where
  -- and with what is in the slot
  pub step_taken : (slot : Option PyBaseExceptionRef) (names : List (List ℕ)) → names ≡ codes.names → slot ≡ r.frame.state.slot
      → IfTold s (Extends objects (setting_of names c r.frame) (handed slot r.frame.state) (own_of_step (told (f.state.last - 1) s)) f.state)
      → TellsBelow (length objects) (own_of_step (told (f.state.last - 1) s)) → f.state.wants ≡ expected s → NamesHandled f.state s → IsRunning objects names c f → IsSame r.frame f → IsToldStep codes objects r s f
  step_taken slot names table shares extends below wants own running same =
      let Told : List (List ℕ) → Option PyBaseExceptionRef → Type 0 = λ ns x. IfTold s (Extends objects (setting_of ns c r.frame) (handed x r.frame.state) (own_of_step (told (f.state.last - 1) s)) f.state) in
      record {
        code = c;
        is_code = ap (slice_get codes.codes) (sym place) ∙ found;
        extends = subst (Told codes.names) shares (subst (λ ns. Told ns slot) table extends);
        may = may;
        below = below;
        wants = wants;
        own = own;
        running = subst (λ (ns : List (List ℕ)). IsRunning objects ns c f) table running;
        same = same;
      }

-- a slot of its own stays where what is in it changes
pub own_slot_stays : (kind : Option CoroKind) (slots slots' : Slots) (x : Option PyBaseExceptionRef) → HasOwnSlot kind slots → slots' ≡ slice_set slots 0 x → HasOwnSlot kind slots'
own_slot_stays None slots slots' x own is = tt
own_slot_stays (Some kind) (y ∷ z ∷ slots) slots' x own is = subst (λ (l : Slots). 1 < length l) (sym is) own
own_slot_stays (Some kind) (y ∷ []) slots' x own is = absurd (omega arith)
own_slot_stays (Some kind) [] slots' x own is = absurd (omega arith)

-- ---- a question that is answered

-- the value that says why a generator stopped is there
pub replied_there : (old new : List Payload) (reply : Reply) (w : MadeReply) → IsReplied old new reply w → NamesThere new w
replied_there old new reply (made.Value v) x = tt
replied_there old new reply (made.Fresh e) x = tt
replied_there old new reply (made.Passed e) x = tt
replied_there old new reply (made.Yields v) x = tt
replied_there old new reply (made.Stops v) x = x.1
replied_there old new reply made.Closes x = tt

-- the course that was made for a request, where it stands
module _ (m : Core) (store : Kept) (list : List KeptGenerator) (at : Setting) (q : Request) (x : MadeCourse) (stands : at ≡ setting_at m) (made : IsCourse at m.world.store store m.world.generators list q x) where
  there : (y : MadeCourse) → x ≡ y → IsCourse (setting_at m) m.world.store store m.world.generators list q y
  there y is = subst (IsCourse (setting_at m) m.world.store store m.world.generators list q) is (subst (λ s. IsCourse s m.world.store store m.world.generators list q x) stands made)

  -- it says a reply
  pub course_said : (w : MadeReply) → x ≡ course.Says w → IsGrown m.world.store store → IsSaid m q store list w
  course_said w is grown =
      let said : IsCourse (setting_at m) m.world.store store m.world.generators list q (course.Says w) = there (course.Says w) is in
      record { reply = said.0; says = said.1; grown = grown; replied = said.2; shuts = said.3; passed = said.4 }

  -- what who asked raises by it is an exception
  pub course_raises : (w : MadeReply) (hs : List Halted) → x ≡ course.Says w → IsGrown m.world.store store → RaisedThere m.world.store.made (topmost m.slots) → AllFit m.world.store.made → AsksThis m.events hs q → FirstRaises store m.events hs w
  course_raises w hs is grown handled fit asks =
      let said : IsCourse (setting_at m) m.world.store store m.world.generators list q (course.Says w) = there (course.Says w) is in
      said_raises m store hs q said.0 w handled fit grown asks said.1 said.2

  -- which names objects
  pub course_names : (w : MadeReply) → x ≡ course.Says w → NamesThere store.made w
  course_names w is =
      let said : IsCourse (setting_at m) m.world.store store m.world.generators list q (course.Says w) = there (course.Says w) is in
      replied_there m.world.store.made store.made said.0 w said.2

  -- or enters a function, and no object is new
  pub course_opened : (f : Obj) (vs : List Obj) → x ≡ course.Enters f vs → IsOpened m q f vs × (store ≡ m.world.store) × (list ≡ m.world.generators)
  course_opened f vs is = there (course.Enters f vs) is

  pub course_callee : (f : Obj) (vs : List Obj) → x ≡ course.Enters f vs → IsFunction store.made f
  course_callee f vs is =
      let opened = course_opened f vs is in
      subst (λ (s : Kept). IsFunction s.made f) (sym opened.1) (opened_call (setting_at m) m.world.store.made q f vs opened.0).1

  -- or enters a generator
  pub course_resumes : (g : Obj) (h : ResumeHow) → x ≡ course.Resumes g h → IsResumption (setting_at m) m.world.store.made store.made m.world.generators list q g h
  course_resumes g h is = there (course.Resumes g h) is

-- a generator that is ready to be entered has its activation
ready_one : (objects : List Payload) (list : List KeptGenerator) (g : Obj) (x : KeptGenerator) → AreReady objects list → kept_at list g ≡ Some x → HoldsIn x.generator.mode x
ready_one objects [] g x ready here = absurd (cc here)
ready_one objects (y ∷ ys) g x ready here = by (eqb y.object.number g.number) here (λ next. ready_one objects ys g x ready.2 next)
  where
    by : (b : Bool) → (if b then Some y else kept_at ys g) ≡ Some x → (kept_at ys g ≡ Some x → HoldsIn x.generator.mode x) → HoldsIn x.generator.mode x
    by true found later = let is : y ≡ x = cc found in subst (λ (z : KeptGenerator). HoldsIn z.generator.mode z) is ready.1
    by false found later = later found

holds_as : (mode : Mode) (x : KeptGenerator) → x.generator.mode ≡ mode → HoldsIn x.generator.mode x → HoldsIn mode x
holds_as mode x is holds = subst (λ k. HoldsIn k x) is holds

throws_hold : (mode : Mode) (x : KeptGenerator) → TakesThrows mode → HoldsIn mode x → (s : Suspended) × (x.suspended ≡ Some s)
throws_hold Fresh x takes holds = holds
throws_hold Left x takes holds = holds
throws_hold Entered x takes holds = absurd takes
throws_hold Closed x takes holds = absurd takes

entered_holds : (at : Setting) (old new : List Payload) (q : Request) (x : KeptGenerator) (h : ResumeHow) → EntersBy at old new q x h → HoldsIn x.generator.mode x → (s : Suspended) × (x.suspended ≡ Some s)
entered_holds at old new q x how.Start (comes, fresh) holds = holds_as Fresh x fresh holds
entered_holds at old new q x (how.Send v) (comes, waits, low) holds = holds_as Left x waits holds
entered_holds at old new q x (how.Throw e) (raise, comes, thrown, takes) holds = throws_hold x.generator.mode x takes holds

-- so it can be resumed behind its entry
module _ (m : Core) (q : Request) (store : Kept) (list : List KeptGenerator) (g : Obj) (h : ResumeHow) (ready : AreReady m.world.store.made m.world.generators)
    (resumes : IsResumption (setting_at m) m.world.store.made store.made m.world.generators list q g h) where
  entered_there : kept_at list g ≡ Some (entered_at (is_close q) resumes.kept)
  entered_there = ap (λ l. kept_at l g) resumes.changes ∙ kept_changed g (entered_at (is_close q)) (λ x. refl) m.world.generators resumes.kept resumes.is_kept

  pub resumable : IsResumable list g
  resumable = (
    entered_at (is_close q) resumes.kept,
    entered_there,
    entered_holds (setting_at m) m.world.store.made store.made q resumes.kept h resumes.enters (ready_one m.world.store.made m.world.generators g resumes.kept ready resumes.is_kept),
  )

  -- and that enters it
  pub entering_by : (x : KeptGenerator) (s : Suspended) → kept_at list g ≡ Some x → x.suspended ≡ Some s → IsGrown m.world.store store → IsEntering m q store (changed_at g without_activation list) s h
  entering_by x s here waits grown =
      let same : entered_at (is_close q) resumes.kept ≡ x = same_Some _ _ (sym entered_there ∙ here) in
      record {
        object = g;
        asks = resumes.asks;
        kept = resumes.kept;
        is_kept = resumes.is_kept;
        waiting = ap (λ (y : KeptGenerator). y.suspended) same ∙ waits;
        enters = resumes.enters;
        grown = grown;
        changes = ap (changed_at g without_activation) resumes.changes;
      }

-- what a question comes to, whose answer these callers wait for
module _ (m : Core) (q : Request) (store : Kept) (list : List KeptGenerator) (hs : List Halted) where
  -- it is answered at once
  pub says_on : (w : MadeReply) (a : Option DriveAnswer) (m' : Core) → IsSaid m q store list w → Replies (record m { world = record m.world { store = store; generators = list }; callers = hs }) w hs a m' → Comes_on m q hs a m'
  says_on w a m' said replies = inl (store, list, w, said, replies)

  -- or an activation is made
  pub enters_on : (f : Obj) (vs : List Obj) (m' : Core) → IsOpened m q f vs × (store ≡ m.world.store) × (list ≡ m.world.generators) → MadeOne (record m { world = record m.world { store = store; generators = list }; callers = hs }) f vs m'
      → Comes_on m q hs None m'
  enters_on f vs m' (opened, same, still) made =
      inr (inl (f, vs, refl, opened, subst (λ l. MadeOne (record m { world = record m.world { generators = l }; callers = hs }) f vs m') still (subst (λ s. MadeOne (record m { world = record m.world { store = s; generators = list }; callers = hs }) f vs m') same made)))

  -- or entered
  pub resumes_on : (g : Obj) (h : ResumeHow) (m' : Core) → AreReady m.world.store.made m.world.generators → IsResumption (setting_at m) m.world.store.made store.made m.world.generators list q g h → IsGrown m.world.store store
      → ResumedOne (record m { world = record m.world { store = store; generators = list }; callers = hs }) g h m' → Comes_on m q hs None m'
  resumes_on g h m' ready resumes grown (x, here, s, waits, is) =
      inr (inr (store, changed_at g without_activation list, s, h, refl, entering_by m q store list g h ready resumes x s here waits grown, is))

-- a machine with this world and these callers
abbrev pub with_world : Core → World → List Halted → Core
with_world m w hs = record m { world = w; callers = hs }

-- where more objects came, it halts
pub world_halts : (m : Core) (w : World) (hs : List Halted) → GrowsTo m.world w → Halts m (with_world m w hs)
world_halts m w hs grows = subst (λ (x : World). Halts m (with_world m x hs)) (sym grows.others) (grew_halts m w.store w.generators m.frames hs m.slots m.stage grows.grows)

-- a course that was made for a question, whose answer these callers wait for
module _ (m : Core) (w : World) (at : Standing) (q : Request) (hs : List Halted) (c : MadeCourse) (grows : GrowsTo m.world w) (stands : setting_in m.world at ≡ setting_at m)
    (made : IsCourseFrom m.world w at q c) (can : CanReply m) where
  -- it can be followed
  pub can_follow : AsksThis m.events hs q → FirstAsks m.world m.events hs → CanFollow (with_world m w hs) c
  can_follow this asks = subst (λ (x : World). CanFollow (with_world m x hs) c) (sym grows.others) (by c refl)
    where
      by : (y : MadeCourse) → c ≡ y → CanFollow (with_world m (record m.world { store = w.store; generators = w.generators }) hs) y
      by (course.Says r) is = (
        classes_grown m.world.zoo m.world.store.made w.store.made (objects_grow m.world.store w.store grows.grows) can.stored.classes,
        course_names m w.store w.generators (setting_in m.world at) q c stands made r is,
        readable_on m.world.store w.store (grown_longer m.world.store w.store grows.grows) can.stored.readable,
        first_grown m.world (record m.world { store = w.store; generators = w.generators }) m.events hs refl (objects_grow m.world.store w.store grows.grows) asks,
        course_raises m w.store w.generators (setting_in m.world at) q c stands made r hs is grows.grows can.handled can.stored.readable.fit this,
      )
      by (course.Enters f vs) is =
          let opened = course_opened m w.store w.generators (setting_in m.world at) q c stands made f vs is in (
            readable_on m.world.store w.store (grown_longer m.world.store w.store grows.grows) can.stored.readable,
            subst (λ (s : Kept). AreRunnable m.world.codes s.made) (sym opened.1) can.runnable,
            course_callee m w.store w.generators (setting_in m.world at) q c stands made f vs is,
          )
      by (course.Resumes g h) is =
          resumable m q w.store w.generators g h can.generators (course_resumes m w.store w.generators (setting_in m.world at) q c stands made g h is)

  -- and what that makes of the machine is what the question comes to
  pub followed_on : (a : Option DriveAnswer) (m' : Core) → FollowedOne (with_world m w hs) c m' a → Comes_on m q hs a m'
  followed_on a m' followed = by c refl (subst (λ (x : World). FollowedOne (with_world m x hs) c m' a) grows.others followed)
    where
      by : (y : MadeCourse) → c ≡ y → FollowedOne (with_world m (record m.world { store = w.store; generators = w.generators }) hs) y m' a → Comes_on m q hs a m'
      by (course.Says r) is replies =
          says_on m q w.store w.generators hs r a m' (course_said m w.store w.generators (setting_in m.world at) q c stands made r is grows.grows) replies
      by (course.Enters f vs) is (none, one) =
          subst (λ (b : Option DriveAnswer). Comes_on m q hs b m') (sym none)
          (enters_on m q w.store w.generators hs f vs m' (course_opened m w.store w.generators (setting_in m.world at) q c stands made f vs is) one)
      by (course.Resumes g h) is (none, one) =
          subst (λ (b : Option DriveAnswer). Comes_on m q hs b m') (sym none)
          (resumes_on m q w.store w.generators hs g h m' can.generators (course_resumes m w.store w.generators (setting_in m.world at) q c stands made g h is) grows.grows one)

-- what halts after a call that halts
pub follows_halt : (m m' : Core) (w : World) (hs : List Halted) → GrowsTo m.world w → Halts (with_world m w hs) m' → Halts m m'
follows_halt m m' w hs grows halts = halts_trans m (with_world m w hs) m' (world_halts m w hs grows) halts

-- what an activation asked that waits
module _ (m : Core) (h : Halted) (n : ℕ) (q : Request) (own : Option PyBaseExceptionRef) (at : ℕ) (e : Event) (found : Some e ≡ slice_get m.events h.place) (is : e ≡ event.Ask n q own at) where
  pub comes_asked : (a : Option DriveAnswer) (m' : Core) → Comes_on m q (h ∷ m.callers) a m' → AnsweredOne m h a m'
  comes_asked a m' comes = (n, q, own, at, sym found ∙ ap Some is, comes)

-- whatever stage a machine was at
module _ (m : Core) (s : Stage) where
  pub comes_on_at : (q : Request) (hs : List Halted) (a : Option DriveAnswer) (m' : Core) → Comes_on (record m { stage = s }) q hs a m' → Comes_on m q hs a m'
  comes_on_at q hs a m' (inl (store, list, w, said, replies)) = inl (
    store,
    list,
    w,
    record { reply = said.reply; says = said.says; grown = said.grown; replied = said.replied; shuts = said.shuts; passed = said.passed },
    replies_at m s (record m { world = record m.world { store = store; generators = list }; callers = hs }) w hs a m' replies,
  )
  comes_on_at q hs a m' (inr (inl x)) = inr (inl x)
  comes_on_at q hs a m' (inr (inr (store, list, t, h, none, entering, is))) =
      let same : IsEntering m q store list t h = record {
        object = entering.object;
        asks = entering.asks;
        kept = entering.kept;
        is_kept = entering.is_kept;
        waiting = entering.waiting;
        enters = entering.enters;
        grown = entering.grown;
        changes = entering.changes;
      } in
      inr (inr (store, list, t, h, none, same, is))

  pub answered_at : (h : Halted) (a : Option DriveAnswer) (m' : Core) → AnsweredOne (record m { stage = s }) h a m' → AnsweredOne m h a m'
  answered_at h a m' (n, q, own, at, entry, comes) = (n, q, own, at, entry, comes_on_at q (h ∷ m.callers) a m' comes)

-- a step that was made
stepped_at : (m : Core) (s : Stage) (r : Running) (x : FrameStep) (m' : Core) → IsStepped (record m { stage = s }) r x m' → IsStepped m r x m'
stepped_at m s r (step.Ask q own) m' is = is
stepped_at m s r step.Round m' is = is
stepped_at m s r (step.Yield v) m' is = is
stepped_at m s r (step.Return v) m' is = is
stepped_at m s r (step.Raise e) m' is = is
stepped_at m s r step.NoMemory m' is = is

pub went_on_at : (m : Core) (s : Stage) (r : Running) (m' : Core) → WentOn (record m { stage = s }) r m' → WentOn m r m'
went_on_at m s r m' (store, grown, x, f, told, exit, stepped) =
    (store, grown, x, f, told, exit, stepped_at (record m { world = record m.world { store = store }; slots = slice_set m.slots 0 f.state.slot }) s (record r { frame = f }) x m' stepped)

-- ---- what comes behind a machine that settled, or made a generator

-- it still can reply
pub record StillReplies (n : Core) : Type 0 where
  pub done : n.done ≤ length n.events
  pub classes : HaveClasses n.world.zoo n.world.store.made
  pub readable : IsReadable n.world.store
  pub first : FirstAsks n.world n.events n.callers

still_replies : (m : Core) (store : Kept) (list : List KeptGenerator) (n : Core) → n ≡ record m { world = record m.world { store = store; generators = list } } → IsGrown m.world.store store → m.done ≤ length m.events
    → HaveClasses m.world.zoo m.world.store.made → IsReadable m.world.store → FirstAsks m.world m.events m.callers → StillReplies n
still_replies m store list n same grown done classes readable first = subst StillReplies (sym same) (record {
  done = done;
  classes = classes_grown m.world.zoo m.world.store.made store.made (objects_grow m.world.store store grown) classes;
  readable = readable_on m.world.store store (grown_longer m.world.store store grown) readable;
  first = first_grown m.world (record m.world { store = store; generators = list }) m.events m.callers refl (objects_grow m.world.store store grown) first;
})

-- and has no more than objects
still_halts : (m : Core) (store : Kept) (list : List KeptGenerator) (n : Core) → n ≡ record m { world = record m.world { store = store; generators = list } } → IsGrown m.world.store store → Halts m n
still_halts m store list n same grown = subst (Halts m) (sym same) (grew_halts m store list m.frames m.callers m.slots m.stage grown)

-- a generator settled
module _ (m n : Core) (g : Obj) (s : Suspended) (how : CoroEnd) (w : MadeReply) (settles : SettledOne m g s how w n) where
  pub settled_replies : m.done ≤ length m.events → HaveClasses m.world.zoo m.world.store.made → IsReadable m.world.store → FirstAsks m.world m.events m.callers → StillReplies n
  settled_replies done classes readable first =
      let (store, list, (x, here, body, has, a, finishes, grown, changes, replied, passed), same) = settles in
      still_replies m store list n same grown done classes readable first

  -- what who asked raises by that is an exception
  pub settled_raises : IsReadable m.world.store → AsksNoRaise m.events m.callers → FirstRaises n.world.store n.events n.callers w
  settled_raises readable none =
      let (store, list, (x, here, body, has, a, finishes, grown, changes, replied, passed), same) = settles in
      subst (λ (k : Core). FirstRaises k.world.store k.events k.callers w) (sym same)
      (replied_raises m.world.store.made store m.events m.callers _ w (objects_grow m.world.store store grown) (grown.objects.fit readable.fit) replied none)

  pub settled_halts : Halts m n
  settled_halts =
      let (store, list, (x, here, body, has, a, finishes, grown, changes, replied, passed), same) = settles in
      still_halts m store list n same grown

-- a generator was made
module _ (m n : Core) (r : Running) (f : Obj) (kind : CoroKind) (g : Obj) (creates : CreatedOne m r f kind g n) where
  created_grown : (store : Kept) (x : KeptGenerator) → IsCreated m r f kind x store → IsGrown m.world.store store
  created_grown store x created = added_grown m.world.store store (payload.Generator _) created.added refl refl (λ fit. tt) (λ fit. tt)

  pub created_replies : m.done ≤ length m.events → HaveClasses m.world.zoo m.world.store.made → IsReadable m.world.store → FirstAsks m.world m.events m.callers → StillReplies n
  created_replies done classes readable first =
      let (x, store, created, is, same) = creates in
      still_replies m store (m.world.generators ++ x ∷ []) n same (created_grown store x created) done classes readable first

  pub created_raises : AsksNoRaise m.events m.callers → FirstRaises n.world.store n.events n.callers (made.Value g)
  created_raises none =
      let (x, store, created, is, same) = creates in
      subst (λ (k : Core). FirstRaises k.world.store k.events k.callers (made.Value g)) (sym same) (object_raises store m.events m.callers g none)

  pub created_halts : Halts m n
  created_halts = let (x, store, created, is, same) = creates in still_halts m store (m.world.generators ++ x ∷ []) n same (created_grown store x created)

-- the generator that the open question asks runs
pub entered_runs : (m : Core) (d : Question) (how : CoroEnd) (o : Option Obj) (g : Obj) → CanFinish m d how → ((q : Request) → Questioned m.events d m.callers q → o ≡ generator_asked q) → o ≡ Some g
    → IsRunningNow m.world.generators g × IsGenerator m.world.store.made g
entered_runs m d how o g (stored, ending, runs, asks, none) entered is = let (q, asked) = some_question m.world m.events d m.callers asks in runs q asked g (sym (entered q asked) ∙ is)

-- what finishes a call or a generator, whichever the open question asks
module _ (m : Core) (d : Question) (s : Suspended) (how : CoroEnd) (o : Option Obj) (can : CanFinish m d how) (entered : (q : Request) → Questioned m.events d m.callers q → o ≡ generator_asked q) where
  pub call_finished : (a : Option DriveAnswer) (m' : Core) → o ≡ None → Replies m (passed how) m.callers a m' → Finished m d s how a m'
  call_finished a m' none replies =
      let (q, asked) = some_question m.world m.events d m.callers can.3 in
      finished_call m d s how q asked a m' (sym none ∙ entered q asked) replies

  pub generator_finished : (g : Obj) (w : MadeReply) (n : Core) (a : Option DriveAnswer) (m' : Core) → o ≡ Some g → SettledOne m g s how w n → Replies n w n.callers a m' → Finished m d s how a m'
  generator_finished g w n a m' is settles replies =
      let (q, asked) = some_question m.world m.events d m.callers can.3 in
      finished_generator m d s how q asked g w n a m' (sym is ∙ entered q asked) settles replies
