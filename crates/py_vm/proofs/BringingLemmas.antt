-- What each turn brings into a body: the exception that gets its links there, if there is one, and that they come of the turn's event; and that this tells
-- what it may.
use Rattle.std.proofs.Common.{◌≡◌, ◌∙◌, ◌++◌, ℕ, List, [], ◌∷◌, Bool, true, false, not, Some, inl, inr, refl, sym, ap, subst, append-nil, ◌+◌, ◌||◌, eq-eqb}
use Rattle.std.specs.Prelude.{Option, None, if◌then◌else◌, ◌-◌, slice_set}
use Rattle.std.specs.Option.{option_or}
use Rattle.py_objects.specs.declared.refs.PyBaseExceptionRef.{PyBaseExceptionRef}
use Rattle.py_objects.specs.declared.refs.PyTracebackRef.{PyTracebackRef}
use Rattle.py_objects.specs.declared.payload.Payload.{Payload}
use Rattle.py_objects.specs.declared.payload.CoroKind.{CoroKind}
use Rattle.py_objects.specs.declared.request.Request.{Request}
use Rattle.py_objects.specs.declared.event.Event.{Event}
use Rattle.py_objects.specs.declared.event.Event.TheVariants as event
use Rattle.py_objects.specs.declared.event.ResumeHow.TheVariants as how
use Rattle.py_objects.specs.declared.event.Ending.TheVariants as ending
use Rattle.py_objects.specs.declared.event.GotAnswer.TheVariants as got
use Rattle.py_objects.specs.declared.event.DriveAnswer.{DriveAnswer}
use Rattle.py_objects.specs.Objects.{Obj, IfThere, IsException, IsTraceback, as_exception, as_object, is_among, request_numbers}
use Rattle.py_objects.specs.Edits.{Kept, objects_of}
use Rattle.py_exceptions.specs.Tracebacks.{traceback_edit}
use Rattle.py_check.specs.declared.note.Kind.TheVariants as kind
use Rattle.py_rows.proofs.GrowingLemmas.{kind_grown}
use Rattle.py_objects.specs.Growth.{IsGrown}
use Rattle.py_objects.proofs.GrownLemmas.{grown_refl, grown_trans, objects_grow}
use Rattle.py_stack.specs.Slots.{Slots, topmost}
use Rattle.py_rows.specs.Answers.{IsAnswer, wanted}
use Rattle.py_rows.specs.Laws.{RaisedThere}
use Rattle.py_frame.specs.declared.input.Answer.{Answer}
use Rattle.py_frame.specs.declared.input.Answer.TheVariants as given
use Rattle.py_frame.specs.declared.input.FrameStep.{FrameStep}
use Rattle.py_frame.specs.declared.input.FrameStep.TheVariants as step
use Rattle.py_frame.specs.Steps.{got_of}
use Rattle.py_coro.specs.declared.coro.CoroEnd.{CoroEnd}
use Rattle.py_coro.specs.declared.coro.CoroEnd.TheVariants as left
use Rattle.py_coro.specs.Refusals.{word_of}
use Rattle.py_answers.specs.Answers.{Reply}
use Rattle.py_run.specs.declared.drive.Question.{Question}
use Rattle.py_run.specs.Drives.{request_of}
use Rattle.py_run.specs.Calls.{reply_by}
use Rattle.py_run.specs.Links.{AsksNow, ComeOf, ComeOfAnswer, ComeOfTop, GetsContext, GivesContext, ObjectEdit, PutsEntry, Raises, RaisesIf, Scene, TellsNow, is_fresh, named_by}
use Rattle.py_run.specs.Raises.{is_raising}
use Rattle.py_run.specs.Run.{Act, Due, handled_among, start, state_after}
use Rattle.py_run.proofs.NamedLemmas.{asked_named, behind_fresh, due_named}
use Rattle.py_vm.specs.declared.machinery.Core.{Core}
use Rattle.py_vm.specs.declared.reply.Reply.{Reply as MadeReply}
use Rattle.py_vm.specs.declared.reply.Reply.TheVariants as made
use Rattle.py_vm.specs.declared.generators.KeptGenerator.{KeptGenerator}
use Rattle.py_vm.specs.declared.stage.Halted.{Halted}
use Rattle.py_vm.specs.declared.stage.Running.{Running}
use Rattle.py_vm.specs.declared.stage.Stage.{Stage}
use Rattle.py_vm.specs.declared.stage.Stage.TheVariants as stage
use Rattle.py_vm.specs.declared.stage.Suspended.{Suspended}
use Rattle.py_vm.specs.declared.raising.Raising.{Raising}
use Rattle.py_vm.specs.Advancing.{may_of}
use Rattle.py_vm.specs.Codes.{Checked}
use Rattle.py_vm.specs.Links.{lines_of}
use Rattle.py_vm.specs.Raising.{brought, raising_by, raising_in, AreThere, IsNewEntry, IsNoted}
use Rattle.py_vm.specs.Courses.{IsMadeAfter, IsPassedBy, IsReplied}
use Rattle.py_vm.specs.Generators.{generator_asked}
use Rattle.py_vm.specs.Stands.{HasEntered, IsHalted, Keeps, asking, caller_acts, first_slot, slots_in, caller_frames}
use Rattle.py_vm.specs.Turns.{end_numbers, passed, resumed_by, result_of, Comes_on, Finished, IsEntering, IsSettled, IsStepped, KeepsValue, Replies, Started, Turned}
use Rattle.py_vm.proofs.AskedLemmas.{AskedBy, FitsWho, Waiting, raised_exception}
use Rattle.py_vm.proofs.ChainLemmas.{AreHalted, callers_handle, halted_handles, inside_halted, raised_grown, slots_there, topmost_holds}
use Rattle.py_vm.proofs.ChangesLemmas.{each_at}
use Rattle.py_vm.proofs.EnteringLemmas.{IsReadyFor, asked_halted, enters_ready}
use Rattle.py_vm.proofs.FinishingLemmas.{grown as created_grown, replied as created_replied, Asker, any_fits, asker, call_replied, calling_any, calling_none, wants_any}
use Rattle.py_vm.proofs.HandlesLemmas.{handles_then}
use Rattle.py_vm.proofs.LinksLemmas.{put_if, GivesIf}
use Rattle.py_vm.proofs.NotedLemmas.{entry_puts, entry_there, noted_grown}
use Rattle.py_vm.proofs.TellingLemmas.{step_tells, TellsStep}
use Rattle.py_vm.proofs.TurnedLemmas.{said_fits}
use Rattle.py_vm.proofs.TurnsLemmas.{IsTheirs}
use Rattle.py_objects.specs.declared.event.ResumeHow.{ResumeHow}
use Rattle.std.proofs.lemmas.Bool.Decides.{eqb_tells}

-- where its next event comes, while the objects and their changes are those of a store
abbrev pub scene_of : Core → Kept → Scene
scene_of m store = record { before = m.events; state = state_after start m.events; now = objects_of store; changed = store.changes }

-- these edits come of an event that has led from the one machine to the other
abbrev pub ComesThen : (m m' : Core) → Event → List ObjectEdit → Type 0
ComesThen m m' e edits = ComeOf (may_of m') (lines_of m'.world.codes) m'.world.store.made (scene_of m m'.world.store) e edits

-- an exception that an event brought into a body gets its links there; where it brought none, no link comes of it
abbrev pub BringsAs : (m m' : Core) → Event → Option Raising → Type 0
BringsAs m m' e None = ComesThen m m' e []
BringsAs m m' e (Some x) =
    AreThere m'.world.store.made (topmost m'.slots) x
    × ((contexts : List ObjectEdit) → GivesIf x.gets_context (objects_of m'.world.store) (topmost m'.slots) x.exception contexts → ComesThen m m' e (contexts ++ put_if x.exception x.entry))

-- an event tells what it may, where it has led to this machine
abbrev pub TellsThen : Core → Event → Type 0
TellsThen m' e = TellsNow m'.world.store.made (objects_of m'.world.store) e

-- a turn of the one machine has led to the other one, by an event that brought this into a body
pub record Brings (m m' : Core) : Type 0 where
  pub added : Event
  pub events : m'.events ≡ m.events ++ added ∷ []
  pub tells : TellsThen m' added
  pub brings : BringsAs m m' added m'.raising

-- one that brought nothing
plain : (m m' : Core) (e : Event) → m'.events ≡ m.events ++ e ∷ [] → m'.raising ≡ None → TellsThen m' e → ComesThen m m' e [] → Brings m m'
plain m m' e events none tells comes = record { added = e; events = events; tells = tells; brings = subst (BringsAs m m' e) (sym none) comes }

-- ---- who asked gets an answer

-- an exception that came from elsewhere is one that the events name
abbrev PassesNamed : List Event → Answer → Type 0
PassesNamed events (given.Value v) = Unit {0}
PassesNamed events (given.Stop v) = Unit {0}
PassesNamed events (given.Fresh e) = Unit {0}
PassesNamed events (given.Passed e) = is_among e.number (named_by events) ≡ true

passes_named : (events : List Event) (w : MadeReply) (a : Answer) → KeepsValue w a → IsPassedBy (named_by events) w → PassesNamed events a
passes_named events (made.Value v) a is named = subst (PassesNamed events) (sym is) tt
passes_named events (made.Fresh e) a is named = subst (PassesNamed events) (sym is) tt
passes_named events (made.Passed e) a is named = subst (PassesNamed events) (sym is) named
passes_named events (made.Yields v) a is named = subst (PassesNamed events) (sym is) tt
passes_named events (made.Stops v) a (e, is) named = subst (PassesNamed events) (sym is) tt
passes_named events made.Closes a (v, is) named = subst (PassesNamed events) (sym is) tt

-- what is handled where the innermost of these asked, or the drive
asked_handles : (m : Core) (d : Question) (hs : List Halted) → AskedBy m d hs → handled_among (state_after start m.events).stack ≡ topmost m.slots
asked_handles m d [] alone = ap handled_among alone.stack ∙ sym (ap topmost alone.slots)
asked_handles m d (h ∷ hs) waits =
    let around : AreHalted m hs = inside_halted m m.world.generators d h.running.kind h.running.act hs waits.inside in
    ap handled_among waits.stack ∙ halted_handles m h hs (caller_acts m.events hs) waits.halted (callers_handle m hs around) ∙ sym (ap topmost waits.slots)

slots_of : (m : Core) (d : Question) (hs : List Halted) → AskedBy m d hs → m.slots ≡ slots_in hs
slots_of m d [] alone = alone.slots
slots_of m d (h ∷ hs) waits = waits.slots

-- which is an exception
asked_there : (m : Core) (d : Question) (hs : List Halted) → AskedBy m d hs → RaisedThere m.world.store.made (topmost m.slots)
asked_there m d hs asked =
    subst (λ (l : Slots). RaisedThere m.world.store.made (topmost l)) (sym (slots_of m d hs asked)) (topmost_holds m (RaisedThere m.world.store.made) (slots_in hs) tt (slots_there m hs (asked_halted m d hs asked)))

-- the activation that waits gets it
module _ (m : Core) (d : Question) (s : Stage) (h : Halted) (hs : List Halted) (mid store : Kept) (m' : Core) (k : Keeps m d s) (waits : Waiting m d h hs) (grown : IsGrown m.world.store mid) (more : IsGrown mid store) (same : m'.world.store ≡ store)
    (slots : m'.slots ≡ m.slots) (codes : m'.world.codes ≡ m.world.codes) where
  abbrev asked : Request
  asked = waits.halted.question.request

  there : RaisedThere m'.world.store.made (topmost m'.slots)
  there = subst (λ (t : Kept). RaisedThere t.made (topmost m'.slots)) (sym same)
      (subst (λ (l : Slots). RaisedThere store.made (topmost l)) (sym slots)
      (raised_grown m.world.store.made store.made (topmost m.slots) (objects_grow m.world.store store (grown_trans m.world.store mid store grown more)) (asked_there m d (h ∷ hs) waits)))

  -- its links come of it
  come : (w : Answer) (edits : List ObjectEdit) → ComeOfAnswer (lines_of m'.world.codes) m'.world.store.made (Some asked) (scene_of m m'.world.store) h.running.act waits.halted.question.at (got_of w) edits
      → ComesThen m m' (event.Got h.running.act (got_of w)) edits
  come w edits comes =
      let q = waits.halted.question in
      let stack : (state_after start m.events).stack ≡ record { number = h.running.act; asks = Some asked; own = q.own; at = q.at } ∷ caller_acts m.events hs =
      waits.stack ∙ ap (λ (y : Option Event). asking h.running.act y ∷ caller_acts m.events hs) q.entry in
      subst (λ (l : List Act). ComeOfTop (lines_of m'.world.codes) m'.world.store.made l (scene_of m m'.world.store) h.running.act (got_of w) edits) (sym stack) comes

  -- the context
  gives : (x : PyBaseExceptionRef) (edits : List ObjectEdit) → GivesContext (objects_of m'.world.store) (topmost m'.slots) x edits → GetsContext true (scene_of m m'.world.store) x edits
  gives x edits link = subst (λ t. GivesContext (objects_of m'.world.store) t x edits) (ap topmost slots ∙ sym (asked_handles m d (h ∷ hs) waits)) link

  gives_if : (gets : Bool) (x : PyBaseExceptionRef) (edits : List ObjectEdit) → GivesIf gets (objects_of m'.world.store) (topmost m'.slots) x edits → GetsContext gets (scene_of m m'.world.store) x edits
  gives_if true x edits link = gives x edits link
  gives_if false x edits none = none

  -- and the entry
  puts : (x : PyBaseExceptionRef) (entry : PyTracebackRef) → IsException mid.made (as_object x) → IsNewEntry m.world.codes mid h.running x entry store
      → PutsEntry (lines_of m'.world.codes) m'.world.store.made (scene_of m m'.world.store) h.running.act waits.halted.question.at x ((as_object x, traceback_edit (Some entry)) ∷ [])
  puts x entry raises made =
      subst (λ (c : Checked). PutsEntry (lines_of c) m'.world.store.made (scene_of m m'.world.store) h.running.act waits.halted.question.at x ((as_object x, traceback_edit (Some entry)) ∷ [])) (sym codes)
      (subst (λ (t : Kept). PutsEntry (lines_of m.world.codes) t.made (scene_of m t) h.running.act waits.halted.question.at x ((as_object x, traceback_edit (Some entry)) ∷ [])) (sym same)
      (entry_puts m h (first_slot h.running.kind hs) mid store x entry waits.halted k.marked.below k.told.named grown raises made))

  entry_is_there : (x : PyBaseExceptionRef) (entry : PyTracebackRef) → IsException mid.made (as_object x) → IsNewEntry m.world.codes mid h.running x entry store → IsTraceback m'.world.store.made (record { number = entry.number })
  entry_is_there x entry raises made = subst (λ (t : Kept). IsTraceback t.made (record { number = entry.number })) (sym same)
      (entry_there m h (first_slot h.running.kind hs) mid store x entry waits.halted k.marked.below k.told.named grown raises made)

  -- an exception that it raises gets both
  raises_so : (gets : Bool) (x : PyBaseExceptionRef) (entry : PyTracebackRef) (edits : List ObjectEdit) → IsException mid.made (as_object x) → IsNewEntry m.world.codes mid h.running x entry store
      → GivesIf gets (objects_of m'.world.store) (topmost m'.slots) x edits
      → Raises (lines_of m'.world.codes) m'.world.store.made gets (scene_of m m'.world.store) h.running.act waits.halted.question.at x (edits ++ put_if x (Some entry))
  raises_so gets x entry edits raises made link =
      record { contexts = edits; gets = gives_if gets x edits link; entries = put_if x (Some entry); puts = puts x entry raises made; both = refl }

  brought_there : (gets : Bool) (x : PyBaseExceptionRef) (entry : PyTracebackRef) → IsException mid.made (as_object x) → IsNewEntry m.world.codes mid h.running x entry store
      → AreThere m'.world.store.made (topmost m'.slots) (record { exception = x; gets_context = gets; entry = Some entry })
  brought_there gets x entry raises made = record {
    exception = subst (λ (t : Kept). IsException t.made (as_object x)) (sym same) (kind_grown mid.made store.made (as_object x) kind.Exc (objects_grow mid store more) raises);
    handled_there = there;
    entry = entry_is_there x entry raises made;
  }

  -- whether an exception that is raised gets its context
  brings_raise : (w : Answer) (gets : Bool) (x : PyBaseExceptionRef) (raising : Option Raising) → got_of w ≡ got.Raise x → is_fresh m.events x ≡ gets → IsException mid.made (as_object x)
      → IsNoted m.world.codes mid h.running (Some (brought x gets)) store m.raising raising → BringsAs m m' (event.Got h.running.act (got_of w)) raising
  brings_raise w gets x raising is fresh raises (entry, made, noted) = subst (BringsAs m m' (event.Got h.running.act (got_of w))) (sym noted) (
    brought_there gets x entry raises made,
    λ edits link. come w (edits ++ put_if x (Some entry))
        (subst (λ g. ComeOfAnswer (lines_of m'.world.codes) m'.world.store.made (Some asked) (scene_of m m'.world.store) h.running.act waits.halted.question.at g (edits ++ put_if x (Some entry))) (sym is)
        (subst (λ b. Raises (lines_of m'.world.codes) m'.world.store.made b (scene_of m m'.world.store) h.running.act waits.halted.question.at x (edits ++ put_if x (Some entry))) (sym fresh) (raises_so gets x entry edits raises made link))),
  )

  by_answer : (w : Answer) (raising : Option Raising) → m.raising ≡ None → IsAnswer mid.made (wanted asked) (got_of w) → IsMadeAfter m.world.store.made w → PassesNamed m.events w
      → IsNoted m.world.codes mid h.running (raising_by (Some asked) w) store m.raising raising → BringsAs m m' (event.Got h.running.act (got_of w)) raising
  by_answer (given.Value v) raising none fits later named noted = value (is_raising (Some asked)) refl (raised_exception mid.made asked (got.Value v) fits) noted
    where
      value : (b : Bool) → is_raising (Some asked) ≡ b → IfThere (IsException mid.made) (if b then Some v else None) → IsNoted m.world.codes mid h.running (if b then Some (brought (as_exception v) true) else None) store m.raising raising
          → BringsAs m m' (event.Got h.running.act (got.Value v)) raising
      value true is raised (entry, made, noted) = subst (BringsAs m m' (event.Got h.running.act (got.Value v))) (sym noted) (
        brought_there true (as_exception v) entry raised made,
        λ edits link. come (given.Value v) (edits ++ put_if (as_exception v) (Some entry))
            (subst (λ b. RaisesIf (lines_of m'.world.codes) m'.world.store.made b (scene_of m m'.world.store) h.running.act waits.halted.question.at v (edits ++ put_if (as_exception v) (Some entry))) (sym is)
            (raises_so true (as_exception v) entry edits raised made link)),
      )
      value false is raised (still, noted) = subst (BringsAs m m' (event.Got h.running.act (got.Value v))) (sym (noted ∙ none))
          (come (given.Value v) [] (subst (λ b. RaisesIf (lines_of m'.world.codes) m'.world.store.made b (scene_of m m'.world.store) h.running.act waits.halted.question.at v []) (sym is) refl))
  by_answer (given.Stop v) raising none fits later named noted = absurd fits
  by_answer (given.Fresh e) raising none fits later named noted = brings_raise (given.Fresh e) true e raising refl (behind_fresh m.world.store.made m.events e k.told.named later) fits noted
  by_answer (given.Passed e) raising none fits later named noted = brings_raise (given.Passed e) false e raising refl (ap not named) fits noted

  pub got_brings : (w : Answer) (raising : Option Raising) → m.raising ≡ None → IsAnswer mid.made (wanted asked) (got_of w) → IsMadeAfter m.world.store.made w → PassesNamed m.events w
      → IsNoted m.world.codes mid h.running (raising_in m.events h w) store m.raising raising → BringsAs m m' (event.Got h.running.act (got_of w)) raising
  got_brings w raising none fits later named noted =
      let is : raising_in m.events h w ≡ raising_by (Some asked) w = ap (λ (y : Option Event). raising_by (asking h.running.act y).asks w) waits.halted.question.entry in
      by_answer w raising none fits later named (subst (λ r. IsNoted m.world.codes mid h.running r store m.raising raising) is noted)

-- an exception that came from elsewhere is one that the events name, where an activation gets it
abbrev NamedFor : List Event → MadeReply → List Halted → Type 0
NamedFor events w [] = Unit {0}
NamedFor events w (h ∷ hs) = IsPassedBy (named_by events) w

-- the innermost of these gets the reply, or the drive
replies_brings : (m : Core) (d : Question) (s : Stage) (hs : List Halted) (store : Kept) (list : List KeptGenerator) (reply : Reply) (w : MadeReply) (a : Option DriveAnswer) (m' : Core) → Keeps m d s → m.raising ≡ None
    → IsGrown m.world.store store → (asked_by : AskedBy m d hs) → FitsWho m d store reply hs asked_by → IsReplied m.world.store.made store.made reply w → NamedFor m.events w hs
    → Replies (record m { world = record m.world { store = store; generators = list }; callers = hs }) w hs a m' → Brings m m'
replies_brings m d s [] store list reply w a m' k none grown alone fits replied named (is_answer, is) =
    plain m m' (event.Result (m.done + 1) (result_of w)) (ap (λ (x : Core). x.events) is) (ap (λ (x : Core). x.raising) is ∙ none) tt refl
replies_brings m d s (h ∷ hs) store list reply w a m' k none grown waits fits replied named (is_answer, (mid, answer, (more, keeps, gives), (after, raising, noted, is))) =
    let all : IsGrown m.world.store mid = grown_trans m.world.store store mid grown more in
    let given = gives m.world.store.made reply (objects_grow m.world.store store grown) (grown.objects.fit k.stored.readable.fit) replied in
    let brings : BringsAs m m' (event.Got h.running.act (got_of answer)) raising =
    got_brings m d s h hs mid after m' k waits all (noted_grown m.world.codes mid h.running (raising_in m.events h answer) after m.raising raising noted) (ap (λ (x : Core). x.world.store) is) (ap (λ (x : Core). x.slots) is)
    (ap (λ (x : Core). x.world.codes) is) answer raising none (fits mid answer more given) given.later (passes_named m.events w answer keeps named) noted in
    record {
      added = event.Got h.running.act (got_of answer);
      events = ap (λ (x : Core). x.events) is;
      tells = tt;
      brings = subst (BringsAs m m' (event.Got h.running.act (got_of answer))) (sym (ap (λ (x : Core). x.raising) is)) brings;
    }

-- ---- a generator is entered

-- what is handled inside of a slot of its own
over_slot : (slot : Option PyBaseExceptionRef) (outer : Slots) → topmost (slot ∷ outer) ≡ option_or slot (topmost outer)
over_slot None outer = refl
over_slot (Some e) outer = refl

slot_or : (objects : List Payload) (slot outer : Option PyBaseExceptionRef) → RaisedThere objects slot → RaisedThere objects outer → RaisedThere objects (option_or slot outer)
slot_or objects None outer mine around = around
slot_or objects (Some e) outer mine around = mine

module _ (m : Core) (d : Question) (s : Stage) (hs : List Halted) (q : Request) (store : Kept) (list : List KeptGenerator) (x : Suspended) (k : Keeps m d s) (asked_by : AskedBy m d hs) where
  resumed_brings : (h : ResumeHow) → IsEntering m q store list x h → (m' : Core) → m' ≡ resumed_by (record m { world = record m.world { store = store; generators = list }; callers = hs }) x h → Brings m m'
  resumed_brings how.Start entering m' is = plain m m' (event.Resume x.running.act how.Start) (ap (λ (y : Core). y.events) is) (ap (λ (y : Core). y.raising) is) tt refl
  resumed_brings (how.Send v) entering m' is = plain m m' (event.Resume x.running.act (how.Send v)) (ap (λ (y : Core). y.events) is) (ap (λ (y : Core). y.raising) is) tt refl
  resumed_brings (how.Throw e) entering m' is = subst (Brings m) (sym is) (record { added = event.Resume x.running.act (how.Throw e); events = refl; tells = tt; brings = brings })
    where
      ready : IsReadyFor m store.made x (how.Throw e)
      ready =
          (enters_ready m q store entering.kept x (how.Throw e)
          (each_at m.world.codes m.globals m.world.store.made m.events m.made m.world.generators entering.object entering.kept entering.is_kept k.kept.each).activation entering.waiting entering.enters).0

      around : RaisedThere m.world.store.made (topmost m.slots)
      around = asked_there m d hs asked_by

      there : RaisedThere store.made (topmost (x.slot ∷ m.slots))
      there = raised_grown m.world.store.made store.made (topmost (x.slot ∷ m.slots)) (objects_grow m.world.store store entering.grown)
          (subst (RaisedThere m.world.store.made) (sym (over_slot x.slot m.slots)) (slot_or m.world.store.made x.slot (topmost m.slots) ready.slot_there around))

      handled : topmost (x.slot ∷ m.slots) ≡ option_or x.slot (handled_among (state_after start m.events).stack)
      handled = over_slot x.slot m.slots ∙ ap (option_or x.slot) (sym (asked_handles m d hs asked_by))

      brings : BringsAs m (resumed_by (record m { world = record m.world { store = store; generators = list }; callers = hs }) x (how.Throw e)) (event.Resume x.running.act (how.Throw e)) (Some (brought e true))
      brings = (
        record { exception = entering.enters.2.raises; handled_there = there; entry = tt },
        λ edits link. (
          x.slot,
          handles_then m.world.codes m.globals m.world.store.made m.events x.running None x.slot ready.plays ready.run store.made (objects_grow m.world.store store entering.grown) e ready.expects (objects_of store) store.changes,
          subst (λ t. GivesContext (objects_of store) t e (edits ++ [])) handled (subst (GivesContext (objects_of store) (topmost (x.slot ∷ m.slots)) e) (sym (append-nil edits)) link),
        ),
      )

-- ---- an open question comes on

-- what answers a question at once passes what the question names
said_named : (m : Core) (d : Question) (hs : List Halted) (asked_by : AskedBy m d hs) (q : Request) (w : MadeReply) → IsTheirs m d hs asked_by q → IsPassedBy (request_numbers q) w → NamedFor m.events w hs
said_named m d [] alone q w theirs named = tt
said_named m d (h ∷ hs) waits q (made.Value v) theirs named = tt
said_named m d (h ∷ hs) waits q (made.Fresh e) theirs named = tt
said_named m d (h ∷ hs) waits q (made.Passed e) theirs named =
    let x = waits.halted.question in
    asked_named e.number m.events h.place x.act x.request x.own x.at x.entry (subst (λ r. is_among e.number (request_numbers r) ≡ true) (sym theirs) named)
said_named m d (h ∷ hs) waits q (made.Yields v) theirs named = tt
said_named m d (h ∷ hs) waits q (made.Stops v) theirs named = tt
said_named m d (h ∷ hs) waits q made.Closes theirs named = tt

comes_brings : (m : Core) (d : Question) (s : Stage) (hs : List Halted) (q : Request) (a : Option DriveAnswer) (m' : Core) → Keeps m d s → m.raising ≡ None → (asked_by : AskedBy m d hs) → IsTheirs m d hs asked_by q → Comes_on m q hs a m' → Brings m m'
comes_brings m d s hs q a m' k none asked_by theirs (inl (store, list, w, said, replies)) =
    replies_brings m d s hs store list said.reply w a m' k none said.grown asked_by (said_fits m d s store said.reply hs asked_by q k theirs said.grown said.says) said.replied (said_named m d hs asked_by q w theirs said.passed) replies
comes_brings m d s hs q a m' k none asked_by theirs (inr (inl (f, vs, no_answer, enters, (b, has, c, is_code, r, unbegun, is)))) =
    plain m m' (event.Make (m.made + 1) f vs) (ap (λ (x : Core). x.events) is) (ap (λ (x : Core). x.raising) is ∙ none) tt refl
comes_brings m d s hs q a m' k none asked_by theirs (inr (inr (store, list, x, h, no_answer, entering, is))) = resumed_brings m d s hs q store list x k asked_by h entering m' is

-- ---- each stage

-- an activation that was made is entered, or becomes a generator
started_brings : (m : Core) (d : Question) (r : Running) (f : Obj) (a : Option DriveAnswer) (m' : Core) (kind : Option CoroKind) → r.kind ≡ kind → Keeps m d (stage.Made r f) → m.raising ≡ None
    → Started m r f kind a m' → Brings m m'
started_brings m d r f a m' None kind_is k none (no_answer, is) = plain m m' (event.Resume r.act how.Start) (ap (λ (x : Core). x.events) is) (ap (λ (x : Core). x.raising) is ∙ none) tt refl
started_brings m d r f a m' (Some kind) kind_is k none (x, store, new, replies) =
    let hs : List Halted = m.callers in
    let asks : Asker m d hs None r.act = asker m d None r.act hs k.follows.stack k.nested.frames k.nested.slots k.nested.apart k.at_stage.5 in
    replies_brings m d (stage.Made r f) hs store _ _ (made.Value x.object) a m' k none (created_grown m d r f kind x store k kind_is new) asks.asked_by
    (any_fits m d store _ hs asks.asked_by asks.q asks.theirs (calling_any asks.q asks.entered)) (created_replied m d r f kind x store k kind_is new) (value_named m.events x.object hs) replies
  where
    value_named : (events : List Event) (v : Obj) (hs : List Halted) → NamedFor events (made.Value v) hs
    value_named events v [] = tt
    value_named events v (h ∷ hs) = tt

-- an activation went on
stepped_brings : (m n : Core) (r : Running) (x : FrameStep) (m' : Core) → n.events ≡ m.events → n.raising ≡ None → TellsStep n.world.store x → IsStepped n r x m' → Brings m m'
stepped_brings m n r (step.Ask q own) m' events none tells is =
    plain m m' (event.Ask r.act q own (r.frame.state.last - 1)) (ap (λ (y : Core). y.events) is ∙ ap (λ l. l ++ event.Ask r.act q own (r.frame.state.last - 1) ∷ []) events) (ap (λ (y : Core). y.raising) is ∙ none)
    (subst (λ (t : Kept). AsksNow t.made (objects_of t) q) (sym (ap (λ (y : Core). y.world.store) is)) tells) refl
stepped_brings m n r step.Round m' events none tells is =
    plain m m' (event.Round r.act (r.frame.state.last - 1)) (ap (λ (y : Core). y.events) is ∙ ap (λ l. l ++ event.Round r.act (r.frame.state.last - 1) ∷ []) events) (ap (λ (y : Core). y.raising) is ∙ none) tt refl
stepped_brings m n r (step.Yield v) m' events none tells is =
    plain m m' (event.Yield r.act v (r.frame.state.last - 1)) (ap (λ (y : Core). y.events) is ∙ ap (λ l. l ++ event.Yield r.act v (r.frame.state.last - 1) ∷ []) events) (ap (λ (y : Core). y.raising) is ∙ none) tt refl
stepped_brings m n r (step.Return v) m' events none tells is =
    plain m m' (event.End r.act (ending.Return v) (r.frame.state.last - 1)) (ap (λ (y : Core). y.events) is ∙ ap (λ l. l ++ event.End r.act (ending.Return v) (r.frame.state.last - 1) ∷ []) events)
    (ap (λ (y : Core). y.raising) is ∙ none) tt refl
stepped_brings m n r (step.Raise e) m' events none tells is =
    plain m m' (event.End r.act (ending.Raise e) (r.frame.state.last - 1)) (ap (λ (y : Core). y.events) is ∙ ap (λ l. l ++ event.End r.act (ending.Raise e) (r.frame.state.last - 1) ∷ []) events)
    (ap (λ (y : Core). y.raising) is ∙ none) tt refl
stepped_brings m n r step.NoMemory m' events none tells is = absurd is

-- a number among one alone is that one
number_is : (n k : ℕ) → is_among n (k ∷ []) ≡ true → n ≡ k
number_is n k is = elim (eqb_tells n k) [
  | inl equal ↦ equal.1
  | inr differs ↦ absurd (let clash : false ≡ true = sym (ap (λ b. b || false) differs.0) ∙ is in cc clash)
]

-- what an activation that was left is answered passes what it was left by
due_passes : (m : Core) (how : CoroEnd) (w : MadeReply) (hs : List Halted) → (state_after start m.events).phase ≡ Due how → IsPassedBy (end_numbers how) w → NamedFor m.events w hs
due_passes m how w [] phase named = tt
due_passes m how (made.Value v) (h ∷ hs) phase named = tt
due_passes m how (made.Fresh e) (h ∷ hs) phase named = tt
due_passes m (left.Yield v) (made.Passed e) (h ∷ hs) phase named = absurd (cc named)
due_passes m (left.Return v) (made.Passed e) (h ∷ hs) phase named = absurd (cc named)
due_passes m (left.Raise x) (made.Passed e) (h ∷ hs) phase named = subst (λ n. is_among n (named_by m.events) ≡ true) (sym (number_is e.number x.number named)) (due_named m.events x phase)
due_passes m how (made.Yields v) (h ∷ hs) phase named = tt
due_passes m how (made.Stops v) (h ∷ hs) phase named = tt
due_passes m how made.Closes (h ∷ hs) phase named = tt

-- a call passes it, too
call_passes : (how : CoroEnd) → IsPassedBy (end_numbers how) (passed how)
call_passes (left.Yield v) = tt
call_passes (left.Return v) = tt
call_passes (left.Raise e) = ap (λ b. b || false) (eq-eqb e.number e.number refl)

module _ (m : Core) (d : Question) (s : Suspended) (how : CoroEnd) (k : Keeps m d (stage.Due s how)) (none : m.raising ≡ None) where
  abbrev asks : Asker m d m.callers s.running.kind s.running.act
  asks = asker m d s.running.kind s.running.act m.callers k.follows.stack k.nested.frames k.nested.slots k.nested.apart k.at_stage.2.inside

  settled_brings : (o : Option Obj) → generator_asked asks.q ≡ o → (store : Kept) (list : List KeptGenerator) (w : MadeReply) → IsSettled m s how o store list w → (kind : Option CoroKind) → s.running.kind ≡ kind
      → HasEntered m.world.generators asks.q kind s.running.act → (a : Option DriveAnswer) (m' : Core) → Replies (record m { world = record m.world { store = store; generators = list } }) w m.callers a m' → Brings m m'
  settled_brings None is store list w (store_is, list_is, w_is) None plain_kind calls a m' replies =
      let (reply, leaves, replied) = call_replied m s how plain_kind k.at_stage.0 k.at_stage.1 in
      replies_brings m d (stage.Due s how) m.callers store list reply w a m' k none (subst (IsGrown m.world.store) (sym store_is) (grown_refl m.world.store)) asks.asked_by
      (any_fits m d store reply m.callers asks.asked_by asks.q asks.theirs (calling_any asks.q calls))
      (subst (λ (t : Kept). IsReplied m.world.store.made t.made reply w) (sym store_is) (subst (IsReplied m.world.store.made m.world.store.made reply) (sym w_is) replied))
      (due_passes m how w m.callers k.follows.phase (subst (IsPassedBy (end_numbers how)) (sym w_is) (call_passes how))) replies
  settled_brings None is store list w settled (Some kind) with_kind enters a m' replies = absurd (let clash : None ≡ Some enters.object = sym is ∙ enters.asks in cc clash)
  settled_brings (Some g) is store list w settled None plain_kind calls a m' replies = absurd (let clash : None ≡ Some g = sym (calling_none asks.q calls) ∙ is in cc clash)
  settled_brings (Some g) is store list w (x, here, body, has, answer, finishes, grown, changes, replied, named) (Some kind) with_kind enters a m' replies =
      replies_brings m d (stage.Due s how) m.callers store list (reply_by (word_of body.kind) answer) w a m' k none grown asks.asked_by
      (any_fits m d store (reply_by (word_of body.kind) answer) m.callers asks.asked_by asks.q asks.theirs (wants_any asks.q g is)) replied (due_passes m how w m.callers k.follows.phase named) replies

  finished_brings : (a : Option DriveAnswer) (m' : Core) → Finished m d s how a m' → Brings m m'
  finished_brings a m' (q, questioned, store, list, w, settled, replies) =
      settled_brings (generator_asked asks.q) refl store list w (subst (λ r. IsSettled m s how (generator_asked r) store list w) (asks.is q questioned) settled) s.running.kind refl asks.entered a m' replies

-- each turn does
pub turned_brings : (m : Core) (d : Question) (s : Stage) (a : Option DriveAnswer) (m' : Core) → Keeps m d s → m.raising ≡ None → Turned m d s a m' → Brings m m'
turned_brings m d stage.Idle a m' k none turned = absurd turned
turned_brings m d stage.Begins a m' k none (no_answer, is) = plain m m' (event.Drive (m.done + 1)) (ap (λ (x : Core). x.events) is) (ap (λ (x : Core). x.raising) is ∙ none) tt refl
turned_brings m d stage.Asking a m' k none comes =
    let empty : m.callers ≡ [] = k.at_stage in
    comes_brings m d stage.Asking [] (request_of d) a m' k none (record { stack = k.follows.stack ∙ ap (caller_acts m.events) empty; frames = k.nested.frames ∙ ap caller_frames empty; slots = k.nested.slots ∙ ap slots_in empty }) refl comes
turned_brings m d (stage.Made r f) a m' k none started = started_brings m d r f a m' r.kind refl k none started
turned_brings m d (stage.Going r) a m' k none (no_answer, (store, grown, x, f, told, exit, stepped)) =
    stepped_brings m (record m { world = record m.world { store = store }; slots = slice_set m.slots 0 f.state.slot }) (record r { frame = f }) x m' refl none (step_tells m r store x f k.stored.readable grown told exit) stepped
turned_brings m d (stage.Waiting h) a m' k none (n, q, own, at, entry, comes) =
    let x : IsHalted m.world.codes m.globals m.world.store.made m.events h (first_slot h.running.kind m.callers) = k.at_stage.0 in
    let both : Some (event.Ask n q own at) ≡ Some (event.Ask x.question.act x.question.request x.question.own x.question.at) = sym entry ∙ x.question.entry in
    let same : x.question.request ≡ q = cc both in
    comes_brings m d (stage.Waiting h) (h ∷ m.callers) q a m' k none (record {
      halted = x;
      apart = k.nested.apart;
      others = k.at_stage.1.apart;
      outside = k.at_stage.1.outside;
      inside = k.at_stage.1.inside;
      stack = k.follows.stack;
      frames = k.nested.frames;
      slots = k.nested.slots;
    }) same comes
turned_brings m d (stage.Due s how) a m' k none finished = finished_brings m d s how k none a m' finished
