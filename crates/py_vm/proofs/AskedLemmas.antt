-- Who asked gets the answer: an activation that waits goes on, or the drive has its result.
use Rattle.std.proofs.Common.{◌≡◌, ◌++◌, ℕ, suc, List, [], ◌∷◌, Some, inl, inr, refl, sym, ap, subst, ◌∙◌, length, ◌+◌, arith}
use Rattle.std.specs.Prelude.{Option, None, slice_get}
use Rattle.py_objects.specs.declared.refs.PyBaseExceptionRef.{PyBaseExceptionRef}
use Rattle.py_objects.specs.declared.payload.Payload.{Payload}
use Rattle.py_objects.specs.declared.payload.CoroKind.{CoroKind}
use Rattle.py_objects.specs.declared.request.Request.{Request}
use Rattle.py_objects.specs.declared.request.Request.TheVariants as request
use Rattle.py_objects.specs.declared.event.GotAnswer.{GotAnswer}
use Rattle.py_objects.specs.declared.event.GotAnswer.TheVariants as got
use Rattle.py_objects.specs.declared.event.Event.{Event}
use Rattle.py_objects.specs.declared.event.Event.TheVariants as event
use Rattle.py_objects.specs.declared.event.DriveAnswer.{DriveAnswer}
use Rattle.py_objects.specs.Objects.{number_if, got_numbers, result_numbers, AllBelow, AreNamed, IfThere, IsException, Obj}
use Rattle.py_objects.specs.Growth.{Grows, GrowsPlainly, IsGrown}
use Rattle.py_objects.specs.Own.{Gets, whose}
use Rattle.py_objects.specs.Edits.{Kept}
use Rattle.py_objects.proofs.GrowthLemmas.{below_more, grows_plainly_refl, length_grown}
use Rattle.py_objects.proofs.GrownLemmas.{objects_grow, grown_trans, grown_longer}
use Rattle.py_stack.specs.Slots.{Slots, top_of}
use Rattle.py_rows.specs.declared.expect.Expect.{Expect}
use Rattle.py_rows.specs.RunOfRows.{Runs, started}
use Rattle.py_rows.specs.Answers.{wanted, IsAnswer}
use Rattle.py_rows.specs.Laws.{IsMoving}
use Rattle.py_frame.specs.declared.input.Input.TheVariants as input
use Rattle.py_frame.specs.declared.input.Answer.{Answer}
use Rattle.py_frame.specs.Frames.{handed}
use Rattle.py_frame.specs.Steps.{Expects, got_of, taken}
use Rattle.py_answers.specs.Answers.{Reply, GivesBody, GivesDrive}
use Rattle.py_run.specs.declared.drive.Question.{Question}
use Rattle.py_run.specs.Run.{Posed, start, state_after, top_asks, question}
use Rattle.py_run.specs.Raises.{raised_by}
use Rattle.py_run.specs.Generators.{answered, returned_by, value_of}
use Rattle.py_run.specs.Coming.{IsAnswered}
use Rattle.py_vm.specs.declared.stage.Running.{Running}
use Rattle.py_vm.specs.declared.stage.Halted.{Halted}
use Rattle.py_vm.specs.declared.stage.Stage.{Stage}
use Rattle.py_vm.specs.declared.reply.Reply.{Reply as MadeReply}
use Rattle.py_vm.specs.declared.reply.Reply.TheVariants as made
use Rattle.py_vm.specs.declared.generators.KeptGenerator.{KeptGenerator}
use Rattle.py_vm.specs.declared.machinery.Core.{Core}
use Rattle.py_vm.specs.Courses.{GivesReply, IsReplied}
use Rattle.py_vm.specs.Generators.{modes_of}
use Rattle.py_vm.specs.Machine.{plan_of}
use Rattle.py_vm.specs.declared.raising.Raising.{Raising}
use Rattle.py_vm.specs.Raising.{raising_in}
use Rattle.py_vm.specs.Stands.{AreApart, IsApart, IsHalted, IsInside, IsOutside, Keeps, Plays, asking, caller_acts, caller_frames, first_slot, slots_in, stacked}
use Rattle.py_vm.specs.Turns.{past_at, got_by, heard_by, result_by, result_of, IsAnswerTo, KeepsValue, Replies, Turns}
use Rattle.py_vm.proofs.PlaysLemmas.{plays_hears, setting_in}
use Rattle.py_vm.proofs.JournalLemmas.{next_number, top_is}
use Rattle.py_vm.proofs.ChainLemmas.{AreHalted, AreOthers, acts_still, each_still, inside_halted, inside_on, zero_outside}
use Rattle.py_vm.proofs.ChangesLemmas.{IsChange}
use Rattle.py_vm.proofs.NextLemmas.{drive_told, next_law, played_told, slots_heard, IsNext}
use Rattle.py_vm.proofs.NotedLemmas.{answers_on, noted_grown}
use Rattle.py_vm.proofs.QuestionsLemmas.{Answers}
use Rattle.py_vm.proofs.GoingLemmas.{goes}

-- an activation that waits inside of these, where a machine is so far
pub record Waiting (m : Core) (d : Question) (h : Halted) (hs : List Halted) : Type 0 where
  pub halted : IsHalted m.world.codes m.globals m.world.store.made m.events h (first_slot h.running.kind hs)
  pub apart : AreApart hs
  pub others : IsApart h.running.act hs
  pub outside : IsOutside h.running.act m.world.generators
  pub inside : IsInside m.world.codes m.globals m.world.store.made m.events m.world.generators d h.running.kind h.running.act hs
  pub stack : (state_after start m.events).stack ≡ asking h.running.act (slice_get m.events h.place) ∷ caller_acts m.events hs
  pub frames : m.frames ≡ caller_frames hs ++ h.running.frame.entry ∷ []
  pub slots : m.slots ≡ slots_in (h ∷ hs)

-- nothing runs, and the drive asks
pub record Alone (m : Core) : Type 0 where
  pub stack : (state_after start m.events).stack ≡ []
  pub frames : m.frames ≡ []
  pub slots : m.slots ≡ slots_in []

-- the innermost of these asks, or the drive
abbrev pub AskedBy : Core → Question → List Halted → Type 0
AskedBy m d [] = Alone m
AskedBy m d (h ∷ hs) = Waiting m d h hs

-- whose event the answer is
abbrev pub who : List Halted → ℕ
who [] = 0
who (h ∷ hs) = h.running.act

-- the top of what is stacked
top_stacked : (k : Option CoroKind) (slot : Option PyBaseExceptionRef) (outer : Slots) → top_of (stacked k slot outer) ≡ slot
top_stacked None slot outer = refl
top_stacked (Some kind) slot outer = refl

-- the question that is answered, by a value that this may be
abbrev pub IsFold : Core → Question → (Option Obj → Type 0) → List KeptGenerator → Type 0
IsFold m d May list =
    (asked : List Posed) (v : Option Obj) → IsNext m d asked → May v
    → answered (question (plan_of m.world.codes asked) (state_after start m.events)) (state_after start m.events).phase (length (state_after start m.events).made) v (modes_of m.world.generators) ≡ modes_of list

-- what an answer that is as it is wanted raises is an exception
pub raised_exception : (objects : List Payload) (q : Request) (g : GotAnswer) → IsAnswer objects (wanted q) g → IfThere (IsException objects) (raised_by (Some q) g)
raised_exception objects request.Handled (got.Value v) is = is
raised_exception objects (request.Raisable u) (got.Value v) is = is
raised_exception objects _ (got.Value v) is = tt
raised_exception objects q (got.Stop v) is = tt
raised_exception objects q (got.Raise e) is = is

-- it gets the answer to what it asked, which is as it is wanted and names objects
pub got_law : (m : Core) (d : Question) (s : Stage) (h : Halted) (hs : List Halted) (store : Kept) (list : List KeptGenerator) (raising : Option Raising) (w : Answer) (Other : ℕ → Type 0) → Keeps m d s → IsGrown m.world.store store → (waits : Waiting m d h hs)
    → IsAnswer store.made (wanted waits.halted.question.request) (got_of w) → AllBelow (length store.made) (got_numbers (got_of w))
    → ((asked : List Posed) → IsNext m d asked → (reply : Reply) × IsAnswered (plan_of m.world.codes asked) store.made (past_at m) reply × GivesBody store.made m.events reply (got_of w))
    → IsChange m Other store (event.Got h.running.act (got_of w)) list → AreOthers Other hs → Other h.running.act → IsFold m d (λ v. v ≡ value_of (got_of w)) list
    → Turns m d s None (got_by (record m { world = record m.world { store = store; generators = list }; callers = hs; raising = raising }) h.running w)
got_law m d s h hs store list raising w Other k grown waits as_wanted below replied change others other fold =
    let r : Running = h.running in
    let e : Event = event.Got r.act (got_of w) in
    let old = waits.halted.plays in
    let q = waits.halted.question in
    let waiting = waits.halted.waits in
    let first : Option PyBaseExceptionRef = first_slot r.kind hs in
    let slot : Option PyBaseExceptionRef = top_of m.slots in
    let shares : slot ≡ r.frame.state.slot = ap top_of waits.slots ∙ top_stacked r.kind r.frame.state.slot (slots_in hs) in
    let stack : (state_after start m.events).stack ≡ record { number = r.act; asks = Some q.request; own = q.own; at = q.at } ∷ caller_acts m.events hs =
    waits.stack ∙ ap (λ y. asking r.act y ∷ caller_acts m.events hs) q.entry in
    let halted : AreHalted m hs = inside_halted m m.world.generators d r.kind r.act hs waits.inside in
    let grows : Grows m.world.store.made store.made = objects_grow m.world.store store grown in
    let now : Running = heard_by m r (input.Answer w) in
    let expects : Expects store.made (setting_in m.world.codes m.globals old.code r.frame.closure) r.frame.state.wants (input.Answer w) =
    subst (λ (y : Expect). Expects store.made (setting_in m.world.codes m.globals old.code r.frame.closure) y (input.Answer w)) (sym waiting) (λ k. (as_wanted, refl)) in
    let run : Runs m.world.store.made (setting_in m.world.codes m.globals old.code r.frame.closure) (started old.code.code first old.activation.args) old.told (handed slot r.frame.state) =
    subst (λ (x : Option PyBaseExceptionRef). Runs m.world.store.made (setting_in m.world.codes m.globals old.code r.frame.closure) (started old.code.code first old.activation.args) old.told (handed x r.frame.state)) (sym shares) old.run in
    let low = subst (λ (x : Option PyBaseExceptionRef). AllBelow (length store.made) (number_if x)) (sym shares) (below_more _ _ _ (length_grown m.world.store.made store.made grows) old.running.below.in_slot) in
    let plays : Plays m.world.codes m.globals store.made (m.events ++ e ∷ []) now first =
    plays_hears m.world.codes m.globals m.world.store.made store.made m.events e grows r refl first slot first (input.Answer w) (Gets (length m.events) (got_of w)) refl refl below (record { below = low; left = inr shares }) old expects run in
    next_law m d s e None (got_by (record m { world = record m.world { store = store; generators = list }; callers = hs; raising = raising }) r w) k (record {
      grown = grown_longer m.world.store store grown;
      done = k.follows.done;
      phase = refl;
      stack = ap (top_asks None None 0) stack ∙ ap (λ l. goes r ∷ l) (acts_still m e hs halted);
      made = k.follows.made;
      modes = λ asked is. fold asked (value_of (got_of w)) is refl;
      told = played_told m s store e d k grown refl below now first refl plays;
      kept = record { each = change.each (each_still m store.made e grows m.made m.made m.world.generators (omega arith) waits.outside k.kept.each); single = change.single k.kept.single };
      apart = waits.apart;
      frames = waits.frames;
      slots = slots_heard r.kind (slots_in hs) m.slots r.frame.state.slot r.frame.state.wants (inr shares) (waits.slots ∙ ap (λ x. stacked r.kind x (slots_in hs)) (sym shares));
      at_stage = (
        record { plays = plays; moves = subst (λ (x : Expect). IsMoving (taken (input.Answer w) x)) (sym waiting) tt },
        record {
          apart = waits.others;
          outside = change.carried.outside r.act other waits.outside;
          inside = inside_on m store.made e grows Other m.world.generators list change.carried d r.kind r.act hs waits.others others other waits.inside;
        },
      );
    }) (refl, tt) (λ asked is. (top_is m r (Some q.request) q.own q.at (caller_acts m.events hs) stack, replied asked is))

-- the drive has its result, where what it asked is answered and no activation runs
pub result_law : (m : Core) (d : Question) (s : Stage) (store : Kept) (list : List KeptGenerator) (w : MadeReply) (Other : ℕ → Type 0) → Keeps m d s → m.callers ≡ [] → Alone m → IsGrown m.world.store store
    → AllBelow (length store.made) (result_numbers (result_of w))
    → ((asked : List Posed) → IsNext m d asked → (reply : Reply) × IsAnswered (plan_of m.world.codes asked) store.made (past_at m) reply × GivesDrive store.made m.events reply (result_of w))
    → IsChange m Other store (event.Result (m.done + 1) (result_of w)) list → IsFold m d (λ v. v ≡ returned_by (result_of w)) list
    → Turns m d s (Some (result_of w)) (result_by (record m { world = record m.world { store = store; generators = list } }) (result_of w))
result_law m d s store list w Other k none alone grown below replied change fold =
    let e : Event = event.Result (m.done + 1) (result_of w) in
    let n : Core = result_by (record m { world = record m.world { store = store; generators = list } }) (result_of w) in
    let grows : Grows m.world.store.made store.made = objects_grow m.world.store store grown in
    next_law m d s e (Some (result_of w)) n k (record {
      grown = grown_longer m.world.store store grown;
      done = ap suc k.follows.done ∙ sym (next_number _ _ refl);
      phase = refl;
      stack = alone.stack ∙ sym (ap (caller_acts (m.events ++ e ∷ [])) none);
      made = k.follows.made;
      modes = λ asked is. fold asked (returned_by (result_of w)) is refl;
      told = drive_told m s store e d k grown refl below refl;
      kept = record { each = change.each (each_still m store.made e grows m.made m.made m.world.generators (omega arith) (zero_outside m m.made m.world.generators k.kept.each) k.kept.each); single = change.single k.kept.single };
      apart = k.nested.apart;
      frames = alone.frames ∙ sym (ap caller_frames none);
      slots = alone.slots ∙ sym (ap slots_in none);
      at_stage = none;
    }) (refl, refl, refl)
    (λ asked is. let (reply, answered, gives) = replied asked is in (next_number _ _ k.follows.done, alone.stack, inl (reply, inl answered, gives)))

-- ---- by a reply

-- what a reply names, its result does
said_below : (old new : List Payload) (reply : Reply) (w : MadeReply) → IsReplied old new reply w → AllBelow (length new) (result_numbers (result_of w))
said_below old new reply (made.Value v) x = (x.below, tt)
said_below old new reply (made.Fresh e) x = (x.0.below, tt)
said_below old new reply (made.Passed e) x = (x.0.below, tt)
said_below old new reply (made.Yields v) x = (x.1, tt)
said_below old new reply (made.Stops v) x = x.1
said_below old new reply made.Closes x = tt

-- what gives a reply gives the result of a drive
gives_result : (old new : List Payload) (before : List Event) (reply : Reply) (w : MadeReply) → AreNamed old before → IsReplied old new reply w → GivesDrive new before reply (result_of w)
gives_result old new before reply (made.Value v) named x = x.gives before named
gives_result old new before reply (made.Fresh e) named x = x.0.gives before named
gives_result old new before reply (made.Passed e) named x = x.0.gives before named
gives_result old new before reply (made.Yields v) named x = x.0
gives_result old new before reply (made.Stops v) named x = x.0
gives_result old new before reply made.Closes named x = x

-- the value that a body or a drive gets where a new object is answered
abbrev pub MayBe : MadeReply → Option Obj → Type 0
MayBe (made.Value u) v = v ≡ Some u
MayBe (made.Fresh e) v = Unit {0}
MayBe (made.Passed e) v = Unit {0}
MayBe (made.Yields u) v = Unit {0}
MayBe (made.Stops u) v = Unit {0}
MayBe made.Closes v = Unit {0}

got_may : (w : MadeReply) (a : Answer) → KeepsValue w a → MayBe w (value_of (got_of a))
got_may (made.Value u) a is = ap (λ b. value_of (got_of b)) is
got_may (made.Fresh e) a is = tt
got_may (made.Passed e) a is = tt
got_may (made.Yields u) a is = tt
got_may (made.Stops u) a is = tt
got_may made.Closes a is = tt

result_may : (w : MadeReply) → MayBe w (returned_by (result_of w))
result_may (made.Value u) = refl
result_may (made.Fresh e) = tt
result_may (made.Passed e) = tt
result_may (made.Yields u) = tt
result_may (made.Stops u) = tt
result_may made.Closes = tt

-- an answer by a reply is as who asked wants it
abbrev pub FitsWho : (m : Core) (d : Question) → Kept → Reply → (hs : List Halted) → AskedBy m d hs → Type 0
FitsWho m d store reply [] alone = Unit {0}
FitsWho m d store reply (h ∷ hs) waits = (store' : Kept) (a : Answer) → IsGrown store store' → GivesReply m.world.store.made store'.made reply a → IsAnswer store'.made (wanted waits.halted.question.request) (got_of a)

-- who asked gets the reply
pub replies_law : (m : Core) (d : Question) (s : Stage) (hs : List Halted) (store : Kept) (list : List KeptGenerator) (reply : Reply) (w : MadeReply) (a : Option DriveAnswer) (m' : Core) (Other : ℕ → Type 0) → Keeps m d s
    → IsGrown m.world.store store → (asked_by : AskedBy m d hs) → FitsWho m d store reply hs asked_by → ((objects : List Payload) → GrowsPlainly store.made objects → Answers m d objects reply) → IsReplied m.world.store.made store.made reply w
    → ((store' : Kept) (e : Event) → IsGrown m.world.store store' → who hs ≡ whose e → GrowsPlainly store.made store'.made → IsChange m Other store' e list) → AreOthers Other hs → IsFold m d (MayBe w) list → (hs ≡ [] → m.callers ≡ [])
    → Replies (record m { world = record m.world { store = store; generators = list }; callers = hs }) w hs a m' → Turns m d s a m'
replies_law m d s [] store list reply w a m' Other k grown alone fits answers replied change others fold none (is_answer, is) =
    let e : Event = event.Result (m.done + 1) (result_of w) in
    let callers : m.callers ≡ [] = none refl in
    let turned : Turns m d s (Some (result_of w)) (result_by (record m { world = record m.world { store = store; generators = list } }) (result_of w)) = result_law m d s store list w Other k callers alone grown (said_below m.world.store.made store.made reply w replied)
    (λ asked is. (reply, answers store.made (grows_plainly_refl store.made) asked is, gives_result m.world.store.made store.made m.events reply w k.told.named replied)) (change store e grown refl (grows_plainly_refl store.made))
    (λ asked v is same. fold asked v is (subst (MayBe w) (sym same) (result_may w))) in
    let same : m' ≡ result_by (record m { world = record m.world { store = store; generators = list } }) (result_of w) =
    is ∙ ap (λ hs. result_by (record m { world = record m.world { store = store; generators = list }; callers = hs }) (result_of w)) (sym callers) in
    subst (λ x. Turns m d s x m') (sym is_answer) (subst (Turns m d s (Some (result_of w))) (sym same) turned)
replies_law m d s (h ∷ hs) store list reply w a m' Other k grown waits fits answers replied change others fold none (is_answer, (mid, answer, answers_to, (store', raising, noted, is))) =
    let (more, keeps, gives) : IsAnswerTo store store' w answer = answers_on store mid store' w answer answers_to (noted_grown m.world.codes mid h.running (raising_in m.events h answer) store' m.raising raising noted) in
    let all : IsGrown m.world.store store' = grown_trans m.world.store store store' grown more in
    let given : GivesReply m.world.store.made store'.made reply answer = gives m.world.store.made reply (objects_grow m.world.store store grown) (grown.objects.fit k.stored.readable.fit) replied in
    let turned = got_law m d s h hs store' list raising answer Other k all waits (fits store' answer more given) given.below
    (λ asked next. (reply, answers store'.made more.objects asked next, given.gives m.events k.told.named)) (change store' (event.Got h.running.act (got_of answer)) all refl more.objects) others.1 others.0
    (λ asked v next same. fold asked v next (subst (MayBe w) (sym same) (got_may w answer keeps))) in
    subst (λ x. Turns m d s x m') (sym is_answer) (subst (Turns m d s None) (sym is) turned)
