-- A whole turn: a machine that keeps its invariant is ready for it, and keeps it.
use Rattle.std.proofs.Common.{◌≡◌, ℕ, List, [], ◌∷◌, Some, inl, inr, refl, sym, ap, subst, ◌∙◌, length, arith}
use Rattle.std.specs.Prelude.{Option, None, drop, slice_get}
use Rattle.std.proofs.lemmas.Bool.Decides.{eqb_tells}
use Rattle.std.proofs.lemmas.Option.{slice_get_within}
use Rattle.py_objects.specs.declared.refs.PyBaseExceptionRef.{PyBaseExceptionRef}
use Rattle.py_objects.specs.declared.payload.Payload.{Payload}
use Rattle.py_objects.specs.declared.payload.Payload.TheVariants as payload
use Rattle.py_objects.specs.declared.payload.CoroKind.{CoroKind}
use Rattle.py_objects.specs.declared.request.Request.{Request}
use Rattle.py_objects.specs.declared.event.Event.{Event}
use Rattle.py_objects.specs.declared.event.Event.TheVariants as event
use Rattle.py_objects.specs.declared.event.DriveAnswer.{DriveAnswer}
use Rattle.py_objects.specs.Objects.{Obj, HasPayload, request_numbers, AllBelow}
use Rattle.py_objects.specs.Growth.{IsGrown}
use Rattle.py_objects.specs.Edits.{Kept}
use Rattle.py_objects.proofs.GrownLemmas.{objects_grow, grown_trans}
use Rattle.py_stack.specs.Slots.{Slots, topmost, top_of}
use Rattle.py_coro.specs.Modes.{Mode, Fresh, Suspended as Left, Running as Entered, Closed}
use Rattle.py_rows.specs.Answers.{IsAnswer, wanted}
use Rattle.py_rows.specs.Laws.{RaisedThere}
use Rattle.py_frame.specs.Steps.{got_of}
use Rattle.py_answers.specs.Answers.{Reply}
use Rattle.py_answers.specs.Replying.{IsGenerator}
use Rattle.py_run.specs.declared.drive.Question.{Question}
use Rattle.py_run.specs.Calls.{ComesTo, Says}
use Rattle.py_run.specs.Drives.{request_of}
use Rattle.py_run.specs.Raises.{is_raising}
use Rattle.py_run.specs.Run.{start, state_after, question}
use Rattle.py_run.specs.Generators.{answered, closed_by}
use Rattle.py_run.proofs.RunLemmas.{answered_grows, comes_to_grows}
use Rattle.py_vm.specs.declared.stage.Running.{Running}
use Rattle.py_vm.specs.declared.stage.Halted.{Halted}
use Rattle.py_vm.specs.declared.stage.Suspended.{Suspended}
use Rattle.py_vm.specs.declared.stage.Stage.{Stage}
use Rattle.py_vm.specs.declared.stage.Stage.TheVariants as stage
use Rattle.py_vm.specs.declared.reply.Reply.{Reply as MadeReply}
use Rattle.py_vm.specs.declared.generators.KeptGenerator.{KeptGenerator}
use Rattle.py_vm.specs.declared.machinery.Core.{Core}
use Rattle.py_vm.specs.Codes.{Checked}
use Rattle.py_vm.specs.Generators.{generator_asked, kept_at, modes_of, IsRunningNow}
use Rattle.py_vm.specs.Machine.{plan_of, IsAskable}
use Rattle.py_vm.specs.Raising.{IsTraceable}
use Rattle.py_vm.specs.Stands.{AreEach, HasEntered, IsGoing, IsHalted, IsInside, IsKept as IsKeptAs, Keeps, KeepsIn, asking, caller_acts, caller_frames, first_slot, slots_in, stacked}
use Rattle.py_vm.specs.Turns.{past_at, setting_at, AnsweredOne, Comes_on, IsBusy, IsSaid, Replies, Started, Turned, Turns}
use Rattle.py_vm.specs.Ready.{AreReady, AsksNoRaise, CanReply, FirstAsks, HasOwnSlot, HoldsIn, IsReady}
use Rattle.py_vm.proofs.RaisingLemmas.{entering_none}
use Rattle.py_vm.proofs.WantedLemmas.{said_wanted}
use Rattle.py_vm.proofs.KeptLemmas.{kept_object}
use Rattle.py_vm.proofs.ChainLemmas.{Anyone, AreHalted, all_others, inside_halted, raised_grown, slots_shape, slots_there, topmost_holds}
use Rattle.py_vm.proofs.ChangesLemmas.{IsChange, each_at}
use Rattle.py_vm.proofs.ShuttingLemmas.{said_change}
use Rattle.py_vm.proofs.NextLemmas.{done_counted, made_counted}
use Rattle.py_vm.proofs.QuestionsLemmas.{IsOpen, body_open, drive_below, drive_open, said_answers}
use Rattle.py_vm.proofs.TellingLemmas.{stepped_law}
use Rattle.py_vm.proofs.AskedLemmas.{AskedBy, FitsWho, IsFold, MayBe, replies_law}
use Rattle.py_vm.proofs.TurnsLemmas.{begun_law, made_law, IsTheirs}
use Rattle.py_vm.proofs.EnteringLemmas.{asked_halted, entered_law, resumed_law}
use Rattle.py_vm.proofs.FinishingLemmas.{Asker, asker, calling_none, created_law, finished_law}

-- ---- an open question comes on

-- what is said is as who asked wants it
pub said_fits : (m : Core) (d : Question) (s : Stage) (store : Kept) (reply : Reply) (hs : List Halted) (asked_by : AskedBy m d hs) (q : Request) → Keeps m d s → IsTheirs m d hs asked_by q → IsGrown m.world.store store
    → ComesTo (setting_at m) m.world.store.made q (Says reply) → FitsWho m d store reply hs asked_by
said_fits m d s store reply [] alone q k theirs grown says = tt
said_fits m d s store reply (h ∷ hs) waits q k theirs grown says = λ store' a more gives.
    let all : IsGrown m.world.store store' = grown_trans m.world.store store store' grown more in
    let slots : m.slots ≡ slots_in (h ∷ hs) = waits.slots in
    let halted : AreHalted m (h ∷ hs) = asked_halted m d (h ∷ hs) waits in
    let there : RaisedThere m.world.store.made (topmost m.slots) = subst (λ l. RaisedThere m.world.store.made (topmost l)) (sym slots) (topmost_holds m (RaisedThere m.world.store.made) (slots_in (h ∷ hs)) tt (slots_there m (h ∷ hs) halted)) in
    let there_then : RaisedThere store'.made (topmost m.slots) = raised_grown m.world.store.made store'.made (topmost m.slots) (objects_grow m.world.store store' all) there in
    let comes : ComesTo (setting_at m) store'.made q (Says reply) = comes_to_grows (setting_at m) m.world.store.made store'.made q (Says reply) all.objects says in
    subst (λ r. IsAnswer store'.made (wanted r) (got_of a)) (sym theirs)
    (said_wanted (setting_at m) store'.made m.events q reply (got_of a) there_then gives.raises (gives.gives m.events k.told.named) comes)

module _ (m : Core) (d : Question) (s : Stage) (hs : List Halted) (q : Request) (k : Keeps m d s) (opened : IsOpen m d q) (asked_by : AskedBy m d hs) (theirs : IsTheirs m d hs asked_by q) (none : hs ≡ [] → m.callers ≡ []) where
  -- it is answered at once
  said_law : (store : Kept) (list : List KeptGenerator) (w : MadeReply) → IsSaid m q store list w → (a : Option DriveAnswer) (m' : Core) → Replies (record m { world = record m.world { store = store; generators = list }; callers = hs }) w hs a m' → Turns m d s a m'
  said_law store list w said a m' replies =
      let shuts = said_change m m.made q said.reply k.kept.each said.says in
      replies_law m d s hs store list said.reply w a m' Anyone k said.grown asked_by (said_fits m d s store said.reply hs asked_by q k theirs said.grown said.says)
      (λ objects more asked next. answered_grows (plan_of m.world.codes asked) store.made objects (past_at m) said.reply more (said_answers m d q store said.reply opened said.grown said.says asked next)) said.replied
      (λ store' e grown mine more. subst (IsChange m Anyone store' e) (sym said.shuts) (shuts.change store' e)) (all_others hs) (fold (shuts.modes ∙ ap modes_of (sym said.shuts))) none replies
    where
      fold : closed_by (Some q) (modes_of m.world.generators) ≡ modes_of list → IsFold m d (MayBe w) list
      fold same asked v next may =
          let st = state_after start m.events in
          ap (λ phase. answered (question (plan_of m.world.codes asked) st) phase (length st.made) v (modes_of m.world.generators)) opened.phase
          ∙ ap (λ o. closed_by o (modes_of m.world.generators)) (opened.asks asked next) ∙ same

  pub comes_law : AllBelow (length m.world.store.made) (request_numbers q) → (a : Option DriveAnswer) (m' : Core) → Comes_on m q hs a m' → Turns m d s a m'
  comes_law low a m' (inl (store, list, w, said, replies)) = said_law store list w said a m' replies
  comes_law low a m' (inr (inl (f, vs, no_answer, enters, makes))) = subst (λ x. Turns m d s x m') (sym no_answer) (made_law m d s hs q f vs m' k opened enters low asked_by theirs makes)
  comes_law low a m' (inr (inr (store, list, x, h, no_answer, entering, is))) =
      subst (λ y. Turns m d s y m') (sym no_answer) (subst (Turns m d s None) (sym is) (resumed_law m d s hs q store list x h k opened asked_by theirs entering))

-- ---- each stage turns

-- an activation that was made is entered, or becomes a generator
started_law : (m : Core) (d : Question) (r : Running) (f : Obj) (a : Option DriveAnswer) (m' : Core) (kind : Option CoroKind) → r.kind ≡ kind → Keeps m d (stage.Made r f) → Started m r f kind a m' → Turns m d (stage.Made r f) a m'
started_law m d r f a m' None plain k (no_answer, is) = subst (λ x. Turns m d (stage.Made r f) x m') (sym no_answer) (subst (Turns m d (stage.Made r f) None) (sym is) (entered_law m d r f plain k))
started_law m d r f a m' (Some kind) is k (x, store, new, replies) = created_law m d r f kind x store k is new a m' replies

-- what an activation asked that waits comes to
answered_law : (m : Core) (d : Question) (h : Halted) (a : Option DriveAnswer) (m' : Core) → Keeps m d (stage.Waiting h) → AnsweredOne m h a m' → Turns m d (stage.Waiting h) a m'
answered_law m d h a m' k (n, q, own, at, entry, comes) =
    let x : IsHalted m.world.codes m.globals m.world.store.made m.events h (first_slot h.running.kind m.callers) = k.at_stage.0 in
    let both : Some (event.Ask n q own at) ≡ Some (event.Ask x.question.act x.question.request x.question.own x.question.at) = sym entry ∙ x.question.entry in
    let same : q ≡ x.question.request = cc both in
    comes_law m d (stage.Waiting h) (h ∷ m.callers) x.question.request k (body_open m d h k x) (record {
      halted = x;
      apart = k.nested.apart;
      others = k.at_stage.1.apart;
      outside = k.at_stage.1.outside;
      inside = k.at_stage.1.inside;
      stack = k.follows.stack;
      frames = k.nested.frames;
      slots = k.nested.slots;
    }) refl (λ is. absurd (cc is)) x.question.below a m' (subst (λ r. Comes_on m r (h ∷ m.callers) a m') same comes)

pub turned_law : (m : Core) (d : Question) (s : Stage) (a : Option DriveAnswer) (m' : Core) → Keeps m d s → IsAskable m.world.store.made d → Turned m d s a m' → Turns m d s a m'
turned_law m d stage.Idle a m' k callable turned = absurd turned
turned_law m d stage.Begins a m' k callable (no_answer, is) = subst (λ x. Turns m d stage.Begins x m') (sym no_answer) (subst (Turns m d stage.Begins None) (sym is) (begun_law m d k))
turned_law m d stage.Asking a m' k callable comes =
    let none : m.callers ≡ [] = k.at_stage in
    comes_law m d stage.Asking [] (request_of d) k (drive_open m d k) (record { stack = k.follows.stack ∙ ap (caller_acts m.events) none; frames = k.nested.frames ∙ ap caller_frames none; slots = k.nested.slots ∙ ap slots_in none }) refl (λ is. none)
    (drive_below (length m.world.store.made) d callable) a m' comes
turned_law m d (stage.Made r f) a m' k callable started = started_law m d r f a m' r.kind refl k started
turned_law m d (stage.Going r) a m' k callable (no_answer, (store, grown, step, f, told, exit, stepped)) =
    subst (λ x. Turns m d (stage.Going r) x m') (sym no_answer) (stepped_law m d r store k grown step f m' told stepped)
turned_law m d (stage.Waiting h) a m' k callable answered = answered_law m d h a m' k answered
turned_law m d (stage.Due s how) a m' k callable finished = finished_law m d s how k a m' finished

-- ---- it is ready

-- what holds of a generator that may be entered
holds_in : (codes : Checked) (globals : Obj) (objects : List Payload) (events : List Event) (mode : Mode) (x : KeptGenerator) → KeepsIn codes globals objects events mode x → HoldsIn mode x
holds_in codes globals objects events Fresh x (s, is, act, fresh) = (s, is)
holds_in codes globals objects events Left x (s, is, act, left) = (s, is)
holds_in codes globals objects events Entered x none = tt
holds_in codes globals objects events Closed x none = tt

are_ready : (codes : Checked) (globals : Obj) (objects : List Payload) (events : List Event) (made : ℕ) (list : List KeptGenerator) → AreEach codes globals objects events made list → AreReady objects list
are_ready codes globals objects events made [] each = tt
are_ready codes globals objects events made (x ∷ xs) each =
    (slice_get_within objects x.object.number _ each.0.entry, holds_in codes globals objects events x.generator.mode x each.0.activation, are_ready codes globals objects events made xs each.1)

-- it can reply, where these wait
can_reply : (m : Core) (d : Question) (s : Stage) (hs : List Halted) → Keeps m d s → m.slots ≡ slots_in hs → AreHalted m hs → CanReply m
can_reply m d s hs k slots halted = record {
  stored = k.stored;
  runnable = k.runnable;
  handled = subst (λ l. RaisedThere m.world.store.made (topmost l)) (sym slots) (topmost_holds m (RaisedThere m.world.store.made) (slots_in hs) tt (slots_there m hs halted));
  generators = are_ready m.world.codes m.globals m.world.store.made m.events m.made m.world.generators k.kept.each;
}

-- where an activation goes on, the slot on top is its frame's, over another one where it is its own
tops : (k : Option CoroKind) (slot : Option PyBaseExceptionRef) (outer : Slots) → top_of (stacked k slot outer) ≡ slot
tops None slot outer = refl
tops (Some kind) slot outer = refl

own_over : (m : Core) (k : Option CoroKind) (slot : Option PyBaseExceptionRef) (hs : List Halted) → HasOwnSlot k (stacked k slot (slots_in hs))
own_over m None slot hs = tt
own_over m (Some kind) slot hs =
    let long : length (slots_in hs) ≡ length (top_of (slots_in hs) ∷ drop 1 (slots_in hs)) = ap length (slots_shape m hs) in
    omega (arith, long)

-- the generator that was entered is one, and runs
entered_runs : (m : Core) (d : Question) (s : Suspended) → AreEach m.world.codes m.globals m.world.store.made m.events m.made m.world.generators → (asks : Asker m d m.callers s.running.kind s.running.act) → (g : Obj) → generator_asked asks.q ≡ Some g
    → IsRunningNow m.world.generators g × IsGenerator m.world.store.made g
entered_runs m d s each asks g is = by_kind s.running.kind asks.entered
  where
    number_is : (x : KeptGenerator) → kept_at m.world.generators g ≡ Some x → x.object.number ≡ g.number
    number_is x here = elim (eqb_tells x.object.number g.number) [
      | inl equal ↦ equal.1
      | inr differs ↦ absurd (let clash = sym (kept_object m.world.generators g x here) ∙ differs.0 in cc clash)
    ]

    by_kind : (kind : Option CoroKind) → HasEntered m.world.generators asks.q kind s.running.act → IsRunningNow m.world.generators g × IsGenerator m.world.store.made g
    by_kind None calls = absurd (let clash : None ≡ Some g = sym (calling_none asks.q calls) ∙ is in cc clash)
    by_kind (Some kind) enters =
        let both : Some enters.object ≡ Some g = sym enters.asks ∙ is in
        let same : enters.object ≡ g = cc both in
        let here : kept_at m.world.generators g ≡ Some enters.kept = subst (λ o. kept_at m.world.generators o ≡ Some enters.kept) same enters.is_kept in
        let x : IsKeptAs m.world.codes m.globals m.world.store.made m.events m.made enters.kept = each_at m.world.codes m.globals m.world.store.made m.events m.made m.world.generators g enters.kept here each in
        let object : enters.kept.object ≡ g = ap (λ n. let o : Obj = record { number = n } in o) (number_is enters.kept here) in
        ((enters.kept, here, enters.runs), (x.body, subst (λ o. HasPayload m.world.store.made o (payload.Generator x.body)) object x.entry))

-- an activation that waits stands at a unit of its code
traceable : (m : Core) (h : Halted) (slot : Option PyBaseExceptionRef) → IsHalted m.world.codes m.globals m.world.store.made m.events h slot → IsTraceable m.world.codes m.world.store.made h.running
traceable m h slot x =
    record { code = x.plays.code; is_code = ap (slice_get m.world.codes.codes) x.plays.placed ∙ x.plays.is_code; within = x.plays.running.within; entry = (x.plays.body.code, x.plays.entry) }

-- the innermost of those that wait asked something
first_asks : (m : Core) (hs : List Halted) → AreHalted m hs → FirstAsks m.world m.events hs
first_asks m [] halted = tt
first_asks m (h ∷ hs) halted =
    let q = halted.0.question in
    ((q.act, q.request, q.own, q.at, q.entry), traceable m h (first_slot h.running.kind hs) halted.0)

-- and raises no value where it entered an activation
no_raise : (m : Core) (d : Question) (kind : Option CoroKind) (a : ℕ) (hs : List Halted) → IsInside m.world.codes m.globals m.world.store.made m.events m.world.generators d kind a hs → AsksNoRaise m.events hs
no_raise m d kind a [] inside = tt
no_raise m d kind a (h ∷ hs) inside =
    let q = inside.0.question in
    ap (λ (x : Option Event). is_raising (asking h.running.act x).asks) q.entry ∙ entering_none m.world.generators q.request kind a inside.1

-- a machine that keeps its invariant is ready for its turn
pub ready_law : (m : Core) (d : Question) (s : Stage) → Keeps m d s → IsBusy s → IsAskable m.world.store.made d → IsReady m d s
ready_law m d stage.Idle k busy callable = absurd busy
ready_law m d stage.Begins k busy callable = done_counted m d stage.Begins k
ready_law m d stage.Asking k busy callable =
    let none : m.callers ≡ [] = k.at_stage in
    (done_counted m d stage.Asking k, made_counted m d stage.Asking k, can_reply m d stage.Asking [] k (k.nested.slots ∙ ap slots_in none) tt, callable, none)
ready_law m d (stage.Made r f) k busy callable =
    let p = k.at_stage.0.plays in (
      done_counted m d (stage.Made r f) k,
      (p.body, subst (λ o. HasPayload m.world.store.made o (payload.Function p.body)) k.at_stage.1 p.is_function),
      can_reply m d (stage.Made r f) m.callers k k.nested.slots (inside_halted m m.world.generators d None r.act m.callers k.at_stage.5),
      first_asks m m.callers (inside_halted m m.world.generators d None r.act m.callers k.at_stage.5),
      no_raise m d None r.act m.callers k.at_stage.5,
    )
ready_law m d (stage.Going r) k busy callable =
    let going : IsGoing m.world.codes m.globals m.world.store.made m.events r (first_slot r.kind m.callers) = k.at_stage.0 in
    let p = going.plays in
    let is_code : slice_get m.world.codes.codes r.frame.code ≡ Some p.code = ap (slice_get m.world.codes.codes) p.placed ∙ p.is_code in (
      record {
        code = p.code;
        is_code = is_code;
        runnable = k.runnable.each r.frame.code p.code is_code;
        running = p.running;
        moves = going.moves;
        shares = ap top_of k.nested.slots ∙ tops r.kind r.frame.state.slot (slots_in m.callers);
        fit = k.stored.readable.fit;
      },
      subst (HasOwnSlot r.kind) (sym k.nested.slots) (own_over m r.kind r.frame.state.slot m.callers),
    )
ready_law m d (stage.Waiting h) k busy callable = (
  done_counted m d (stage.Waiting h) k,
  made_counted m d (stage.Waiting h) k,
  can_reply m d (stage.Waiting h) (h ∷ m.callers) k k.nested.slots (k.at_stage.0, inside_halted m m.world.generators d h.running.kind h.running.act m.callers k.at_stage.1.inside),
  k.at_stage.0.question,
  traceable m h (first_slot h.running.kind m.callers) k.at_stage.0,
)
ready_law m d (stage.Due s how) k busy callable =
    let asks : Asker m d m.callers s.running.kind s.running.act = asker m d s.running.kind s.running.act m.callers k.follows.stack k.nested.frames k.nested.slots k.nested.apart k.at_stage.2.inside in
    let halted : AreHalted m m.callers = inside_halted m m.world.generators d s.running.kind s.running.act m.callers k.at_stage.2.inside in (
      done_counted m d (stage.Due s how) k,
      (k.stored, k.at_stage.0, (λ q questioned g is. entered_runs m d s k.kept.each asks g (ap generator_asked (sym (asks.is q questioned)) ∙ is)), first_asks m m.callers halted, no_raise m d s.running.kind s.running.act m.callers k.at_stage.2.inside),
    )
