-- The open question of a machine, in each run of drives in which the machine's drive is the next one: what it is answered, and what it enters.
use Rattle.std.proofs.Common.{◌≡◌, ℕ, List, [], ◌∷◌, Some, sym, ap, subst, ◌∙◌, append-nil, length}
use Rattle.std.specs.Prelude.{Option, slice_get}
use Rattle.std.proofs.lemmas.Option.{slice_get_within}
use Rattle.py_objects.specs.declared.payload.Payload.{Payload}
use Rattle.py_objects.specs.declared.payload.CoroKind.{CoroKind}
use Rattle.py_objects.specs.declared.refs.PyBaseExceptionRef.{PyBaseExceptionRef}
use Rattle.py_objects.specs.declared.request.Request.{Request}
use Rattle.py_objects.specs.declared.request.Request.TheVariants as request
use Rattle.py_objects.specs.declared.event.ResumeHow.{ResumeHow}
use Rattle.py_objects.specs.declared.event.ResumeHow.TheVariants as how
use Rattle.py_objects.specs.Objects.{Obj, IsFunction, numbers, request_numbers, AllBelow}
use Rattle.py_objects.specs.Growth.{IsGrown, GrowsPlainly}
use Rattle.py_objects.specs.Edits.{Kept}
use Rattle.py_stack.specs.Slots.{topmost}
use Rattle.py_answers.specs.Answers.{Reply}
use Rattle.py_coro.specs.declared.coro.CoroEnd.{CoroEnd}
use Rattle.py_run.specs.declared.drive.Question.{Question}
use Rattle.py_run.specs.declared.drive.Question.TheVariants.{Call, Send, Throw, Close}
use Rattle.py_run.specs.Calls.{Course, Says, Enters, Begins, Sends, Throws, Setting, ComesTo, IsDue}
use Rattle.py_run.specs.Run.{Act, Phase, Asking, Made, Due, Posed, State, start, state_after, open_in, question, handled_among}
use Rattle.py_run.specs.Coming.{setting, MakesGenerator, Opens, IsEntered, IsReply, IsAnswered, Starts}
use Rattle.py_run.specs.Drives.{request_of}
use Rattle.py_run.proofs.BoundLemmas.{enters_call, IsMaking}
use Rattle.py_run.proofs.RunLemmas.{comes_to_grows, due_grows}
use Rattle.py_vm.specs.declared.stage.Halted.{Halted}
use Rattle.py_vm.specs.declared.stage.Stage.{Stage}
use Rattle.py_vm.specs.declared.stage.Stage.TheVariants as stage
use Rattle.py_vm.specs.declared.generators.KeptGenerator.{KeptGenerator}
use Rattle.py_vm.specs.declared.machinery.Core.{Core}
use Rattle.py_vm.specs.Courses.{EntersBy}
use Rattle.py_vm.specs.Machine.{posed, plan_of, question_numbers}
use Rattle.py_vm.specs.Stands.{IsHalted, asking, caller_acts, first_slot, slots_in, Keeps, IsCalling}
use Rattle.py_vm.specs.Turns.{past_at, setting_at, IsOpened}
use Rattle.py_vm.proofs.ChainLemmas.{AreHalted, callers_handle, halted_handles, inside_halted}
use Rattle.py_vm.proofs.NextLemmas.{setting_is, IsNext}

-- the question of a run in which a drive has asked, where no activation runs
pub drive_asks : (m : Core) (d : Question) (asked : List Posed) → (state_after start m.events).done ≡ m.done → (state_after start m.events).stack ≡ [] → IsNext m d asked
    → question (plan_of m.world.codes asked) (state_after start m.events) ≡ Some (request_of d)
drive_asks m d asked done alone is =
    let st : State = state_after start m.events in
    ap (λ n. open_in (slice_get asked n) st.stack) done ∙ ap (λ q. open_in q st.stack) is ∙ ap (open_in (Some (posed m.entered d))) alone

-- that of an activation that asked this
pub body_asks : (m : Core) (h : Halted) (acts : List Act) (asked : List Posed) (x : (slot : Option PyBaseExceptionRef) × IsHalted m.world.codes m.globals m.world.store.made m.events h slot)
    → (state_after start m.events).stack ≡ asking h.running.act (slice_get m.events h.place) ∷ acts → question (plan_of m.world.codes asked) (state_after start m.events) ≡ Some x.1.question.request
body_asks m h acts asked x stack =
    ap (open_in (slice_get asked (state_after start m.events).done)) (stack ∙ ap (λ e. asking h.running.act e ∷ acts) x.1.question.entry)

-- the question is open, and stands where the machine does
pub record IsOpen (m : Core) (d : Question) (q : Request) : Type 0 where
  pub phase : (state_after start m.events).phase ≡ Asking
  pub asks : (asked : List Posed) → IsNext m d asked → question (plan_of m.world.codes asked) (state_after start m.events) ≡ Some q
  pub stands : (asked : List Posed) → IsNext m d asked → setting (plan_of m.world.codes asked) (past_at m) ≡ setting_at m

-- that of a drive
pub drive_open : (m : Core) (d : Question) → Keeps m d stage.Asking → IsOpen m d (request_of d)
drive_open m d k =
    let none : m.callers ≡ [] = k.at_stage in
    let alone : (state_after start m.events).stack ≡ [] = k.follows.stack ∙ ap (caller_acts m.events) none in
    record {
      phase = k.follows.phase;
      asks = λ asked. drive_asks m d asked k.follows.done alone;
      stands = λ asked. setting_is m d stage.Asking asked k (ap handled_among alone ∙ sym (ap topmost (k.nested.slots ∙ ap slots_in none)));
    }

-- that of an activation that waits
pub body_open : (m : Core) (d : Question) (h : Halted) → Keeps m d (stage.Waiting h) → (x : IsHalted m.world.codes m.globals m.world.store.made m.events h (first_slot h.running.kind m.callers)) → IsOpen m d x.question.request
body_open m d h k x =
    let rest : List Act = caller_acts m.events m.callers in
    let halted : AreHalted m m.callers = inside_halted m m.world.generators d h.running.kind h.running.act m.callers k.at_stage.1.inside in
    record {
      phase = k.follows.phase;
      asks = λ asked is. body_asks m h rest asked (first_slot h.running.kind m.callers, x) k.follows.stack;
      stands = λ asked. setting_is m d (stage.Waiting h) asked k (ap handled_among k.follows.stack ∙ halted_handles m h m.callers rest x (callers_handle m m.callers halted) ∙ sym (ap topmost k.nested.slots));
    }

-- among objects that grew, it comes to the same in a run
comes_there : (m : Core) (d : Question) (q : Request) (store : Kept) (c : Course) (asked : List Posed) → IsOpen m d q → GrowsPlainly m.world.store.made store.made → ComesTo (setting_at m) m.world.store.made q c → IsNext m d asked
    → ComesTo (setting (plan_of m.world.codes asked) (past_at m)) store.made q c
comes_there m d q store c asked opened grows comes is =
    subst (λ at. ComesTo at store.made q c) (sym (opened.stands asked is)) (comes_to_grows (setting_at m) m.world.store.made store.made q c grows comes)

opens_there : (m : Core) (d : Question) (q : Request) (store : Kept) (c : Course) (asked : List Posed) → IsOpen m d q → GrowsPlainly m.world.store.made store.made → ComesTo (setting_at m) m.world.store.made q c → IsNext m d asked
    → Opens (plan_of m.world.codes asked) store.made (past_at m) c
opens_there m d q store c asked opened grows comes is = (opened.phase, (q, opened.asks asked is, comes_there m d q store c asked opened grows comes is))

-- so it opens the making of an activation
pub enters_there : (m : Core) (d : Question) (q : Request) (store : Kept) (f : Obj) (vs : List Obj) (asked : List Posed) → IsOpen m d q → GrowsPlainly m.world.store.made store.made → IsOpened m q f vs → IsNext m d asked
    → Opens (plan_of m.world.codes asked) store.made (past_at m) (Enters f vs)
enters_there m d q store f vs asked opened grows comes is = opens_there m d q store (Enters f vs) asked opened grows comes is

-- or the entry of a generator
pub resumes_there : (m : Core) (d : Question) (s : Stage) (q : Request) (store : Kept) (x : KeptGenerator) (h : ResumeHow) (asked : List Posed) → Keeps m d s → IsOpen m d q → IsGrown m.world.store store
    → EntersBy (setting_at m) m.world.store.made store.made q x h → IsNext m d asked → IsEntered (plan_of m.world.codes asked) store.made (past_at m) h x.act
resumes_there m d s q store x how.Start asked k opened grown enters is = by_phase (state_after start m.events).phase opened.phase (opens_there m d q store (Begins x.act) asked opened grown.objects enters.0 is)
  where
    by_phase : (phase : Phase) → phase ≡ Asking → Opens (plan_of m.world.codes asked) store.made (past_at m) (Begins x.act) → Starts (plan_of m.world.codes asked) store.made (past_at m) phase x.act
    by_phase phase is opens = subst (λ y. Starts (plan_of m.world.codes asked) store.made (past_at m) y x.act) (sym is) opens
resumes_there m d s q store x (how.Send v) asked k opened grown enters is = opens_there m d q store (Sends x.act v) asked opened grown.objects enters.0 is
resumes_there m d s q store x (how.Throw e) asked k opened grown (raise, comes, thrown, takes) is =
    (raise, opens_there m d q store (Throws x.act raise) asked opened grown.objects comes is, thrown.is m.events k.told.named)

-- the open question is answered this
abbrev pub Answers : Core → Question → List Payload → Reply → Type 0
Answers m d objects reply = (asked : List Posed) → IsNext m d asked → IsAnswered (plan_of m.world.codes asked) objects (past_at m) reply

-- what is the reply in the phase of a run answers its open question
replied : (m : Core) (d : Question) (q : Request) (objects : List Payload) (phase : Phase) (asked : List Posed) (reply : Reply) → (state_after start m.events).phase ≡ phase
    → question (plan_of m.world.codes asked) (state_after start m.events) ≡ Some q → IsReply (plan_of m.world.codes asked) objects (past_at m) phase q reply → IsAnswered (plan_of m.world.codes asked) objects (past_at m) reply
replied m d q objects phase asked reply is asks here = (q, asks, subst (λ x. IsReply (plan_of m.world.codes asked) objects (past_at m) x q reply) (sym is) here)

-- at once
pub said_answers : (m : Core) (d : Question) (q : Request) (store : Kept) (reply : Reply) → IsOpen m d q → IsGrown m.world.store store → ComesTo (setting_at m) m.world.store.made q (Says reply) → Answers m d store.made reply
said_answers m d q store reply opened grown says = λ asked is.
    replied m d q store.made Asking asked reply opened.phase (opened.asks asked is) (comes_there m d q store (Says reply) asked opened grown.objects says is)

-- where a generator's activation was made
pub made_answers : (m : Core) (d : Question) (q : Request) (objects : List Payload) (f : Obj) (kind : CoroKind) (reply : Reply) → (state_after start m.events).phase ≡ Made f
    → ((asked : List Posed) → IsNext m d asked → question (plan_of m.world.codes asked) (state_after start m.events) ≡ Some q)
    → ((asked : List Posed) → MakesGenerator (plan_of m.world.codes asked) objects f (length (state_after start m.events).made) reply) → Answers m d objects reply
made_answers m d q objects f kind reply phase asks makes = λ asked is. replied m d q objects (Made f) asked reply phase (asks asked is) (makes asked)

-- where the activation that it entered was left
pub due_answers : (m : Core) (d : Question) (q : Request) (store : Kept) (how : CoroEnd) (reply : Reply) → IsGrown m.world.store store → (state_after start m.events).phase ≡ Due how
    → ((asked : List Posed) → IsNext m d asked → question (plan_of m.world.codes asked) (state_after start m.events) ≡ Some q) → IsDue m.world.store.made q how reply → Answers m d store.made reply
due_answers m d q store how reply grown phase asks due = λ asked is. replied m d q store.made (Due how) asked reply phase (asks asked is) (due_grows m.world.store.made store.made q how reply grown.objects due)

-- what makes an activation of a function with these arguments calls it, enters a manager by it, or leaves by it
pub opened_call : (at : Setting) (objects : List Payload) (q : Request) (f : Obj) (vs : List Obj) → ComesTo at objects q (Enters f vs) → IsMaking objects q f vs × IsFunction objects f
opened_call at objects q f vs comes = let (is, calls) = enters_call at objects q f vs comes in (is, (calls.body, calls.entry))

-- so it is answered by the call of a function
pub making_calls : (objects : List Payload) (q : Request) (f : Obj) (vs : List Obj) → IsMaking objects q f vs → IsCalling q
making_calls objects (request.Call g ws named) f vs is = cc is
making_calls objects (request.Enter m) f vs making = tt
making_calls objects (request.Exit x c e t) f vs making = tt
making_calls objects _ f vs making = absurd making

-- the arguments that it makes are among those that it names
args_below : (objects : List Payload) (q : Request) (f : Obj) (vs : List Obj) → IsMaking objects q f vs → AllBelow (length objects) (request_numbers q) → AllBelow (length objects) (numbers vs)
args_below objects (request.Call g ws named) f vs is below =
    (subst (AllBelow (length objects)) (ap request_numbers is ∙ ap (λ l. f.number ∷ l) (append-nil (numbers vs))) below).1
args_below objects (request.Enter m) f vs (body, has, callee, args) below = subst (λ l. AllBelow (length objects) (numbers l)) (sym args) tt
args_below objects (request.Exit x c e t) f vs (p, has, callee, args) below = subst (λ l. AllBelow (length objects) (numbers l)) (sym args) below.1
args_below objects _ f vs making below = absurd making

-- the numbers of the function and of its arguments
pub call_below : (at : Setting) (objects : List Payload) (q : Request) (f : Obj) (vs : List Obj) → ComesTo at objects q (Enters f vs) → AllBelow (length objects) (request_numbers q)
    → AllBelow (length objects) (f.number ∷ numbers vs)
call_below at objects q f vs comes below =
    let (making, (body, has)) = opened_call at objects q f vs comes in
    (slice_get_within objects f.number _ has, args_below objects q f vs making below)

-- what a drive asks names what the drive does
pub drive_below : (n : ℕ) (d : Question) → AllBelow n (question_numbers d) → AllBelow n (request_numbers (request_of d))
drive_below n (Call f vs) below = subst (λ l. AllBelow n (f.number ∷ l)) (sym (append-nil (numbers vs))) below
drive_below n (Send g v) below = below
drive_below n (Throw g c v) below = below
drive_below n (Close g) below = below
