-- Activations that become generators, and those that were left: who asked gets the answer.
use Rattle.std.proofs.Common.{◌≡◌, ◌++◌, ℕ, suc, List, [], ◌∷◌, Some, Bool, true, false, eqb, refl, sym, ap, subst, ◌∙◌, length, ◌≤◌, ne_eqb, arith}
use Rattle.std.specs.Prelude.{Option, None}
use Rattle.std.proofs.lemmas.List.{map-append}
use Rattle.std.proofs.lemmas.Option.{slice_get_within}
use Rattle.py_objects.specs.declared.payload.Payload.{Payload}
use Rattle.py_objects.specs.declared.payload.Payload.TheVariants as payload
use Rattle.py_objects.specs.declared.payload.CoroBody.{CoroBody}
use Rattle.py_objects.specs.declared.payload.CoroKind.{CoroKind}
use Rattle.py_objects.specs.declared.payload.FunctionBody.{FunctionBody}
use Rattle.py_objects.specs.declared.request.Request.{Request}
use Rattle.py_objects.specs.declared.request.Request.TheVariants as request
use Rattle.py_objects.specs.declared.event.Event.{Event}
use Rattle.py_objects.specs.declared.event.Event.TheVariants as event
use Rattle.py_objects.specs.declared.event.DriveAnswer.{DriveAnswer}
use Rattle.py_objects.specs.Objects.{HasPayload, Obj}
use Rattle.py_objects.specs.declared.refs.PyBaseExceptionRef.{PyBaseExceptionRef}
use Rattle.py_objects.specs.Growth.{Grows, GrowsPlainly, IsGrown}
use Rattle.py_objects.specs.Own.{whose}
use Rattle.py_objects.specs.Edits.{Kept}
use Rattle.py_objects.proofs.GrowthLemmas.{payload_grown, plainly_grows, grows_plainly_trans}
use Rattle.py_objects.proofs.GrownLemmas.{objects_grow, grown_refl, added_grown}
use Rattle.py_objects.proofs.NewLemmas.{newest, past_is_new}
use Rattle.py_check.specs.declared.note.Kind.TheVariants as kind
use Rattle.py_coro.specs.declared.coro.CoroEnd.{CoroEnd}
use Rattle.py_coro.specs.declared.coro.CoroEnd.TheVariants as left
use Rattle.py_coro.specs.Modes.{Fresh, Suspended as Left}
use Rattle.py_coro.specs.Leaving.{Finishes, mode_behind}
use Rattle.py_coro.specs.Refusals.{word_of}
use Rattle.py_rows.specs.declared.expect.Wanted.{Wanted}
use Rattle.py_rows.specs.declared.expect.Wanted.TheVariants as want
use Rattle.py_rows.specs.Answers.{IsAnswer, wanted}
use Rattle.py_answers.specs.Answers.{Reply, Creates, Is, Passes, This}
use Rattle.py_answers.specs.Replying.{is_answered}
use Rattle.py_objects.specs.Positional.{is_bare}
use Rattle.py_frame.specs.declared.input.Answer.{Answer}
use Rattle.py_frame.specs.declared.input.Answer.TheVariants as given
use Rattle.py_frame.specs.Steps.{got_of}
use Rattle.py_run.specs.declared.drive.Question.{Question}
use Rattle.py_run.specs.declared.drive.Question.TheVariants.{Call, Send, Throw, Close}
use Rattle.py_run.specs.Calls.{IsDue, LeavesCalled, LeavesGenerator, reply_by}
use Rattle.py_run.specs.Drives.{request_of}
use Rattle.py_run.specs.Run.{Posed, start, state_after, question}
use Rattle.py_run.specs.Generators.{Generator, answered, created, settled as settles, with_mode}
use Rattle.py_run.proofs.RunLemmas.{answered_grows}
use Rattle.py_run.specs.Coming.{MakesGenerator}
use Rattle.py_vm.specs.declared.stage.Running.{Running}
use Rattle.py_vm.specs.declared.stage.Halted.{Halted}
use Rattle.py_vm.specs.declared.stage.Suspended.{Suspended}
use Rattle.py_vm.specs.declared.stage.Stage.TheVariants as stage
use Rattle.py_vm.specs.declared.reply.Reply.{Reply as MadeReply}
use Rattle.py_vm.specs.declared.reply.Reply.TheVariants as made
use Rattle.py_vm.specs.declared.generators.KeptGenerator.{KeptGenerator}
use Rattle.py_vm.specs.declared.machinery.Core.{Core}
use Rattle.py_vm.specs.Codes.{signature_in}
use Rattle.py_vm.specs.Courses.{IsHeard, IsReplied, RaisesThere}
use Rattle.py_vm.specs.Generators.{generator_asked, is_close, modes_of, seen_as, settled}
use Rattle.py_vm.specs.Machine.{plan_of}
use Rattle.py_vm.specs.Stands.{AreApart, EntersGenerator, HasEntered, IsApart, IsCalling, IsEnding, IsInside, IsLeft, IsNoOnes, Keeps, KeepsIn, LeavesAs, caller_acts, caller_frames, first_slot, slots_in}
use Rattle.py_vm.specs.Turns.{past_at, passed, Finished, IsCreated, IsSettled, Questioned, Replies, Turns}
use Rattle.py_vm.proofs.CallsLemmas.{signature_at}
use Rattle.py_vm.proofs.KeptLemmas.{modes_changed_one, other_way}
use Rattle.py_vm.proofs.ChainLemmas.{Anyone, AreOthers, all_others, fresh_still, left_still}
use Rattle.py_vm.proofs.ChangesLemmas.{But, IsChange, created_change, kind_at, no_change, settled_change}
use Rattle.py_vm.proofs.NextLemmas.{IsNext}
use Rattle.py_vm.proofs.QuestionsLemmas.{body_asks, drive_asks, due_answers, made_answers}
use Rattle.py_vm.proofs.AskedLemmas.{AskedBy, FitsWho, IsFold, MayBe, replies_law, who}
use Rattle.py_vm.proofs.TurnsLemmas.{IsTheirs}

-- whatever is wanted, a value that suits anything or a raise of an exception is an answer
any_answer : (objects : List Payload) (w : Answer) → IsHeard w → RaisesThere objects (got_of w) → IsAnswer objects (want.Of kind.Any) (got_of w)
any_answer objects (given.Value v) heard raises = tt
any_answer objects (given.Stop v) heard raises = absurd heard
any_answer objects (given.Fresh e) heard raises = raises
any_answer objects (given.Passed e) heard raises = raises

-- the question of who asks in a run
pub their_question : (m : Core) (d : Question) (hs : List Halted) (asked_by : AskedBy m d hs) (q : Request) (asked : List Posed) → IsTheirs m d hs asked_by q → (state_after start m.events).done ≡ m.done → IsNext m d asked
    → question (plan_of m.world.codes asked) (state_after start m.events) ≡ Some q
their_question m d [] alone q asked theirs done is = drive_asks m d asked done alone.stack is ∙ ap Some theirs
their_question m d (h ∷ hs) waits q asked theirs done is = body_asks m h (caller_acts m.events hs) asked (first_slot h.running.kind hs, waits.halted) waits.stack ∙ ap Some theirs

-- those that asked, and by what they entered an activation of this kind and number
pub record Asker (m : Core) (d : Question) (hs : List Halted) (kind : Option CoroKind) (a : ℕ) : Type 0 where
  pub asked_by : AskedBy m d hs
  pub q : Request
  pub theirs : IsTheirs m d hs asked_by q
  pub entered : HasEntered m.world.generators q kind a
  pub known : is_answered q ≡ true
  pub is : (r : Request) → Questioned m.events d hs r → r ≡ q

-- what drives ask is answered
drive_answered : (d : Question) → is_answered (request_of d) ≡ true
drive_answered (Call f vs) = refl
drive_answered (Send g v) = refl
drive_answered (Throw g c v) = refl
drive_answered (Close g) = refl

-- they are there while no activation goes on
pub asker : (m : Core) (d : Question) (kind : Option CoroKind) (a : ℕ) (hs : List Halted) → (state_after start m.events).stack ≡ caller_acts m.events hs → m.frames ≡ caller_frames hs → m.slots ≡ slots_in hs → AreApart hs
    → IsInside m.world.codes m.globals m.world.store.made m.events m.world.generators d kind a hs → Asker m d hs kind a
asker m d kind a [] stack frames slots apart inside = record {
  asked_by = record { stack = stack; frames = frames; slots = slots };
  q = request_of d;
  theirs = refl;
  entered = inside;
  known = drive_answered d;
  is = λ r is. is;
}
asker m d kind a (h ∷ hs) stack frames slots apart inside = record {
  asked_by = record { halted = inside.0; apart = apart.1; others = apart.0; outside = inside.2; inside = inside.3; stack = stack; frames = frames; slots = slots };
  q = inside.0.question.request;
  theirs = refl;
  entered = inside.1;
  known = inside.0.question.known;
  is = λ r asks. one_question r (inside.0.question.request) (sym asks.3 ∙ inside.0.question.entry);
}
  where
    one_question : {n k : ℕ} {own other : Option PyBaseExceptionRef} {at place : ℕ} (r q : Request) → Some (event.Ask n r own at) ≡ Some (event.Ask k q other place) → r ≡ q
    one_question r q same = cc same

-- what is answered to a question of which anything is wanted is so
pub any_fits : (m : Core) (d : Question) (store : Kept) (reply : Reply) (hs : List Halted) (asked_by : AskedBy m d hs) (q : Request) → IsTheirs m d hs asked_by q → wanted q ≡ want.Of kind.Any → FitsWho m d store reply hs asked_by
any_fits m d store reply [] alone q theirs any = tt
any_fits m d store reply (h ∷ hs) waits q theirs any = λ store' a grown gives.
    subst (λ (w : Wanted). IsAnswer store'.made w (got_of a)) (sym (ap wanted theirs ∙ any)) (any_answer store'.made a gives.heard gives.raises)

-- numbers that those who wait don't have
others_but : (n : ℕ) (hs : List Halted) → IsApart n hs → AreOthers (But n) hs
others_but n [] apart = tt
others_but n (h ∷ hs) apart = (apart.0, others_but n hs apart.1)

-- the number of an activation isn't that of who gets an answer
apart_who : (n at : ℕ) (hs : List Halted) → n ≡ suc at → IsApart n hs → eqb n (who hs) ≡ false
apart_who n at [] number apart = ne_eqb n 0 (λ none. absurd (omega (arith, number, none)))
apart_who n at (h ∷ hs) number apart = other_way h.running.act n apart.0

-- ---- what is answered by the call of a function

-- it wants any object
pub calling_any : (q : Request) → IsCalling q → wanted q ≡ want.Of kind.Any
calling_any (request.Call f vs named) calls = refl
calling_any (request.Enter m) calls = refl
calling_any (request.Exit x c e t) calls = refl
calling_any _ calls = absurd calls

-- enters no generator, and settles none
pub calling_none : (q : Request) → IsCalling q → generator_asked q ≡ None
calling_none (request.Call f vs named) calls = refl
calling_none (request.Enter m) calls = refl
calling_none (request.Exit x c e t) calls = refl
calling_none _ calls = absurd calls

calling_settles : (q : Request) (how : CoroEnd) (xs : List Generator) → IsCalling q → settles (Some q) how xs ≡ xs
calling_settles (request.Call f vs named) how xs calls = refl
calling_settles (request.Enter m) how xs calls = refl
calling_settles (request.Exit x c e t) how xs calls = refl
calling_settles _ how xs calls = absurd calls

-- and is answered by how that was left
calling_due : (objects : List Payload) (q : Request) (how : CoroEnd) (reply : Reply) → IsCalling q → LeavesCalled how reply → IsDue objects q how reply
calling_due objects (request.Call f vs named) how reply calls leaves = (calls, leaves)
calling_due objects (request.Enter m) how reply calls leaves = leaves
calling_due objects (request.Exit x c e t) how reply calls leaves = leaves
calling_due objects _ how reply calls leaves = absurd calls

-- ---- an activation becomes a generator

-- a new generator of the last activation that was made is seen behind the others
created_seen : (list : List KeptGenerator) (x : KeptGenerator) (made : ℕ) → x.generator.mode ≡ Fresh → made ≡ x.act → created made (Some x.object) (modes_of list) ≡ modes_of (list ++ x ∷ [])
created_seen list x made fresh act =
    ap (λ n. modes_of list ++ record { object = x.object; act = n; mode = Fresh } ∷ []) act
    ∙ ap (λ k. let z : Generator = record { object = x.object; act = x.act; mode = k } in modes_of list ++ z ∷ []) (sym fresh) ∙ sym (map-append seen_as list (x ∷ []))

-- a function is one only
same_function : (objects : List Payload) (f : Obj) (b c : FunctionBody) → HasPayload objects f (payload.Function b) → HasPayload objects f (payload.Function c) → b ≡ c
same_function objects f b c is other = let both : Some (payload.Function b) ≡ Some (payload.Function c) = sym is ∙ other in cc both

module _ (m : Core) (d : Question) (r : Running) (f : Obj) (kind : CoroKind) (x : KeptGenerator) (store : Kept) (k : Keeps m d (stage.Made r f)) (is_kind : r.kind ≡ Some kind) (new : IsCreated m r f kind x store) where
  -- what the generator is
  abbrev body : CoroBody
  body = record { activation = r.act; name = new.body.name; kind = kind }

  pub grown : IsGrown m.world.store store
  grown = added_grown m.world.store store (payload.Generator body) new.added refl refl (λ fit. tt) (λ fit. tt)

  number : r.act ≡ length (state_after start m.events).made
  number = k.at_stage.2 ∙ sym k.follows.made

  -- the call makes it
  makes : (objects : List Payload) → GrowsPlainly m.world.store.made objects → (asked : List Posed) → MakesGenerator (plan_of m.world.codes asked) objects f (length (state_after start m.events).made) (Creates body)
  makes objects more asked =
      let p = k.at_stage.0.plays in
      let function_is : HasPayload m.world.store.made f (payload.Function p.body) = subst (λ o. HasPayload m.world.store.made o (payload.Function p.body)) k.at_stage.1 p.is_function in
      let same_body : new.body ≡ p.body = same_function m.world.store.made f new.body p.body new.function function_is in (
        kind,
        record { body = p.body; entry = payload_grown m.world.store.made objects f _ (plainly_grows m.world.store.made objects more) function_is; signature = signature_in m.world.codes.names p.code; signed = signature_at m.world.codes p.body.code p.code p.is_code; kind_is = sym p.kind_is ∙ is_kind },
        ap (λ n. Creates (record { activation = n; name = new.body.name; kind = kind })) number
            ∙ ap (λ (b : FunctionBody). Creates (record { activation = length (state_after start m.events).made; name = b.name; kind = kind })) same_body,
      )

  -- its object is there
  has : HasPayload store.made x.object (payload.Generator body)
  has =
      let more : List Payload = m.world.store.made ++ payload.Generator body ∷ [] in
      subst (λ (s : Kept). HasPayload s.made x.object (payload.Generator body)) (sym new.added) (subst (λ o. HasPayload more o (payload.Generator body)) (sym new.object) (newest m.world.store.made (payload.Generator body)))

  -- the value that is answered
  pub replied : IsReplied m.world.store.made store.made (Creates body) (made.Value x.object)
  replied = record {
    plain = refl;
    gives = λ before named. (past_is_new m.world.store.made store.made before x.object.number grown.objects named (subst (λ n. length m.world.store.made ≤ n) (sym (ap (λ (o : Obj). o.number) new.object)) (omega arith)), has);
    below = slice_get_within store.made x.object.number _ has;
  }

  -- what becomes of the generators
  change : (hs : List Halted) → IsApart r.act hs → (store' : Kept) (e : Event) → IsGrown m.world.store store' → who hs ≡ whose e → GrowsPlainly store.made store'.made → IsChange m (But x.act) store' e (m.world.generators ++ x ∷ [])
  change hs apart store' e more mine after =
      let p = k.at_stage.0.plays in
      let grows : Grows m.world.store.made store'.made = objects_grow m.world.store store' more in
      created_change m store' e x (subst (λ n. IsNoOnes n m.world.generators) (sym new.act) k.at_stage.4) (record {
        body = body;
        entry = payload_grown store.made store'.made x.object _ (plainly_grows store.made store'.made after) has;
        kind_is = new.kind_is;
        activation = subst (λ mode. KeepsIn m.world.codes m.globals store'.made (m.events ++ e ∷ []) mode x) (sym new.fresh) (
          record { running = r; slot = None },
          new.activation,
          sym new.act,
          record { fresh = fresh_still m store'.made e grows r (subst (λ n. eqb r.act n ≡ false) mine (apart_who r.act p.at hs p.numbered apart)) k.at_stage.0; slot = refl; kind = kind; kind_is = is_kind },
        );
        low = subst (λ n. n ≤ m.made) (sym (new.act ∙ k.at_stage.2)) (omega arith);
      })

  fold : (q : (asked : List Posed) → Option Request) → ((asked : List Posed) → question (plan_of m.world.codes asked) (state_after start m.events) ≡ q asked) → IsFold m d (MayBe (made.Value x.object)) (m.world.generators ++ x ∷ [])
  fold q is asked v next may =
      let st = state_after start m.events in
      ap (λ phase. answered (question (plan_of m.world.codes asked) st) phase (length st.made) v (modes_of m.world.generators)) k.follows.phase
      ∙ ap (λ o. created (length st.made) o (modes_of m.world.generators)) may ∙ created_seen m.world.generators x (length st.made) new.fresh (sym number ∙ sym new.act)

  pub created_law : (a : Option DriveAnswer) (m' : Core) → Replies (record m { world = record m.world { store = store; generators = m.world.generators ++ x ∷ [] } }) (made.Value x.object) m.callers a m' → Turns m d (stage.Made r f) a m'
  created_law a m' replies =
      let hs : List Halted = m.callers in
      let asks : Asker m d hs None r.act = asker m d None r.act hs k.follows.stack k.nested.frames k.nested.slots k.nested.apart k.at_stage.5 in
      replies_law m d (stage.Made r f) hs store (m.world.generators ++ x ∷ []) (Creates body) (made.Value x.object) a m' (But x.act) k grown asks.asked_by
      (any_fits m d store (Creates body) hs asks.asked_by asks.q asks.theirs (calling_any asks.q asks.entered))
      (λ objects more. made_answers m d asks.q objects f kind (Creates body) k.follows.phase (λ asked next. their_question m d hs asks.asked_by asks.q asked asks.theirs k.follows.done next)
      (makes objects (grows_plainly_trans m.world.store.made store.made objects grown.objects more)))
      replied (λ store' e more mine after. change hs k.at_stage.3 store' e more mine after)
      (subst (λ n. AreOthers (But n) hs) (sym new.act) (others_but r.act hs k.at_stage.3))
      (fold (λ asked. question (plan_of m.world.codes asked) (state_after start m.events)) (λ asked. refl)) (λ none. none) replies

-- ---- an activation was left

-- what asks of a generator wants any object
pub wants_any : (q : Request) (g : Obj) → generator_asked q ≡ Some g → wanted q ≡ want.Of kind.Any
wants_any (request.Send h v) g asks = refl
wants_any (request.Throw h c v t) g asks = refl
wants_any (request.Close h) g asks = refl
wants_any _ g asks = absurd (cc asks)

-- no traceback
bare_is : (t : Option Obj) → is_bare t ≡ true → t ≡ None
bare_is None bare = refl
bare_is (Some v) bare = absurd (cc bare)

-- what the generator answers that a question has entered is due
generator_due : (objects : List Payload) (q : Request) (g : Obj) (how : CoroEnd) (reply : Reply) → is_answered q ≡ true → generator_asked q ≡ Some g → LeavesGenerator objects g (is_close q) how reply → IsDue objects q how reply
generator_due objects (request.Send h v) g how reply known asks leaves = let same : g ≡ h = cc asks in subst (λ o. LeavesGenerator objects o false how reply) same leaves
generator_due objects (request.Throw h c v t) g how reply known asks leaves = let same : g ≡ h = cc asks in (bare_is t known, subst (λ o. LeavesGenerator objects o false how reply) same leaves)
generator_due objects (request.Close h) g how reply known asks leaves = let same : g ≡ h = cc asks in subst (λ o. LeavesGenerator objects o true how reply) same leaves
generator_due objects _ g how reply known asks leaves = absurd (cc asks)

-- and settles its mode
settles_mode : (q : Request) (g : Obj) (how : CoroEnd) (xs : List Generator) → generator_asked q ≡ Some g → settles (Some q) how xs ≡ with_mode g (λ mode. mode_behind (is_close q) how) xs
settles_mode (request.Send h v) g how xs asks = let same : h ≡ g = cc asks in ap (λ o. with_mode o (λ mode. mode_behind false how) xs) same
settles_mode (request.Throw h c v t) g how xs asks = let same : h ≡ g = cc asks in ap (λ o. with_mode o (λ mode. mode_behind false how) xs) same
settles_mode (request.Close h) g how xs asks = let same : h ≡ g = cc asks in ap (λ o. with_mode o (λ mode. mode_behind true how) xs) same
settles_mode _ g how xs asks = absurd (cc asks)

-- one that may be entered again was left by a yield
left_then : (m : Core) (objects : List Payload) (e : Event) (s : Suspended) (hs : List Halted) (closing : Bool) (how : CoroEnd) → Grows m.world.store.made objects → who hs ≡ whose e → IsApart s.running.act hs
    → LeavesAs m.world.codes m.globals m.world.store.made m.events s how → mode_behind closing how ≡ Left → IsLeft m.world.codes m.globals objects (m.events ++ e ∷ []) s
left_then m objects e s hs true how grows mine apart leaves is = absurd (cc is)
left_then m objects e s hs false (left.Yield v) grows mine apart leaves is =
    left_still m objects e grows s (subst (λ n. eqb s.running.act n ≡ false) mine (apart_who s.running.act leaves.plays.at hs leaves.plays.numbered apart)) leaves
left_then m objects e s hs false (left.Return v) grows mine apart leaves is = absurd (cc is)
left_then m objects e s hs false (left.Raise x) grows mine apart leaves is = absurd (cc is)

-- a call is answered how its activation was left
pub call_replied : (m : Core) (s : Suspended) (how : CoroEnd) → s.running.kind ≡ None → IsEnding m.world.store.made how → LeavesAs m.world.codes m.globals m.world.store.made m.events s how
    → (reply : Reply) × LeavesCalled how reply × IsReplied m.world.store.made m.world.store.made reply (passed how)
call_replied m s (left.Yield v) plain ending leaves = absurd (let clash : Some leaves.kind ≡ None = sym leaves.kind_is ∙ plain in cc clash)
call_replied m s (left.Return v) plain ending leaves = (Is v, refl, record { plain = refl; gives = λ before named. refl; below = ending })
call_replied m s (left.Raise e) plain ending leaves = (Passes (This e), refl, (record { plain = refl; gives = λ before named. refl; below = ending.0; raises = ending.1 }, refl))

module _ (m : Core) (d : Question) (s : Suspended) (how : CoroEnd) (k : Keeps m d (stage.Due s how)) where
  abbrev asks : Asker m d m.callers s.running.kind s.running.act
  asks = asker m d s.running.kind s.running.act m.callers k.follows.stack k.nested.frames k.nested.slots k.nested.apart k.at_stage.2.inside

  asked_there : (asked : List Posed) → IsNext m d asked → question (plan_of m.world.codes asked) (state_after start m.events) ≡ Some asks.q
  asked_there asked next = their_question m d m.callers asks.asked_by asks.q asked asks.theirs k.follows.done next

  -- so the question is settled that is open
  settled_there : (list : List KeptGenerator) → settles (Some asks.q) how (modes_of m.world.generators) ≡ modes_of list → (May : Option Obj → Type 0) → IsFold m d May list
  settled_there list same May asked v next may =
      let st = state_after start m.events in
      ap (λ phase. answered (question (plan_of m.world.codes asked) st) phase (length st.made) v (modes_of m.world.generators)) k.follows.phase
      ∙ ap (λ q. settles q how (modes_of m.world.generators)) (asked_there asked next) ∙ same

  -- that of a call
  finished_call : s.running.kind ≡ None → HasEntered m.world.generators asks.q None s.running.act → (a : Option DriveAnswer) (m' : Core) → Replies m (passed how) m.callers a m' → Turns m d (stage.Due s how) a m'
  finished_call plain calls a m' replies =
      let (reply, leaves, replied) = call_replied m s how plain k.at_stage.0 k.at_stage.1 in
      let due : IsDue m.world.store.made asks.q how reply = calling_due m.world.store.made asks.q how reply calls leaves in
      replies_law m d (stage.Due s how) m.callers m.world.store m.world.generators reply (passed how) a m' Anyone k (grown_refl m.world.store) asks.asked_by
      (any_fits m d m.world.store reply m.callers asks.asked_by asks.q asks.theirs (calling_any asks.q calls))
      (λ objects more asked next. answered_grows (plan_of m.world.codes asked) m.world.store.made objects (past_at m) reply more (due_answers m d asks.q m.world.store how reply (grown_refl m.world.store) k.follows.phase asked_there due asked next))
      replied (λ store' e more mine after. no_change m store' e) (all_others m.callers)
      (settled_there m.world.generators (calling_settles asks.q how (modes_of m.world.generators) calls) (MayBe (passed how))) (λ none. none) replies

  -- that of a generator
  finished_generator : (kind : CoroKind) → EntersGenerator m.world.generators asks.q s.running.act → (store : Kept) (list : List KeptGenerator) (w : MadeReply) → IsSettled m s how (generator_asked asks.q) store list w
      → (a : Option DriveAnswer) (m' : Core) → Replies (record m { world = record m.world { store = store; generators = list } }) w m.callers a m' → Turns m d (stage.Due s how) a m'
  finished_generator kind enters store list w is_settled a m' replies =
      let g : Obj = enters.object in
      let (x, here, body, has, answer, finishes, grown, changes, replied, passed) = subst (λ o. IsSettled m s how o store list w) enters.asks is_settled in
      let both : Some x ≡ Some enters.kept = sym here ∙ enters.is_kept in
      let one : x ≡ enters.kept = cc both in
      let closing : x.generator.closing ≡ is_close asks.q = ap (λ (y : KeptGenerator). y.generator.closing) one ∙ enters.closing in
      let act : x.act ≡ s.running.act = ap (λ (y : KeptGenerator). y.act) one ∙ enters.act in
      let kinds : x.generator.kind ≡ body.kind = kind_at m.world.codes m.globals m.world.store.made m.events m.made m.world.generators g x body here k.kept.each has in
      let reply : Reply = reply_by (word_of body.kind) answer in
      let due : IsDue m.world.store.made asks.q how reply = generator_due m.world.store.made asks.q g how reply asks.known enters.asks (body, has, answer, subst (λ c. Finishes m.world.store.made body.kind c how answer) closing (subst (λ n. Finishes m.world.store.made n x.generator.closing how answer) kinds finishes), refl) in
      let others : IsApart s.running.act m.callers = k.at_stage.2.apart in
      replies_law m d (stage.Due s how) m.callers store list reply w a m' (But x.act) k grown asks.asked_by
      (any_fits m d store reply m.callers asks.asked_by asks.q asks.theirs (wants_any asks.q g enters.asks))
      (λ objects more asked next. answered_grows (plan_of m.world.codes asked) store.made objects (past_at m) reply more (due_answers m d asks.q store how reply grown k.follows.phase asked_there due asked next))
      replied (λ store' e more mine after. subst (IsChange m (But x.act) store' e) (sym changes)
      (settled_change m store' e g s how x here act (left_then m store'.made e s m.callers x.generator.closing how (objects_grow m.world.store store' more) mine others k.at_stage.1)))
      (subst (λ n. AreOthers (But n) m.callers) (sym act) (others_but s.running.act m.callers others))
      (settled_there list (settles_mode asks.q g how (modes_of m.world.generators) enters.asks
      ∙ sym (modes_changed_one g (settled s how) (λ y. refl) (λ y. refl) (λ mode. mode_behind (is_close asks.q) how) m.world.generators (λ y is. moved x y closing (let same : Some x ≡ Some y = sym here ∙ is in cc same)))
      ∙ ap modes_of (sym changes)) (MayBe w)) (λ none. none) replies
    where
      moved : (x y : KeptGenerator) → x.generator.closing ≡ is_close asks.q → x ≡ y → (settled s how y).generator.mode ≡ mode_behind (is_close asks.q) how
      moved x y closing same = ap (λ (z : KeptGenerator). mode_behind z.generator.closing how) (sym same) ∙ ap (λ c. mode_behind c how) closing

  pub finished_law : (a : Option DriveAnswer) (m' : Core) → Finished m d s how a m' → Turns m d (stage.Due s how) a m'
  finished_law a m' (q, questioned, store, list, w, is_settled, replies) = by_kind s.running.kind refl asks.entered
    where
      settled_so : IsSettled m s how (generator_asked asks.q) store list w
      settled_so = subst (λ r. IsSettled m s how (generator_asked r) store list w) (asks.is q questioned) is_settled

      by_kind : (kind : Option CoroKind) → s.running.kind ≡ kind → HasEntered m.world.generators asks.q kind s.running.act → Turns m d (stage.Due s how) a m'
      by_kind None plain calls =
          let (store_is, list_is, w_is) = subst (λ o. IsSettled m s how o store list w) (calling_none asks.q calls) settled_so in
          finished_call plain calls a m' (subst (λ y. Replies m y m.callers a m') w_is (subst (λ l. Replies (record m { world = record m.world { generators = l } }) w m.callers a m') list_is
          (subst (λ (t : Kept). Replies (record m { world = record m.world { store = t; generators = list } }) w m.callers a m') store_is replies)))
      by_kind (Some kind) is enters = finished_generator kind enters store list w settled_so a m' replies
