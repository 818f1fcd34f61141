-- What an activation raises that gets a reply is an exception, and it stands at a unit of its code among more objects.
use Rattle.std.proofs.Common.{◌≡◌, length, List, [], ◌∷◌, Bool, true, false, Some, refl, sym, subst, ℕ}
use Rattle.std.specs.Prelude.{Option, None, slice_get, if◌then◌else◌}
use Rattle.std.proofs.lemmas.Option.{slice_get_within}
use Rattle.py_objects.specs.declared.refs.PyBaseExceptionRef.{PyBaseExceptionRef}
use Rattle.py_objects.specs.declared.payload.Payload.{Payload}
use Rattle.py_objects.specs.declared.payload.CoroKind.{CoroKind}
use Rattle.py_objects.specs.declared.request.Request.{Request}
use Rattle.py_objects.specs.declared.request.Request.TheVariants as request
use Rattle.py_objects.specs.declared.event.Event.{Event}
use Rattle.py_objects.specs.declared.event.Event.TheVariants as event
use Rattle.py_objects.specs.declared.event.GotAnswer.TheVariants as got
use Rattle.py_objects.specs.declared.payload.Payload.TheVariants as payload
use Rattle.py_objects.specs.Objects.{Obj, AllBelow, number_if, AllFit, AreNamed, IfThere, IsException, as_exception, as_object}
use Rattle.py_objects.specs.Edits.{Kept}
use Rattle.py_objects.specs.Growth.{Grows, IsGrown}
use Rattle.py_objects.proofs.GrowthLemmas.{payload_grown}
use Rattle.py_objects.proofs.GrownLemmas.{grown_trans, objects_grow}
use Rattle.py_check.specs.declared.note.Kind.TheVariants as kind
use Rattle.py_rows.specs.Answers.{IsAnswer, wanted}
use Rattle.py_rows.specs.Laws.{RaisedThere}
use Rattle.py_rows.proofs.GrowingLemmas.{kind_grown}
use Rattle.py_stack.specs.Slots.{topmost}
use Rattle.py_frame.specs.declared.input.Answer.{Answer}
use Rattle.py_frame.specs.declared.input.Answer.TheVariants as given
use Rattle.py_frame.specs.Steps.{got_of}
use Rattle.py_coro.specs.declared.coro.CoroEnd.{CoroEnd}
use Rattle.py_coro.specs.declared.coro.CoroEnd.TheVariants as left
use Rattle.py_answers.specs.Answers.{Reply}
use Rattle.py_run.specs.Calls.{ComesTo, Says}
use Rattle.py_run.specs.Raises.{is_raising}
use Rattle.py_run.proofs.RunLemmas.{comes_to_grows}
use Rattle.py_vm.specs.declared.generators.KeptGenerator.{KeptGenerator}
use Rattle.py_vm.specs.declared.machinery.Core.{Core}
use Rattle.py_vm.specs.declared.reply.Reply.{Reply as MadeReply}
use Rattle.py_vm.specs.declared.reply.Reply.TheVariants as made
use Rattle.py_vm.specs.declared.stage.Halted.{Halted}
use Rattle.py_vm.specs.declared.stage.Running.{Running}
use Rattle.py_vm.specs.declared.world.World.{World}
use Rattle.py_vm.specs.Codes.{Checked}
use Rattle.py_vm.specs.Courses.{GivesReply, IsReplied, RaisesThere}
use Rattle.py_vm.specs.Raising.{brought, raising_by, raising_in, IsTraceable, RaisesException}
use Rattle.py_vm.specs.Stands.{HasEntered, IsEnding, asking}
use Rattle.py_vm.specs.Turns.{passed, setting_at}
use Rattle.py_vm.specs.Ready.{AsksNoRaise, FirstAsks, FirstRaises}
use Rattle.py_vm.proofs.AskedLemmas.{raised_exception}
use Rattle.py_vm.proofs.ChainLemmas.{raised_grown}
use Rattle.py_vm.proofs.WantedLemmas.{said_wanted}

-- ---- among more objects

pub traceable_grown : (codes : Checked) (objects objects' : List Payload) (r : Running) → Grows objects objects' → IsTraceable codes objects r → IsTraceable codes objects' r
traceable_grown codes objects objects' r grows x = record {
  code = x.code;
  is_code = x.is_code;
  within = x.within;
  entry = let (code, has) = x.entry in (code, payload_grown objects objects' _ _ grows has);
}

pub first_grown : (w w' : World) (events : List Event) (hs : List Halted) → w'.codes ≡ w.codes → Grows w.store.made w'.store.made → FirstAsks w events hs → FirstAsks w' events hs
first_grown w w' events [] codes grows asks = tt
first_grown w w' events (h ∷ hs) codes grows asks =
    (asks.0, subst (λ (c : Checked). IsTraceable c w'.store.made h.running) (sym codes) (traceable_grown w.codes w.store.made w'.store.made h.running grows asks.1))

-- what is handled is an object that is there
pub handled_below : (objects : List Payload) (h : Option PyBaseExceptionRef) → RaisedThere objects h → AllBelow (length objects) (number_if h)
handled_below objects None there = tt
handled_below objects (Some e) (b, has) = (slice_get_within objects e.number (payload.Exception b) has, tt)

-- ---- where no value is raised

-- a value is no raise
value_raises : (objects : List Payload) (q : Option Request) (v : Obj) → is_raising q ≡ false → RaisesException objects (raising_by q (given.Value v))
value_raises objects q v none = subst (λ b. RaisesException objects (if b then Some (brought (as_exception v) true) else None)) (sym none) tt

-- what is raised is what the reply raises
answer_raises : (objects : List Payload) (q : Option Request) (a : Answer) → is_raising q ≡ false → RaisesThere objects (got_of a) → RaisesException objects (raising_by q a)
answer_raises objects q (given.Value v) none raises = value_raises objects q v none
answer_raises objects q (given.Stop v) none raises = tt
answer_raises objects q (given.Fresh e) none raises = raises
answer_raises objects q (given.Passed e) none raises = raises

-- an object that is answered
pub object_raises : (store : Kept) (events : List Event) (hs : List Halted) (v : Obj) → AsksNoRaise events hs → FirstRaises store events hs (made.Value v)
object_raises store events [] v none = tt
object_raises store events (h ∷ hs) v none = λ after a (more, is, gives).
    subst (λ (x : Answer). RaisesException after.made (raising_in events h x)) (sym is) (value_raises after.made (asking h.running.act (slice_get events h.place)).asks v none)

-- how an activation was left
pub passed_raises : (store : Kept) (events : List Event) (hs : List Halted) (how : CoroEnd) → IsEnding store.made how → AsksNoRaise events hs → FirstRaises store events hs (passed how)
passed_raises store events [] how ending none = tt
passed_raises store events (h ∷ hs) (left.Yield v) ending none = λ after a (more, is, gives).
    subst (λ (x : Answer). RaisesException after.made (raising_in events h x)) (sym is) (value_raises after.made (asking h.running.act (slice_get events h.place)).asks v none)
passed_raises store events (h ∷ hs) (left.Return v) ending none = λ after a (more, is, gives).
    subst (λ (x : Answer). RaisesException after.made (raising_in events h x)) (sym is) (value_raises after.made (asking h.running.act (slice_get events h.place)).asks v none)
passed_raises store events (h ∷ hs) (left.Raise e) ending none = λ after a (more, is, gives).
    subst (λ (x : Answer). RaisesException after.made (raising_in events h x)) (sym is) (kind_grown store.made after.made (as_object e) kind.Exc (objects_grow store after more) ending.1)

-- what a generator answers
pub replied_raises : (before : List Payload) (store : Kept) (events : List Event) (hs : List Halted) (reply : Reply) (w : MadeReply) → Grows before store.made → AllFit store.made → IsReplied before store.made reply w → AsksNoRaise events hs
    → FirstRaises store events hs w
replied_raises before store events [] reply w grows fit replied none = tt
replied_raises before store events (h ∷ hs) reply w grows fit replied none = λ after a (more, keeps, gives).
    answer_raises after.made (asking h.running.act (slice_get events h.place)).asks a none (gives before reply grows fit replied).raises

-- ---- where a question is answered at once

-- the innermost of these asked this
abbrev pub AsksThis : List Event → List Halted → Request → Type 0
AsksThis events [] q = Unit {0}
AsksThis events (h ∷ hs) q = (act : ℕ) × (own : Option PyBaseExceptionRef) × (at : ℕ) × (slice_get events h.place ≡ Some (event.Ask act q own at))

-- what an answer raises that is as it is wanted
wanted_raises : (objects : List Payload) (q : Request) (a : Answer) → IsAnswer objects (wanted q) (got_of a) → RaisesException objects (raising_by (Some q) a)
wanted_raises objects q (given.Value v) fits = by (is_raising (Some q)) (raised_exception objects q (got.Value v) fits)
  where
    by : (b : Bool) → IfThere (IsException objects) (if b then Some v else None) → RaisesException objects (if b then Some (brought (as_exception v) true) else None)
    by true raised = raised
    by false raised = tt
wanted_raises objects q (given.Stop v) fits = tt
wanted_raises objects q (given.Fresh e) fits = fits
wanted_raises objects q (given.Passed e) fits = fits

-- no events name anything
nothing_named : (objects : List Payload) → AllFit objects → AreNamed objects []
nothing_named objects fit = record { in_events = λ i e here. absurd (cc here); in_payloads = λ i p here. (fit i p here).0 }

pub said_raises : (m : Core) (store : Kept) (hs : List Halted) (q : Request) (reply : Reply) (w : MadeReply) → RaisedThere m.world.store.made (topmost m.slots) → AllFit m.world.store.made → IsGrown m.world.store store → AsksThis m.events hs q
    → ComesTo (setting_at m) m.world.store.made q (Says reply) → IsReplied m.world.store.made store.made reply w → FirstRaises store m.events hs w
said_raises m store [] q reply w there fit grown asks says replied = tt
said_raises m store (h ∷ hs) q reply w there fit grown (act, own, at, entry) says replied = λ after a (more, keeps, gives).
    let all : IsGrown m.world.store after = grown_trans m.world.store store after grown more in
    let given : GivesReply m.world.store.made after.made reply a = gives m.world.store.made reply (objects_grow m.world.store store grown) (grown.objects.fit fit) replied in
    let fits : IsAnswer after.made (wanted q) (got_of a) =
    said_wanted (setting_at m) after.made [] q reply (got_of a) (raised_grown m.world.store.made after.made (topmost m.slots) (objects_grow m.world.store after all) there) given.raises
    (given.gives [] (nothing_named m.world.store.made fit)) (comes_to_grows (setting_at m) m.world.store.made after.made q (Says reply) all.objects says) in
    subst (λ (x : Option Event). RaisesException after.made (raising_by (asking h.running.act x).asks a)) (sym entry) (wanted_raises after.made q a fits)

-- ---- what enters an activation

-- a question that enters one raises no value
pub entering_none : (generators : List KeptGenerator) (q : Request) (kind : Option CoroKind) (act : ℕ) → HasEntered generators q kind act → is_raising (Some q) ≡ false
entering_none generators request.Handled None act calls = absurd calls
entering_none generators (request.Raisable v) None act calls = absurd calls
entering_none generators request.Handled (Some kind) act enters = absurd (cc enters.asks)
entering_none generators (request.Raisable v) (Some kind) act enters = absurd (cc enters.asks)
entering_none generators _ kind act entered = refl
