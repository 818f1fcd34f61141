-- A run as objects and drives grow, and as one more event comes.
use Rattle.std.proofs.Common.{◌≡◌, ◌<◌, ◌⊎◌, ◌+◌, ℕ, zero, suc, List, [], ◌∷◌, ◌++◌, Bool, true, false, Some, None, inl, inr, refl, sym, ap, subst, ◌∙◌, length, length-append, arith}
use Rattle.std.specs.Prelude.{Option, slice_get}
use Rattle.py_objects.specs.declared.payload.Payload.{Payload}
use Rattle.py_objects.specs.declared.payload.CoroKind.{CoroKind}
use Rattle.py_objects.specs.declared.payload.CoroKind.TheVariants as coro
use Rattle.py_objects.specs.declared.refs.PyBaseExceptionRef.{PyBaseExceptionRef}
use Rattle.py_objects.specs.declared.error_kind.ErrorKind.{ErrorKind}
use Rattle.py_objects.specs.declared.error_kind.ErrorKind.TheVariants.{GeneratorExit, StopAsyncIteration, StopIteration}
use Rattle.py_objects.specs.declared.request.Request.{Request}
use Rattle.py_objects.specs.declared.request.Request.TheVariants as request
use Rattle.py_objects.specs.declared.event.ResumeHow.{ResumeHow}
use Rattle.py_objects.specs.declared.event.ResumeHow.TheVariants as how
use Rattle.py_objects.specs.declared.event.Event.{Event}
use Rattle.py_objects.specs.declared.event.Event.TheVariants as event
use Rattle.py_objects.specs.ErrorKinds.{name_of}
use Rattle.py_objects.specs.Objects.{Obj, class_object}
use Rattle.py_objects.specs.Growth.{Grows, GrowsPlainly}
use Rattle.py_objects.proofs.AncestryLemmas.{derived_grows}
use Rattle.py_objects.proofs.GrowthLemmas.{payload_grown, plainly_grows}
use Rattle.py_coro.specs.declared.coro.CoroAnswer.{CoroAnswer}
use Rattle.py_coro.specs.declared.coro.CoroEnd.{CoroEnd}
use Rattle.py_coro.specs.declared.coro.CoroEnd.TheVariants as left
use Rattle.py_coro.specs.Modes.{Mode, Fresh, Suspended, Running, Closed}
use Rattle.py_coro.specs.Leaving.{ConvertsAs, IsOfClass, Finishes}
use Rattle.py_answers.specs.Answers.{Reply}
use Rattle.py_answers.proofs.RepliesLemmas.{gives_body_grow, gives_drive_grow, raise_grows, replies_grow}
use Rattle.py_answers.proofs.ThrownLemmas.{normalizes_grow}
use Rattle.py_exceptions.proofs.TypeNamesLemmas.{type_name_grows}
use Rattle.py_run.specs.declared.drive.Makings.{Makings}
use Rattle.py_run.specs.Normalized.{NormalizesTo}
use Rattle.py_run.specs.Run.{Posed, Plan, Phase, Idle, Asking, Going, Made, Due, State, after, open_in, makings_of, to_report_by, entered_in, question, handled_among}
use Rattle.py_run.specs.Generators.{Generator, answered, value_of, returned_by}
use Rattle.py_run.specs.Calls.{Course, Says, Enters, Begins, Sends, Throws, Setting, CallsFunction, IsKept, ThrowsAs, SendsTo, ThrowsTo, ClosesTo, EntersTo, ExitsTo, exit_of, ComesTo, LeavesGenerator, IsDue}
use Rattle.py_run.specs.Coming.{Past, nothing, past_after, setting, IsOfKind, Opens, Starts, IsEntered, MakesGenerator, IsReply, IsAnswered, IsFormed, MayCome, Comes}
use Rattle.py_run.specs.Past.{past_behind}

-- ---- what questions come to, as objects come

-- what the call of a function comes to stays
pub calls_grow : (at : Setting) (objects objects' : List Payload) (f : Obj) (vs : List Obj) (c : Course) → Grows objects objects' → CallsFunction at objects f vs c → CallsFunction at objects' f vs c
calls_grow at objects objects' f vs c grows calls =
    record { body = calls.body; entry = payload_grown objects objects' f _ grows calls.entry; signature = calls.signature; signed = calls.signed; is = calls.is }

-- a generator stays one
kept_grows : (at : Setting) (objects objects' : List Payload) (g : Obj) (kind : CoroKind) (x : Generator) → Grows objects objects' → IsKept at objects g kind x → IsKept at objects' g kind x
kept_grows at objects objects' g kind x grows kept = record { body = kept.body; entry = payload_grown objects objects' g _ grows kept.entry; kind_is = kept.kind_is; kept = kept.kept }

-- so does what a send comes to
sends_grow : (at : Setting) (objects objects' : List Payload) (g v : Obj) (c : Course) → Grows objects objects' → SendsTo at objects g v c → SendsTo at objects' g v c
sends_grow at objects objects' g v c grows (kind, x, kept, p, has, is) = (kind, x, kept_grows at objects objects' g kind x grows kept, p, payload_grown objects objects' v p grows has, is)

-- what a throw does, in each mode
throws_as_grow : (at : Setting) (objects objects' : List Payload) (kind : CoroKind) (x : Generator) (m : Mode) (k : Obj) (v : Option Obj) (c : Course)
    → GrowsPlainly objects objects' → ThrowsAs at objects kind x m k v c → ThrowsAs at objects' kind x m k v c
throws_as_grow at objects objects' kind x Fresh k v c grows (outcome, comes, is) = (outcome, normalizes_grow objects objects' k v outcome grows comes, is)
throws_as_grow at objects objects' kind x Suspended k v c grows (outcome, comes, is) = (outcome, normalizes_grow objects objects' k v outcome grows comes, is)
throws_as_grow at objects objects' kind x Running k v c grows is = is
throws_as_grow at objects objects' kind x Closed k v c grows (outcome, comes, is) = (outcome, normalizes_grow objects objects' k v outcome grows comes, is)

-- so what a throw does stays
throws_grow : (at : Setting) (objects objects' : List Payload) (g k : Obj) (v : Option Obj) (c : Course) → GrowsPlainly objects objects' → ThrowsTo at objects g k v c → ThrowsTo at objects' g k v c
throws_grow at objects objects' g k v c grows (kind, x, kept, throws) =
    (kind, x, kept_grows at objects objects' g kind x (plainly_grows objects objects' grows) kept, throws_as_grow at objects objects' kind x x.mode k v c grows throws)

-- and what a close
closes_grow : (at : Setting) (objects objects' : List Payload) (g : Obj) (c : Course) → Grows objects objects' → ClosesTo at objects g c → ClosesTo at objects' g c
closes_grow at objects objects' g c grows (kind, x, kept, is) = (kind, x, kept_grows at objects objects' g kind x grows kept, is)

-- so does what the entry of a manager comes to
enters_grow : (at : Setting) (objects objects' : List Payload) (m : Obj) (c : Course) → Grows objects objects' → EntersTo at objects m c → EntersTo at objects' m c
enters_grow at objects objects' m c grows (body, has, calls) = (body, payload_grown objects objects' m _ grows has, calls_grow at objects objects' body.enter [] c grows calls)

-- and what an exit does
exits_grow : (at : Setting) (objects objects' : List Payload) (x : Obj) (told : List Obj) (c : Course) → Grows objects objects' → ExitsTo at objects x told c → ExitsTo at objects' x told c
exits_grow at objects objects' x told c grows (p, has, calls) = (p, payload_grown objects objects' x p grows has, calls_grow at objects objects' (exit_of p x) told c grows calls)

-- so does what any question comes to
pub comes_to_grows : (at : Setting) (objects objects' : List Payload) (r : Request) (c : Course) → GrowsPlainly objects objects' → ComesTo at objects r c → ComesTo at objects' r c
comes_to_grows at objects objects' r c grows (inl (reply, is, replies)) = inl (reply, is, replies_grow objects objects' r reply grows replies)
comes_to_grows at objects objects' r c grows (inr (inl (f, vs, is, calls))) = inr (inl (f, vs, is, calls_grow at objects objects' f vs c (plainly_grows objects objects' grows) calls))
comes_to_grows at objects objects' r c grows (inr (inr (inl asks))) = inr (inr (inl asks))
comes_to_grows at objects objects' r c grows (inr (inr (inr (inl (g, v, is, sends))))) =
    inr (inr (inr (inl (g, v, is, sends_grow at objects objects' g v c (plainly_grows objects objects' grows) sends))))
comes_to_grows at objects objects' r c grows (inr (inr (inr (inr (inl (g, k, v, is, throws)))))) = inr (inr (inr (inr (inl (g, k, v, is, throws_grow at objects objects' g k v c grows throws)))))
comes_to_grows at objects objects' r c grows (inr (inr (inr (inr (inr (inl (g, is, closes))))))) =
    inr (inr (inr (inr (inr (inl (g, is, closes_grow at objects objects' g c (plainly_grows objects objects' grows) closes))))))
comes_to_grows at objects objects' r c grows (inr (inr (inr (inr (inr (inr (inl (m, is, enters)))))))) =
    inr (inr (inr (inr (inr (inr (inl (m, is, enters_grow at objects objects' m c (plainly_grows objects objects' grows) enters)))))))
comes_to_grows at objects objects' r c grows (inr (inr (inr (inr (inr (inr (inr (x, k, v, t, is, exits)))))))) =
    inr (inr (inr (inr (inr (inr (inr (x, k, v, t, is, exits_grow at objects objects' x (k ∷ v ∷ t ∷ []) c (plainly_grows objects objects' grows) exits)))))))

-- ---- what is due, as objects come

-- whether an exception is of a class stays
of_class_grows : (objects objects' : List Payload) (e : PyBaseExceptionRef) (kind : ErrorKind) (b : Bool) → GrowsPlainly objects objects' → IsOfClass objects e kind b → IsOfClass objects' e kind b
of_class_grows objects objects' e kind b grows (body, has, derived) =
    (body, payload_grown objects objects' _ _ (plainly_grows objects objects' grows) has, derived_grows objects objects' (class_object body.class) (name_of kind) b grows derived)

-- and as which stop it is converted
converted_grows : (objects objects' : List Payload) (kind : CoroKind) (e : PyBaseExceptionRef) (stop : Option ErrorKind) → GrowsPlainly objects objects' → ConvertsAs objects kind e stop → ConvertsAs objects' kind e stop
converted_grows objects objects' coro.Generator e stop grows (stops, a_stop, is) = (stops, of_class_grows objects objects' e StopIteration stops grows a_stop, is)
converted_grows objects objects' coro.Coroutine e stop grows (stops, a_stop, is) = (stops, of_class_grows objects objects' e StopIteration stops grows a_stop, is)
converted_grows objects objects' coro.AsyncGen e stop grows (stops, stops_async, a_stop, an_async, is) =
    (stops, stops_async, of_class_grows objects objects' e StopIteration stops grows a_stop, of_class_grows objects objects' e StopAsyncIteration stops_async grows an_async, is)

-- so does what a generator answers that was left
finishes_grow : (objects objects' : List Payload) (kind : CoroKind) (closing : Bool) (how : CoroEnd) (a : CoroAnswer) → GrowsPlainly objects objects' → Finishes objects kind closing how a
    → Finishes objects' kind closing how a
finishes_grow objects objects' kind closing (left.Yield v) a grows is = is
finishes_grow objects objects' kind closing (left.Return v) a grows (p, has, is) = (p, payload_grown objects objects' v p (plainly_grows objects objects' grows) has, is)
finishes_grow objects objects' kind closing (left.Raise e) a grows (stop, exits, a_stop, an_exit, is) =
    (stop, exits, converted_grows objects objects' kind e stop grows a_stop, of_class_grows objects objects' e GeneratorExit exits grows an_exit, is)

-- and what who entered it is answered
leaves_grow : (objects objects' : List Payload) (g : Obj) (closing : Bool) (how : CoroEnd) (reply : Reply)
    → GrowsPlainly objects objects' → LeavesGenerator objects g closing how reply → LeavesGenerator objects' g closing how reply
leaves_grow objects objects' g closing how reply grows (body, has, a, finishes, is) =
    (body, payload_grown objects objects' g _ (plainly_grows objects objects' grows) has, a, finishes_grow objects objects' body.kind closing how a grows finishes, is)

-- so does what is due to each question
pub due_grows : (objects objects' : List Payload) (r : Request) (how : CoroEnd) (reply : Reply) → GrowsPlainly objects objects' → IsDue objects r how reply → IsDue objects' r how reply
due_grows objects objects' (request.Call f vs named) how reply grows due = due
due_grows objects objects' (request.Send g v) how reply grows due = leaves_grow objects objects' g false how reply grows due
due_grows objects objects' (request.Throw g k v t) how reply grows (none, due) = (none, leaves_grow objects objects' g false how reply grows due)
due_grows objects objects' (request.Close g) how reply grows due = leaves_grow objects objects' g true how reply grows due
due_grows objects objects' (request.Enter m) how reply grows due = due
due_grows objects objects' (request.Exit x k v t) how reply grows due = due
due_grows objects objects' _ how reply grows due = absurd due

-- ---- what may come, as objects come

-- what the open question comes to stays
pub opens_grow : (plan : Plan) (objects objects' : List Payload) (p : Past) (c : Course) → GrowsPlainly objects objects' → Opens plan objects p c → Opens plan objects' p c
opens_grow plan objects objects' p c grows (asks, (r, open_, comes)) = (asks, (r, open_, comes_to_grows (setting plan p) objects objects' r c grows comes))

-- a function is of the kind that it was
abbrev of_kind_grows : (plan : Plan) (objects objects' : List Payload) (f : Obj) (kind : Option CoroKind) → Grows objects objects' → IsOfKind plan objects f kind → IsOfKind plan objects' f kind
of_kind_grows plan objects objects' f kind grows is =
    record { body = is.body; entry = payload_grown objects objects' f _ grows is.entry; signature = is.signature; signed = is.signed; kind_is = is.kind_is }

-- an activation that may start still may
starts_grow : (plan : Plan) (objects objects' : List Payload) (p : Past) (phase : Phase) (a : ℕ) → GrowsPlainly objects objects' → Starts plan objects p phase a → Starts plan objects' p phase a
starts_grow plan objects objects' p Asking a grows opens = opens_grow plan objects objects' p (Begins a) grows opens
starts_grow plan objects objects' p (Made f) a grows (is, kind) = (is, of_kind_grows plan objects objects' f None (plainly_grows objects objects' grows) kind)
starts_grow plan objects objects' p _ a grows starts = absurd starts

-- one that may be entered still may
entered_grows : (plan : Plan) (objects objects' : List Payload) (p : Past) (h : ResumeHow) (a : ℕ) → GrowsPlainly objects objects' → IsEntered plan objects p h a → IsEntered plan objects' p h a
entered_grows plan objects objects' p how.Start a grows starts = starts_grow plan objects objects' p p.state.phase a grows starts
entered_grows plan objects objects' p (how.Send v) a grows opens = opens_grow plan objects objects' p (Sends a v) grows opens
entered_grows plan objects objects' p (how.Throw e) a grows (x, opens, raise) = (x, opens_grow plan objects objects' p (Throws a x) grows opens, raise_grows objects objects' p.events x e grows raise)

-- a generator that may be made still may
makes_grow : (plan : Plan) (objects objects' : List Payload) (f : Obj) (a : ℕ) (reply : Reply) → Grows objects objects' → MakesGenerator plan objects f a reply
    → MakesGenerator plan objects' f a reply
makes_grow plan objects objects' f a reply grows (kind, of_kind, is) = (kind, of_kind_grows plan objects objects' f (Some kind) grows of_kind, is)

-- a reply stays one, in each phase
reply_grows : (plan : Plan) (objects objects' : List Payload) (p : Past) (phase : Phase) (r : Request) (reply : Reply) → GrowsPlainly objects objects' → IsReply plan objects p phase r reply
    → IsReply plan objects' p phase r reply
reply_grows plan objects objects' p Asking r reply grows comes = comes_to_grows (setting plan p) objects objects' r (Says reply) grows comes
reply_grows plan objects objects' p (Made f) r reply grows makes = makes_grow plan objects objects' f (length p.state.made) reply (plainly_grows objects objects' grows) makes
reply_grows plan objects objects' p (Due how) r reply grows due = due_grows objects objects' r how reply grows due
reply_grows plan objects objects' p _ r reply grows is = absurd is

-- what the open question is answered stays
pub answered_grows : (plan : Plan) (objects objects' : List Payload) (p : Past) (reply : Reply) → GrowsPlainly objects objects' → IsAnswered plan objects p reply → IsAnswered plan objects' p reply
answered_grows plan objects objects' p reply grows (r, open_, is) = (r, open_, reply_grows plan objects objects' p p.state.phase r reply grows is)

-- so does what an exception is made of
pub normalizes_to_grow : (objects objects' : List Payload) (x : Makings) (reply : Reply) → GrowsPlainly objects objects' → NormalizesTo objects x reply → NormalizesTo objects' x reply
normalizes_to_grow objects objects' x reply grows n = record {
  outcome = n.outcome;
  normalizes = normalizes_grow objects objects' x.thrown (Some x.value) n.outcome grows n.normalizes;
  entry = n.entry;
  has = payload_grown objects objects' x.traceback n.entry (plainly_grows objects objects' grows) n.has;
  name = n.name;
  typed = type_name_grows objects objects' n.entry n.name (plainly_grows objects objects' grows) n.typed;
  is = n.is;
}

-- and what a drive is answered
result_grows : (plan : Plan) (objects objects' : List Payload) (p : Past) (reply : Reply) → GrowsPlainly objects objects' → IsAnswered plan objects p reply ⊎ IsFormed plan objects p reply
    → IsAnswered plan objects' p reply ⊎ IsFormed plan objects' p reply
result_grows plan objects objects' p reply grows (inl answered) = inl (answered_grows plan objects objects' p reply grows answered)
result_grows plan objects objects' p reply grows (inr (asks, (x, forms, is))) = inr (asks, (x, forms, normalizes_to_grow objects objects' x reply grows is))

-- an event that may come still may
pub may_come_grow : (plan : Plan) (objects objects' : List Payload) (p : Past) (e : Event) → GrowsPlainly objects objects' → MayCome plan objects p e → MayCome plan objects' p e
may_come_grow plan objects objects' p (event.Result d w) grows (next, alone, inl (reply, answered, gives)) =
    (next, alone, inl (reply, result_grows plan objects objects' p reply grows answered, gives_drive_grow objects objects' p.events reply w grows gives))
may_come_grow plan objects objects' p (event.Result d w) grows (next, alone, inr reported) = (next, alone, inr reported)
may_come_grow plan objects objects' p (event.Make a f vs) grows (next, opens) = (next, opens_grow plan objects objects' p (Enters f vs) grows opens)
may_come_grow plan objects objects' p (event.Resume a h) grows enters = entered_grows plan objects objects' p h a grows enters
may_come_grow plan objects objects' p (event.Ask a r own at) grows goes = goes
may_come_grow plan objects objects' p (event.Got a w) grows (top, (reply, answered, gives)) =
    (top, (reply, answered_grows plan objects objects' p reply grows answered, gives_body_grow objects objects' p.events reply w grows gives))
may_come_grow plan objects objects' p _ grows may = may

-- a run goes over to more objects that declare nothing
pub comes_grow : (plan : Plan) (objects objects' : List Payload) (p : Past) (es : List Event) → GrowsPlainly objects objects' → Comes plan objects p es → Comes plan objects' p es
comes_grow plan objects objects' p [] grows comes = tt
comes_grow plan objects objects' p (e ∷ es) grows comes = (may_come_grow plan objects objects' p e grows comes.0, comes_grow plan objects objects' (past_after plan p e) es grows comes.1)

-- ---- as events come

-- one more event behind those that came
pub comes_on : (plan : Plan) (objects : List Payload) (p : Past) (es : List Event) (e : Event) → Comes plan objects p es → MayCome plan objects (past_behind plan p es) e
    → Comes plan objects p (es ++ e ∷ [])
comes_on plan objects p [] e comes may = (may, tt)
comes_on plan objects p (x ∷ es) e comes may = (comes.0, comes_on plan objects (past_after plan p x) es e comes.1 may)

-- a list that comes behind another one
pub comes_behind : (plan : Plan) (objects : List Payload) (p : Past) (es more : List Event) → Comes plan objects p es → Comes plan objects (past_behind plan p es) more
    → Comes plan objects p (es ++ more)
comes_behind plan objects p [] more comes then = then
comes_behind plan objects p (e ∷ es) more comes then = (comes.0, comes_behind plan objects (past_after plan p e) es more comes.1 then)

-- a front of a list that comes
pub comes_front : (plan : Plan) (objects : List Payload) (p : Past) (es more : List Event) → Comes plan objects p (es ++ more) → Comes plan objects p es
comes_front plan objects p [] more comes = tt
comes_front plan objects p (e ∷ es) more comes = (comes.0, comes_front plan objects (past_after plan p e) es more comes.1)

-- what comes behind a front
pub comes_rest : (plan : Plan) (objects : List Payload) (p : Past) (es more : List Event) → Comes plan objects p (es ++ more) → Comes plan objects (past_behind plan p es) more
comes_rest plan objects p [] more comes = comes
comes_rest plan objects p (e ∷ es) more comes = comes_rest plan objects (past_after plan p e) es more comes.1

-- ---- as drives are begun

-- a state in which the drive that runs is one of those that were asked
abbrev pub IsAsked : Plan → State → Type 0
IsAsked plan s = (s.phase ≡ Idle) ⊎ (s.done < length plan.asked)

-- with more drives behind those of a plan
abbrev pub with_more : Plan → List Posed → Plan
with_more plan more = record plan { asked = plan.asked ++ more }

-- what is there in front of more is the same
pub get_front : {A : Type 0} (xs ys : List A) (i : ℕ) → i < length xs → slice_get (xs ++ ys) i ≡ slice_get xs i
get_front [] ys i within = absurd (omega (arith, within))
get_front (x ∷ xs) ys zero within = refl
get_front (x ∷ xs) ys (suc i) within = get_front xs ys i (omega (arith, within))

-- a drive runs where anything comes but a drive
asked_in : (plan : Plan) (s : State) (x : Phase) → (x ≡ Idle → ⊥) → s.phase ≡ x → IsAsked plan s → s.done < length plan.asked
asked_in plan s x busy is (inl idle) = absurd (busy (sym is ∙ idle))
asked_in plan s x busy is (inr within) = within

-- where an activation goes on
pub going_busy : Going ≡ Idle → ⊥
going_busy same = cc same

-- where a question is open too
pub asking_busy : Asking ≡ Idle → ⊥
asking_busy same = cc same

-- where a function was just made
pub made_busy : (f : Obj) → Made f ≡ Idle → ⊥
made_busy f same = cc same

-- and where an answer is due
pub due_busy : (how : CoroEnd) → Due how ≡ Idle → ⊥
due_busy how same = cc same

-- where a question of this drive stands
setting_behind : Plan → Past → Option Posed → Setting
setting_behind plan p q =
    record { signatures = plan.signatures; depth = entered_in q + length p.state.stack; handled = handled_among p.state.stack; generators = p.generators }

-- with these generators, behind an event
with_generators : Plan → Past → Event → List Generator → Past
with_generators plan p e xs = record (past_after plan p e) { generators = xs }

module _ (plan : Plan) (more : List Posed) (objects : List Payload) where
  -- the open question is the same among more drives
  same_question : (s : State) → s.done < length plan.asked → question (with_more plan more) s ≡ question plan s
  same_question s within = ap (λ q. open_in q s.stack) (get_front plan.asked more s.done within)

  -- where it stands is the same
  same_setting : (p : Past) → p.state.done < length plan.asked → setting (with_more plan more) p ≡ setting plan p
  unfolding setting_behind
  same_setting p within = ap (setting_behind plan p) (get_front plan.asked more p.state.done within)

  -- what it comes to
  opens_more : (p : Past) (c : Course) → p.state.done < length plan.asked → Opens plan objects p c → Opens (with_more plan more) objects p c
  opens_more p c within (asks, (r, open_, comes)) = (asks, (r, same_question p.state within ∙ open_, subst (λ at. ComesTo at objects r c) (sym (same_setting p within)) comes))

  -- a function is of the same kind
  abbrev of_kind_more : (f : Obj) (kind : Option CoroKind) → IsOfKind plan objects f kind → IsOfKind (with_more plan more) objects f kind
  of_kind_more f kind is = record { body = is.body; entry = is.entry; signature = is.signature; signed = is.signed; kind_is = is.kind_is }

  -- a reply is the same, in each phase
  reply_more : (p : Past) (phase : Phase) (r : Request) (reply : Reply) → p.state.done < length plan.asked → IsReply plan objects p phase r reply
      → IsReply (with_more plan more) objects p phase r reply
  reply_more p Asking r reply within comes = subst (λ at. ComesTo at objects r (Says reply)) (sym (same_setting p within)) comes
  reply_more p (Made f) r reply within (kind, of_kind, is) = (kind, of_kind_more f (Some kind) of_kind, is)
  reply_more p (Due how) r reply within due = due
  reply_more p _ r reply within is = absurd is

  -- what the open question is answered is the same
  answered_more : (p : Past) (reply : Reply) → p.state.done < length plan.asked → IsAnswered plan objects p reply → IsAnswered (with_more plan more) objects p reply
  answered_more p reply within (r, open_, is) = (r, same_question p.state within ∙ open_, reply_more p p.state.phase r reply within is)

  -- a question is answered where a drive runs
  asked_of : (p : Past) (reply : Reply) → IsAsked plan p.state → IsAnswered plan objects p reply → p.state.done < length plan.asked
  asked_of p reply (inl idle) (r, open_, is) = absurd (subst (λ x. IsReply plan objects p x r reply) idle is)
  asked_of p reply (inr within) answered = within

  -- so is what a drive is answered
  result_more : (p : Past) (reply : Reply) → p.state.done < length plan.asked → IsAnswered plan objects p reply ⊎ IsFormed plan objects p reply
      → IsAnswered (with_more plan more) objects p reply ⊎ IsFormed (with_more plan more) objects p reply
  result_more p reply within (inl answered) = inl (answered_more p reply within answered)
  result_more p reply within (inr (asks, (x, forms, is))) = inr (asks, (x, ap makings_of (get_front plan.asked more p.state.done within) ∙ forms, is))

  -- it is answered where it runs
  drive_of : (p : Past) (reply : Reply) → IsAsked plan p.state → IsAnswered plan objects p reply ⊎ IsFormed plan objects p reply → p.state.done < length plan.asked
  drive_of p reply asked (inl answered) = asked_of p reply asked answered
  drive_of p reply asked (inr (asks, formed)) = asked_in plan p.state Asking asking_busy asks asked

  -- an activation starts as before
  starts_more : (p : Past) (phase : Phase) (a : ℕ) → IsAsked plan p.state → p.state.phase ≡ phase → Starts plan objects p phase a
      → Starts (with_more plan more) objects p phase a × (p.state.done < length plan.asked)
  starts_more p Asking a asked is opens = let within = asked_in plan p.state Asking asking_busy is asked in (opens_more p (Begins a) within opens, within)
  starts_more p (Made f) a asked is (last, kind) = ((last, of_kind_more f None kind), asked_in plan p.state (Made f) (made_busy f) is asked)
  starts_more p _ a asked is starts = absurd starts

  -- so it is entered as before
  entered_more : (p : Past) (h : ResumeHow) (a : ℕ) → IsAsked plan p.state → IsEntered plan objects p h a → IsEntered (with_more plan more) objects p h a × (p.state.done < length plan.asked)
  entered_more p how.Start a asked starts = starts_more p p.state.phase a asked refl starts
  entered_more p (how.Send v) a asked opens = let within = asked_in plan p.state Asking asking_busy opens.0 asked in (opens_more p (Sends a v) within opens, within)
  entered_more p (how.Throw e) a asked (x, opens, raise) =
      let within = asked_in plan p.state Asking asking_busy opens.0 asked in
      ((x, opens_more p (Throws a x) within opens, raise), within)

  -- an answer leaves the same generators
  same_answered : (p : Past) (v : Option Obj) → p.state.done < length plan.asked
      → answered (question (with_more plan more) p.state) p.state.phase (length p.state.made) v p.generators ≡ answered (question plan p.state) p.state.phase (length p.state.made) v p.generators
  same_answered p v within = ap (λ q. answered q p.state.phase (length p.state.made) v p.generators) (same_question p.state within)

  -- an event may come among more drives too, and leaves the same
  record IsMore (p : Past) (e : Event) : Type 0 where
    may : MayCome (with_more plan more) objects p e
    asked : IsAsked plan (after p.state e)
    same : past_after (with_more plan more) p e ≡ past_after plan p e

  -- each that may come
  may_come_more : (p : Past) (e : Event) → IsAsked plan p.state → MayCome plan objects p e → IsMore p e
  unfolding with_generators
  may_come_more p (event.Drive d) asked (idle, next, some) = record {
    may = (idle, next, let sum : length (plan.asked ++ more) ≡ length plan.asked + length more = length-append plan.asked more in omega (arith, some, sum));
    asked = inr some;
    same = refl;
  }
  may_come_more p (event.Result d w) asked (next, alone, inl (reply, is, gives)) =
      let within = drive_of p reply asked is in
      record { may = (next, alone, inl (reply, result_more p reply within is, gives)); asked = inl refl; same = ap (with_generators plan p (event.Result d w)) (same_answered p (returned_by w) within) }
  may_come_more p (event.Result d w) asked (next, alone, inr (asks, (e, reports, is))) =
      let within = asked_in plan p.state Asking asking_busy asks asked in
      record {
        may = (next, alone, inr (asks, (e, ap to_report_by (get_front plan.asked more p.state.done within) ∙ reports, is)));
        asked = inl refl;
        same = ap (with_generators plan p (event.Result d w)) (same_answered p (returned_by w) within);
      }
  may_come_more p (event.Make a f vs) asked (next, opens) =
      let within = asked_in plan p.state Asking asking_busy opens.0 asked in
      record { may = (next, opens_more p (Enters f vs) within opens); asked = inr within; same = refl }
  may_come_more p (event.Resume a h) asked enters = let both = entered_more p h a asked enters in record { may = both.0; asked = inr both.1; same = refl }
  may_come_more p (event.Ask a r own at) asked goes = record { may = goes; asked = inr (asked_in plan p.state Going going_busy goes.0 asked); same = refl }
  may_come_more p (event.Got a w) asked (top, (reply, is, gives)) =
      let within = asked_of p reply asked is in
      record { may = (top, (reply, answered_more p reply within is, gives)); asked = inr within; same = ap (with_generators plan p (event.Got a w)) (same_answered p (value_of w) within) }
  may_come_more p (event.Round a at) asked goes = record { may = goes; asked = asked; same = refl }
  may_come_more p (event.Yield a v at) asked goes = record { may = goes; asked = inr (asked_in plan p.state Going going_busy goes.0 asked); same = refl }
  may_come_more p (event.End a e at) asked goes = record { may = goes; asked = inr (asked_in plan p.state Going going_busy goes.0 asked); same = refl }

  -- a run goes over to more drives
  comes_more_from : (p : Past) (es : List Event) → IsAsked plan p.state → Comes plan objects p es → Comes (with_more plan more) objects p es
  comes_more_from p [] asked comes = tt
  comes_more_from p (e ∷ es) asked comes =
      let first = may_come_more p e asked comes.0 in
      (first.may, subst (λ q. Comes (with_more plan more) objects q es) (sym first.same) (comes_more_from (past_after plan p e) es first.asked comes.1))

  -- from the start on, where no drive was begun
  pub comes_more : (es : List Event) → Comes plan objects nothing es → Comes (with_more plan more) objects nothing es
  comes_more es comes = comes_more_from nothing es (inl refl) comes

  -- its past is the same
  past_more_from : (p : Past) (es : List Event) → IsAsked plan p.state → Comes plan objects p es → past_behind (with_more plan more) p es ≡ past_behind plan p es
  past_more_from p [] asked comes = refl
  past_more_from p (e ∷ es) asked comes =
      let first = may_come_more p e asked comes.0 in
      ap (λ q. past_behind (with_more plan more) q es) first.same ∙ past_more_from (past_after plan p e) es first.asked comes.1

  -- so is the past from the start on
  pub past_more : (es : List Event) → Comes plan objects nothing es → past_behind (with_more plan more) nothing es ≡ past_behind plan nothing es
  past_more es comes = past_more_from nothing es (inl refl) comes
