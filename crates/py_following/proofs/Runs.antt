-- What a run keeps: which results stand in front of an event, and that what its generators are is kept; and what its drives pose.
use Rattle.std.proofs.Common.{◌≡◌, ◌∙◌, ◌<◌, ◌≤◌, ℕ, zero, suc, List, [], ◌∷◌, ◌++◌, Bool, true, false, cond, Some, None, inl, inr, refl, sym, ap, subst, length, arith, eqb}
use Rattle.std.specs.Prelude.{Option, slice_get}
use Rattle.std.proofs.lemmas.Option.{same_Some}
use Rattle.py_objects.specs.declared.payload.Payload.{Payload}
use Rattle.py_objects.specs.declared.payload.Payload.TheVariants as payload
use Rattle.py_objects.specs.declared.payload.CoroBody.{CoroBody}
use Rattle.py_objects.specs.declared.request.Request.{Request}
use Rattle.py_objects.specs.declared.request.Request.TheVariants as request
use Rattle.py_objects.specs.declared.event.DriveAnswer.{DriveAnswer}
use Rattle.py_objects.specs.declared.event.DriveAnswer.TheVariants as answer
use Rattle.py_objects.specs.declared.event.GotAnswer.{GotAnswer}
use Rattle.py_objects.specs.declared.event.GotAnswer.TheVariants as got
use Rattle.py_objects.specs.declared.event.ResumeHow.TheVariants as how
use Rattle.py_objects.specs.declared.event.Event.{Event}
use Rattle.py_objects.specs.declared.event.Event.TheVariants as event
use Rattle.py_objects.specs.Objects.{Obj, HasPayload}
use Rattle.py_coro.specs.Modes.{Mode, Fresh, Running}
use Rattle.py_coro.specs.declared.coro.CoroEnd.{CoroEnd}
use Rattle.py_coro.specs.Leaving.{mode_behind}
use Rattle.py_answers.specs.Answers.{Reply, Creates, GivesBody, GivesDrive}
use Rattle.py_lines.specs.declared.drive.DriveLine.{DriveLine}
use Rattle.py_meaning.specs.Whole.{AsksThis, AreAsked, Asks, Poses}
use Rattle.py_meaning.specs.Core.{is_plain}
use Rattle.py_meaning.proofs.CoreLemmas.{none_reported}
use Rattle.py_run.specs.declared.drive.Told.TheVariants as told
use Rattle.py_run.specs.Run.{Plan, Phase, Idle, Asking, Going, Made, Due, State, IsTop, after, state_after, open_in, requested_by, makings_of, to_report_by, question, Posed, Pose, Requests, Forms, Reports}
use Rattle.py_run.specs.Calls.{Course, Enters, Begins, Sends, Throws}
use Rattle.py_run.specs.Generators.{Generator, running_at, with_mode, unentered, closed_by, settled, answered, value_of, returned_by}
use Rattle.py_run.specs.Coming.{Past, past_after, Opens, Starts, IsReply, IsAnswered, MayCome, Comes}
use Rattle.py_run.specs.Past.{past_behind}
use Rattle.py_following.proofs.Plans.{posing}
use Rattle.py_following.proofs.Opening.{AreGenerators}

-- ---- results

done_grows : (s : State) (e : Event) → s.done ≤ (after s e).done
done_grows s (event.Result d w) = omega arith
done_grows s _ = omega arith

module _ (plan : Plan) (objects : List Payload) where
  result_next : (p : Past) (e : Event) (n : ℕ) (w : DriveAnswer) → e ≡ event.Result n w → MayCome plan objects p e → n ≡ suc p.state.done
  result_next p e n w is may = (subst (λ (x : Event). MayCome plan objects p x) is may).0

  -- one that comes behind others has a greater number than they
  results_later : (p : Past) (es : List Event) (i n : ℕ) (w : DriveAnswer) → Comes plan objects p es → slice_get es i ≡ Some (event.Result n w) → p.state.done < n
  results_later p [] i n w comes at = absurd (cc at)
  results_later p (e ∷ es) zero n w comes at =
      let next = result_next p e n w (same_Some e (event.Result n w) at) comes.0 in omega (arith, next)
  results_later p (e ∷ es) (suc i) n w comes at =
      let later = results_later (past_after plan p e) es i n w comes.1 at in
      let more = done_grows p.state e in
      omega (arith, later, more)

  -- the result of a drive that is done stands among the events that it is done behind
  pub result_front : (p : Past) (es more : List Event) (i n : ℕ) (w : DriveAnswer) → Comes plan objects p (es ++ more)
      → n ≤ (state_after p.state es).done → slice_get (es ++ more) i ≡ Some (event.Result n w) → slice_get es i ≡ Some (event.Result n w)
  result_front p [] more i n w comes low at = absurd (let later = results_later p more i n w comes at in omega (arith, low, later))
  result_front p (e ∷ es) more zero n w comes low at = at
  result_front p (e ∷ es) more (suc i) n w comes low at = result_front (past_after plan p e) es more i n w comes.1 low at

-- ---- generators

running_are : (objects : List Payload) (a : ℕ) (xs : List Generator) → AreGenerators objects xs → AreGenerators objects (running_at a xs)
running_are objects a [] are = tt
running_are objects a (x ∷ xs) (one, are) = (by (eqb x.act a), running_are objects a xs are)
  where
    by : (b : Bool) → (k : CoroBody) × HasPayload objects (cond b (record x { mode = Running }) x).object (payload.Generator k)
    by true = one
    by false = one

mode_are : (objects : List Payload) (g : Obj) (f : Mode → Mode) (xs : List Generator) → AreGenerators objects xs → AreGenerators objects (with_mode g f xs)
mode_are objects g f [] are = tt
mode_are objects g f (x ∷ xs) (one, are) = by (eqb x.object.number g.number) (mode_are objects g f xs are)
  where
    by : (b : Bool) → AreGenerators objects (with_mode g f xs) → AreGenerators objects (cond b (record x { mode = f x.mode } ∷ xs) (x ∷ with_mode g f xs))
    by true more = (one, are)
    by false more = (one, more)

closed_are : (objects : List Payload) (q : Option Request) (xs : List Generator) → AreGenerators objects xs → AreGenerators objects (closed_by q xs)
closed_are objects (Some (request.Close g)) xs are = mode_are objects g unentered xs are
closed_are objects _ xs are = are

settled_are : (objects : List Payload) (q : Option Request) (how : CoroEnd) (xs : List Generator) → AreGenerators objects xs → AreGenerators objects (settled q how xs)
settled_are objects (Some (request.Send g v)) how xs are = mode_are objects g (λ m. mode_behind false how) xs are
settled_are objects (Some (request.Throw g k v t)) how xs are = mode_are objects g (λ m. mode_behind false how) xs are
settled_are objects (Some (request.Close g)) how xs are = mode_are objects g (λ m. mode_behind true how) xs are
settled_are objects _ how xs are = are

-- a value that is created is a generator
abbrev IsMade : List Payload → Option Obj → Type 0
IsMade objects None = Unit {0}
IsMade objects (Some v) = (b : CoroBody) × HasPayload objects v (payload.Generator b)

behind_are : (objects : List Payload) (xs : List Generator) (x : Generator) → AreGenerators objects xs → ((b : CoroBody) × HasPayload objects x.object (payload.Generator b)) → AreGenerators objects (xs ++ x ∷ [])
behind_are objects [] x are one = (one, tt)
behind_are objects (y ∷ ys) x (first, are) one = (first, behind_are objects ys x are one)

answered_are : (objects : List Payload) (q : Option Request) (phase : Phase) (made : ℕ) (v : Option Obj) (xs : List Generator)
    → ((f : Obj) → phase ≡ Made f → IsMade objects v) → AreGenerators objects xs → AreGenerators objects (answered q phase made v xs)
answered_are objects q Idle made v xs one are = are
answered_are objects q Asking made v xs one are = closed_are objects q xs are
answered_are objects q Going made v xs one are = are
answered_are objects q (Made f) made None xs one are = are
answered_are objects q (Made f) made (Some v) xs one are = behind_are objects xs (record { object = v; act = made; mode = Fresh }) are (one f refl)
answered_are objects q (Due how) made v xs one are = settled_are objects q how xs are

got_made : (objects : List Payload) (before : List Event) (reply : Reply) (b : CoroBody) (w : GotAnswer) → reply ≡ Creates b → GivesBody objects before reply w → IsMade objects (value_of w)
got_made objects before reply b (got.Value v) is gives = (b, (subst (λ r. GivesBody objects before r (got.Value v)) is gives).1)
got_made objects before reply b (got.Stop v) is gives = tt
got_made objects before reply b (got.Raise e) is gives = tt

drive_made : (objects : List Payload) (before : List Event) (reply : Reply) (b : CoroBody) (w : DriveAnswer) → reply ≡ Creates b → GivesDrive objects before reply w → IsMade objects (returned_by w)
drive_made objects before reply b (answer.Returns v) is gives = (b, (subst (λ r. GivesDrive objects before r (answer.Returns v)) is gives).1)
drive_made objects before reply b _ is gives = tt

module _ (plan : Plan) (objects : List Payload) where
  created_by : (p : Past) (reply : Reply) (f : Obj) → p.state.phase ≡ Made f → IsAnswered plan objects p reply → (b : CoroBody) × (reply ≡ Creates b)
  created_by p reply f made (r, open_, is) =
      let (kind, of, same) = subst (λ ph. IsReply plan objects p ph r reply) made is in (_, same)

  generators_keep : (p : Past) (e : Event) → MayCome plan objects p e → AreGenerators objects p.generators → AreGenerators objects (past_after plan p e).generators
  generators_keep p (event.Resume a h) may are = running_are objects a p.generators are
  generators_keep p (event.Got a w) (top, (reply, is, gives)) are =
      answered_are objects (question plan p.state) p.state.phase (length p.state.made) (value_of w) p.generators
      (λ f made. let (b, creates) = created_by p reply f made is in got_made objects p.events reply b w creates gives) are
  generators_keep p (event.Result d w) (next, none, inl (reply, inl is, gives)) are =
      answered_are objects (question plan p.state) p.state.phase (length p.state.made) (returned_by w) p.generators
      (λ f made. let (b, creates) = created_by p reply f made is in drive_made objects p.events reply b w creates gives) are
  generators_keep p (event.Result d w) (next, none, inl (reply, inr (asks, more), gives)) are =
      answered_are objects (question plan p.state) p.state.phase (length p.state.made) (returned_by w) p.generators (λ f made. absurd (cc (sym asks ∙ made))) are
  generators_keep p (event.Result d w) (next, none, inr (asks, more)) are =
      answered_are objects (question plan p.state) p.state.phase (length p.state.made) (returned_by w) p.generators (λ f made. absurd (cc (sym asks ∙ made))) are
  generators_keep p (event.Drive d) may are = are
  generators_keep p (event.Make a f vs) may are = are
  generators_keep p (event.Ask a r own at) may are = are
  generators_keep p (event.Round a at) may are = are
  generators_keep p (event.Yield a v at) may are = are
  generators_keep p (event.End a e at) may are = are

  pub run_generators : (p : Past) (es more : List Event) → Comes plan objects p (es ++ more) → AreGenerators objects p.generators → AreGenerators objects (past_behind plan p es).generators
  run_generators p [] more comes are = are
  run_generators p (e ∷ es) more (may, comes) are = run_generators (past_after plan p e) es more comes (generators_keep p e may are)

-- ---- what drives pose

-- the question of a plain line is a request
pub record IsRequest (objects : List Payload) (events : List Event) (drives : List DriveLine) (n : ℕ) (q : Posed) : Type 0 where
  pub line : DriveLine
  pub is_line : slice_get drives n ≡ Some line
  pub request : Request
  pub is : q ≡ posing request
  pub asks : AsksThis objects events line request

pub request_at : (objects : List Payload) (events : List Event) (drives : List DriveLine) (asked : List Posed) (n : ℕ) (q : Posed)
    → ((i : ℕ) (d : DriveLine) → slice_get drives i ≡ Some d → is_plain d ≡ true) → AreAsked objects events drives asked → slice_get asked n ≡ Some q
    → IsRequest objects events drives n q
request_at objects events drives [] n q plain are at = absurd (cc at)
request_at objects events [] (p ∷ asked) n q plain are at = absurd are
request_at objects events (d ∷ ds) (p ∷ asked) zero q plain (one, are) at = let same = subst (Asks objects events d) (same_Some p q at) one in by q.pose q.entered same.0 same.1
  where
    by : (x : Pose) (k : ℕ) → Poses objects events d x → k ≡ 0 → IsRequest objects events (d ∷ ds) 0 (record { pose = x; entered = k })
    by (Requests r) k asks none = record { line = d; is_line = refl; request = r; is = ap (λ m. record { pose = Requests r; entered = m }) none; asks = asks }
    by (Forms m) k asks none = absurd asks
    by (Reports (told.Report e)) k asks none = absurd (none_reported d events e (plain 0 d refl) asks)
    by (Reports (told.Part e)) k asks none = absurd asks
    by (Reports (told.Exit e)) k asks none = absurd asks
request_at objects events (d ∷ ds) (p ∷ asked) (suc n) q plain (one, are) at =
    let r = request_at objects events ds asked n q (λ i c here. plain (suc i) c here) are at in
    record { line = r.line; is_line = r.is_line; request = r.request; is = r.is; asks = r.asks }

-- ---- the drive that runs

module _ (plan : Plan) (objects : List Payload) (p : Past) where
  -- it asks something
  abbrev pub AsksSome : Type 0
  AsksSome = (q : Posed) × (slice_get plan.asked p.state.done ≡ Some q)

  some_by : {X : Type 0} (f : Option Posed → Option X) (x : X) (o : Option Posed) → f None ≡ None → f o ≡ Some x → slice_get plan.asked p.state.done ≡ o → AsksSome
  some_by f x None none is at = absurd (cc (sym none ∙ is))
  some_by f x (Some q) none is at = (q, at)

  asks_by : (r : Request) → p.state.stack ≡ [] → question plan p.state ≡ Some r → AsksSome
  asks_by r alone open_ =
      some_by requested_by r (slice_get plan.asked p.state.done) refl (sym (ap (open_in (slice_get plan.asked p.state.done)) alone) ∙ open_) refl

  opens_by : (c : Course) → p.state.stack ≡ [] → Opens plan objects p c → AsksSome
  opens_by c alone (asks, (r, open_, comes)) = asks_by r alone open_

  top_none : (a : ℕ) → p.state.stack ≡ [] → IsTop a p.state.stack → ⊥
  top_none a alone top = subst (IsTop a) alone top

  -- where it is open
  pub open_asks : (x : Event) → p.state.phase ≡ Asking → p.state.stack ≡ [] → MayCome plan objects p x → AsksSome
  open_asks (event.Drive d) asks alone (idle, next, low) = absurd (cc (sym asks ∙ idle))
  open_asks (event.Make a f vs) asks alone (next, opens) = opens_by (Enters f vs) alone opens
  open_asks (event.Resume a how.Start) asks alone starts = opens_by (Begins a) alone (subst (λ ph. Starts plan objects p ph a) asks starts)
  open_asks (event.Resume a (how.Send v)) asks alone opens = opens_by (Sends a v) alone opens
  open_asks (event.Resume a (how.Throw e)) asks alone (y, opens, raise) = opens_by (Throws a y) alone opens
  open_asks (event.Got a w) asks alone (top, more) = absurd (top_none a alone top)
  open_asks (event.Result d w) asks alone (next, none, inl (reply, inl (r, open_, said), gives)) = asks_by r alone open_
  open_asks (event.Result d w) asks alone (next, none, inl (reply, inr (ask, (m, forms, made)), gives)) =
      some_by makings_of m (slice_get plan.asked p.state.done) refl forms refl
  open_asks (event.Result d w) asks alone (next, none, inr (ask, (t, reports, text))) = some_by to_report_by t (slice_get plan.asked p.state.done) refl reports refl
  open_asks (event.Ask a r own at) asks alone (going, top) = absurd (top_none a alone top)
  open_asks (event.Round a at) asks alone (going, top) = absurd (top_none a alone top)
  open_asks (event.Yield a v at) asks alone (going, top) = absurd (top_none a alone top)
  open_asks (event.End a e at) asks alone (going, top) = absurd (top_none a alone top)

  -- where none is open, a drive begins
  pub idle_drive : (x : Event) → p.state.phase ≡ Idle → p.state.stack ≡ [] → MayCome plan objects p x → (d : ℕ) × (x ≡ event.Drive d)
  idle_drive (event.Drive d) idle alone may = (d, refl)
  idle_drive (event.Make a f vs) idle alone (next, (asks, more)) = absurd (cc (sym idle ∙ asks))
  idle_drive (event.Resume a how.Start) idle alone starts = absurd (subst (λ ph. Starts plan objects p ph a) idle starts)
  idle_drive (event.Resume a (how.Send v)) idle alone (asks, more) = absurd (cc (sym idle ∙ asks))
  idle_drive (event.Resume a (how.Throw e)) idle alone (y, (asks, more), raise) = absurd (cc (sym idle ∙ asks))
  idle_drive (event.Got a w) idle alone (top, more) = absurd (top_none a alone top)
  idle_drive (event.Result d w) idle alone (next, none, inl (reply, inl (r, open_, said), gives)) = absurd (subst (λ ph. IsReply plan objects p ph r reply) idle said)
  idle_drive (event.Result d w) idle alone (next, none, inl (reply, inr (asks, more), gives)) = absurd (cc (sym idle ∙ asks))
  idle_drive (event.Result d w) idle alone (next, none, inr (asks, more)) = absurd (cc (sym idle ∙ asks))
  idle_drive (event.Ask a r own at) idle alone (going, top) = absurd (top_none a alone top)
  idle_drive (event.Round a at) idle alone (going, top) = absurd (top_none a alone top)
  idle_drive (event.Yield a v at) idle alone (going, top) = absurd (top_none a alone top)
  idle_drive (event.End a e at) idle alone (going, top) = absurd (top_none a alone top)

-- there is an element below the length
pub within_some : {X : Type 0} (xs : List X) (n : ℕ) → n < length xs → (x : X) × (slice_get xs n ≡ Some x)
within_some [] n low = absurd (omega (arith, low))
within_some (x ∷ xs) zero low = (x, refl)
within_some (x ∷ xs) (suc n) low = within_some xs n (omega (arith, low))
