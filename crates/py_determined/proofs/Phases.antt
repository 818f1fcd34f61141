-- What may come in each phase of a run.
use Rattle.std.proofs.Common.{◌≡◌, ℕ, suc, ◌⊎◌, inl, inr, List, [], length, Some, None, refl, sym, ap, subst, ◌∙◌}
use Rattle.std.proofs.lemmas.Option.{same_Some}
use Rattle.py_objects.specs.declared.payload.Payload.{Payload}
use Rattle.py_objects.specs.declared.payload.Payload.TheVariants as payload
use Rattle.py_objects.specs.declared.payload.CoroBody.{CoroBody}
use Rattle.py_objects.specs.declared.refs.PyBaseExceptionRef.{PyBaseExceptionRef}
use Rattle.py_objects.specs.declared.request.Request.{Request}
use Rattle.py_objects.specs.declared.event.GotAnswer.{GotAnswer}
use Rattle.py_objects.specs.declared.event.GotAnswer.TheVariants as got
use Rattle.py_objects.specs.declared.event.DriveAnswer.{DriveAnswer}
use Rattle.py_objects.specs.declared.event.DriveAnswer.TheVariants as answer
use Rattle.py_objects.specs.declared.event.ResumeHow.TheVariants as how
use Rattle.py_objects.specs.declared.event.Event.{Event}
use Rattle.py_objects.specs.declared.event.Event.TheVariants as event
use Rattle.py_objects.specs.Objects.{Obj}
use Rattle.py_objects.specs.Own.{whose}
use Rattle.py_coro.specs.declared.coro.CoroEnd.{CoroEnd}
use Rattle.py_answers.specs.Answers.{Reply, Creates, IsRaise, GivesValue, GivesBody, GivesDrive}
use Rattle.py_run.specs.Run.{Plan, Phase, Idle, Asking, Going, Made, Due, IsTop, question, forming, reporting}
use Rattle.py_run.specs.Generators.{value_of, returned_by, generators_after}
use Rattle.py_run.specs.Calls.{Course, Says, Enters, Begins, Sends, Throws, ComesTo, IsDue}
use Rattle.py_run.specs.Coming.{Past, setting, IsOfKind, MakesGenerator, IsReply, IsAnswered, MayCome}
use Rattle.py_determined.proofs.GeneratorsAgree.{IsPlain, ArePlain, running_plain, answered_plain}

-- a past in this phase
abbrev pub at_phase : Past → Phase → Past
at_phase p x = record p { state = record p.state { phase = x } }

module _ (plan : Plan) (objects : List Payload) where
  -- an event answers the open question like this
  abbrev pub IsAnswer : Past → Reply → Event → Type 0
  IsAnswer p reply (event.Got a w) = IsTop a p.state.stack × GivesBody objects p.events reply w
  IsAnswer p reply (event.Result d w) = (d ≡ suc p.state.done) × (p.state.stack ≡ []) × GivesDrive objects p.events reply w
  IsAnswer p reply _ = ⊥

  -- an event is what this course comes to
  abbrev pub IsCourse : Past → Course → Event → Type 0
  IsCourse p (Says reply) e = IsAnswer p reply e
  IsCourse p (Enters f vs) e = e ≡ event.Make (suc (length p.state.made)) f vs
  IsCourse p (Begins a) e = e ≡ event.Resume a how.Start
  IsCourse p (Sends a v) e = e ≡ event.Resume a (how.Send v)
  IsCourse p (Throws a x) e = (f : PyBaseExceptionRef) × (e ≡ event.Resume a (how.Throw f)) × IsRaise objects p.events x f

  -- the innermost activation tells an event
  abbrev pub IsTold : Past → Event → Type 0
  IsTold p (event.Ask a r own at) = IsTop a p.state.stack
  IsTold p (event.Round a at) = IsTop a p.state.stack
  IsTold p (event.Yield a v at) = IsTop a p.state.stack
  IsTold p (event.End a e at) = IsTop a p.state.stack
  IsTold p _ = ⊥

  -- an event that is told is the innermost activation's
  pub told_top : (p : Past) (e : Event) → IsTold p e → IsTop (whose e) p.state.stack
  told_top p (event.Ask a r own at) told = told
  told_top p (event.Round a at) told = told
  told_top p (event.Yield a v at) told = told
  told_top p (event.End a e at) told = told
  told_top p _ told = absurd told

  -- where nothing is open a drive comes
  pub idle_next : (p : Past) (e : Event) → MayCome plan objects (at_phase p Idle) e → (d : ℕ) × (e ≡ event.Drive d) × (d ≡ suc p.state.done)
  idle_next p (event.Drive d) (idle, next, more) = (d, refl, next)
  idle_next p (event.Result d w) (next, alone, inl (reply, inl (r, open_, is), gives)) = absurd is
  idle_next p (event.Result d w) (next, alone, inl (reply, inr (asks, formed), gives)) = absurd (cc asks)
  idle_next p (event.Result d w) (next, alone, inr (asks, reported)) = absurd (cc asks)
  idle_next p (event.Make a f vs) (next, (asks, opens)) = absurd (cc asks)
  idle_next p (event.Resume a how.Start) starts = absurd starts
  idle_next p (event.Resume a (how.Send v)) (asks, opens) = absurd (cc asks)
  idle_next p (event.Resume a (how.Throw e)) (x, (asks, opens), raise) = absurd (cc asks)
  idle_next p (event.Ask a r own at) (goes, top) = absurd (cc goes)
  idle_next p (event.Got a w) (top, (reply, (r, open_, is), gives)) = absurd is
  idle_next p (event.Round a at) (goes, top) = absurd (cc goes)
  idle_next p (event.Yield a v at) (goes, top) = absurd (cc goes)
  idle_next p (event.End a e at) (goes, top) = absurd (cc goes)

  -- the drive that runs requests something: it has no exception made of anything, and none reported
  abbrev pub Requesting : Past → Type 0
  Requesting p = (forming plan p.state ≡ None) × (reporting plan p.state ≡ None)

  -- where a question is open, what it comes to
  pub asking_next : (p : Past) (e : Event) → Requesting p → MayCome plan objects (at_phase p Asking) e
      → (r : Request) × (c : Course) × (question plan p.state ≡ Some r) × ComesTo (setting plan p) objects r c × IsCourse p c e
  asking_next p (event.Drive d) none (idle, next, more) = absurd (cc idle)
  asking_next p (event.Result d w) none (next, alone, inl (reply, inl (r, open_, is), gives)) = (r, Says reply, open_, is, (next, alone, gives))
  asking_next p (event.Result d w) none (next, alone, inl (reply, inr (asks, (x, forms, is)), gives)) = absurd (let clash : None ≡ Some x = sym none.0 ∙ forms in cc clash)
  asking_next p (event.Result d w) none (next, alone, inr (asks, (e, reports, is))) = absurd (let clash : None ≡ Some e = sym none.1 ∙ reports in cc clash)
  asking_next p (event.Make a f vs) none (next, (asks, (r, open_, comes))) = (r, Enters f vs, open_, comes, ap (λ n. event.Make n f vs) next)
  asking_next p (event.Resume a how.Start) none (asks, (r, open_, comes)) = (r, Begins a, open_, comes, refl)
  asking_next p (event.Resume a (how.Send v)) none (asks, (r, open_, comes)) = (r, Sends a v, open_, comes, refl)
  asking_next p (event.Resume a (how.Throw e)) none (x, (asks, (r, open_, comes)), raise) = (r, Throws a x, open_, comes, (e, refl, raise))
  asking_next p (event.Ask a r own at) none (goes, top) = absurd (cc goes)
  asking_next p (event.Got a w) none (top, (reply, (r, open_, is), gives)) = (r, Says reply, open_, is, (top, gives))
  asking_next p (event.Round a at) none (goes, top) = absurd (cc goes)
  asking_next p (event.Yield a v at) none (goes, top) = absurd (cc goes)
  asking_next p (event.End a e at) none (goes, top) = absurd (cc goes)

  -- where an activation goes on, what it tells
  pub going_next : (p : Past) (e : Event) → MayCome plan objects (at_phase p Going) e → IsTold p e
  going_next p (event.Drive d) (idle, next, more) = absurd (cc idle)
  going_next p (event.Result d w) (next, alone, inl (reply, inl (r, open_, is), gives)) = absurd is
  going_next p (event.Result d w) (next, alone, inl (reply, inr (asks, formed), gives)) = absurd (cc asks)
  going_next p (event.Result d w) (next, alone, inr (asks, reported)) = absurd (cc asks)
  going_next p (event.Make a f vs) (next, (asks, opens)) = absurd (cc asks)
  going_next p (event.Resume a how.Start) starts = absurd starts
  going_next p (event.Resume a (how.Send v)) (asks, opens) = absurd (cc asks)
  going_next p (event.Resume a (how.Throw e)) (x, (asks, opens), raise) = absurd (cc asks)
  going_next p (event.Ask a r own at) (goes, top) = top
  going_next p (event.Got a w) (top, (reply, (r, open_, is), gives)) = absurd is
  going_next p (event.Round a at) (goes, top) = top
  going_next p (event.Yield a v at) (goes, top) = top
  going_next p (event.End a e at) (goes, top) = top

  -- where an activation was made, its start, or the answer by its generator
  pub made_next : (p : Past) (f : Obj) (e : Event) → MayCome plan objects (at_phase p (Made f)) e
      → ((e ≡ event.Resume (length p.state.made) how.Start) × IsOfKind plan objects f None)
      ⊎ ((reply : Reply) × MakesGenerator plan objects f (length p.state.made) reply × IsAnswer p reply e)
  made_next p f (event.Drive d) (idle, next, more) = absurd (cc idle)
  made_next p f (event.Result d w) (next, alone, inl (reply, inl (r, open_, is), gives)) = inr (reply, is, (next, alone, gives))
  made_next p f (event.Result d w) (next, alone, inl (reply, inr (asks, formed), gives)) = absurd (cc asks)
  made_next p f (event.Result d w) (next, alone, inr (asks, reported)) = absurd (cc asks)
  made_next p f (event.Make a g vs) (next, (asks, opens)) = absurd (cc asks)
  made_next p f (event.Resume a how.Start) (last, kind) = inl (ap (λ n. event.Resume n how.Start) last, kind)
  made_next p f (event.Resume a (how.Send v)) (asks, opens) = absurd (cc asks)
  made_next p f (event.Resume a (how.Throw e)) (x, (asks, opens), raise) = absurd (cc asks)
  made_next p f (event.Ask a r own at) (goes, top) = absurd (cc goes)
  made_next p f (event.Got a w) (top, (reply, (r, open_, is), gives)) = inr (reply, is, (top, gives))
  made_next p f (event.Round a at) (goes, top) = absurd (cc goes)
  made_next p f (event.Yield a v at) (goes, top) = absurd (cc goes)
  made_next p f (event.End a e at) (goes, top) = absurd (cc goes)

  -- where one was left, the answer that is due
  pub due_next : (p : Past) (left : CoroEnd) (e : Event) → MayCome plan objects (at_phase p (Due left)) e
      → (r : Request) × (reply : Reply) × (question plan p.state ≡ Some r) × IsDue objects r left reply × IsAnswer p reply e
  due_next p left (event.Drive d) (idle, next, more) = absurd (cc idle)
  due_next p left (event.Result d w) (next, alone, inl (reply, inl (r, open_, is), gives)) = (r, reply, open_, is, (next, alone, gives))
  due_next p left (event.Result d w) (next, alone, inl (reply, inr (asks, formed), gives)) = absurd (cc asks)
  due_next p left (event.Result d w) (next, alone, inr (asks, reported)) = absurd (cc asks)
  due_next p left (event.Make a g vs) (next, (asks, opens)) = absurd (cc asks)
  due_next p left (event.Resume a how.Start) starts = absurd starts
  due_next p left (event.Resume a (how.Send v)) (asks, opens) = absurd (cc asks)
  due_next p left (event.Resume a (how.Throw e)) (x, (asks, opens), raise) = absurd (cc asks)
  due_next p left (event.Ask a r own at) (goes, top) = absurd (cc goes)
  due_next p left (event.Got a w) (top, (reply, (r, open_, is), gives)) = (r, reply, open_, is, (top, gives))
  due_next p left (event.Round a at) (goes, top) = absurd (cc goes)
  due_next p left (event.Yield a v at) (goes, top) = absurd (cc goes)
  due_next p left (event.End a e at) (goes, top) = absurd (cc goes)

  -- ---- no literal stands for generators

  -- where an activation was made, the reply that comes is its generator
  created_reply : (p : Past) (reply : Reply) (f : Obj) → p.state.phase ≡ Made f → IsAnswered plan objects p reply → (b : CoroBody) × (reply ≡ Creates b)
  created_reply p reply f made (r, open_, is) = let (kind, of_kind, same) = subst (λ x. IsReply plan objects p x r reply) made is in (_, same)

  -- no literal stands for a generator that is created
  new_plain : (p : Past) (reply : Reply) (b : CoroBody) (v : Obj) → reply ≡ Creates b → GivesValue objects p.events reply v → IsPlain objects v
  new_plain p reply b v is gives = let (new, has) = subst (λ x. GivesValue objects p.events x v) is gives in (payload.Generator b, has, refl)

  -- nor for what a body gets of it
  got_plain : (p : Past) (reply : Reply) (b : CoroBody) (w : GotAnswer) (v : Obj) → reply ≡ Creates b → GivesBody objects p.events reply w → value_of w ≡ Some v → IsPlain objects v
  got_plain p reply b (got.Value x) v is gives there =
      let (new, has) = subst (λ y. GivesBody objects p.events y (got.Value x)) is gives in subst (λ (z : Obj). IsPlain objects z) (same_Some x v there) (payload.Generator b, has, refl)
  got_plain p reply b (got.Stop x) v is gives there = absurd (cc there)
  got_plain p reply b (got.Raise e) v is gives there = absurd (cc there)

  -- nor for what a drive returns of it
  drive_plain : (p : Past) (reply : Reply) (b : CoroBody) (w : DriveAnswer) (v : Obj) → reply ≡ Creates b → GivesDrive objects p.events reply w → returned_by w ≡ Some v → IsPlain objects v
  drive_plain p reply b (answer.Returns x) v is gives there = subst (λ (z : Obj). IsPlain objects z) (same_Some x v there) (new_plain p reply b x is gives)
  drive_plain p reply b _ v is gives there = absurd (cc there)

  -- so none stands for the generators behind an event
  pub plain_next : (p : Past) (e : Event) → MayCome plan objects p e → ArePlain objects p.generators → ArePlain objects (generators_after plan p.state p.generators e)
  plain_next p (event.Drive d) may plain = plain
  plain_next p (event.Result d w) (next, alone, inl (reply, inr (asks, formed), gives)) plain =
      answered_plain objects (question plan p.state) p.state.phase (length p.state.made) (returned_by w) p.generators (λ f v made there. absurd (let clash = sym asks ∙ made in cc clash)) plain
  plain_next p (event.Result d w) (next, alone, inr (asks, reported)) plain =
      answered_plain objects (question plan p.state) p.state.phase (length p.state.made) (returned_by w) p.generators (λ f v made there. absurd (let clash = sym asks ∙ made in cc clash)) plain
  plain_next p (event.Result d w) (next, alone, inl (reply, inl is, gives)) plain =
      answered_plain objects (question plan p.state) p.state.phase (length p.state.made) (returned_by w) p.generators
      (λ f v made there. let (b, same) = created_reply p reply f made is in drive_plain p reply b w v same gives there) plain
  plain_next p (event.Make a f vs) may plain = plain
  plain_next p (event.Resume a h) may plain = running_plain objects a p.generators plain
  plain_next p (event.Ask a r own at) may plain = plain
  plain_next p (event.Got a w) (top, (reply, is, gives)) plain =
      answered_plain objects (question plan p.state) p.state.phase (length p.state.made) (value_of w) p.generators
      (λ f v made there. let (b, same) = created_reply p reply f made is in got_plain p reply b w v same gives there) plain
  plain_next p (event.Round a at) may plain = plain
  plain_next p (event.Yield a v at) may plain = plain
  plain_next p (event.End a e at) may plain = plain
