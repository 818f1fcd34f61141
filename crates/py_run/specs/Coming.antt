-- A run: a condition on a finished list of events, by the one kind of event that may come next. What an activation may tell
-- is a parameter.
use Rattle.std.specs.Prelude.{ℕ, suc, ◌<◌, Option, Some, None, List, [], ◌∷◌, ◌++◌, ◌≡◌, ◌⊎◌, slice_get, length}
use Rattle.py_objects.specs.declared.payload.Payload.{Payload}
use Rattle.py_objects.specs.declared.payload.Payload.TheVariants as payload
use Rattle.py_objects.specs.declared.payload.CoroKind.{CoroKind}
use Rattle.py_objects.specs.declared.payload.FunctionBody.{FunctionBody}
use Rattle.py_objects.specs.declared.request.Request.{Request}
use Rattle.py_objects.specs.declared.event.DriveAnswer.{DriveAnswer}
use Rattle.py_objects.specs.declared.event.DriveAnswer.TheVariants as answer
use Rattle.py_objects.specs.declared.event.ResumeHow.{ResumeHow}
use Rattle.py_objects.specs.declared.event.ResumeHow.TheVariants as how
use Rattle.py_objects.specs.declared.event.Event.{Event}
use Rattle.py_objects.specs.declared.event.Event.TheVariants as event
use Rattle.py_objects.specs.Objects.{Obj, Name, HasPayload, AreNamed}
use Rattle.py_objects.specs.Own.{Own, own_events}
use Rattle.py_answers.specs.Answers.{Raised, Reply, Creates, IsRaise, GivesBody, GivesDrive}
use Rattle.py_run.specs.Run.{Signature, Plan, Phase, Idle, Asking, Going, Made, Due, State, Activation, start, after, state_after, IsTop, question, forming, reporting, depth, handled_among, GoesOn}
use Rattle.py_run.specs.Generators.{Generator, generators_after}
use Rattle.py_run.specs.declared.drive.Makings.{Makings}
use Rattle.py_run.specs.declared.drive.Told.{Told}
use Rattle.py_run.specs.Normalized.{NormalizesTo}
use Rattle.py_run.specs.Calls.{Course, Says, Enters, Begins, Sends, Throws, Setting, ComesTo, IsDue}

-- the events so far, and what they come to
pub record Past : Type 0 where
  pub events : List Event
  pub state : State
  pub generators : List Generator

-- nothing happened
abbrev pub nothing : Past
nothing = record { events = []; state = start; generators = [] }

-- one event more
abbrev pub past_after : Plan → Past → Event → Past
past_after plan p e = record { events = p.events ++ e ∷ []; state = after p.state e; generators = generators_after plan p.state p.generators e }

-- where a question stands
abbrev pub setting : Plan → Past → Setting
setting plan p = record { signatures = plan.signatures; depth = depth plan p.state; handled = handled_among p.state.stack; generators = p.generators }

module _ (plan : Plan) (objects : List Payload) where
  -- a function whose activations are suspended as this, or never
  pub record IsOfKind (f : Obj) (kind : Option CoroKind) : Type 0 where
    pub body : FunctionBody
    pub entry : HasPayload objects f (payload.Function body)
    pub signature : Signature
    pub signed : slice_get plan.signatures body.code ≡ Some signature
    pub kind_is : signature.kind ≡ kind

  -- the open question comes to this
  abbrev pub Opens : Past → Course → Type 0
  Opens p c = (p.state.phase ≡ Asking) × ((r : Request) × (question plan p.state ≡ Some r) × ComesTo (setting plan p) objects r c)

  -- an activation starts: a function's as soon as it is made, a generator's where a question begins it
  abbrev pub Starts : Past → Phase → (a : ℕ) → Type 0
  Starts p Idle a = ⊥
  Starts p Asking a = Opens p (Begins a)
  Starts p Going a = ⊥
  Starts p (Made f) a = (a ≡ length p.state.made) × IsOfKind f None
  Starts p (Due left) a = ⊥

  -- an activation is entered like this
  abbrev pub IsEntered : Past → ResumeHow → (a : ℕ) → Type 0
  IsEntered p how.Start a = Starts p p.state.phase a
  IsEntered p (how.Send v) a = Opens p (Sends a v)
  IsEntered p (how.Throw e) a = (x : Raised) × Opens p (Throws a x) × IsRaise objects p.events x e

  -- the call of a generator function is answered by a new generator of the activation that was made
  abbrev pub MakesGenerator : (f : Obj) → (a : ℕ) → Reply → Type 0
  MakesGenerator f a reply =
      (kind : CoroKind) × (is : IsOfKind f (Some kind)) × (reply ≡ Creates (record { activation = a; name = is.body.name; kind = kind }))

  -- a question is answered this: at once, where a generator's activation was made, or where the activation that it entered was left
  abbrev pub IsReply : Past → Phase → Request → Reply → Type 0
  IsReply p Idle r reply = ⊥
  IsReply p Asking r reply = ComesTo (setting plan p) objects r (Says reply)
  IsReply p Going r reply = ⊥
  IsReply p (Made f) r reply = MakesGenerator f (length p.state.made) reply
  IsReply p (Due left) r reply = IsDue objects r left reply

  -- the open question is answered this
  abbrev pub IsAnswered : Past → Reply → Type 0
  IsAnswered p reply = (r : Request) × (question plan p.state ≡ Some r) × IsReply p p.state.phase r reply

  -- what the drive has an exception made of comes to this
  abbrev pub IsFormed : Past → Reply → Type 0
  IsFormed p reply = (p.state.phase ≡ Asking) × ((x : Makings) × (forming plan p.state ≡ Some x) × NormalizesTo objects x reply)

  -- the drive has its reply
  abbrev pub IsReplied : Past → DriveAnswer → Type 0
  IsReplied p w = (reply : Reply) × (IsAnswered p reply ⊎ IsFormed p reply) × GivesDrive objects p.events reply w

  -- what the drive has told comes to a text; which one it is, is said of journals (`AreReported`), since it is read in the store of the event
  abbrev pub IsReported : Past → DriveAnswer → Type 0
  IsReported p w =
      (p.state.phase ≡ Asking) × ((t : Told) × (reporting plan p.state ≡ Some t) × ((text : Name) × (w ≡ answer.Reported text)))

  -- this event is of the one kind that may come next
  abbrev pub MayCome : Past → Event → Type 0
  MayCome p (event.Drive d) = (p.state.phase ≡ Idle) × (d ≡ suc p.state.done) × (p.state.done < length plan.asked)
  MayCome p (event.Make a f vs) = (a ≡ suc (length p.state.made)) × Opens p (Enters f vs)
  MayCome p (event.Resume a h) = IsEntered p h a
  MayCome p (event.Ask a r own at) = GoesOn p.state a
  MayCome p (event.Round a at) = GoesOn p.state a
  MayCome p (event.Yield a v at) = GoesOn p.state a
  MayCome p (event.End a e at) = GoesOn p.state a
  MayCome p (event.Got a w) = IsTop a p.state.stack × ((reply : Reply) × IsAnswered p reply × GivesBody objects p.events reply w)
  MayCome p (event.Result d w) = (d ≡ suc p.state.done) × (p.state.stack ≡ []) × (IsReplied p w ⊎ IsReported p w)

  -- each event may come where it stands, behind those before
  abbrev pub Comes : Past → List Event → Type 0
  Comes p [] = Unit {0}
  Comes p (e ∷ es) = MayCome p e × Comes (past_after plan p e) es

-- what an activation of a function with these arguments may tell
abbrev pub May : Type 1
May = Obj → List Obj → List Own → Type 0

-- each activation that was made tells what it may
abbrev pub EachTells : May → List Event → Type 0
EachTells may events = (i : ℕ) (a : Activation) → slice_get (state_after start events).made i ≡ Some a → may a.function a.args (own_events (suc i) events)

-- a prefix of a run, where what activations may tell is given
pub record IsRunBy (may : May) (plan : Plan) (objects : List Payload) (events : List Event) : Type 0 where
  pub comes : Comes plan objects nothing events
  pub tells : EachTells may events
  pub named : AreNamed objects events

-- so many drives have their result, and nothing runs
pub record IsDone (drives : ℕ) (events : List Event) : Type 0 where
  pub done : (state_after start events).done ≡ drives
  pub idle : (state_after start events).phase ≡ Idle
