-- What holds of all events that may come one after another, whatever activations tell.
use Rattle.std.specs.Prelude.{ℕ, suc, Option, Some, None, List, [], ◌∷◌, ◌++◌, ◌≡◌, ◌⊎◌, slice_get}
use Rattle.std.specs.List.{Any}
use Rattle.py_objects.specs.declared.payload.Payload.{Payload}
use Rattle.py_objects.specs.declared.payload.Payload.TheVariants as payload
use Rattle.py_objects.specs.declared.payload.CoroBody.{CoroBody}
use Rattle.py_objects.specs.declared.request.Request.TheVariants as request
use Rattle.py_objects.specs.declared.event.DriveAnswer.{DriveAnswer}
use Rattle.py_objects.specs.declared.event.Ending.{Ending}
use Rattle.py_objects.specs.declared.event.GotAnswer.{GotAnswer}
use Rattle.py_objects.specs.declared.event.ResumeHow.{ResumeHow}
use Rattle.py_objects.specs.declared.event.Event.{Event}
use Rattle.py_objects.specs.declared.event.Event.TheVariants as event
use Rattle.py_objects.specs.Objects.{Obj, HasPayload}
use Rattle.py_objects.specs.Own.{Own, Makes, Yields, Ends, own_events}
use Rattle.py_objects.specs.Growth.{GrowsPlainly}
use Rattle.py_exceptions.specs.Normalizing.{Normalizes}
use Rattle.py_exceptions.specs.declared.ctor.Instantiate.{Instantiate}
use Rattle.py_exceptions.specs.declared.ctor.Instantiate.TheVariants as comes
use Rattle.py_coro.specs.Modes.{Fresh, Closed}
use Rattle.py_answers.specs.Answers.{This, Called, Passes, Stops, Closes}
use Rattle.py_run.specs.Run.{Posed, Plan, Asking, Act, Activation, State, start, state_after, question, depth, handled_among}
use Rattle.py_run.specs.Generators.{Generator, generator_at, generators_after}
use Rattle.py_run.specs.Calls.{Course, Says, Setting, kept_or_closed, ComesTo, failing}
use Rattle.py_run.specs.Coming.{nothing, MayCome, Comes}
use Rattle.py_run.specs.Past.{past_behind}

-- the past behind some events has these, and the state behind them
abbrev pub PastIsOfEvents : Type 0
PastIsOfEvents = (plan : Plan) (events : List Event) → ((past_behind plan nothing events).events ≡ events) × ((past_behind plan nothing events).state ≡ state_after start events)

-- events that may come still may among more objects, none of which is a declaration
abbrev pub RunsGrow : Type 0
RunsGrow = (plan : Plan) (objects objects' : List Payload) (events : List Event) → GrowsPlainly objects objects' → Comes plan objects nothing events → Comes plan objects' nothing events

-- and with more drives
abbrev pub RunsTakeMore : Type 0
RunsTakeMore =
    (plan : Plan) (more : List Posed) (objects : List Payload) (events : List Event) → Comes plan objects nothing events → Comes (record plan { asked = plan.asked ++ more }) objects nothing events

-- so may they with one more behind them that may come next
abbrev pub RunsGoOn : Type 0
RunsGoOn = (plan : Plan) (objects : List Payload) (events : List Event) (e : Event) → Comes plan objects nothing events → MayCome plan objects (past_behind plan nothing events) e
    → Comes plan objects nothing (events ++ e ∷ [])

-- and so may each front of them
abbrev pub RunsHaveFronts : Type 0
RunsHaveFronts = (plan : Plan) (objects : List Payload) (front more : List Event) → Comes plan objects nothing (front ++ more) → Comes plan objects nothing front

-- an event leaves the activation of this number: it yields, or it ends
abbrev pub Leaves : ℕ → Event → Type 0
Leaves a (event.Yield b v at) = b ≡ a
Leaves a (event.End b e at) = b ≡ a
Leaves a _ = ⊥

-- none of these events leaves it
abbrev pub NoneLeaves : ℕ → List Event → Type 0
NoneLeaves a [] = Unit {0}
NoneLeaves a (e ∷ es) = (Leaves a e → ⊥) × NoneLeaves a es

-- a run is where it was: as many drives have their result, the same activations run, each with what it asked, the same question is open, at the
-- same depth, and the same exception is handled
pub record IsBack (plan : Plan) (old new : State) : Type 0 where
  pub same_done : new.done ≡ old.done
  pub same_stack : new.stack ≡ old.stack
  pub same_question : question plan new ≡ question plan old
  pub same_depth : depth plan new ≡ depth plan old
  pub same_handled : handled_among new.stack ≡ handled_among old.stack

-- where an activation is left that was entered, the run is where it was before the entry
abbrev pub ActivationsNest : Type 0
ActivationsNest =
    (plan : Plan) (objects : List Payload) (front inside : List Event) (a : ℕ) (h : ResumeHow) (last : Event)
    → Comes plan objects nothing (front ++ event.Resume a h ∷ (inside ++ last ∷ [])) → NoneLeaves a inside → Leaves a last
    → IsBack plan (state_after start front) (state_after start (front ++ event.Resume a h ∷ (inside ++ last ∷ [])))

-- what an activation told is only its making, or ends by a yield, or by its end
abbrev pub IsLeftOff : List Own → Type 0
IsLeftOff own =
    (own ≡ Makes ∷ [])
    ⊎ ((told : List Own) × (at : ℕ) × (v : Obj) × (own ≡ told ++ Yields at v ∷ []))
    ⊎ ((told : List Own) × (at : ℕ) × (e : Ending) × (own ≡ told ++ Ends at e ∷ []))

-- what an activation told is cut inside only where it still runs
abbrev pub CutWhereItRuns : Type 0
CutWhereItRuns =
    (plan : Plan) (objects : List Payload) (events : List Event) (i : ℕ) (a : Activation)
    → Comes plan objects nothing events → slice_get (state_after start events).made i ≡ Some a
    → IsLeftOff (own_events (suc i) events) ⊎ Any (λ (act : Act). act.number ≡ suc i) (state_after start events).stack

-- a generator that is closed: one that was, or one that no call of the run made
pub record IsClosed (at : Setting) (objects : List Payload) (g : Obj) : Type 0 where
  pub body : CoroBody
  pub entry : HasPayload objects g (payload.Generator body)
  pub closed : (kept_or_closed g (generator_at at.generators g)).mode ≡ Closed

-- it answers each send by a stop without a value
abbrev pub ClosedStops : Type 0
ClosedStops = (at : Setting) (objects : List Payload) (g v : Obj) (c : Course) → IsClosed at objects g → ComesTo at objects (request.Send g v) c → c ≡ Says (Stops None)

-- the raise of what a throw normalises to, or its refusal
abbrev pub raised_by : Instantiate → Option Course
raised_by (comes.Done e) = Some (Says (Passes (This e)))
raised_by (comes.Make class args) = Some (Says (Passes (Called class args)))
raised_by (comes.Fault f) = Some (failing f)
raised_by comes.NoMemory = None

-- each throw by the exception that it normalises to
abbrev pub ClosedRaises : Type 0
ClosedRaises =
    (at : Setting) (objects : List Payload) (g k : Obj) (v : Option Obj) (c : Course) → IsClosed at objects g → ComesTo at objects (request.Throw g k v None) c
    → (outcome : Instantiate) × Normalizes objects k v outcome × (raised_by outcome ≡ Some c)

-- and each close by nothing more
abbrev pub ClosedCloses : Type 0
ClosedCloses = (at : Setting) (objects : List Payload) (g : Obj) (c : Course) → IsClosed at objects g → ComesTo at objects (request.Close g) c → c ≡ Says Closes

-- the open question is a close of a generator that wasn't entered yet
pub record ClosesFresh (plan : Plan) (s : State) (xs : List Generator) : Type 0 where
  pub object : Obj
  pub asked : question plan s ≡ Some (request.Close object)
  pub generator : Generator
  pub there : generator_at xs object ≡ Some generator
  pub fresh : generator.mode ≡ Fresh

-- an answer at once, without an entry, to a body or to a drive, leaves all generators as they are, but for one to such a close
abbrev pub AnswersKeepGenerators : Type 0
AnswersKeepGenerators =
    (plan : Plan) (s : State) (xs : List Generator) → s.phase ≡ Asking → (ClosesFresh plan s xs → ⊥)
    → ((a : ℕ) (w : GotAnswer) → generators_after plan s xs (event.Got a w) ≡ xs) × ((d : ℕ) (w : DriveAnswer) → generators_after plan s xs (event.Result d w) ≡ xs)
