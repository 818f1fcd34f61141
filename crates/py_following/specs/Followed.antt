-- What is known of a run behind some of its events, to somebody who has the script and the objects alone, and which event may come next.
use Rattle.std.specs.Prelude.{ℕ, zero, suc, ◌==◌, Option, Some, None, List, [], ◌∷◌, ◌++◌, ◌≡◌, if◌then◌else◌, length, option_map, slice_get, slice_set}
use Rattle.std.specs.Option.{option_or}
use Rattle.py_objects.specs.declared.payload.Payload.{Payload}
use Rattle.py_objects.specs.declared.payload.Payload.TheVariants as payload
use Rattle.py_objects.specs.declared.request.Request.{Request}
use Rattle.py_objects.specs.declared.request.Request.TheVariants as request
use Rattle.py_objects.specs.declared.event.DriveAnswer.{DriveAnswer}
use Rattle.py_objects.specs.declared.event.Event.{Event}
use Rattle.py_objects.specs.declared.event.Event.TheVariants as event
use Rattle.py_objects.specs.Objects.{Obj, AllBelow, event_numbers}
use Rattle.py_objects.specs.Own.{Own, Resumes, Asks, Gets, Rounds, Yields, Ends}
use Rattle.py_objects.specs.Originals.{IsDict}
use Rattle.py_lines.specs.declared.drive.DriveLine.{DriveLine}
use Rattle.py_grammar.specs.Grammar.{Coded, OfBody, OfRaw}
use Rattle.py_run.specs.Run.{Posed}
use Rattle.py_run.specs.Coming.{Past, nothing, past_after, MayCome}
use Rattle.py_determined.specs.Raises.{Raise, raises_after, Tells}
use Rattle.py_meaning.specs.Whole.{plan_of}
use Rattle.py_places.specs.Place.{Place}
use Rattle.py_places.specs.Stepping.{step}
use Rattle.py_places.specs.Checking.{made}
use Rattle.py_following.specs.Drives.{posed_by, shown_by}

-- what is known
pub record Followed : Type 0 where
  pub past : Past  -- the events so far, and what they come to
  pub answers : List DriveAnswer  -- of the drives that have their result, in order
  pub asked : List Posed  -- what the drives ask: of the one that runs it is known once an event is behind it
  pub raises : List Raise  -- with the tracebacks that exits were told
  pub globals : Option Obj  -- where a name was looked up
  pub places : List Place  -- of the activations that were made, in order

-- before any event
abbrev pub unbegun : Followed
unbegun = record { past = nothing; answers = []; asked = []; raises = []; globals = None; places = [] }

-- the answer of a drive goes behind the others
abbrev pub answers_after : List DriveAnswer → Event → List DriveAnswer
answers_after answers (event.Result d w) = answers ++ w ∷ []
answers_after answers _ = answers

-- what the drives ask behind an event: a drive that begins with it is left open
abbrev pub asked_after : List Posed → List Posed → Event → List Posed
asked_after before now (event.Drive d) = before
asked_after before now _ = now

-- the dict that a question looks names up in, if it looks one up
abbrev pub looked_up : Request → Option Obj
looked_up (request.Global d x) = Some d
looked_up _ = None

abbrev pub looked_up_by : Event → Option Obj
looked_up_by (event.Ask a r own at) = looked_up r
looked_up_by _ = None

-- the dict of the globals by now
abbrev pub globals_after : Option Obj → Event → Option Obj
globals_after known e = option_or known (looked_up_by e)

-- any object
abbrev pub some_object : Option Obj → Obj
some_object None = record { number = 0 }
some_object (Some v) = v

module _ (coded : List Coded) (objects : List Payload) where
  -- ---- places

  -- the place of an activation of a code with these arguments
  abbrev pub made_of : Option Coded → List Obj → Option Place
  made_of None vs = None
  made_of (Some (OfBody t)) vs = made t vs
  made_of (Some (OfRaw b)) vs = None

  -- of what has this payload, if it has one
  abbrev pub made_by : Option Payload → List Obj → Option Place
  made_by (Some (payload.Function b)) vs = made_of (slice_get coded b.code) vs
  made_by _ vs = None

  abbrev pub with_made : List Place → Option Place → Option (List Place)
  with_made places None = None
  with_made places (Some p) = Some (places ++ p ∷ [])

  -- the place of a number is this by now
  abbrev pub with_place : List Place → ℕ → Option Place → Option (List Place)
  with_place places i None = None
  with_place places i (Some p) = Some (slice_set places i p)

  abbrev pub stepped : (globals : Obj) → Option Place → Own → Option Place
  stepped globals None own = None
  stepped globals (Some p) own = step objects globals p own

  -- the activation of a number tells or hears this
  abbrev pub placed : (globals : Obj) → List Place → ℕ → Own → Option (List Place)
  placed globals places zero own = None
  placed globals places (suc i) own = with_place places i (stepped globals (slice_get places i) own)

  -- the places behind the event of a number
  abbrev pub places_after : (globals : Obj) → List Place → (number : ℕ) → Event → Option (List Place)
  places_after globals places k (event.Drive d) = Some places
  places_after globals places k (event.Result d w) = Some places
  places_after globals places k (event.Make a f vs) = with_made places (made_by (slice_get objects f.number) vs)
  places_after globals places k (event.Resume a h) = placed globals places a (Resumes k h)
  places_after globals places k (event.Ask a r own at) = placed globals places a (Asks at r own)
  places_after globals places k (event.Got a w) = placed globals places a (Gets k w)
  places_after globals places k (event.Round a at) = placed globals places a (Rounds at)
  places_after globals places k (event.Yield a v at) = placed globals places a (Yields at v)
  places_after globals places k (event.End a e at) = placed globals places a (Ends at e)

  -- ---- the next event

  -- a question tells what it may
  abbrev pub TellsNext : Followed → Event → Type 0
  TellsNext f (event.Ask a r own at) = Tells objects f.past.events f.raises r
  TellsNext f _ = Unit {0}

  -- what is looked up is looked up in the dict of the globals
  abbrev pub LooksUp : (known looked : Option Obj) → Type 0
  LooksUp known None = Unit {0}
  LooksUp None (Some d) = IsDict objects d
  LooksUp (Some globals) (Some d) = d ≡ globals

  -- what the drives ask, where this is the next event
  abbrev pub asked_by : Option DriveLine → Followed → Event → Option (List Posed)
  asked_by line f e =
      if length f.asked == f.past.state.done then option_map (λ q. f.asked ++ q ∷ []) (posed_by objects f.answers line (shown_by objects f.answers e)) else Some f.asked

  -- an event may come next
  pub record Passes (drives : List DriveLine) (f : Followed) (e : Event) : Type 0 where
    pub named : AllBelow (length objects) (event_numbers e)
    pub asked : List Posed
    pub is_asked : asked_by (slice_get drives f.past.state.done) f e ≡ Some asked
    pub may : MayCome (plan_of coded asked) objects f.past e
    pub tells : TellsNext f e
    pub looks_up : LooksUp f.globals (looked_up_by e)
    pub places : List Place
    pub are_placed : places_after (some_object (globals_after f.globals e)) f.places (length f.past.events) e ≡ Some places

  -- what is known behind it, where the drives ask this and these are the places
  abbrev pub followed_by : Followed → Event → List Posed → List Place → Followed
  followed_by f e asked places =
      record {
        past = past_after (plan_of coded asked) f.past e;
        answers = answers_after f.answers e;
        asked = asked_after f.asked asked e;
        raises = raises_after f.past.state f.raises e;
        globals = globals_after f.globals e;
        places = places;
      }

  -- these events may come one after another, and this is known behind them
  abbrev pub FollowsTo : List DriveLine → Followed → List Event → Followed → Type 0
  FollowsTo drives f [] g = f ≡ g
  FollowsTo drives f (e ∷ es) g = (p : Passes drives f e) × FollowsTo drives (followed_by f e p.asked p.places) es g
