-- In which mode each generator is (Python Language Reference, 6.2.9): a fold over the events beside the state of the run, which reads no objects. A
-- generator is the object that answered the call by which its activation was made.
use Rattle.std.specs.Prelude.{ℕ, true, false, Option, Some, None, List, [], ◌∷◌, ◌++◌, eqb, length, if◌then◌else◌}
use Rattle.py_objects.specs.declared.request.Request.{Request}
use Rattle.py_objects.specs.declared.request.Request.TheVariants as request
use Rattle.py_objects.specs.declared.event.GotAnswer.{GotAnswer}
use Rattle.py_objects.specs.declared.event.GotAnswer.TheVariants as got
use Rattle.py_objects.specs.declared.event.DriveAnswer.{DriveAnswer}
use Rattle.py_objects.specs.declared.event.DriveAnswer.TheVariants as answer
use Rattle.py_objects.specs.declared.event.Event.{Event}
use Rattle.py_objects.specs.declared.event.Event.TheVariants as event
use Rattle.py_objects.specs.Objects.{Obj}
use Rattle.py_coro.specs.declared.coro.CoroEnd.{CoroEnd}
use Rattle.py_coro.specs.Modes.{Mode, Fresh, Suspended, Running, Closed}
use Rattle.py_coro.specs.Leaving.{mode_behind}
use Rattle.py_run.specs.Run.{Plan, State, Phase, Idle, Asking, Going, Made, Due, question}

-- a generator: its object, the number of its activation, and its mode
pub record Generator : Type 0 where
  pub object : Obj
  pub act : ℕ
  pub mode : Mode

-- the generator that this object is, if it is one
abbrev pub generator_at : List Generator → Obj → Option Generator
generator_at [] g = None
generator_at (x ∷ xs) g = if eqb x.object.number g.number then Some x else generator_at xs g

-- the generator of this activation runs, if it is one's
abbrev pub running_at : ℕ → List Generator → List Generator
running_at a [] = []
running_at a (x ∷ xs) = (if eqb x.act a then record x { mode = Running } else x) ∷ running_at a xs

-- the mode of the generator that this object is becomes what this makes of it
abbrev pub with_mode : Obj → (Mode → Mode) → List Generator → List Generator
with_mode g f [] = []
with_mode g f (x ∷ xs) = if eqb x.object.number g.number then record x { mode = f x.mode } ∷ xs else x ∷ with_mode g f xs

-- what a close without an entry makes of a mode: what was fresh is closed
abbrev pub unentered : Mode → Mode
unentered Fresh = Closed
unentered Suspended = Suspended
unentered Running = Running
unentered Closed = Closed

-- a question is answered without an entry: a close may have closed its generator
abbrev pub closed_by : Option Request → List Generator → List Generator
closed_by (Some (request.Close g)) xs = with_mode g unentered xs
closed_by _ xs = xs

-- a question is answered that entered an activation, which was left like this
abbrev pub settled : Option Request → CoroEnd → List Generator → List Generator
settled (Some (request.Send g v)) how xs = with_mode g (λ m. mode_behind false how) xs
settled (Some (request.Throw g k v t)) how xs = with_mode g (λ m. mode_behind false how) xs
settled (Some (request.Close g)) how xs = with_mode g (λ m. mode_behind true how) xs
settled _ how xs = xs

-- a new generator of the activation that was made last, where an answer has a value
abbrev pub created : ℕ → Option Obj → List Generator → List Generator
created a None xs = xs
created a (Some v) xs = xs ++ record { object = v; act = a; mode = Fresh } ∷ []

-- this question is answered in this phase, by this value, if there is one, where so many activations were made
abbrev pub answered : Option Request → Phase → ℕ → Option Obj → List Generator → List Generator
answered q Idle made v xs = xs
answered q Asking made v xs = closed_by q xs
answered q Going made v xs = xs
answered q (Made f) made v xs = created made v xs
answered q (Due how) made v xs = settled q how xs

-- the value of an answer
abbrev pub value_of : GotAnswer → Option Obj
value_of (got.Value v) = Some v
value_of (got.Stop v) = None
value_of (got.Raise e) = None

-- the value that a drive returns
abbrev pub returned_by : DriveAnswer → Option Obj
returned_by (answer.Returns v) = Some v
returned_by (answer.Yields v) = None
returned_by (answer.Stops v) = None
returned_by answer.Closes = None
returned_by (answer.Raises e) = None
returned_by (answer.Reported text) = None

-- the generators behind an event, where this was the state in front of it
abbrev pub generators_after : Plan → State → List Generator → Event → List Generator
generators_after plan s xs (event.Drive d) = xs
generators_after plan s xs (event.Result d w) = answered (question plan s) s.phase (length s.made) (returned_by w) xs
generators_after plan s xs (event.Make a f vs) = xs
generators_after plan s xs (event.Resume a h) = running_at a xs
generators_after plan s xs (event.Ask a r own at) = xs
generators_after plan s xs (event.Got a w) = answered (question plan s) s.phase (length s.made) (value_of w) xs
generators_after plan s xs (event.Round a at) = xs
generators_after plan s xs (event.Yield a v at) = xs
generators_after plan s xs (event.End a e at) = xs
