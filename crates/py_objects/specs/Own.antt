-- The own events of an activation: those that carry its number.
use Rattle.std.specs.Prelude.{ℕ, suc, Option, List, [], ◌∷◌, ◌++◌, Bool, eqb, if◌then◌else◌}
use Rattle.py_objects.specs.declared.refs.PyBaseExceptionRef.{PyBaseExceptionRef}
use Rattle.py_objects.specs.declared.request.Request.{Request}
use Rattle.py_objects.specs.declared.event.ResumeHow.{ResumeHow}
use Rattle.py_objects.specs.declared.event.GotAnswer.{GotAnswer}
use Rattle.py_objects.specs.declared.event.Ending.{Ending}
use Rattle.py_objects.specs.declared.event.Event.{Event}
use Rattle.py_objects.specs.declared.event.Event.TheVariants as event
use Rattle.py_objects.specs.Objects.{Obj}

-- an event as its activation sees it: what it tells has the unit that told it, and what it hears has its number among all events,
-- which says how the objects were when it was heard
pub data Own : Type 0 where
  Makes : Own
  Resumes : (event : ℕ) → ResumeHow → Own
  Asks : (at : ℕ) → Request → Option PyBaseExceptionRef → Own
  Gets : (event : ℕ) → GotAnswer → Own
  Rounds : (at : ℕ) → Own
  Yields : (at : ℕ) → Obj → Own
  Ends : (at : ℕ) → Ending → Own

-- the activation whose event it is; activations are numbered from 1, and 0 is none
abbrev pub whose : Event → ℕ
whose (event.Drive d) = 0
whose (event.Result d w) = 0
whose (event.Make a f vs) = a
whose (event.Resume a h) = a
whose (event.Ask a r own at) = a
whose (event.Got a w) = a
whose (event.Round a at) = a
whose (event.Yield a v at) = a
whose (event.End a e at) = a

-- the event with this number as its activation sees it, where it has one
abbrev pub own_of : ℕ → Event → List Own
own_of k (event.Drive d) = []
own_of k (event.Result d w) = []
own_of k (event.Make a f vs) = Makes ∷ []
own_of k (event.Resume a h) = Resumes k h ∷ []
own_of k (event.Ask a r own at) = Asks at r own ∷ []
own_of k (event.Got a w) = Gets k w ∷ []
own_of k (event.Round a at) = Rounds at ∷ []
own_of k (event.Yield a v at) = Yields at v ∷ []
own_of k (event.End a e at) = Ends at e ∷ []

-- these, or none
abbrev pub own_if : Bool → List Own → List Own
own_if b xs = if b then xs else []

-- what the event with this number tells of the activation a
unfoldable pub told_by : ℕ → ℕ → Event → List Own
told_by a k e = own_if (eqb a (whose e)) (own_of k e)

-- the own events of the activation a among these, the first of which has this number
unfoldable pub own_from : ℕ → ℕ → List Event → List Own
own_from a k [] = []
own_from a k (e ∷ es) = told_by a k e ++ own_from a (suc k) es

-- the own events of the activation a, in order, where the events of all are numbered from 0
abbrev pub own_events : ℕ → List Event → List Own
own_events a es = own_from a 0 es
