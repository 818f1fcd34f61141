-- What holds of the numbers of own events.
use Rattle.std.specs.Prelude.{ℕ, List, [], ◌∷◌, Option, Some, slice_get, ◌≡◌}
use Rattle.py_objects.specs.declared.refs.PyBaseExceptionRef.{PyBaseExceptionRef}
use Rattle.py_objects.specs.declared.request.Request.{Request}
use Rattle.py_objects.specs.declared.event.ResumeHow.{ResumeHow}
use Rattle.py_objects.specs.declared.event.ResumeHow.TheVariants as how
use Rattle.py_objects.specs.declared.event.GotAnswer.{GotAnswer}
use Rattle.py_objects.specs.declared.event.GotAnswer.TheVariants as got
use Rattle.py_objects.specs.declared.event.Event.{Event}
use Rattle.py_objects.specs.declared.event.Event.TheVariants as event
use Rattle.py_objects.specs.Objects.{Obj}
use Rattle.py_objects.specs.Own.{Own, Asks, Gets, Makes, Resumes, own_events}
use Rattle.py_objects.specs.Telling.{Answered, Given}

-- an answer that an activation hears has the number of its event among all events, which are counted from 0
abbrev pub AnswersAreNumbered : Type 0
AnswersAreNumbered = (a : ℕ) (es : List Event) (at k : ℕ) (w : GotAnswer)
    → slice_get (own_events a es) at ≡ Some (Gets k w) → slice_get es k ≡ Some (event.Got a w)

-- so has what it is resumed with
abbrev pub ResumptionsAreNumbered : Type 0
ResumptionsAreNumbered = (a : ℕ) (es : List Event) (at k : ℕ) (h : ResumeHow)
    → slice_get (own_events a es) at ≡ Some (Resumes k h) → slice_get es k ≡ Some (event.Resume a h)

-- activation 1 is driven, and asks; to answer, activation 2 of the same function is made and resumed
abbrev pub asking_events : Obj → Request → Option PyBaseExceptionRef → GotAnswer → List Event
asking_events f r h w =
    event.Drive 1 ∷ event.Make 1 f [] ∷ event.Resume 1 how.Start ∷ event.Ask 1 r h 4 ∷ event.Make 2 f [] ∷ event.Resume 2 how.Start ∷ event.Got 1 w ∷ []

-- of these events four are of activation 1, and the second and the fourth have the numbers 2 and 6
abbrev pub AskingIsNumbered : Type 0
AskingIsNumbered = (f : Obj) (r : Request) (h : Option PyBaseExceptionRef) (w : GotAnswer)
    → own_events 1 (asking_events f r h w) ≡ Makes ∷ Resumes 2 how.Start ∷ Asks 4 r h ∷ Gets 6 w ∷ []

-- what hears an answer goes on with the answer's value, the number of its event and the events behind it
abbrev pub AnswerIsHeard : Type 0
AnswerIsHeard = (k i : ℕ) (v : Obj) (ts : List Own) → Answered k (Gets i (got.Value v) ∷ ts) (λ x j rest. (x ≡ Given v) × (j ≡ i) × (rest ≡ ts))
