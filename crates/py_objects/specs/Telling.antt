-- The words in which bodies tell their events. Each takes the number of the event that was heard last (a round needs none), the
-- events that are told and, last, what may follow: K holds of what comes of it, of the event heard last by then and of the events
-- behind. Where nothing is left to tell, the telling is cut there.
use Rattle.std.specs.Prelude.{ℕ, Bool, true, Option, List, [], ◌∷◌, ◌≡◌, ◌⊎◌}
use Rattle.py_objects.specs.declared.refs.PyBaseExceptionRef.{PyBaseExceptionRef}
use Rattle.py_objects.specs.declared.payload.Payload.{Payload}
use Rattle.py_objects.specs.declared.request.Request.{Request}
use Rattle.py_objects.specs.declared.event.GotAnswer.{GotAnswer}
use Rattle.py_objects.specs.declared.event.GotAnswer.TheVariants as got
use Rattle.py_objects.specs.declared.event.ResumeHow.{ResumeHow}
use Rattle.py_objects.specs.declared.event.ResumeHow.TheVariants as how
use Rattle.py_objects.specs.Objects.{Obj, HasPayload}
use Rattle.py_objects.specs.Own.{Own, Resumes, Asks, Gets, Rounds, Yields}

-- what comes of a load or a request: a value, a raise, or the end of what is told
pub data Value : Type 0 where
  Given : Obj → Value
  Failed : PyBaseExceptionRef → Value
  Stopped : Value

-- what holds of a value and of the events behind it, where this is the number of the event that was heard last
abbrev pub AfterValue : Type 1
AfterValue = Value → ℕ → List Own → Type 0

-- an object of this payload, without an event
abbrev pub IsLiteral : List Payload → Payload → ℕ → List Own → AfterValue → Type 0
IsLiteral objects p event ts K = ((ts ≡ []) × K Stopped event []) ⊎ ((v : Obj) × HasPayload objects v p × K (Given v) event ts)

-- an answer goes on as a value or as a raise; that there is nothing more answers no request of these bodies
abbrev pub Answers : GotAnswer → ℕ → List Own → AfterValue → Type 0
Answers (got.Value v) event ts K = K (Given v) event ts
Answers (got.Raise e) event ts K = K (Failed e) event ts
Answers (got.Stop v) event ts K = ⊥

-- an answer, by an event with a number of its own, or the end of what is told
abbrev pub Answered : ℕ → List Own → AfterValue → Type 0
Answered event ts K = ((ts ≡ []) × K Stopped event []) ⊎ ((i : ℕ) × (w : GotAnswer) × (mid : List Own) × (ts ≡ Gets i w ∷ mid) × Answers w i mid K)

-- a request while h is handled, from one of these units, and its answer
abbrev pub Asked : (ℕ → Bool) → Request → Option PyBaseExceptionRef → ℕ → List Own → AfterValue → Type 0
Asked units r h event ts K =
    ((ts ≡ []) × K Stopped event []) ⊎ ((at : ℕ) × (mid : List Own) × (units at ≡ true) × (ts ≡ Asks at r h ∷ mid) × Answered event mid K)

-- whether the event of a number may throw an exception in while this is handled
abbrev pub ThrowTest : Type 0
ThrowTest = (event : ℕ) → Option PyBaseExceptionRef → Bool

-- any event may, whatever is handled
abbrev pub under_any : ThrowTest
under_any event h = true

-- a body that yielded goes on with what was sent as a value, or with what was thrown in as a raise, where the event of this number may
-- throw; it doesn't start again
abbrev pub GoesOn : (ℕ → Bool) → ResumeHow → ℕ → List Own → AfterValue → Type 0
GoesOn throws how.Start event ts K = ⊥
GoesOn throws (how.Send v) event ts K = K (Given v) event ts
GoesOn throws (how.Throw e) event ts K = (throws event ≡ true) × K (Failed e) event ts

-- how it goes on, by an event with a number of its own, or the end of what is told
abbrev pub Resumed : (ℕ → Bool) → ℕ → List Own → AfterValue → Type 0
Resumed throws event ts K =
    ((ts ≡ []) × K Stopped event []) ⊎ ((i : ℕ) × (w : ResumeHow) × (mid : List Own) × (ts ≡ Resumes i w ∷ mid) × GoesOn throws w i mid K)

-- a yield of a value, from one of these units, and how the body goes on, into which these events may throw (Python Language Reference,
-- 6.2.9)
abbrev pub Yielded : (units throws : ℕ → Bool) → Obj → ℕ → List Own → AfterValue → Type 0
Yielded units throws v event ts K =
    ((ts ≡ []) × K Stopped event []) ⊎ ((at : ℕ) × (mid : List Own) × (units at ≡ true) × (ts ≡ Yields at v ∷ mid) × Resumed throws event mid K)

-- a round of a loop, or the end of what is told
abbrev pub Rounded : List Own → Type 0 → (List Own → Type 0) → Type 0
Rounded ts cut next = ((ts ≡ []) × cut) ⊎ ((at : ℕ) × (mid : List Own) × (ts ≡ Rounds at ∷ mid) × next mid)
