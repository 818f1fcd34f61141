-- What may be told from a place, in the words of trees: what follows among the frames, behind a value, behind a truth value, and what is told at a rest.
use Rattle.std.specs.Prelude.{ℕ, Bool, true, Some, List, [], ◌∷◌, ◌++◌, ◌≡◌}
use Rattle.py_objects.specs.declared.payload.Payload.{Payload}
use Rattle.py_objects.specs.declared.payload.Payload.TheVariants as payload
use Rattle.py_objects.specs.declared.request.Request.{Request}
use Rattle.py_objects.specs.declared.request.Request.TheVariants as request
use Rattle.py_objects.specs.Objects.{Obj, HasPayload, as_exception, as_object}
use Rattle.py_objects.specs.Own.{Own}
use Rattle.py_objects.specs.Telling.{Asked, Answered, Yielded, Resumed}
use Rattle.py_tree.specs.Operators.{way_of}
use Rattle.py_tree.specs.Binding.{Env, bind}
use Rattle.py_tree.specs.Scene.{Scene, anywhere}
use Rattle.py_tree.specs.Outcome.{Outcome, Normal, Returns, Raises, Handled, After, Use, By_truth, On_normal, On_turn, On_raise, Behind_finally, On_finally, Forgets, Handles, On_exit, Manages, Leaves, LeavesBy, Loops, Requests as RequestsOf, EvaluatesAll, Finishes, Tests, RunsSuite, Tries}
use Rattle.py_tree.specs.Trace.{EndsBy, IsBegun}
use Rattle.py_places.specs.Place.{Choice, Branches, Branches_else, Turns, Catches, Swallows, Then, Stored, Shown, Returned, Raising, Raised, Tested, Told, Classed, Entering, Entered, Refused, Passed, Operand, Behind, Turn, Final, Passing, Catch, Forget, Exit, Frames, Question, Looks_up, Requests, Last, Nothing_more, Value as ValueLast, Raise, Rest, Stuck, Starting, Asking, Waiting, Yielding, Suspended, Turning, Leaving, Leaving_by, Ending_by}

-- the request that a question is, where this is the dict of the globals
abbrev pub request_of : Obj → Question → Request
request_of globals (Looks_up x) = request.Global globals x
request_of globals (Requests r) = r

-- the outcome of a body that comes to its end so
abbrev pub outcome_of : Last → Outcome
outcome_of Nothing_more = Normal
outcome_of (ValueLast v) = Returns v
outcome_of (Raise e) = Raises e

module _ (objects : List Payload) (globals : Obj) where
  -- where bodies run
  abbrev pub scene : Scene
  scene = anywhere objects globals

  -- what follows an outcome among frames
  abbrev pub follows : Frames → After
  follows [] = EndsBy scene
  follows (Behind h more ∷ fs) = On_normal (follows fs) (λ env k ts. RunsSuite scene more env h k ts (follows fs))
  follows (Turn h line e s ∷ fs) = On_turn (follows fs) (λ env k ts. (n : ℕ) × Loops scene line e (RunsSuite scene s) n env h k ts (follows fs))
  follows (Final h t ∷ fs) = On_finally (RunsSuite scene t) h (follows fs)
  follows (Passing o ∷ fs) = Behind_finally (follows fs) o
  follows (Catch line cs ∷ fs) = On_raise (follows fs) (λ e env k ts. Tries scene line cs e env (Some e) k ts (follows fs))
  follows (Forget h x ∷ fs) = On_finally (Forgets x) h (follows fs)
  follows (Exit h line m ∷ fs) = On_exit scene line m h (follows fs)

  -- what follows a truth value
  abbrev pub chosen : Choice → Bool → Env → Handled → Frames → ℕ → List Own → Type 0
  chosen (Branches s) b env h fs k ts = By_truth b (RunsSuite scene s env h k ts (follows fs)) (follows fs env Normal k ts)
  chosen (Branches_else s t) b env h fs k ts = By_truth b (RunsSuite scene s env h k ts (follows fs)) (RunsSuite scene t env h k ts (follows fs))
  chosen (Turns line e s) b env h fs k ts = By_truth b (RunsSuite scene s env h k ts (follows (Turn h line e s ∷ fs))) (follows fs env Normal k ts)
  chosen (Catches line x s more e) b env h fs k ts =
      By_truth b (Handles x (RunsSuite scene s) (bind x (as_object e) env) h k ts (follows fs)) (Tries scene line more e env h k ts (follows fs))
  chosen (Swallows e) b env h fs k ts = By_truth b (follows fs env Normal k ts) (follows fs env (Raises e) k ts)

  -- what follows a value
  abbrev pub next : Then → Env → Handled → Frames → Obj → ℕ → List Own → Type 0
  next (Stored x) env h fs v k ts = follows fs (bind x v env) Normal k ts
  next Shown env h fs v k ts = RequestsOf scene 0 (request.Show v) h k ts (Use env (follows fs) (λ u. follows fs env Normal))
  next Returned env h fs v k ts = follows fs env (Returns v) k ts
  next Raising env h fs v k ts = RequestsOf scene 0 (request.Raisable v) h k ts (Use env (follows fs) (λ w. follows fs env (Raises (as_exception w))))
  next Raised env h fs v k ts = follows fs env (Raises (as_exception v)) k ts
  next (Tested ch) env h fs v k ts = Tests scene 0 env h v k ts (follows fs) (λ b. chosen ch b env h fs)
  next (Told ch) env h fs v k ts = (b : Bool) × HasPayload objects v (payload.Bool b) × chosen ch b env h fs k ts
  next (Classed line x s more e) env h fs v k ts =
      RequestsOf scene 0 (request.Match (as_object e) v) h k ts
      (Use env (follows fs) (λ w j mid. Tests scene 0 env h w j mid (follows fs) (λ b. chosen (Catches line x s more e) b env h fs)))
  next (Entering line x s) env h fs m k ts =
      RequestsOf scene 0 (request.Enter m) h k ts
      (Use env (follows fs) (λ v j rest. Manages scene line m x v (RunsSuite scene s) env h j rest (follows fs)))
  next (Entered line m x s) env h fs v k ts = Manages scene line m x v (RunsSuite scene s) env h k ts (follows fs)
  next Refused env h fs v k ts = ⊥
  next (Passed o) env h fs v k ts = follows fs env o k ts
  next (Operand line o front back th) env h fs v k ts =
      EvaluatesAll scene line env h back k ts (Use env (follows fs) (next th env h fs))
      (λ vs j mid. Finishes scene line (way_of o) (front ++ v ∷ vs) h j mid (Use env (follows fs) (next th env h fs)))

  -- what may be told at a rest, behind the event of this number
  abbrev pub Tells : Rest → ℕ → List Own → Type 0
  Tells Stuck k ts = ts ≡ []
  Tells (Starting t args) k ts = IsBegun scene t args ts
  Tells (Asking env h q th fs) k ts = Asked (λ at. true) (request_of globals q) h k ts (Use env (follows fs) (next th env h fs))
  Tells (Waiting env h th fs) k ts = Answered k ts (Use env (follows fs) (next th env h fs))
  Tells (Yielding env h v th fs) k ts = Yielded (λ at. true) (λ i. true) v k ts (Use env (follows fs) (next th env h fs))
  Tells (Suspended env h th fs) k ts = Resumed (λ i. true) k ts (Use env (follows fs) (next th env h fs))
  Tells (Turning env h line e s fs) k ts = (n : ℕ) × Loops scene line e (RunsSuite scene s) n env h k ts (follows fs)
  Tells (Leaving env h m th fs) k ts = Leaves scene 0 m h k ts (Use env (follows fs) (next th env h fs))
  Tells (Leaving_by env h m e th fs) k ts = LeavesBy scene 0 m e k ts (Use env (follows fs) (next th env h fs))
  Tells (Ending_by l) k ts = EndsBy scene [] (outcome_of l) k ts
