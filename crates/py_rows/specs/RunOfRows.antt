-- A run of the rows of a code: which own events an activation may tell, step by step, and where it has come to.
use Rattle.std.specs.Prelude.{ℕ, ◌<◌, zero, suc, Bool, true, ◌||◌, ◌==◌, Option, Some, None, List, [], ◌∷◌, ◌++◌, ◌≡◌, ◌⊎◌, length}
use Rattle.py_code.specs.declared.code.PyCode.{PyCode}
use Rattle.py_objects.specs.declared.refs.PyBaseExceptionRef.{PyBaseExceptionRef}
use Rattle.py_objects.specs.declared.payload.Payload.{Payload}
use Rattle.py_objects.specs.declared.payload.Payload.TheVariants as payload
use Rattle.py_objects.specs.declared.event.GotAnswer.TheVariants as got
use Rattle.py_objects.specs.declared.event.ResumeHow.TheVariants as how
use Rattle.py_objects.specs.declared.payload.ExceptionBody.{ExceptionBody}
use Rattle.py_objects.specs.Objects.{Obj, HasPayload, IsTraceback, as_object, class_object}
use Rattle.py_objects.specs.Callees.{is_manager}
use Rattle.py_objects.specs.Own.{Own, Makes, Resumes, Asks, Gets, Rounds, Yields, Ends}
use Rattle.py_objects.specs.Telling.{ThrowTest}
use Rattle.py_code.specs.declared.flags.CodeFlags.{CodeFlags}
use Rattle.py_code.specs.declared.flags.TheConstants.CodeFlags.{IS_GENERATOR, IS_COROUTINE}
use Rattle.py_check.specs.WholeCode.{counts_if}
use Rattle.py_check.specs.declared.note.Kind.TheVariants as kind
use Rattle.py_rows.specs.declared.expect.Expect.{Expect}
use Rattle.py_rows.specs.declared.expect.Expect.TheVariants as expect
use Rattle.py_rows.specs.States.{Setting, State, Step, Goes, Tells, Move, Plainly, Loads, Decides, Manages, Resolves, Exits, waiting}
use Rattle.py_rows.specs.Handled.{handled_in}
use Rattle.py_rows.specs.Constants.{HasConstant}
use Rattle.py_rows.specs.Answers.{HasKind, IsAnswer}
use Rattle.py_rows.specs.Receiving.{moves}

-- what an exit is told: an exception between its class and a traceback or None, or three times None; whose traceback that is, the rows
-- don't say, as it changes while objects stay
abbrev pub IsExit : List Payload → Option PyBaseExceptionRef → Obj → Obj → Obj → Type 0
IsExit objects None t v b = HasPayload objects t payload.None × HasPayload objects v payload.None × HasPayload objects b payload.None
IsExit objects (Some e) t v b = (v ≡ as_object e) × ((body : ExceptionBody) × HasPayload objects v (payload.Exception body) × (t ≡ class_object body.class)) × (t.number < length objects) × (HasPayload objects b payload.None ⊎ IsTraceback objects b)

-- a move may lead to a step
abbrev pub MayLead : List Payload → Move → Step → Type 0
MayLead objects (Plainly step) done = step ≡ done
MayLead objects (Loads c f) done = (v : Obj) × HasConstant objects v c × (f v ≡ done)
MayLead objects (Decides v f) done = (b : Bool) × HasPayload objects v (payload.Bool b) × (f b ≡ done)
MayLead objects (Manages m f) done = (b : Bool) × ((p : Payload) × HasPayload objects m p × (is_manager p ≡ b)) × (f b ≡ done)
MayLead objects (Resolves v f) done = (p : Payload) × HasPayload objects v p × (f p ≡ done)
MayLead objects (Exits e f) done = (t : Obj) × (v : Obj) × (b : Obj) × IsExit objects e t v b × (f t v b ≡ done)

-- the flags of generators and coroutines: an exception may be thrown into their frames, also into one that hasn't begun
abbrev pub is_thrown_into : CodeFlags → Bool
is_thrown_into flags = (counts_if flags IS_GENERATOR == 1) || (counts_if flags IS_COROUTINE == 1)

-- an input that a frame may hear, and what it expects then
abbrev pub Hears : List Payload → Setting → Expect → Own → Expect → Type 0
Hears objects setting expect.Start (Resumes k how.Start) x = x ≡ expect.Go
Hears objects setting expect.Start (Resumes k (how.Throw e)) x = HasKind objects (as_object e) kind.Exc × (x ≡ expect.Heard (got.Raise e)) × (is_thrown_into setting.code.code.flags ≡ true)
Hears objects setting (expect.Answer w) (Gets k g) x = IsAnswer objects w g × (x ≡ expect.Heard g)
Hears objects setting expect.Resume (Resumes k (how.Send v)) x = x ≡ expect.Heard (got.Value v)
Hears objects setting expect.Resume (Resumes k (how.Throw e)) x = HasKind objects (as_object e) kind.Exc × (x ≡ expect.Heard (got.Raise e))
Hears objects setting _ _ x = ⊥

-- an event may come while this is handled, by a test of those that throw an exception in
abbrev pub IsUnder : ThrowTest → Option PyBaseExceptionRef → Own → Type 0
IsUnder throws h Makes = Unit {0}
IsUnder throws h (Resumes k how.Start) = Unit {0}
IsUnder throws h (Resumes k (how.Send v)) = Unit {0}
IsUnder throws h (Resumes k (how.Throw e)) = throws k h ≡ true
IsUnder throws h (Asks at r own) = Unit {0}
IsUnder throws h (Gets k w) = Unit {0}
IsUnder throws h (Rounds at) = Unit {0}
IsUnder throws h (Yields at v) = Unit {0}
IsUnder throws h (Ends at e) = Unit {0}

-- one step, with the events that it hears and tells: a silent one, one that tells, one that hears while what its blocks handle is handled
pub data Steps (objects : List Payload) (setting : Setting) (s : State) : List Own → State → Type 0 where
  silent : (t : State) → MayLead objects (moves setting s.wants s) (Goes t) → Steps objects setting s [] t
  telling : (x : Own) (t : State) → MayLead objects (moves setting s.wants s) (Tells x t) → Steps objects setting s (x ∷ []) t
  hearing : (x : Own) (w : Expect) → Hears objects setting s.wants x w → IsUnder setting.throws_under (handled_in None s.blocks) x
      → Steps objects setting s (x ∷ []) (waiting w s)

-- the locals of a frame: the arguments, then unset ones
abbrev pub filled : ℕ → List Obj → List (Option Obj)
filled zero vs = []
filled (suc n) [] = None ∷ filled n []
filled (suc n) (v ∷ vs) = Some v ∷ filled n vs

-- where a frame begins, with these arguments, and this exception in the slot
abbrev pub started : PyCode → Option PyBaseExceptionRef → List Obj → State
started code slot args =
    record { at = 0; last = 0; prefix = 0; stack = []; blocks = []; locals = filled (length code.code.varnames.items) args; slot = slot; phase = 0; wants = expect.Start }

-- steps that lead from one state to another, with the events that they hear and tell
pub data Runs (objects : List Payload) (setting : Setting) (s : State) : List Own → State → Type 0 where
  none : Runs objects setting s [] s
  on : {us vs : List Own} {t : State} (u : State) → Runs objects setting s us t → Steps objects setting t vs u → Runs objects setting s (us ++ vs) u
