-- What a frame hears and tells by a step.
use Rattle.std.specs.Prelude.{ℕ, Option, Some, None, List, [], ◌∷◌, ◌++◌, ◌≡◌}
use Rattle.py_objects.specs.declared.refs.PyBaseExceptionRef.{PyBaseExceptionRef}
use Rattle.py_objects.specs.declared.payload.Payload.{Payload}
use Rattle.py_objects.specs.declared.event.GotAnswer.{GotAnswer}
use Rattle.py_objects.specs.declared.event.GotAnswer.TheVariants as got
use Rattle.py_objects.specs.declared.event.ResumeHow.TheVariants as how
use Rattle.py_objects.specs.declared.event.Ending.TheVariants as ending
use Rattle.py_objects.specs.Own.{Own, Resumes, Asks, Gets, Rounds, Yields, Ends}
use Rattle.py_rows.specs.declared.expect.Expect.{Expect}
use Rattle.py_rows.specs.declared.expect.Expect.TheVariants as expect
use Rattle.py_rows.specs.States.{Setting, State}
use Rattle.py_rows.specs.Answers.{wanted}
use Rattle.py_rows.specs.Handled.{handled_in}
use Rattle.py_rows.specs.Slot.{KeepsSlot}
use Rattle.py_rows.specs.Laws.{IsMoving}
use Rattle.py_rows.specs.RunOfRows.{Hears, Runs}
use Rattle.py_frame.specs.declared.input.Input.{Input}
use Rattle.py_frame.specs.declared.input.Input.TheVariants as input
use Rattle.py_frame.specs.declared.input.Answer.{Answer}
use Rattle.py_frame.specs.declared.input.Answer.TheVariants as answer
use Rattle.py_frame.specs.declared.input.FrameStep.{FrameStep}
use Rattle.py_frame.specs.declared.input.FrameStep.TheVariants as step

-- an answer as an event names it
abbrev pub got_of : Answer → GotAnswer
got_of (answer.Value v) = got.Value v
got_of (answer.Stop v) = got.Stop v
got_of (answer.Fresh e) = got.Raise e
got_of (answer.Passed e) = got.Raise e

-- the own event that an input is, where it is one, with the number that it has in the journal
abbrev pub heard : ℕ → Input → Option Own
heard k input.Start = Some (Resumes k how.Start)
heard k input.Go = None
heard k (input.Send v) = Some (Resumes k (how.Send v))
heard k (input.Throw e) = Some (Resumes k (how.Throw e))
heard k (input.Answer w) = Some (Gets k (got_of w))

-- a frame that has ended stays so
abbrev pub unless_ended : Expect → Expect → Expect
unless_ended expect.Start y = y
unless_ended expect.Go y = y
unless_ended (expect.Answer w) y = y
unless_ended expect.Resume y = y
unless_ended (expect.Heard w) y = y
unless_ended expect.Ended y = expect.Ended

-- what a frame does next that took an input, where it expected this
abbrev pub taken : Input → Expect → Expect
taken input.Start x = unless_ended x expect.Go
taken input.Go x = x
taken (input.Send v) x = unless_ended x (expect.Heard (got.Value v))
taken (input.Throw e) x = unless_ended x (expect.Heard (got.Raise e))
taken (input.Answer w) x = unless_ended x (expect.Heard (got_of w))

-- a frame may hear an event, and does this next; where there is none it goes on by itself
abbrev pub MayHear : List Payload → Setting → Expect → Option Own → Expect → Type 0
MayHear objects setting x None y = IsMoving x
MayHear objects setting x (Some own) y = Hears objects setting x own y

-- an input is one that a frame expects, whatever number its event has
abbrev pub Expects : List Payload → Setting → Expect → Input → Type 0
Expects objects setting x i = (k : ℕ) → MayHear objects setting x (heard k i) (taken i x)

-- what is expected behind a step
abbrev pub expected : FrameStep → Expect
expected (step.Ask r own) = expect.Answer (wanted r)
expected step.Round = expect.Go
expected (step.Yield v) = expect.Resume
expected (step.Return v) = expect.Ended
expected (step.Raise e) = expect.Ended
expected step.NoMemory = expect.Ended

-- the own event that a step of the unit `at` is, where it is one
abbrev pub told : ℕ → FrameStep → Option Own
told at (step.Ask r own) = Some (Asks at r own)
told at step.Round = Some (Rounds at)
told at (step.Yield v) = Some (Yields at v)
told at (step.Return v) = Some (Ends at (ending.Return v))
told at (step.Raise e) = Some (Ends at (ending.Raise e))
told at step.NoMemory = None

-- the slot that is handed in counts where the frame hasn't begun; later it is as the frame left it
abbrev pub slot_taken : Option PyBaseExceptionRef → Expect → Option PyBaseExceptionRef → Option PyBaseExceptionRef
slot_taken slot expect.Start left = slot
slot_taken slot expect.Go left = left
slot_taken slot (expect.Answer w) left = left
slot_taken slot expect.Resume left = left
slot_taken slot (expect.Heard w) left = left
slot_taken slot expect.Ended left = left

-- where a frame that takes an input is, which is handed this as the slot
abbrev pub hearing : Option PyBaseExceptionRef → Input → State → State
hearing slot i s = record s { slot = slot_taken slot s.wants s.slot; wants = taken i s.wants }

-- an event, or none
abbrev pub events : Option Own → List Own
events None = []
events (Some x) = x ∷ []

-- what holds behind a step that told an event
abbrev pub IfTold : FrameStep → Type 0 → Type 0
IfTold (step.Ask r own) P = P
IfTold step.Round P = P
IfTold (step.Yield v) P = P
IfTold (step.Return v) P = P
IfTold (step.Raise e) P = P
IfTold step.NoMemory P = Unit {0}

-- any run of the rows that led to the one state leads, by these events, on to the other
abbrev pub Extends : List Payload → Setting → State → List Own → State → Type 0
Extends objects setting s xs t = (first : State) (before : List Own) → Runs objects setting first before s → Runs objects setting first (before ++ xs) t

-- a question names the exception that is handled in the frame's blocks
abbrev pub NamesHandled : State → FrameStep → Type 0
NamesHandled s (step.Ask r own) = own ≡ handled_in None s.blocks
NamesHandled s step.Round = Unit {0}
NamesHandled s (step.Yield v) = Unit {0}
NamesHandled s (step.Return v) = Unit {0}
NamesHandled s (step.Raise e) = Unit {0}
NamesHandled s step.NoMemory = Unit {0}

-- what the slot held when the frame was entered it holds again
abbrev pub GivesBack : State → State → Type 0
GivesBack s t = (first : Option PyBaseExceptionRef) → KeepsSlot first s → t.slot ≡ first

-- it goes on to hold what is handled, where it held this then, and the frame gives it back where it has ended
abbrev pub KeepsFirst : State → State → Type 0
KeepsFirst s t = ((first : Option PyBaseExceptionRef) → KeepsSlot first s → KeepsSlot first t) × (t.wants ≡ expect.Ended → GivesBack s t)
