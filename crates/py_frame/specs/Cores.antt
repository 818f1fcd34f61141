-- What is said of frames whose units run. A word takes first how stacks are seen. The frame comes last, except for what a call hands back.
-- Of two moments, the frame at the earlier one comes first.
use Rattle.std.specs.Prelude.{List, Option, Result, IfOk, ◌≡◌}
use Rattle.py_objects.specs.declared.payload.Payload.{Payload}
use Rattle.py_objects.specs.declared.refs.PyBaseExceptionRef.{PyBaseExceptionRef}
use Rattle.py_objects.specs.declared.request.Request.{Request}
use Rattle.py_objects.specs.Edits.{Kept}
use Rattle.py_stack.specs.Stacks.{Stack}
use Rattle.py_rows.specs.declared.block.Block.{Block}
use Rattle.py_rows.specs.declared.block.UnwindReason.{UnwindReason}
use Rattle.py_rows.specs.declared.expect.Expect.TheVariants as expect
use Rattle.py_rows.specs.Rows.{asks}
use Rattle.py_rows.specs.RunOfRows.{MayLead}
use Rattle.py_rows.specs.States.{State, Step, Move, begun}
use Rattle.py_frame.specs.declared.executing.ExecutingFrame.{ExecutingFrame}
use Rattle.py_frame.specs.declared.input.FrameStep.{FrameStep}
use Rattle.py_frame.specs.declared.input.Input.{Input}
use Rattle.py_frame.specs.declared.unit_step.UnitStep.{UnitStep}
use Rattle.py_frame.specs.Exits.{UnitAtTellsExit}
use Rattle.py_frame.specs.Frames.{Framed, NamedCode, over}
use Rattle.py_frame.specs.Running.{HasTold, IsCut, IsRunning, IsSame, IsStepped}
use Rattle.py_frame.specs.UnitRows.{meets_block, unit_at}
use Rattle.py_frame.specs.UnitSteps.{HasDone, HasMoved, HasNeeds, HasRoom, passed}

-- the frame that it is: its core over its stack
abbrev pub framed : {T : Type 0} → (T → Stack) → ExecutingFrame T → Framed
framed seen x = over x.core (seen x.stack)

-- there is room for what a row does
abbrev pub CanDo : {T : Type 0} → (T → Stack) → (State → Step) → ExecutingFrame T → Type 0
CanDo seen row x = HasRoom (framed seen x) (row (framed seen x).state)

-- what a move needs is there
abbrev pub CanMove : {T : Type 0} → (T → Stack) → Kept → (Framed → Move) → ExecutingFrame T → Type 0
CanMove seen store move x = HasNeeds store.made (framed seen x) (move (framed seen x))

-- a unit did what a row says
abbrev pub Does : {T : Type 0} → (T → Stack) → (State → Step) → ExecutingFrame T → ExecutingFrame T → UnitStep → Type 0
Does seen row x y step = HasDone row (framed seen x) step (framed seen y)

-- a unit did what a move may lead to
abbrev pub MayDo : {T : Type 0} → (T → Stack) → Kept → (Framed → Move) → ExecutingFrame T → ExecutingFrame T → UnitStep → Type 0
MayDo seen store move x y step = HasMoved store.made (λ s. move (record (framed seen x) { state = s })) (framed seen x) step (framed seen y)

-- a row asks this, and leaves the stack so
abbrev pub Asks : {T : Type 0} → (T → Stack) → (State → Step) → Framed → T → T → Request → Type 0
Asks seen row core stack stack' request = row (over core (seen stack)).state ≡ asks request (over core (seen stack')).state

-- a move may ask this, and leave the stack so
abbrev pub MayAsk : {T : Type 0} → (T → Stack) → Kept → (Framed → Move) → Framed → T → T → Request → Type 0
MayAsk seen store move core stack stack' request = MayLead store.made (move (over core (seen stack))) (asks request (over core (seen stack')).state)

-- what these two need is there
abbrev pub CanAsk : {T : Type 0} → (T → Stack) → (State → Step) → Framed → T → Type 0
CanAsk seen row core stack = HasRoom (over core (seen stack)) (row (over core (seen stack)).state)

abbrev pub CanAskBy : {T : Type 0} → (T → Stack) → Kept → (Framed → Move) → Framed → T → Type 0
CanAskBy seen store move core stack = HasNeeds store.made (over core (seen stack)) (move (over core (seen stack)))

-- the innermost block was met for a reason; None: it was passed
abbrev pub Meets : {T : Type 0} → (T → Stack) → UnwindReason → Block → ExecutingFrame T → ExecutingFrame T → Option UnitStep → Type 0
Meets seen r b x y step = meets_block r b (framed seen x).state ≡ passed x.core.state.at step r (framed seen y).state

-- nothing changed
abbrev pub IsUnchanged : {T : Type 0} → (T → Stack) → ExecutingFrame T → ExecutingFrame T → Type 0
IsUnchanged seen x y = framed seen y ≡ framed seen x

-- the unit was begun, and nothing else changed
abbrev pub HasBegun : {T : Type 0} → (T → Stack) → ExecutingFrame T → ExecutingFrame T → Type 0
HasBegun seen x y = framed seen y ≡ record (framed seen x) { state = begun (framed seen x).state }

-- it is the same frame in another state
abbrev pub KeepsFrame : {T : Type 0} → (T → Stack) → ExecutingFrame T → ExecutingFrame T → Type 0
KeepsFrame seen x y = IsSame (framed seen x) (framed seen y)

-- the frame runs this code
abbrev pub IsRunningOn : {T : Type 0} → (T → Stack) → List Payload → NamedCode → ExecutingFrame T → Type 0
IsRunningOn seen objects scene x = IsRunning objects scene.names scene.code (framed seen x)

-- it has told an event
abbrev pub HasToldOn : {T : Type 0} → (T → Stack) → List Payload → NamedCode → ExecutingFrame T → ExecutingFrame T → FrameStep → Type 0
HasToldOn seen objects scene x y step = HasTold objects scene.names scene.code (framed seen x) step (framed seen y)

-- memory ran out in a unit that had begun
abbrev pub IsCutOn : {T : Type 0} → (T → Stack) → List Payload → NamedCode → ExecutingFrame T → ExecutingFrame T → Type 0
IsCutOn seen objects scene x y = IsCut objects scene.code (framed seen x) (framed seen y)

-- the frame took an input, and told an event or ended
abbrev pub IsSteppedOn : {T : Type 0} → (T → Stack) → List Payload → NamedCode → Option PyBaseExceptionRef → Input → ExecutingFrame T → ExecutingFrame T → FrameStep → Type 0
IsSteppedOn seen objects scene slot i x y step = IsStepped objects scene.names scene.code slot i (framed seen x) step (framed seen y)

-- the unit that a core runs or runs next told an exit what it should, where it asks exits
abbrev pub NextTellsExit : NamedCode → Framed → Kept → Kept → UnitStep → Type 0
NextTellsExit scene core before behind step = UnitAtTellsExit (unit_at scene core) before behind step

-- the same where the core expects no input, unless memory ran out
abbrev pub GoTellsExit : {E : Type 0} → NamedCode → Framed → Kept → Kept → Result UnitStep E → Type 0
GoTellsExit scene core before behind r = core.state.wants ≡ expect.Go → IfOk r (NextTellsExit scene core before behind)
