-- What holds of a frame between steps.
use Rattle.std.specs.Prelude.{ℕ, suc, ◌+◌, ◌-◌, ◌<◌, ◌≤◌, ◌≡◌, ◌⊎◌, Option, Some, List, [], ◌∷◌, ◌++◌, length}
use Rattle.py_objects.specs.declared.refs.PyBaseExceptionRef.{PyBaseExceptionRef}
use Rattle.py_objects.specs.declared.payload.Payload.{Payload}
use Rattle.py_objects.specs.Objects.{AllBelow, number_if}
use Rattle.py_check.specs.declared.annotated.Annotated.{Annotated}
use Rattle.py_check.specs.Depths.{deepest}
use Rattle.py_rows.specs.declared.expect.Expect.TheVariants as expect
use Rattle.py_rows.specs.States.{State}
use Rattle.py_rows.specs.Slot.{KeepsSlot}
use Rattle.py_objects.specs.Own.{Own}
use Rattle.py_rows.specs.Below.{HoldsBelow, TellsBelow}
use Rattle.py_rows.specs.RunOfRows.{Runs}
use Rattle.py_rows.specs.Standing.{IsOf, IsStanding}
use Rattle.py_rows.specs.Fitting.{FitsAt}
use Rattle.py_rows.specs.Sound.{IsSound}
use Rattle.py_stack.specs.Slots.{Slots, top_of}
use Rattle.py_frame.specs.declared.input.Input.{Input}
use Rattle.py_frame.specs.declared.input.FrameStep.{FrameStep}
use Rattle.py_frame.specs.Frames.{Framed, NamedCode, setting, setting_of, handed}
use Rattle.py_rows.specs.Laws.{AllMayTell}
use Rattle.py_frame.specs.Steps.{Expects, Extends, IfTold, KeepsFirst, NamesHandled, events, expected, heard, told}

-- a frame of a code that it can run: it fits the notes of its code, stands where it waits, holds objects alone, and has room for the
-- values and blocks that the code needs
pub record IsRunning (objects : List Payload) (names : List (List ℕ)) (code : Annotated) (f : Framed) : Type 0 where
  pub sound : IsSound names code
  pub fits : FitsAt objects code f.state.wants f.state
  pub first : Option PyBaseExceptionRef  -- what the slot held when the frame was entered
  pub stands : IsStanding first f.state
  pub below : HoldsBelow (length objects) f.state
  pub globals : f.scope.globals.number < length objects
  pub within : f.state.last ≤ length code.code.code.instructions.items
  pub room : code.code.code.max_stackdepth ≤ length f.state.stack + f.room
  pub block_room : deepest code.notes ≤ length f.state.blocks + f.block_room

-- what the slot holds is an object that is there; behind a frame's first step it is what the last one left there
pub record SlotFits (objects : List Payload) (s : State) (slot : Option PyBaseExceptionRef) : Type 0 where
  pub below : AllBelow (length objects) (number_if slot)
  pub left : (s.wants ≡ expect.Start) ⊎ (slot ≡ s.slot)

-- the same frame in another state: it has as many places for values and for blocks
pub record IsSame (f g : Framed) : Type 0 where
  pub code : g.code ≡ f.code
  pub entry : g.entry ≡ f.entry
  pub scope : g.scope ≡ f.scope
  pub closure : g.closure ≡ f.closure
  pub room : length g.state.stack + g.room ≡ length f.state.stack + f.room
  pub block_room : length g.state.blocks + g.block_room ≡ length f.state.blocks + f.block_room

-- a frame has told an event: silent steps led to one that told it, of the unit that was begun last
pub record HasTold (objects : List Payload) (names : List (List ℕ)) (code : Annotated) (f : Framed) (step : FrameStep) (g : Framed) : Type 0 where
  pub event : Own
  pub told : told (g.state.last - 1) step ≡ Some event
  pub run : Runs objects (setting_of names code f) f.state (event ∷ []) g.state
  pub of : IsOf (g.state.last - 1) g.state event
  pub may : AllMayTell objects code.code (event ∷ [])
  pub below : TellsBelow (length objects) (event ∷ [])
  pub running : IsRunning objects names code g

-- a frame came by silent steps to a unit that has begun, where memory ran out
pub record IsCut (objects : List Payload) (code : Annotated) (f g : Framed) : Type 0 where
  pub begun : g.state.last ≡ suc g.state.at
  pub there : g.state.at < length code.code.code.instructions.items
  pub within : length g.state.stack ≤ code.code.code.max_stackdepth
  pub below : HoldsBelow (length objects) g.state
  pub keeps : (first : Option PyBaseExceptionRef) → KeepsSlot first f.state → KeepsSlot first g.state

-- an input is one that a frame expects, whatever number its event has
abbrev pub MayTake : List Payload → NamedCode → Framed → Input → Type 0
MayTake objects scene f i = Expects objects (setting scene f) f.state.wants i

-- the event that a step told, where it is one
abbrev pub told_by : Framed → FrameStep → List Own
told_by g step = events (told (g.state.last - 1) step)

-- the run so far goes on from the top slot, by what was heard, whatever number that event has, and the event that was told
abbrev pub GoesOn : List Payload → NamedCode → Slots → Framed → Input → FrameStep → Framed → Type 0
GoesOn objects scene slots f i step g =
    (k : ℕ) → IfTold step (Extends objects (setting scene f) (handed (top_of slots) f.state) (events (heard k i) ++ told_by g step) g.state)

-- a frame took an input, whatever number its event has, and told an event, or memory ran out and it has ended
pub record IsStepped (objects : List Payload) (names : List (List ℕ)) (code : Annotated) (slot : Option PyBaseExceptionRef) (i : Input) (f : Framed) (step : FrameStep) (g : Framed) : Type 0 where
  pub extends : (k : ℕ) → IfTold step (Extends objects (setting_of names code f) (handed slot f.state) (events (heard k i) ++ events (told (g.state.last - 1) step)) g.state)
  pub expects : g.state.wants ≡ expected step
  pub own : NamesHandled g.state step
  pub may : AllMayTell objects code.code (events (told (g.state.last - 1) step))
  pub told : TellsBelow (length objects) (events (told (g.state.last - 1) step))
  pub given_back : KeepsFirst (handed slot f.state) g.state
  pub running : IsRunning objects names code g
  pub same : IsSame f g
