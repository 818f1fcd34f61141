-- Frames as callers see them.
use Rattle.std.specs.Prelude.{ℕ, ◌+◌, ◌-◌, ◌≡◌, Option, None, List, [], length, slice_get}
use Rattle.py_code.specs.declared.code.PyCode.{PyCode}
use Rattle.py_code.specs.declared.code.CodeObject.{CodeObject}
use Rattle.py_objects.specs.declared.refs.PyBaseExceptionRef.{PyBaseExceptionRef}
use Rattle.py_objects.specs.declared.refs.FrameRef.{FrameRef}
use Rattle.py_objects.specs.declared.scope.Scope.{Scope}
use Rattle.py_objects.specs.declared.payload.Payload.{Payload}
use Rattle.py_objects.specs.declared.payload.Payload.TheVariants as payload
use Rattle.py_objects.specs.Objects.{Obj, HasPayload}
use Rattle.py_objects.specs.Telling.{under_any}
use Rattle.py_objects.specs.Refs.{frame_object}
use Rattle.py_stack.specs.Stacks.{Stack}
use Rattle.py_check.specs.declared.annotated.Annotated.{Annotated}
use Rattle.py_rows.specs.States.{Setting, State, with_stack}
use Rattle.py_rows.specs.RunOfRows.{filled, started}
use Rattle.py_frame.specs.declared.frame.FrameConstructor.{FrameConstructor}

-- a frame: where a run of the rows has come to, the places that are left, and what the frame is made for
pub record Framed : Type 0 where
  pub state : State
  pub room : ℕ  -- the places that are left on its stack
  pub block_room : ℕ  -- the places that are left for blocks
  pub code : ℕ  -- the number of its code
  pub entry : FrameRef  -- the object that stands for it
  pub scope : Scope
  pub closure : List Obj  -- the cells of the bodies around it

-- a core, which is a frame without its stack, over a stack that is seen as this
abbrev pub over : Framed → Stack → Framed
over core stack = record core { state = with_stack stack.list core.state; room = stack.room }

-- what units are run by: a code, and the table that its names are places in
pub record NamedCode : Type 0 where
  pub code : Annotated
  pub names : List (List ℕ)

-- what a code is made of
abbrev pub parts : NamedCode → CodeObject
parts scene = scene.code.code.code

-- the setting of a frame's run, into which exceptions are thrown whatever is handled
abbrev pub setting_in : PyCode → List (List ℕ) → Framed → Setting
setting_in code names f = record { code = code; names = names; globals = f.scope.globals; closure = f.closure; throws_under = under_any }

abbrev pub setting_of : List (List ℕ) → Annotated → Framed → Setting
setting_of names code f = setting_in code.code names f

-- the same by a code with its names
abbrev pub setting : NamedCode → Framed → Setting
setting scene f = setting_of scene.names scene.code f

-- with these locals
abbrev pub with_locals : List (Option Obj) → Framed → Framed
with_locals locals f = record f { state = record f.state { locals = locals } }

-- with this argument built by prefixes
abbrev pub with_prefix : ℕ → State → State
with_prefix arg s = record s { prefix = arg }

-- the unit that runs had one more answer
abbrev pub next_phase : State → State
next_phase s = record s { phase = s.phase + 1 }

-- the first locals of a frame: the arguments, then unset ones
abbrev pub first_locals : Annotated → List Obj → List (Option Obj)
first_locals code args = filled (length code.code.code.varnames.items) args

-- the line of the last unit that was begun, at first that of the first unit
abbrev pub line_at : Annotated → Framed → Option ℕ
line_at code f = slice_get code.code.code.locations.items (f.state.last - 1)

-- with this exception in the slot
abbrev pub handed : Option PyBaseExceptionRef → State → State
handed slot s = record s { slot = slot }

-- the object that stands for a frame that is made for this is there, as a frame of its code
abbrev pub HasEntry : List Payload → FrameConstructor → Type 0
HasEntry objects c = HasPayload objects (frame_object c.entry) (payload.Frame c.number)

-- a frame that hasn't begun, whose locals are unset; by its parts, and by what it is made for
abbrev pub unfilled : Annotated → ℕ → FrameRef → Scope → List Obj → ℕ → ℕ → Framed
unfilled code number entry scope closure room block_room =
    record { state = started code.code None []; room = room; block_room = block_room; code = number; entry = entry; scope = scope; closure = closure }

abbrev pub IsUnfilled : Annotated → FrameConstructor → ℕ → Framed → Type 0
IsUnfilled code c room made = made ≡ unfilled code c.number c.entry c.scope c.closure room made.block_room
