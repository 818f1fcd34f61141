-- What a unit did, as its row says it.
use Rattle.std.specs.Prelude.{ℕ, ◌+◌, ◌≡◌, Bool, Option, None, Some, List, [], ◌∷◌, length, map}
use Rattle.py_code.specs.declared.literal.Literal.{Literal}
use Rattle.py_code.specs.Literals.{constant_of, in_order}
use Rattle.py_objects.specs.declared.payload.Payload.{Payload}
use Rattle.py_objects.specs.declared.payload.Payload.TheVariants as payload
use Rattle.py_objects.specs.Objects.{Obj, HasPayload}
use Rattle.py_objects.specs.Callees.{call_request}
use Rattle.py_objects.specs.Growth.{Grows}
use Rattle.py_objects.specs.Own.{Own}
use Rattle.py_objects.specs.declared.request.Request.{Request}
use Rattle.py_check.specs.Effects.{Effect, Moves, AsksOnce, Takes, Other}
use Rattle.py_rows.specs.declared.block.Block.{Block}
use Rattle.py_rows.specs.declared.expect.Expect.TheVariants as expect
use Rattle.py_rows.specs.declared.block.UnwindReason.{UnwindReason}
use Rattle.py_rows.specs.States.{State, Step, Goes, Tells, Stuck, Move, Plainly, Loads, Decides, Manages, Resolves, Exits}
use Rattle.py_rows.specs.Unwinding.{unwind}
use Rattle.py_rows.specs.Rows.{moves_entries, asks_once}
use Rattle.py_rows.specs.Constants.{HasConstant, HaveConstants}
use Rattle.py_rows.specs.RunOfRows.{MayLead}
use Rattle.py_rows.specs.Laws.{LeadsTo, IsWithin, RaisedThere}
use Rattle.py_frame.specs.declared.unit_step.UnitStep.{UnitStep}
use Rattle.py_frame.specs.declared.unit_step.UnitStep.TheVariants as unit
use Rattle.py_frame.specs.Frames.{Framed}
use Rattle.py_frame.specs.Steps.{told}
use Rattle.py_frame.specs.Running.{IsSame}

-- a frame has room for a step
abbrev pub HasRoom : Framed → Step → Type 0
HasRoom f step = LeadsTo (IsWithin (length f.state.stack + f.room) (length f.state.blocks + f.block_room)) step

-- what a move needs is there: room for what it leads to, whatever object is loaded later, and what it goes by
abbrev pub HasNeeds : List Payload → Framed → Move → Type 0
HasNeeds objects f (Plainly step) = HasRoom f step
HasNeeds objects f (Loads c g) = (objects' : List Payload) (v : Obj) → Grows objects objects' → HasConstant objects' v c → HasRoom f (g v)
HasNeeds objects f (Decides v g) = ((b : Bool) × HasPayload objects v (payload.Bool b)) × ((b : Bool) → HasRoom f (g b))
HasNeeds objects f (Manages m g) = ((p : Payload) × HasPayload objects m p) × ((b : Bool) → HasRoom f (g b))
HasNeeds objects f (Resolves v g) = ((p : Payload) × HasPayload objects v p) × ((p : Payload) → HasRoom f (g p))
HasNeeds objects f (Exits e g) = RaisedThere objects e × ((t v b : Obj) → HasRoom f (g t v b))

-- an event that is told, as a step; it has to be one
abbrev pub tells : Option Own → State → Step
tells None s = Stuck
tells (Some x) s = Tells x s

-- the unit `at` left the frame in this state, as a step
abbrev pub done : ℕ → UnitStep → State → Step
done at unit.Goes s = Goes s
done at (unit.Tells step) s = tells (told at step) s

-- what the table of effects says of an instruction that moves entries
abbrev pub moves_by : Effect → State → Step
moves_by (Moves n places) s = moves_entries n places s
moves_by (AsksOnce wanted pushes) s = Stuck
moves_by (Takes n pushes) s = Stuck
moves_by Other s = Stuck

-- and of one that asks once
abbrev pub asks_by : Effect → (List Obj → Option Request) → State → Step
asks_by (Moves n places) f s = Stuck
asks_by (AsksOnce wanted pushes) f s = asks_once (length wanted) f s
asks_by (Takes n pushes) f s = Stuck
asks_by Other f s = Stuck

-- a unit did what a row says, and left the same frame
pub record HasDone (act : State → Step) (f : Framed) (step : UnitStep) (g : Framed) : Type 0 where
  pub row : act f.state ≡ done f.state.at step g.state
  pub same : IsSame f g

-- the same of a move, which it may lead to
pub record HasMoved (objects : List Payload) (act : State → Move) (f : Framed) (step : UnitStep) (g : Framed) : Type 0 where
  pub row : MayLead objects (act f.state) (done f.state.at step g.state)
  pub same : IsSame f g

-- where a block is passed, the others are left
abbrev pub passed : ℕ → Option UnitStep → UnwindReason → State → Step
passed at None r s = unwind r s.blocks s
passed at (Some step) r s = done at step s

-- all of a frame's places for blocks, those that are taken and those that are left
abbrev pub block_places : Framed → ℕ
block_places f = length f.state.blocks + f.block_room

-- a block was opened
abbrev pub PushesBlock : Framed → Block → Framed → Type 0
PushesBlock f b g = g ≡ record f { state = record f.state { blocks = b ∷ f.state.blocks }; block_room = g.block_room }

-- all blocks were left, and nothing more is expected
abbrev pub GivesUp : Framed → Framed → Type 0
GivesUp f g = g ≡ record f { state = record f.state { blocks = []; slot = g.state.slot; wants = expect.Ended }; block_room = g.block_room }

-- the innermost block was taken off, where there was one
abbrev pub PopsBlock : Framed → Option Block → Framed → Type 0
PopsBlock f None g = (f.state.blocks ≡ []) × (g ≡ f)
PopsBlock f (Some b) g = f ≡ record g { state = record g.state { blocks = b ∷ g.state.blocks }; block_room = f.block_room }

-- an object is one of a constant that is there
abbrev pub IsConstant : List Payload → Option Literal → Obj → Type 0
IsConstant objects None v = ⊥
IsConstant objects (Some l) v = HasConstant objects v (constant_of l)

-- these objects are those of constants, one of each in order
abbrev pub AreConstants : List Payload → List Obj → List Literal → Type 0
AreConstants objects vs literals = HaveConstants objects (length objects) vs (in_order (map constant_of literals))

-- the call of an object with these arguments asks this, by what the object is
abbrev pub IsCall : List Payload → Obj → List Obj → Request → Type 0
IsCall objects callee args request = (p : Payload) × HasPayload objects callee p × (request ≡ call_request p callee args)
