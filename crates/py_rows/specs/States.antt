-- States of frames, and what a step leads to.
use Rattle.std.specs.Prelude.{ℕ, suc, Bool, Option, List, ◌∷◌, ◌≡◌, length, if◌then◌else◌, nat_lt}
use Rattle.py_code.specs.declared.code.PyCode.{PyCode}
use Rattle.py_code.specs.Literals.{Constant}
use Rattle.py_objects.specs.declared.refs.PyBaseExceptionRef.{PyBaseExceptionRef}
use Rattle.py_objects.specs.declared.payload.Payload.{Payload}
use Rattle.py_objects.specs.Objects.{Obj}
use Rattle.py_objects.specs.Own.{Own, Rounds}
use Rattle.py_objects.specs.Telling.{ThrowTest}
use Rattle.py_rows.specs.declared.block.Block.{Block}
use Rattle.py_rows.specs.declared.expect.Expect.{Expect}
use Rattle.py_rows.specs.declared.expect.Expect.TheVariants as expect

-- what the units of a frame refer to, its code and what its function has beside it, and under what exceptions are thrown into it
pub record Setting : Type 0 where
  pub code : PyCode
  pub names : List (List ℕ)  -- the table that its names are places in, in UTF-8
  pub globals : Obj  -- the dict of its globals
  pub closure : List Obj  -- the cells of the bodies around, one for each free name of the code
  pub throws_under : ThrowTest  -- whether the event of a number may throw in while this is handled

-- each free name has a cell
abbrev pub IsClosed : Setting → Type 0
IsClosed setting = length setting.closure ≡ length setting.code.code.freevars.items

-- what a frame stands at
pub record State : Type 0 where
  pub at : ℕ  -- the unit that runs or comes next
  pub last : ℕ  -- the place behind the last unit that was begun, 0 where none was
  pub prefix : ℕ  -- what the prefixes in front of that unit carry
  pub stack : List Obj  -- the top first
  pub blocks : List Block  -- the innermost first
  pub locals : List (Option Obj)
  pub slot : Option PyBaseExceptionRef  -- the exception that is handled, by this frame or by one that it shares the slot with
  pub phase : ℕ  -- how many answers the unit that runs has had, where it asks again
  pub wants : Expect  -- Go where the unit runs

-- another state silently, another state behind an event, or nothing that has a meaning
pub data Step : Type 0 where
  Goes : State → Step
  Tells : Own → State → Step
  Stuck : Step

-- a step, which may need an object of a constant, go by which truth value an object is, by whether it is a manager or by its payload, or
-- need an exception's class and traceback
pub data Move : Type 0 where
  Plainly : Step → Move
  Loads : Constant → (Obj → Step) → Move
  Decides : Obj → (Bool → Step) → Move
  Manages : Obj → (Bool → Step) → Move
  Resolves : Obj → (Payload → Step) → Move
  Exits : Option PyBaseExceptionRef → (Obj → Obj → Obj → Step) → Move

-- the unit runs
abbrev pub begun : State → State
begun s = record s { last = suc s.at; phase = 0; wants = expect.Go }

-- behind the unit that runs
abbrev pub next : State → State
next s = record s { at = suc s.at; prefix = 0 }

-- in front of the unit at a label
abbrev pub landed : ℕ → State → State
landed to s = record s { at = to; prefix = 0 }

-- it waits
abbrev pub waiting : Expect → State → State
waiting x s = record s { wants = x }

-- with another stack
abbrev pub with_stack : List Obj → State → State
with_stack stack s = record s { stack = stack }

-- with one more value
abbrev pub pushed : Obj → State → State
pushed v s = record s { stack = v ∷ s.stack }

-- a block is opened
abbrev pub opened : Block → State → State
opened b s = record s { blocks = b ∷ s.blocks }

-- a transfer of control by the unit that runs; one to a unit that isn't later is a round
abbrev pub jumps : ℕ → State → Step
jumps to s = if nat_lt s.at to then Goes (landed to s) else Tells (Rounds s.at) (landed to s)
