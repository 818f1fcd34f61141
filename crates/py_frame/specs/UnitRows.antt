-- What units do, by their arguments: rows on a state, and moves of a frame by the code that it runs.
use Rattle.std.specs.Prelude.{ℕ, Bool, Option, None, ◌∷◌, slice_get}
use Rattle.py_code.specs.Literals.{literals_of}
use Rattle.py_code.specs.Operators.{raise_kinds, test_operators}
use Rattle.py_code.specs.declared.instruction.Instruction.{Instruction}
use Rattle.py_code.specs.declared.literal.Literal.{Literal}
use Rattle.py_code.specs.declared.unit.CodeUnit.{CodeUnit}
use Rattle.py_objects.specs.declared.refs.PyBaseExceptionRef.{PyBaseExceptionRef}
use Rattle.py_objects.specs.declared.event.GotAnswer.{GotAnswer}
use Rattle.py_objects.specs.Objects.{Obj, Name}
use Rattle.py_rows.specs.Table.{row_effect}
use Rattle.py_rows.specs.declared.block.Block.{Block}
use Rattle.py_rows.specs.declared.block.BlockType.TheVariants as typ
use Rattle.py_rows.specs.declared.block.UnwindReason.{UnwindReason}
use Rattle.py_rows.specs.declared.block.UnwindReason.TheVariants as reason
use Rattle.py_rows.specs.Asked.{asked, name_in, on_two, tests}
use Rattle.py_rows.specs.Receiving.{answered, causes, enters, moves, passes_if, raised, receive}
use Rattle.py_rows.specs.Rows.{act, advance, asks_exit, asks_once, call_function, delete_fast, load_fast, loads, opens, pop_block, pop_exception, raised_in, raises, takes_off}
use Rattle.py_rows.specs.States.{State, Step, Goes, Stuck, Move, Exits, next, pushed, with_stack}
use Rattle.py_rows.specs.Unwinding.{meets_except, meets_finally, unwind, unwinds}
use Rattle.py_frame.specs.Frames.{Framed, NamedCode, parts, setting}
use Rattle.py_frame.specs.UnitSteps.{asks_by, moves_by}

-- the unit that a frame runs or runs next
abbrev pub unit_at : NamedCode → Framed → Option CodeUnit
unit_at scene f = slice_get (parts scene).instructions.items f.state.at

-- the name of a local
abbrev pub local_name : NamedCode → ℕ → Option Name
local_name scene place = name_in scene.names (slice_get (parts scene).varnames.items place)

-- the name of a global
abbrev pub global_name : NamedCode → ℕ → Option Name
global_name scene place = name_in scene.names (slice_get (parts scene).names.items place)

-- the constant at a place
abbrev pub constant_at : NamedCode → ℕ → Option Literal
constant_at scene place = slice_get (literals_of (parts scene).constants) place

-- goes on behind the unit
abbrev pub goes : State → Step
goes s = Goes (next s)

-- goes on with one more value
abbrev pub pushes : Obj → State → Step
pushes v s = Goes (pushed v (next s))

-- goes on with an argument for the next unit
abbrev pub extends : ℕ → State → Step
extends arg s = Goes (record (next s) { prefix = arg })

-- pushes a local, or asks for one that is unset
abbrev pub loads_local : NamedCode → ℕ → State → Step
loads_local scene place s = load_fast (local_name scene place) (slice_get s.locals place) s

-- unsets a local, or asks for one that is unset
abbrev pub deletes_local : NamedCode → ℕ → State → Step
deletes_local scene place s = delete_fast (local_name scene place) place (slice_get s.locals place) s

-- moves entries as the table of effects says
abbrev pub moves_as : Instruction → ℕ → State → Step
moves_as op arg s = moves_by (row_effect op arg) s

-- asks once, as the table of effects says
abbrev pub asks_as : NamedCode → Framed → Instruction → ℕ → State → Step
asks_as scene f op arg s = asks_by (row_effect op arg) (asked (setting scene f) op arg) s

-- asks a test of two operands
abbrev pub asks_test : ℕ → State → Step
asks_test arg s = asks_once 2 (λ vs. on_two (λ a b. tests (slice_get test_operators arg) a b) vs) s

-- begins a raise of the kind that a number stands for
abbrev pub raises_as : ℕ → State → Step
raises_as kind s = raises (slice_get raise_kinds kind) s

-- goes on with it by an answer
abbrev pub raises_on : ℕ → Obj → State → Step
raises_on kind v s = raised (slice_get raise_kinds kind) v s

-- the same of a raise with a cause
abbrev pub causes_with : Obj → State → Step
causes_with v s = causes s.phase v s

-- opens the block of a handler that control came to in order
abbrev pub opens_handler : State → Step
opens_handler s = opens (typ.FinallyHandler None s.slot) s

-- leaves the innermost block in order
abbrev pub leaves_block : State → Step
leaves_block s = pop_block s.blocks s

-- leaves the handler of an exception
abbrev pub leaves_handler : State → Step
leaves_handler s = pop_exception s.blocks s

-- tells an exit a class, an exception and a traceback
abbrev pub tells_exit : Obj → Obj → Obj → State → Step
tells_exit t v b s = asks_exit s t v b

-- lets the exception on the top go no further, or on
abbrev pub passes_top : Bool → State → Step
passes_top stops s = takes_off s.stack (λ e rest. passes_if stops e (with_stack rest s))

-- enters the handler of a try by an exception
abbrev pub catches : ℕ → ℕ → PyBaseExceptionRef → State → Step
catches handler level e s = meets_except (reason.Raising e) handler level s.blocks s (λ t. Stuck)

-- enters the handler of a finally for a reason
abbrev pub enters_handler : ℕ → ℕ → UnwindReason → State → Step
enters_handler handler level r s = meets_finally r handler level s.blocks s

-- leaves blocks for a reason, of which this is the innermost one
abbrev pub meets_block : UnwindReason → Block → State → Step
meets_block r b s = unwind r (b ∷ s.blocks) (record s { blocks = b ∷ s.blocks })

-- what a frame does that expects no input
abbrev pub moves_on : NamedCode → Framed → Move
moves_on scene f = moves (setting scene f) f.state.wants f.state

-- what the unit that comes next does
abbrev pub advances : NamedCode → Framed → Move
advances scene f = advance (setting scene f) f.state

-- what an instruction does with its whole argument
abbrev pub acts : NamedCode → Instruction → ℕ → Framed → Move
acts scene op arg f = act (setting scene f) op arg f.state

-- what a frame does by what it heard
abbrev pub takes : NamedCode → GotAnswer → Framed → Move
takes scene heard f = receive (setting scene f) heard f.state

-- what an instruction does with a value that answers it
abbrev pub answers : Instruction → ℕ → Obj → Framed → Move
answers op arg v f = answered op arg v f.state

-- calls what lies under so many arguments
abbrev pub calls : ℕ → Framed → Move
calls count f = call_function count f.state

-- pushes a constant
abbrev pub loading : NamedCode → ℕ → Framed → Move
loading scene place f = loads (constant_at scene place) (λ v. pushes v f.state)

-- returns a constant
abbrev pub returning : NamedCode → ℕ → Framed → Move
returning scene place f = loads (constant_at scene place) (λ v. unwinds (reason.Returning v) f.state)

-- asks the exit of a manager, with what its block holds
abbrev pub starts_cleanup : Framed → Move
starts_cleanup f = Exits (raised_in f.state.blocks) (λ t v b. asks_exit f.state t v b)

-- enters a manager, by what it answered
abbrev pub entering : ℕ → Obj → Framed → Move
entering handler v f = enters f.state.phase handler v f.state
