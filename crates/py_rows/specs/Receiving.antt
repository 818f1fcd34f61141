-- What a frame does by what it hears, an equation an instruction that waits.
use Rattle.std.specs.Prelude.{ℕ, zero, suc, Option, Some, None, List, [], ◌∷◌, ◌++◌, slice_get, length, Bool, not, option_map, if◌then◌else◌}
use Rattle.py_code.specs.declared.instruction.Instruction.{Instruction}
use Rattle.py_code.specs.declared.instruction.Instruction.TheVariants.{CallFunctionPositional, JumpIfTrue, JumpIfFalse, SetupWith, WithCleanupStart, WithCleanupFinish, Raise, YieldValue}
use Rattle.py_code.specs.declared.unit.CodeUnit.{CodeUnit}
use Rattle.py_code.specs.declared.operator.RaiseKind.{RaiseKind}
use Rattle.py_code.specs.declared.operator.RaiseKind.TheVariants as raise
use Rattle.py_code.specs.Operators.{raise_kinds}
use Rattle.py_code.specs.Units.{with_byte}
use Rattle.py_objects.specs.declared.request.Request.{Request}
use Rattle.py_objects.specs.declared.request.Request.TheVariants as request
use Rattle.py_objects.specs.declared.event.GotAnswer.{GotAnswer}
use Rattle.py_objects.specs.declared.event.GotAnswer.TheVariants as got
use Rattle.py_objects.specs.Objects.{Obj, as_exception}
use Rattle.py_check.specs.Effects.{Effect, Moves, AsksOnce, Takes, Other}
use Rattle.py_rows.specs.Table.{row_effect}
use Rattle.py_check.specs.Taking.{at_place}
use Rattle.py_rows.specs.declared.block.BlockType.TheVariants.{Finally}
use Rattle.py_rows.specs.declared.block.UnwindReason.TheVariants as reason
use Rattle.py_rows.specs.declared.expect.Expect.{Expect}
use Rattle.py_rows.specs.declared.expect.Expect.TheVariants as expect
use Rattle.py_rows.specs.States.{Setting, State, Step, Goes, Stuck, Move, Plainly, Decides, Manages, next, waiting, with_stack, pushed, opened, jumps}
use Rattle.py_rows.specs.Unwinding.{unwinds}
use Rattle.py_rows.specs.Answers.{wanted}
use Rattle.py_rows.specs.Rows.{asks, takes_off, advance}

-- a jump that is made, or control goes on behind it
abbrev pub jumps_if : Bool → ℕ → State → Step
jumps_if b to s = if b then jumps to s else Goes (next s)

-- a manager is entered, and its exit, which is itself, stays under the block
abbrev pub entered : ℕ → Obj → State → Step
entered to v s = Goes (pushed v (opened (record { typ = Finally to; level = length s.stack }) (next s)))

-- an exception that waited goes no further, or on
abbrev pub passes_if : Bool → Obj → State → Step
passes_if b e s = if b then Goes (next s) else unwinds (reason.Raising (as_exception e)) s

-- what the table of effects says of an answer
abbrev pub answered_by : Effect → Move → Obj → State → Move
answered_by (Moves n places) own v s = Plainly Stuck
answered_by (AsksOnce wanted pushes) own v s = Plainly (Goes (with_stack (at_place (option_map (λ k. v) pushes) ++ s.stack) (next s)))
answered_by (Takes n pushes) own v s = own
answered_by Other own v s = own

-- the next question of a unit
abbrev pub asks_again : Request → State → Step
asks_again r s = asks r (record s { phase = suc s.phase })

-- an object, the top, was entered; one that is no manager has no exit, which is asked for next
abbrev pub enters_top : List Obj → ℕ → Obj → State → Move
enters_top [] to v s = Plainly Stuck
enters_top (m ∷ rest) to v s = Manages m (λ b. if b then entered to v s else asks_again (request.NoExit m) s)

-- only the first answer is a value
abbrev pub enters : ℕ → ℕ → Obj → State → Move
enters zero to v s = enters_top s.stack to v s
enters (suc n) to v s = Plainly Stuck

-- a raise with a cause: the exception is asked for behind the cause, and raised
abbrev pub causes : ℕ → Obj → State → Step
causes zero v s = takes_off s.stack (λ w rest. asks_again (request.Raisable w) (with_stack rest s))
causes (suc n) v s = unwinds (reason.Raising (as_exception v)) s

-- what was asked for is raised
abbrev pub raised : Option RaiseKind → Obj → State → Step
raised None v s = Stuck
raised (Some raise.Reraise) v s = unwinds (reason.Raising (as_exception v)) s
raised (Some raise.Raise) v s = unwinds (reason.Raising (as_exception v)) s
raised (Some raise.RaiseCause) v s = causes s.phase v s

-- what the unit that asked, or that yielded, does with the value that it is answered or sent
abbrev pub answered_own : Instruction → ℕ → Obj → State → Move
answered_own CallFunctionPositional k v s = Plainly (Goes (pushed v (next s)))
answered_own JumpIfTrue to v s = Decides v (λ b. jumps_if b to s)
answered_own JumpIfFalse to v s = Decides v (λ b. jumps_if (not b) to s)
answered_own SetupWith to v s = enters s.phase to v s
answered_own WithCleanupStart i v s = Plainly (Goes (pushed v (next s)))
answered_own WithCleanupFinish i v s = Decides v (λ b. takes_off s.stack (λ e rest. passes_if b e (with_stack rest s)))
answered_own Raise i v s = Plainly (raised (slice_get raise_kinds i) v s)
answered_own YieldValue i v s = Plainly (Goes (pushed v (next s)))
answered_own _ i v s = Plainly Stuck

-- the same of each instruction
abbrev pub answered : Instruction → ℕ → Obj → State → Move
answered op i v s = answered_by (row_effect op i) (answered_own op i v s) v s

-- the same of a unit, with its operand
abbrev pub unit_answered : Option CodeUnit → Obj → State → Move
unit_answered None v s = Plainly Stuck
unit_answered (Some u) v s = answered u.op (with_byte s.prefix u.arg) v s

-- what a frame does by what it heard: a value goes to the unit that waited for it, an exception is raised there
abbrev pub receive : Setting → GotAnswer → State → Move
receive setting (got.Value v) s = unit_answered (slice_get setting.code.code.instructions.items s.at) v (waiting expect.Go s)
receive setting (got.Raise e) s = Plainly (unwinds (reason.Raising e) (waiting expect.Go s))
receive setting (got.Stop v) s = Plainly Stuck

-- what a frame does that expects no input
abbrev pub moves : Setting → Expect → State → Move
moves setting expect.Start s = Plainly Stuck
moves setting expect.Go s = advance setting s
moves setting (expect.Answer w) s = Plainly Stuck
moves setting expect.Resume s = Plainly Stuck
moves setting (expect.Heard w) s = receive setting w s
moves setting expect.Ended s = Plainly Stuck
