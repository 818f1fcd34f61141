-- Frames that leave blocks, worked by hand.
use Rattle.std.specs.Prelude.{ℕ, Option, Some, None, List, [], ◌∷◌, ◌≡◌}
use Rattle.py_code.specs.declared.instruction.Instruction.{Instruction}
use Rattle.py_check.specs.declared.note.Kind.TheVariants as kind
use Rattle.py_objects.specs.declared.refs.PyBaseExceptionRef.{PyBaseExceptionRef}
use Rattle.py_objects.specs.declared.event.Ending.TheVariants as ending
use Rattle.py_objects.specs.Objects.{Obj, as_object}
use Rattle.py_objects.specs.declared.request.Request.TheVariants as request
use Rattle.py_objects.specs.Own.{Asks, Rounds, Ends}
use Rattle.py_rows.specs.declared.block.Block.{Block}
use Rattle.py_rows.specs.declared.block.BlockType.{BlockType}
use Rattle.py_rows.specs.declared.block.BlockType.TheVariants.{Loop, TryExcept, Finally, FinallyHandler, ExceptHandler}
use Rattle.py_rows.specs.declared.block.UnwindReason.{UnwindReason}
use Rattle.py_rows.specs.declared.block.UnwindReason.TheVariants as reason
use Rattle.py_rows.specs.declared.expect.Expect.TheVariants as expect
use Rattle.py_rows.specs.declared.expect.Wanted.TheVariants as want
use Rattle.py_rows.specs.Rows.{act}
use Rattle.py_rows.specs.States.{Setting, State, Step, Goes, Plainly, Tells}
use Rattle.py_rows.specs.Unwinding.{unwinds}

-- a block at a level
abbrev pub block : BlockType → ℕ → Block
block typ level = record { typ = typ; level = level }

-- the object with a number
abbrev pub object : ℕ → Obj
object n = record { number = n }

-- the same as an exception that is handled
abbrev pub handling : ℕ → Option PyBaseExceptionRef
handling n = Some (record { number = n })

-- why blocks are left: exception 10 is raised, object 11 is returned, control goes behind a loop to 7, or to its next round at 3
abbrev pub raises : UnwindReason
raises = reason.Raising (record { number = 10 })

abbrev pub returns : UnwindReason
returns = reason.Returning (object 11)

abbrev pub breaks : UnwindReason
breaks = reason.Break 7

abbrev pub continues : UnwindReason
continues = reason.Continue 3

-- a frame whose unit at 5 runs, with these values, the top first, and blocks, and what it handles
abbrev pub running : List Obj → List Block → Option PyBaseExceptionRef → State
running stack blocks slot = record { at = 5; last = 6; prefix = 0; stack = stack; blocks = blocks; locals = []; slot = slot; phase = 0; wants = expect.Go }

-- a loop, and in it, over one value, a try whose handler is at 9
abbrev pub around : List Block
around = block (TryExcept 9) 1 ∷ block Loop 0 ∷ []

-- in these, over two values, this block, with one more value above it, while exception 20 is handled
abbrev pub inside : BlockType → State
inside typ = running (object 3 ∷ object 2 ∷ object 1 ∷ []) (block typ 2 ∷ around) (handling 20)

-- the same in the handler of a finally that was entered for a reason, while exception 21 was handled
abbrev pub finishing : Option UnwindReason → State
finishing r = inside (FinallyHandler r (handling 21))

-- the blocks around are left for a reason, while this is handled: the try takes what is raised, the loop a break and a continue, and a
-- return ends the frame
abbrev pub leaves_around : UnwindReason → Option PyBaseExceptionRef → Step
leaves_around (reason.Raising e) slot = Goes (record (running (as_object e ∷ object 1 ∷ []) (block (ExceptHandler e slot) 1 ∷ block Loop 0 ∷ []) (Some e)) { at = 9 })
leaves_around (reason.Returning v) slot = Tells (Ends 5 (ending.Return v)) (record (running [] [] slot) { wants = expect.Ended })
leaves_around (reason.Break to) slot = Goes (record (running [] [] slot) { at = to })
leaves_around (reason.Continue to) slot = Tells (Rounds 5) (record (running (object 1 ∷ []) (block Loop 0 ∷ []) slot) { at = to })

-- the handler at 8 of a finally is entered for a reason, and this is handled then
abbrev pub enters_finally : UnwindReason → Option PyBaseExceptionRef → Step
enters_finally r slot = Goes (record (running (object 2 ∷ object 1 ∷ []) (block (FinallyHandler (Some r) (handling 20)) 2 ∷ around) slot) { at = 8 })

-- control goes on behind the unit, with these values, in what is around, where this is handled
abbrev pub goes_behind : List Obj → Option PyBaseExceptionRef → Step
goes_behind stack slot = Goes (record (running stack around slot) { at = 6 })

-- the value that lies lowest, and the two that lie under the block inside
abbrev pub lowest : List Obj
lowest = object 1 ∷ []

abbrev pub below : List Obj
below = object 2 ∷ lowest

-- inside is the handler of an except that handles exception 20, while 21 was handled before
abbrev pub catching : State
catching = inside (ExceptHandler (record { number = 20 }) (handling 21))

-- the block inside and those around it are left for a reason, while this exception is handled
abbrev pub Passes : UnwindReason → State → ℕ → Type 0
Passes r s e = unwinds r s ≡ leaves_around r (handling e)

-- the block inside is a finally, which is entered for a reason, and this exception is handled then
abbrev pub Enters : UnwindReason → ℕ → Type 0
Enters r e = unwinds r (inside (Finally 8)) ≡ enters_finally r (handling e)

-- the handler at 8 of an except is entered for exception 10
abbrev pub enters_except : Step
enters_except = Goes (record (running (object 10 ∷ below) (block (ExceptHandler (record { number = 10 }) (handling 20)) 2 ∷ around) (handling 10)) { at = 8 })

-- control leaves the loop inside, to 7
abbrev pub leaves_loop : Step
leaves_loop = Goes (record (running below around (handling 20)) { at = 7 })

-- the loop inside begins its next round, at 3
abbrev pub next_round : Step
next_round = Tells (Rounds 5) (record (inside Loop) { at = 3 })

-- a unit without an operand makes a step plainly, in each code
abbrev pub Acts : Instruction → State → Step → Type 0
Acts op s step = (setting : Setting) → act setting op 0 s ≡ Plainly step

-- behind that step control goes on behind the unit, with these values, while this exception is handled
abbrev pub GoesBehind : Instruction → State → List Obj → ℕ → Type 0
GoesBehind op s values e = Acts op s (goes_behind values (handling e))

-- a unit ends the handler of a finally that was entered for a reason, and this goes on
abbrev pub GoesOn : Instruction → UnwindReason → Type 0
GoesOn op r = Acts op (finishing (Some r)) (leaves_around r (handling 21))

-- a manager's exit lies on top in the handler of a finally that was entered for a raise
abbrev pub exiting : State
exiting = record (finishing (Some raises)) { stack = below }

-- it is called with these three
abbrev pub calls_exit : Obj → Obj → Obj → Step
calls_exit t v b = Tells (Asks 5 (request.Exit (object 2) t v b) (handling 10)) (record exiting { wants = expect.Answer (want.Of kind.Any) })

-- whether what it answered is true is asked, with the exception on top
abbrev pub asks_truth : Step
asks_truth = Tells (Asks 5 (request.Truth (object 3)) None) (record (running (object 10 ∷ lowest) around (handling 21)) { wants = expect.Answer want.Truth })

-- and that is answered
abbrev pub exited : State
exited = running lowest around (handling 21)
