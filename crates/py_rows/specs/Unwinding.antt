-- What leaving blocks does, for each kind of block and each reason.
use Rattle.std.specs.Prelude.{ℕ, Option, Some, List, [], ◌∷◌}
use Rattle.py_objects.specs.declared.refs.PyBaseExceptionRef.{PyBaseExceptionRef}
use Rattle.py_objects.specs.declared.event.Ending.TheVariants as ending
use Rattle.py_objects.specs.Objects.{as_object}
use Rattle.py_objects.specs.Own.{Ends}
use Rattle.py_code.specs.Bottom.{bottom}
use Rattle.py_rows.specs.declared.block.Block.{Block}
use Rattle.py_rows.specs.declared.block.BlockType.{BlockType}
use Rattle.py_rows.specs.declared.block.BlockType.TheVariants.{Loop, TryExcept, Finally, FinallyHandler, ExceptHandler}
use Rattle.py_rows.specs.declared.block.UnwindReason.{UnwindReason}
use Rattle.py_rows.specs.declared.block.UnwindReason.TheVariants as reason
use Rattle.py_rows.specs.declared.expect.Expect.TheVariants as expect
use Rattle.py_rows.specs.States.{State, Step, Tells, Stuck, waiting, jumps}
use Rattle.py_rows.specs.Handled.{entered_by}

-- a block is left, with the values above its level, and these are the blocks around it
abbrev pub left : ℕ → List Block → State → State
left level outer s = record s { stack = bottom level s.stack; blocks = outer }

-- a handler is left, and the slot is as before it
abbrev pub left_handler : ℕ → Option PyBaseExceptionRef → List Block → State → State
left_handler level kept outer s = record s { stack = bottom level s.stack; blocks = outer; slot = kept }

-- no block is left
abbrev pub ends : UnwindReason → State → Step
ends (reason.Raising e) s = Tells (Ends s.at (ending.Raise e)) (waiting expect.Ended s)
ends (reason.Returning v) s = Tells (Ends s.at (ending.Return v)) (waiting expect.Ended s)
ends (reason.Break to) s = Stuck
ends (reason.Continue to) s = Stuck

-- a loop is met; `on` is what comes where it is passed
abbrev pub meets_loop : UnwindReason → ℕ → List Block → State → (State → Step) → Step
meets_loop (reason.Raising e) level outer s on = on (left level outer s)
meets_loop (reason.Returning v) level outer s on = on (left level outer s)
meets_loop (reason.Break to) level outer s on = jumps to (left level outer s)
meets_loop (reason.Continue to) level outer s on = jumps to s

-- a try is met: its handler takes what is raised
abbrev pub meets_except : UnwindReason → ℕ → ℕ → List Block → State → (State → Step) → Step
meets_except (reason.Raising e) handler level outer s on =
    jumps handler (record s { stack = as_object e ∷ bottom level s.stack; blocks = record { typ = ExceptHandler e s.slot; level = level } ∷ outer; slot = Some e })
meets_except (reason.Returning v) handler level outer s on = on (left level outer s)
meets_except (reason.Break to) handler level outer s on = on (left level outer s)
meets_except (reason.Continue to) handler level outer s on = on (left level outer s)

-- a finally is met: its handler takes every reason
abbrev pub meets_finally : UnwindReason → ℕ → ℕ → List Block → State → Step
meets_finally r handler level outer s =
    jumps handler (record s { stack = bottom level s.stack; blocks = record { typ = FinallyHandler (Some r) s.slot; level = level } ∷ outer; slot = entered_by r s.slot })

-- a block is met, with those around it; handlers are left, with what they kept
abbrev pub meets : UnwindReason → BlockType → ℕ → List Block → State → (State → Step) → Step
meets r Loop level outer s on = meets_loop r level outer s on
meets r (TryExcept handler) level outer s on = meets_except r handler level outer s on
meets r (Finally handler) level outer s on = meets_finally r handler level outer s
meets r (FinallyHandler old kept) level outer s on = on (left_handler level kept outer s)
meets r (ExceptHandler e kept) level outer s on = on (left_handler level kept outer s)

-- these blocks, which are the state's, are left, the innermost first
abbrev pub unwind : UnwindReason → List Block → State → Step
unwind r [] s = ends r s
unwind r (b ∷ outer) s = meets r b.typ b.level outer s (λ t. unwind r outer t)

-- the blocks of a state are left for a reason
unfoldable pub unwinds : UnwindReason → State → Step
unwinds r s = unwind r s.blocks s
