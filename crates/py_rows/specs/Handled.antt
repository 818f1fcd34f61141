-- Which exception is handled inside blocks.
use Rattle.std.specs.Prelude.{Option, Some, None, List, [], ◌∷◌}
use Rattle.py_objects.specs.declared.refs.PyBaseExceptionRef.{PyBaseExceptionRef}
use Rattle.py_rows.specs.declared.block.Block.{Block}
use Rattle.py_rows.specs.declared.block.BlockType.{BlockType}
use Rattle.py_rows.specs.declared.block.BlockType.TheVariants.{Loop, TryExcept, Finally, FinallyHandler, ExceptHandler}
use Rattle.py_rows.specs.declared.block.UnwindReason.{UnwindReason}
use Rattle.py_rows.specs.declared.block.UnwindReason.TheVariants as reason

-- what is handled in a finally that was entered for a reason
abbrev pub entered_by : UnwindReason → Option PyBaseExceptionRef → Option PyBaseExceptionRef
entered_by (reason.Raising e) outer = Some e
entered_by (reason.Returning v) outer = outer
entered_by (reason.Break to) outer = outer
entered_by (reason.Continue to) outer = outer

-- the same of a reason, if any
abbrev pub entered_if : Option UnwindReason → Option PyBaseExceptionRef → Option PyBaseExceptionRef
entered_if None outer = outer
entered_if (Some r) outer = entered_by r outer

-- what is handled in a block
abbrev pub handled_by : BlockType → Option PyBaseExceptionRef → Option PyBaseExceptionRef
handled_by Loop outer = outer
handled_by (TryExcept handler) outer = outer
handled_by (Finally handler) outer = outer
handled_by (FinallyHandler r kept) outer = entered_if r outer
handled_by (ExceptHandler e kept) outer = Some e

-- the exception of the innermost handler that was entered by one, else the one that is handled outside
abbrev pub handled_in : Option PyBaseExceptionRef → List Block → Option PyBaseExceptionRef
handled_in first [] = first
handled_in first (b ∷ blocks) = handled_by b.typ (handled_in first blocks)
