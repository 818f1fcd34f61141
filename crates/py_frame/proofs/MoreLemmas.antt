-- What names objects among the first ones goes on to do so as more come.
use Rattle.std.proofs.Common.{◌≤◌, ℕ, List, [], ◌∷◌, None, Some, arith}
use Rattle.std.specs.Prelude.{Option}
use Rattle.py_objects.specs.Objects.{number_if}
use Rattle.py_rows.specs.declared.block.Block.{Block}
use Rattle.py_rows.specs.declared.block.BlockType.{BlockType}
use Rattle.py_rows.specs.declared.block.BlockType.TheVariants.{Loop, TryExcept, Finally, FinallyHandler, ExceptHandler}
use Rattle.py_rows.specs.declared.block.UnwindReason.{UnwindReason}
use Rattle.py_rows.specs.declared.block.UnwindReason.TheVariants as reason
use Rattle.py_rows.specs.declared.expect.Expect.{Expect}
use Rattle.py_rows.specs.declared.expect.Expect.TheVariants as expect
use Rattle.py_rows.specs.States.{State}
use Rattle.py_rows.specs.Below.{IfBelow, TypeBelow, BlocksBelow, ExpectBelow, HoldsBelow}
use Rattle.py_objects.proofs.GrowthLemmas.{below_more}

module _ (n m : ℕ) (more : n ≤ m) where
  reason_more : (r : Option UnwindReason) → IfBelow n r → IfBelow m r
  reason_more None low = tt
  reason_more (Some (reason.Raising e)) low = omega (arith, low, more)
  reason_more (Some (reason.Returning v)) low = omega (arith, low, more)
  reason_more (Some (reason.Break to)) low = tt
  reason_more (Some (reason.Continue to)) low = tt

  type_more : (typ : BlockType) → TypeBelow n typ → TypeBelow m typ
  type_more Loop low = tt
  type_more (TryExcept handler) low = tt
  type_more (Finally handler) low = tt
  type_more (FinallyHandler r kept) low = (reason_more r low.0, below_more n m (number_if kept) more low.1)
  type_more (ExceptHandler e kept) low = (omega (arith, low.0, more), below_more n m (number_if kept) more low.1)

  blocks_more : (blocks : List Block) → BlocksBelow n blocks → BlocksBelow m blocks
  blocks_more [] low = tt
  blocks_more (b ∷ blocks) low = (type_more b.typ low.0, blocks_more blocks low.1)

  expect_more : (x : Expect) → ExpectBelow n x → ExpectBelow m x
  expect_more (expect.Heard w) low = below_more n m _ more low
  expect_more _ low = tt

  -- all that a frame holds
  pub holds_more : (s : State) → HoldsBelow n s → HoldsBelow m s
  holds_more s low = record {
    in_stack = below_more n m _ more low.in_stack;
    in_locals = λ i v is. omega (arith, low.in_locals i v is, more);
    in_blocks = blocks_more s.blocks low.in_blocks;
    in_slot = below_more n m _ more low.in_slot;
    in_wants = expect_more s.wants low.in_wants;
  }
