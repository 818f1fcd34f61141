-- How the slot of the handled exception follows the blocks.
use Rattle.std.specs.Prelude.{Option, List, [], ◌∷◌, ◌≡◌}
use Rattle.py_objects.specs.declared.refs.PyBaseExceptionRef.{PyBaseExceptionRef}
use Rattle.py_rows.specs.declared.block.Block.{Block}
use Rattle.py_rows.specs.declared.block.BlockType.{BlockType}
use Rattle.py_rows.specs.declared.block.BlockType.TheVariants.{Loop, TryExcept, Finally, FinallyHandler, ExceptHandler}
use Rattle.py_rows.specs.States.{State}
use Rattle.py_rows.specs.Handled.{handled_in}

-- a handler keeps what is handled outside of it
abbrev pub Keeps : BlockType → Option PyBaseExceptionRef → Type 0
Keeps Loop outer = Unit {0}
Keeps (TryExcept handler) outer = Unit {0}
Keeps (Finally handler) outer = Unit {0}
Keeps (FinallyHandler r kept) outer = kept ≡ outer
Keeps (ExceptHandler e kept) outer = kept ≡ outer

-- so does each block
abbrev pub AllKeep : Option PyBaseExceptionRef → List Block → Type 0
AllKeep first [] = Unit {0}
AllKeep first (b ∷ blocks) = Keeps b.typ (handled_in first blocks) × AllKeep first blocks

-- the slot holds what is handled, where it held this at first
pub record KeepsSlot (first : Option PyBaseExceptionRef) (s : State) : Type 0 where
  pub slot : s.slot ≡ handled_in first s.blocks
  pub outer : AllKeep first s.blocks
