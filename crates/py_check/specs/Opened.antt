-- Blocks with one that a unit opens.
use Rattle.std.specs.Prelude.{List, [], ◌∷◌, Bool, false, ◌&&◌, ◌==◌}
use Rattle.py_check.specs.declared.note.BlockNote.{BlockNote}
use Rattle.py_check.specs.declared.note.BlockNote.TheVariants as block
use Rattle.py_check.specs.declared.opened.Opened.{Opened}
use Rattle.py_check.specs.declared.opened.Opened.TheVariants as opened

-- these blocks, with the one that is opened inside of them, if any
abbrev pub inside : Opened → List BlockNote → List BlockNote
inside opened.Nothing blocks = blocks
inside (opened.Loop level) blocks = block.Loop level ∷ blocks
inside (opened.TryExcept level handler) blocks = block.TryExcept level handler ∷ blocks
inside (opened.Finally level handler) blocks = block.Finally level handler ∷ blocks
inside (opened.FinallyHandler level) blocks = block.FinallyHandler level [] ∷ blocks
inside (opened.ExceptHandler level) blocks = block.ExceptHandler level ∷ blocks

-- the block that a unit opens has the form, the level and the handler of another
abbrev pub opens : Opened → BlockNote → Bool
opens (opened.Loop level) (block.Loop wanted) = level == wanted
opens (opened.TryExcept level handler) (block.TryExcept wanted label) = (level == wanted) && (handler == label)
opens (opened.Finally level handler) (block.Finally wanted label) = (level == wanted) && (handler == label)
opens (opened.FinallyHandler level) (block.FinallyHandler wanted waiting) = level == wanted
opens (opened.ExceptHandler level) (block.ExceptHandler wanted) = level == wanted
opens _ _ = false
