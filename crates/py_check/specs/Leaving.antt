-- Where control comes to that leaves blocks: after their ends, out of loops, out of handlers, and after the exit of a manager.
use Rattle.std.specs.Prelude.{ℕ, suc, nat_lt, List, [], ◌∷◌, length, drop, slice_get, Bool, true, false, ◌&&◌, ◌==◌, Option, Some}
use Rattle.std.specs.List.{list_all, list_any}
use Rattle.py_check.specs.declared.note.Kind.{Kind}
use Rattle.py_check.specs.declared.note.Kind.TheVariants.{Any, Exc}
use Rattle.py_check.specs.declared.note.Pending.{Pending}
use Rattle.py_check.specs.declared.note.Pending.TheVariants as pending
use Rattle.py_check.specs.declared.note.BlockNote.{BlockNote}
use Rattle.py_check.specs.declared.note.BlockNote.TheVariants.{Loop, TryExcept, Finally, FinallyHandler, ExceptHandler}
use Rattle.py_check.specs.declared.note.Note.{Note}
use Rattle.py_check.specs.declared.note.Note.TheVariants.{Live}
use Rattle.py_check.specs.Notes.{level_of, pending_of, same_pending}
use Rattle.py_check.specs.Landing.{goes_on, jumps, top_level}
use Rattle.py_check.specs.Taking.{reads}
use Rattle.py_code.specs.Bottom.{bottom}
use Rattle.py_check.specs.Sheet.{Sheet}

-- the blocks that end where control comes to their end
abbrev pub is_popped : BlockNote → Bool
is_popped (Loop level) = true
is_popped (TryExcept level handler) = true
is_popped (Finally level handler) = true
is_popped _ = false

-- the innermost block may end, with what lies above its level
abbrev pub leaves_block : Sheet → ℕ → List Kind → List BlockNote → Bool
leaves_block sheet to kinds [] = false
leaves_block sheet to kinds (b ∷ blocks) = is_popped b && goes_on sheet to (bottom (level_of b) kinds) blocks

-- the handler of a finally lets this jump wait
abbrev pub lets_wait : Option Note → Pending → Bool
lets_wait (Some (Live kinds (b ∷ blocks))) p = list_any (same_pending p) (pending_of b)
lets_wait _ p = false

-- a break lands after its loop, and a continue in it
abbrev pub reaches_loop : Sheet → Pending → ℕ → List Kind → List BlockNote → Bool
reaches_loop sheet (pending.Break to) level kinds blocks = jumps sheet to (bottom level kinds) blocks
reaches_loop sheet (pending.Continue to) level kinds blocks = jumps sheet to kinds (Loop level ∷ blocks)

-- a break or a continue finds its loop, or a finally whose handler lets it wait
abbrev pub walks : Sheet → Pending → List Kind → List BlockNote → Bool
walks sheet p kinds [] = false
walks sheet p kinds (Loop level ∷ blocks) = reaches_loop sheet p level kinds blocks
walks sheet p kinds (TryExcept level handler ∷ blocks) = walks sheet p (bottom level kinds) blocks
walks sheet p kinds (Finally level handler ∷ blocks) = lets_wait (slice_get sheet.notes handler) p
walks sheet p kinds (FinallyHandler level waiting ∷ blocks) = walks sheet p (bottom level kinds) blocks
walks sheet p kinds (ExceptHandler level ∷ blocks) = walks sheet p (bottom level kinds) blocks

-- a block that is the handler of a finally
abbrev pub is_finally_handler : BlockNote → Bool
is_finally_handler (FinallyHandler level waiting) = true
is_finally_handler _ = false

-- a block that is the handler of an except
abbrev pub is_except_handler : BlockNote → Bool
is_except_handler (ExceptHandler level) = true
is_except_handler _ = false

-- a finally ends with these kinds and blocks outside of it: control goes on, or each jump that may wait in it finds its way
abbrev pub ends_with : Sheet → ℕ → BlockNote → List Kind → List BlockNote → Bool
ends_with sheet to b kinds blocks = is_finally_handler b && goes_on sheet to kinds blocks && list_all (λ p. walks sheet p kinds blocks) (pending_of b)

-- the innermost block is the handler of a finally, and may end
abbrev pub ends_finally : Sheet → ℕ → List Kind → List BlockNote → Bool
ends_finally sheet to kinds [] = false
ends_finally sheet to kinds (b ∷ blocks) = ends_with sheet to b (bottom (level_of b) kinds) blocks

-- the innermost block is the handler of an except, and may end
abbrev pub leaves_handler : Sheet → ℕ → List Kind → List BlockNote → Bool
leaves_handler sheet to kinds [] = false
leaves_handler sheet to kinds (b ∷ blocks) = is_except_handler b && goes_on sheet to (bottom (level_of b) kinds) blocks

-- an exit, which lies right under the level of its finally, is called with nothing above it
abbrev pub starts_cleanup : Sheet → ℕ → List Kind → List BlockNote → Bool
starts_cleanup sheet to kinds [] = false
starts_cleanup sheet to kinds (b ∷ blocks) =
    is_finally_handler b && (length kinds == level_of b) && nat_lt (top_level blocks) (level_of b) && goes_on sheet to (Any ∷ kinds) (b ∷ blocks)

-- an exception goes, which lies alone above the level of its handler, and the iterator under it
abbrev pub ends_async : Sheet → ℕ → List Kind → List BlockNote → Bool
ends_async sheet to kinds [] = false
ends_async sheet to kinds (b ∷ blocks) =
    is_except_handler b && reads 0 Exc kinds && (length kinds == suc (level_of b)) && nat_lt (top_level blocks) (level_of b)
    && goes_on sheet to (drop 2 kinds) blocks

-- the answer of an exit goes, and the exit itself
abbrev pub ends_cleanup : Sheet → ℕ → List Kind → List BlockNote → Bool
ends_cleanup sheet to kinds [] = false
ends_cleanup sheet to kinds (b ∷ blocks) =
    (length kinds == suc (level_of b)) && nat_lt (top_level blocks) (level_of b) && ends_with sheet to b (drop 2 kinds) blocks
