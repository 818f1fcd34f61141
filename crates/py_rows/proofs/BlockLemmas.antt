-- Blocks that are as their notes say.
use Rattle.std.proofs.Common.{◌≡◌, ◌≤◌, ◌∙◌, ℕ, zero, suc, List, [], ◌∷◌, Bool, Option, None, Some, true, refl, ap, subst, length, arith}
use Rattle.std.specs.Prelude.{slice_get, max}
use Rattle.std.specs.List.{list_any, list_all}
use Rattle.std.proofs.lemmas.Bool.{and_parts}
use Rattle.py_objects.specs.declared.payload.Payload.{Payload}
use Rattle.py_check.specs.declared.note.Note.{Note}
use Rattle.py_check.specs.declared.note.Pending.{Pending}
use Rattle.py_check.specs.declared.note.Pending.TheVariants as pending
use Rattle.py_check.specs.declared.note.BlockNote.{BlockNote}
use Rattle.py_check.specs.Notes.{pending_of, same_pending, is_subset, block_fits, blocks_fit}
use Rattle.py_check.proofs.NoteLemmas.{Common, common, one_of}
use Rattle.py_check.specs.Depths.{block_count, deepest}
use Rattle.py_rows.specs.declared.block.Block.{Block}
use Rattle.py_rows.specs.declared.block.BlockType.{BlockType}
use Rattle.py_rows.specs.declared.block.BlockType.TheVariants.{Loop, TryExcept, Finally, FinallyHandler, ExceptHandler}
use Rattle.py_rows.specs.declared.block.UnwindReason.{UnwindReason}
use Rattle.py_rows.specs.declared.block.UnwindReason.TheVariants as reason
use Rattle.py_rows.specs.Fitting.{Admits, WaitsIn, MayWait, TypeWaits, IsBlock, AreBlocks}

-- a reason stays one that may be as the test that it passes is wider
pub admitted : (objects : List Payload) (test wider : Pending → Bool) → ((p : Pending) → test p ≡ true → wider p ≡ true) → (r : UnwindReason) → Admits objects test r → Admits objects wider r
admitted objects test wider on (reason.Raising e) admits = admits
admitted objects test wider on (reason.Returning v) admits = admits
admitted objects test wider on (reason.Break to) admits = on (pending.Break to) admits
admitted objects test wider on (reason.Continue to) admits = on (pending.Continue to) admits

-- what waits may, where all jumps that may wait pass a test
pub waiting_admitted : (objects : List Payload) (test : Pending → Bool) (ps : List Pending) (r : UnwindReason) → list_all test ps ≡ true → WaitsIn objects ps r → Admits objects test r
waiting_admitted objects test ps r all waits = admitted objects (λ p. list_any (same_pending p) ps) test (λ p any. one_of test p ps all any) r waits

if_fitted : (objects : List Payload) (ps qs : List Pending) (r : Option UnwindReason) → MayWait objects ps r → is_subset ps qs ≡ true → MayWait objects qs r
if_fitted objects ps qs None waits subset = tt
if_fitted objects ps qs (Some r) waits subset = waiting_admitted objects (λ p. list_any (same_pending p) qs) ps r subset waits

waits_fitted : (objects : List Payload) (ps qs : List Pending) (typ : BlockType) → TypeWaits objects ps typ → is_subset ps qs ≡ true → TypeWaits objects qs typ
waits_fitted objects ps qs Loop waits subset = tt
waits_fitted objects ps qs (TryExcept handler) waits subset = tt
waits_fitted objects ps qs (Finally handler) waits subset = tt
waits_fitted objects ps qs (FinallyHandler r kept) waits subset = if_fitted objects ps qs r waits subset
waits_fitted objects ps qs (ExceptHandler e kept) waits subset = waits

block_fitted : (objects : List Payload) (b : Block) (c d : BlockNote) → IsBlock objects b c → block_fits c d ≡ true → IsBlock objects b d
block_fitted objects b c d is fits =
    let both : Common c d = common c d fits in
    record {
      number = is.number ∙ both.number;
      level = is.level ∙ both.level;
      handler = is.handler ∙ both.handler;
      waits = waits_fitted objects (pending_of c) (pending_of d) b.typ is.waits both.subset;
    }

pub blocks_fitted : (objects : List Payload) (bs : List Block) (cs ds : List BlockNote) → AreBlocks objects bs cs → blocks_fit cs ds ≡ true → AreBlocks objects bs ds
blocks_fitted objects [] [] [] are fit = tt
blocks_fitted objects [] [] (d ∷ ds) are fit = cc
blocks_fitted objects [] (c ∷ cs) ds are fit = absurd are
blocks_fitted objects (b ∷ bs) [] ds are fit = absurd are
blocks_fitted objects (b ∷ bs) (c ∷ cs) [] are fit = cc
blocks_fitted objects (b ∷ bs) (c ∷ cs) (d ∷ ds) are fit =
    let parts = and_parts (block_fits c d) (blocks_fit cs ds) fit in
    (block_fitted objects b c d are.0 parts.0, blocks_fitted objects bs cs ds are.1 parts.1)

-- there is a note for each block
pub blocks_counted : (objects : List Payload) (bs : List Block) (cs : List BlockNote) → AreBlocks objects bs cs → length bs ≡ length cs
blocks_counted objects [] [] are = refl
blocks_counted objects [] (c ∷ cs) are = absurd are
blocks_counted objects (b ∷ bs) [] are = absurd are
blocks_counted objects (b ∷ bs) (c ∷ cs) are = ap suc (blocks_counted objects bs cs are.1)

-- no note has more blocks than the deepest
pub deepest_there : (notes : List Note) (i : ℕ) (n : Note) → slice_get notes i ≡ Some n → block_count n ≤ deepest notes
deepest_there [] i n here = cc
deepest_there (m ∷ ms) zero n here =
    let same : m ≡ n = cc in
    let le : block_count m ≤ max (block_count m) (deepest ms) = omega arith in
    subst (λ (k : Note). block_count k ≤ max (block_count m) (deepest ms)) same le
deepest_there (m ∷ ms) (suc i) n here = omega (arith, deepest_there ms i n here)
