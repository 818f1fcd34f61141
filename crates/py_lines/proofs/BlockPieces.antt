-- Blocks by their pieces.
use Rattle.std.proofs.Common.{◌≡◌, ◌≢◌, ℕ, List, [], ◌∷◌, refl, map}
use Rattle.std.specs.Prelude.{codes}
use Rattle.py_check.specs.declared.note.BlockNote.{BlockNote}
use Rattle.py_check.specs.declared.note.BlockNote.TheVariants as block
use Rattle.py_check.specs.declared.note.Pending.{Pending}
use Rattle.py_lines.specs.declared.meaning.Sense.{Sense}
use Rattle.py_lines.specs.declared.meaning.Sense.TheVariants as sense
use Rattle.std.specs.Borrow.{Bor}
use Rattle.py_lines.specs.Meaning.{Meaning}
use Rattle.py_lines.specs.Parts.{Piece, Letters, Count, Jump}
use Rattle.py_lines.specs.RawLines.{block_pieces, blocks_token}
use Rattle.py_lines.specs.Senses.{meaning_of}
use Rattle.py_lines.proofs.Alike.{same_all}
use Rattle.py_lines.proofs.Finders.{Finds, Found, Missing, or_else, find_within, find_behind, find_both, find_lone, find_all}
use Rattle.py_lines.proofs.PartTokens.{same_parts, find_parts, no_list, no_lone_word, other_letters, behind_letters, find_piece_count, find_piece_jump}

same_jumps : (ps qs : List Pending) → map Jump ps ≡ map Jump qs → ps ≡ qs
same_jumps = same_all Jump (λ p q e. cc)

pub same_block : (b c : BlockNote) → block_pieces b ≡ block_pieces c → b ≡ c
same_block (block.Loop l) (block.Loop m) e = cc
same_block (block.TryExcept l h) (block.TryExcept m i) e = cc
same_block (block.Finally l h) (block.Finally m i) e = cc
same_block (block.FinallyHandler l ps) (block.FinallyHandler m qs) e = let same : ps ≡ qs = same_jumps ps qs (cc) in cc
same_block (block.ExceptHandler l) (block.ExceptHandler m) e = cc
same_block b c e = absurd (other_letters _ _ refl _ _ e)

pub same_blocks : (bs cs : List BlockNote) → blocks_token bs ≡ blocks_token cs → bs ≡ cs
same_blocks bs cs e = same_all block_pieces same_block bs cs (same_parts (map block_pieces bs) (map block_pieces cs) e)

-- ---- which block pieces are

find_level : (w : List ℕ) (ps : List Piece) → Finds (λ n. Letters w ∷ Count n ∷ []) ps
find_level w ps = find_behind (behind_letters w ps) (find_lone find_piece_count)

find_handled : (w : List ℕ) (ps : List Piece) → Finds (λ (z : ℕ × ℕ). Letters w ∷ Count z.0 ∷ Count z.1 ∷ []) ps
find_handled w ps = find_behind (behind_letters w ps) (find_both find_piece_count (find_lone find_piece_count))

find_block : (ps : List Piece) → Finds block_pieces ps
find_block ps =
    or_else (find_level (codes "loop") ps) (λ l. Found (block.Loop l)) λ no_loop.
    or_else (find_handled (codes "try") ps) (λ z. Found (block.TryExcept z.0 z.1)) λ no_try.
    or_else (find_handled (codes "fin") ps) (λ z. Found (block.Finally z.0 z.1)) λ no_fin.
    or_else (find_behind (behind_letters (codes "fh") ps) (find_both find_piece_count (find_all find_piece_jump))) (λ z. Found (block.FinallyHandler z.0 z.1)) λ no_fh.
    or_else (find_level (codes "eh") ps) (λ l. Found (block.ExceptHandler l)) λ no_eh.
    Missing (elim [
      | block.Loop l ↦ no_loop l
      | block.TryExcept l h ↦ no_try (l, h)
      | block.Finally l h ↦ no_fin (l, h)
      | block.FinallyHandler l ps ↦ no_fh (l, ps)
      | block.ExceptHandler l ↦ no_eh l
    ])

pub find_blocks : (t : Meaning) → Finds blocks_token t
find_blocks t = find_within same_parts (find_parts t) (find_all find_block)

-- ---- what is no block, and no list of them

pub no_block_alone : (w : List ℕ) (b : BlockNote) → Letters w ∷ [] ≢ block_pieces b
no_block_alone w (block.Loop l) e = cc
no_block_alone w b e = cc

-- a token that is no dash and no comma list
pub no_blocks : (s : Sense) → (s ≡ sense.Dash → ⊥) → ((w : Bor (List ℕ)) → s ≡ sense.Parts w → ⊥) → (bs : List BlockNote) → meaning_of s ≢ blocks_token bs
no_blocks sense.Dash dash parts bs e = absurd (dash refl)
no_blocks (sense.Parts w) dash parts bs e = absurd (parts w refl)
no_blocks (sense.Word w) dash parts bs e = no_lone_word block_pieces w.now (no_block_alone w.now) bs e
no_blocks s dash parts bs e = no_list block_pieces (meaning_of s) refl bs e
