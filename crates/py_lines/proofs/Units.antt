-- Notes of units by their tokens.
use Rattle.std.proofs.Common.{◌≡◌, ◌≢◌, List, [], ◌∷◌, None, refl}
use Rattle.std.specs.Prelude.{Option, codes}
use Rattle.py_check.specs.declared.note.BlockNote.{BlockNote}
use Rattle.py_check.specs.declared.note.Kind.{Kind}
use Rattle.py_lines.specs.declared.unit.RawNote.{RawNote}
use Rattle.py_lines.specs.declared.unit.RawNote.TheVariants as note
use Rattle.py_lines.specs.Finding.{Prints}
use Rattle.py_lines.specs.Meaning.{Meaning, Word}
use Rattle.py_lines.specs.RawLines.{kinds_token, blocks_token, note_tokens}
use Rattle.py_lines.proofs.BlockPieces.{same_blocks, find_blocks}
use Rattle.py_lines.proofs.Finders.{Finds, Found, Missing, or_else, find_both, find_lone}
use Rattle.py_lines.proofs.Finds.{none_prints}
use Rattle.py_lines.proofs.KindPieces.{same_kinds, find_kinds}
use Rattle.py_lines.proofs.TokenFinders.{find_word}

pub same_note : (m n : RawNote) → note_tokens m ≡ note_tokens n → m ≡ n
same_note note.Dead note.Dead e = refl
same_note note.Dead (note.Live ls cs) e = cc
same_note (note.Live ks bs) note.Dead e = cc
same_note (note.Live ks bs) (note.Live ls cs) e = let h : ks ≡ ls = same_kinds ks ls (cc) in let i : bs ≡ cs = same_blocks bs cs (cc) in cc

pub find_note : (ts : List Meaning) → Finds note_tokens ts
find_note ts =
    or_else (find_lone (find_word (codes "dead")) ts) (λ x. Found note.Dead) λ no_dead.
    or_else (find_both find_kinds (find_lone find_blocks) ts) (λ z. Found (note.Live z.0 z.1)) λ no_live.
    Missing (elim [ note.Dead ↦ no_dead tt | note.Live ks bs ↦ no_live (ks, bs) ])

-- ---- what is no note

pub no_dead : (t : Meaning) → (t ≢ Word (codes "dead")) → (n : RawNote) → t ∷ [] ≢ note_tokens n
no_dead t other note.Dead e = other (cc)
no_dead t other (note.Live ks bs) e = cc

pub no_live_kinds : (t u : Meaning) (r : Option (List Kind)) → r ≡ None → Prints kinds_token t r → (n : RawNote) → t ∷ u ∷ [] ≢ note_tokens n
no_live_kinds t u r is found note.Dead e = cc
no_live_kinds t u r is found (note.Live ks bs) e = none_prints kinds_token t r is found ks (cc)

pub no_live_blocks : (t u : Meaning) (r : Option (List BlockNote)) → r ≡ None → Prints blocks_token u r → (n : RawNote) → t ∷ u ∷ [] ≢ note_tokens n
no_live_blocks t u r is found note.Dead e = cc
no_live_blocks t u r is found (note.Live ks bs) e = none_prints blocks_token u r is found bs (cc)
