-- Kinds by their pieces.
use Rattle.std.proofs.Common.{◌≡◌, ◌≢◌, ℕ, List, [], ◌∷◌, refl, map}
use Rattle.std.specs.Prelude.{codes}
use Rattle.py_check.specs.declared.note.Kind.{Kind}
use Rattle.py_check.specs.declared.note.Kind.TheVariants as kind
use Rattle.py_lines.specs.Meaning.{Meaning, Word}
use Rattle.py_lines.specs.Parts.{Piece, Letters, Count}
use Rattle.py_lines.specs.RawLines.{kind_pieces, kinds_token}
use Rattle.py_lines.proofs.Alike.{same_all}
use Rattle.py_lines.proofs.Finders.{Finds, Found, Missing, or_else, find_within, find_behind, find_nothing, find_lone, find_all}
use Rattle.py_lines.proofs.PartTokens.{same_parts, find_parts, no_lone_word, other_letters, behind_letters, find_piece_count}

pub same_kind : (k l : Kind) → kind_pieces k ≡ kind_pieces l → k ≡ l
same_kind kind.Any kind.Any e = refl
same_kind kind.Str kind.Str e = refl
same_kind kind.Tuple kind.Tuple e = refl
same_kind kind.List kind.List e = refl
same_kind kind.Set kind.Set e = refl
same_kind kind.Dict kind.Dict e = refl
same_kind kind.Exc kind.Exc e = refl
same_kind kind.Cell kind.Cell e = refl
same_kind (kind.Cells m) (kind.Cells n) e = cc
same_kind (kind.Names m) (kind.Names n) e = cc
same_kind (kind.Code m) (kind.Code n) e = cc
same_kind k l e = absurd (other_letters _ _ refl _ _ e)

pub same_kinds : (ks ls : List Kind) → kinds_token ks ≡ kinds_token ls → ks ≡ ls
same_kinds ks ls e = same_all kind_pieces same_kind ks ls (same_parts (map kind_pieces ks) (map kind_pieces ls) e)

find_bare : (w : List ℕ) (ps : List Piece) → Finds (λ (x : Unit {0}). Letters w ∷ []) ps
find_bare w ps = find_behind (behind_letters w ps) find_nothing

find_counted : (w : List ℕ) (ps : List Piece) → Finds (λ n. Letters w ∷ Count n ∷ []) ps
find_counted w ps = find_behind (behind_letters w ps) (find_lone find_piece_count)

find_kind : (ps : List Piece) → Finds kind_pieces ps
find_kind ps =
    or_else (find_bare (codes "any") ps) (λ x. Found kind.Any) λ no_any.
    or_else (find_bare (codes "str") ps) (λ x. Found kind.Str) λ no_str.
    or_else (find_bare (codes "tuple") ps) (λ x. Found kind.Tuple) λ no_tuple.
    or_else (find_bare (codes "list") ps) (λ x. Found kind.List) λ no_list.
    or_else (find_bare (codes "set") ps) (λ x. Found kind.Set) λ no_set.
    or_else (find_bare (codes "dict") ps) (λ x. Found kind.Dict) λ no_dict.
    or_else (find_bare (codes "exc") ps) (λ x. Found kind.Exc) λ no_exc.
    or_else (find_bare (codes "cell") ps) (λ x. Found kind.Cell) λ no_cell.
    or_else (find_counted (codes "cells") ps) (λ n. Found (kind.Cells n)) λ no_cells.
    or_else (find_counted (codes "names") ps) (λ n. Found (kind.Names n)) λ no_names.
    or_else (find_counted (codes "code") ps) (λ n. Found (kind.Code n)) λ no_code.
    Missing (elim [
      | kind.Any ↦ no_any tt
      | kind.Str ↦ no_str tt
      | kind.Tuple ↦ no_tuple tt
      | kind.List ↦ no_list tt
      | kind.Set ↦ no_set tt
      | kind.Dict ↦ no_dict tt
      | kind.Exc ↦ no_exc tt
      | kind.Cell ↦ no_cell tt
      | kind.Cells n ↦ no_cells n
      | kind.Names n ↦ no_names n
      | kind.Code n ↦ no_code n
    ])

pub find_kinds : (t : Meaning) → Finds kinds_token t
find_kinds t = find_within same_parts (find_parts t) (find_all find_kind)

-- a word that is no kind by itself
pub no_lone_kind : (w : List ℕ) → ((k : Kind) → Letters w ∷ [] ≢ kind_pieces k) → (ks : List Kind) → Word w ≢ kinds_token ks
no_lone_kind w none ks e = no_lone_word kind_pieces w none ks e
