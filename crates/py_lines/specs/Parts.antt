-- Words that commas and dots cut into pieces.
use Rattle.std.specs.Prelude.{ℕ, List, [], ◌∷◌, Bool, true, false, if◌then◌else◌, ◌==◌, Option, Some, None, option_map}
use Rattle.py_check.specs.declared.note.Pending.{Pending}
use Rattle.py_check.specs.declared.note.Pending.TheVariants as pending
use Rattle.py_tree.specs.Tree.{Name}
use Rattle.py_lines.specs.Words.{digits_number, is_small, is_spelled_as_name, passing}

-- a piece
pub data Piece : Type 0 where
  Letters : Name → Piece  -- spelled as a name is, keywords too
  Count : ℕ → Piece  -- digits: a number of at most 32 bits
  Jump : Pending → Piece  -- b or c and digits: a break or a continue that waits, with its label

-- the number that digits spell, of at most 32 bits
abbrev pub small_number : List ℕ → Option ℕ
small_number digits = passing is_small (digits_number digits)

-- the jump that b or c and digits name
abbrev pub jump_of : List ℕ → Option Pending
jump_of [] = None
jump_of (b ∷ bs) =
    if b == 98 then option_map pending.Break (small_number bs)
    else if b == 99 then option_map pending.Continue (small_number bs)
    else None

-- the first of two that is there
abbrev pub either : {X : Type 0} → Option X → Option X → Option X
either (Some x) other = Some x
either None other = other

abbrev pub letters_of : List ℕ → Option Piece
letters_of w = if is_spelled_as_name w then Some (Letters w) else None

-- what a piece means
abbrev pub piece_of : List ℕ → Option Piece
piece_of w = either (option_map Count (small_number w)) (either (option_map Jump (jump_of w)) (letters_of w))

-- one byte in front of the first word
abbrev pub onto_first : ℕ → List (List ℕ) → List (List ℕ)
onto_first b [] = (b ∷ []) ∷ []
onto_first b (w ∷ ws) = (b ∷ w) ∷ ws

-- the words that a byte cuts a word into
abbrev pub cut_at : ℕ → List ℕ → List (List ℕ)
cut_at mark [] = [] ∷ []
cut_at mark (b ∷ bs) = if b == mark then [] ∷ cut_at mark bs else onto_first b (cut_at mark bs)

abbrev pub one_more : {X : Type 0} → Option X → Option (List X) → Option (List X)
one_more (Some x) (Some xs) = Some (x ∷ xs)
one_more x xs = None

-- what each of some means, where each means something
abbrev pub each : {X : Type 0} → (List ℕ → Option X) → List (List ℕ) → Option (List X)
each f [] = Some []
each f (w ∷ ws) = one_more (f w) (each f ws)

-- the pieces that dots part
abbrev pub pieces_of : List ℕ → Option (List Piece)
pieces_of w = each piece_of (cut_at 46 w)

-- whether there is a dot, and whether there is a comma or one
abbrev pub has_dot : List Piece → Bool
has_dot (p ∷ []) = false
has_dot ps = true

abbrev pub is_joined : List (List Piece) → Bool
is_joined [] = false
is_joined (ps ∷ []) = has_dot ps
is_joined (ps ∷ qs ∷ more) = true

-- the lists of pieces that commas part, and those of a word that has a comma or a dot
abbrev pub lists_of : List ℕ → Option (List (List Piece))
lists_of w = each pieces_of (cut_at 44 w)

abbrev pub parts_of : List ℕ → Option (List (List Piece))
parts_of w = passing is_joined (lists_of w)
