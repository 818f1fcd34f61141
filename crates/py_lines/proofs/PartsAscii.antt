-- Words that commas and dots join are ASCII, where each piece means something.
use Rattle.std.proofs.Common.{◌≡◌, ℕ, List, [], ◌∷◌, Bool, true, false, cond, Some, None, refl, arith}
use Rattle.std.specs.Prelude.{◌==◌, Option, option_map}
use Rattle.py_check.specs.declared.note.Pending.{Pending}
use Rattle.py_check.specs.declared.note.Pending.TheVariants as pending
use Rattle.py_lines.specs.Parts.{Piece, Letters, Count, Jump, small_number, jump_of, either, letters_of, piece_of, onto_first, cut_at, one_more, each, pieces_of, is_joined, lists_of, parts_of}
use Rattle.py_lines.specs.Words.{digits_number, is_small, is_spelled_as_name}
use Rattle.py_lines.proofs.Ascii.{Low, Lows, same_low, name_low, digits_low, passed, mapped}

-- ---- pieces

small_low : (w : List ℕ) (n : ℕ) → small_number w ≡ Some n → Lows w
small_low w n h = let (m, is) = passed is_small (digits_number w) n h in digits_low w m is

jump_low : (w : List ℕ) (j : Pending) → jump_of w ≡ Some j → Lows w
jump_low [] j h = absurd (cc h)
jump_low (b ∷ bs) j h = at (b == 98) refl (b == 99) refl h
  where
    at : (p : Bool) → (b == 98) ≡ p → (q : Bool) → (b == 99) ≡ q
        → cond p (option_map pending.Break (small_number bs)) (cond q (option_map pending.Continue (small_number bs)) None) ≡ Some j → Lows (b ∷ bs)
    at true e q k h = let (n, is) = mapped pending.Break (small_number bs) j h in (same_low b 98 (omega arith) e, small_low bs n is)
    at false e true k h = let (n, is) = mapped pending.Continue (small_number bs) j h in (same_low b 99 (omega arith) k, small_low bs n is)
    at false e false k h = absurd (cc h)

piece_low : (w : List ℕ) (p : Piece) → piece_of w ≡ Some p → Lows w
piece_low w p h = count (small_number w) refl h
  where
    letters : (named : Bool) → is_spelled_as_name w ≡ named → cond named (Some (Letters w)) None ≡ Some p → Lows w
    letters true e h = name_low w e
    letters false e h = absurd (cc h)

    jump : (o : Option Pending) → jump_of w ≡ o → either (option_map Jump o) (letters_of w) ≡ Some p → Lows w
    jump None e h = letters (is_spelled_as_name w) refl h
    jump (Some j) e h = jump_low w j e

    count : (o : Option ℕ) → small_number w ≡ o → either (option_map Count o) (either (option_map Jump (jump_of w)) (letters_of w)) ≡ Some p → Lows w
    count None e h = jump (jump_of w) refl h
    count (Some n) e h = small_low w n e

-- ---- words that are cut

abbrev AllLow : List (List ℕ) → Type 0
AllLow [] = Unit {0}
AllLow (w ∷ ws) = Lows w × AllLow ws

first_low : (b : ℕ) (ws : List (List ℕ)) → AllLow (onto_first b ws) → Low b × AllLow ws
first_low b [] all = (all.0.0, tt)
first_low b (w ∷ ws) all = (all.0.0, (all.0.1, all.1))

cut_low : (mark : ℕ) (w : List ℕ) → Low mark → AllLow (cut_at mark w) → Lows w
cut_low mark [] low all = tt
cut_low mark (b ∷ bs) low all = go (b == mark) refl all (cut_low mark bs low)
  where
    go : (p : Bool) → (b == mark) ≡ p → AllLow (cond p ([] ∷ cut_at mark bs) (onto_first b (cut_at mark bs))) → (AllLow (cut_at mark bs) → Lows bs) → Lows (b ∷ bs)
    go true e all behind = (same_low b mark low e, behind all.1)
    go false e all behind = let (here, more) = first_low b (cut_at mark bs) all in (here, behind more)

each_low : {X : Type 0} (f : List ℕ → Option X) → ((w : List ℕ) (x : X) → f w ≡ Some x → Lows w) → (ws : List (List ℕ)) (xs : List X) → each f ws ≡ Some xs → AllLow ws
each_low f low [] xs h = tt
each_low {X = X} f low (w ∷ ws) xs h = go (f w) refl (each f ws) refl h (each_low f low ws)
  where
    go : (o : Option X) → f w ≡ o → (more : Option (List X)) → each f ws ≡ more → one_more o more ≡ Some xs → ((ys : List X) → each f ws ≡ Some ys → AllLow ws) → AllLow (w ∷ ws)
    go (Some x) e (Some ys) k h behind = (low w x e, behind ys k)
    go (Some x) e None k h behind = absurd (cc h)
    go None e (Some ys) k h behind = absurd (cc h)
    go None e None k h behind = absurd (cc h)

pieces_low : (w : List ℕ) (ps : List Piece) → pieces_of w ≡ Some ps → Lows w
pieces_low w ps h = cut_low 46 w (omega arith) (each_low piece_of piece_low (cut_at 46 w) ps h)

pub parts_low : (w : List ℕ) (ps : List (List Piece)) → parts_of w ≡ Some ps → Lows w
parts_low w ps h = let (qs, is) = passed is_joined (lists_of w) ps h in cut_low 44 w (omega arith) (each_low pieces_of pieces_low (cut_at 44 w) qs is)
