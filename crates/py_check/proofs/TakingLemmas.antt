-- Entries of one kind that are taken.
use Rattle.std.proofs.Common.{◌≡◌, ◌<◌, ◌≤◌, ℕ, zero, suc, List, [], ◌∷◌, length, take, drop, replicate, Bool, false, ◌&&◌, nat_le, refl, sym, ap, ◌∙◌, arith}
use Rattle.std.proofs.Math.Bool.{and-false, and_assoc}
use Rattle.std.specs.List.{list_all}
use Rattle.py_check.specs.declared.note.Kind.{Kind}
use Rattle.py_check.specs.declared.note.BlockNote.{BlockNote}
use Rattle.py_check.specs.Notes.{kind_fits}
use Rattle.py_check.specs.Landing.{top_level}
use Rattle.py_check.specs.Taking.{takes}

-- there are too few
pub takes_short : (n : ℕ) (k : Kind) (kinds : List Kind) (blocks : List BlockNote) (rest : List Kind → Bool) → length kinds < n → takes (replicate n k) kinds blocks rest ≡ false
takes_short zero k kinds blocks rest few = absurd (omega (arith, few))
takes_short (suc n) k [] blocks rest few = refl
takes_short (suc n) k (x ∷ kinds) blocks rest few = ap (λ (b : Bool). kind_fits x k && b) (takes_short n k kinds blocks rest (omega (arith, few))) ∙ and-false (kind_fits x k)

-- they are there
pub takes_there : (n : ℕ) (k : Kind) (kinds : List Kind) (blocks : List BlockNote) (rest : List Kind → Bool) → n ≤ length kinds
    → takes (replicate n k) kinds blocks rest ≡ (list_all (λ x. kind_fits x k) (take n kinds) && (nat_le (top_level blocks) (length (drop n kinds)) && rest (drop n kinds)))
takes_there zero k kinds blocks rest some = refl
takes_there (suc n) k [] blocks rest some = absurd (omega (arith, some))
takes_there (suc n) k (x ∷ kinds) blocks rest some =
    ap (λ (b : Bool). kind_fits x k && b) (takes_there n k kinds blocks rest (omega (arith, some)))
    ∙ sym (and_assoc (kind_fits x k) (list_all (λ y. kind_fits y k) (take n kinds)) (nat_le (top_level blocks) (length (drop n kinds)) && rest (drop n kinds)))
