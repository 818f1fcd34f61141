-- Groups that are put one after another.
use Rattle.std.proofs.Common.{◌≡◌, ◌++◌, ◌<◌, ◌≤◌, ◌+◌, ◌*◌, ◌^◌, ◌-◌, ◌%◌, ℕ, suc, Bool, true, false, List, append_assoc, ap, sym, ◌∙◌, arith}
use Rattle.std.specs.Prelude.{if◌then◌else◌, ◌==◌}
use Rattle.py_make.specs.Made.{drawn, drives_of, group, groups, next_state}

-- a group has three drives at most
few : (b : Bool) → (if b then 1 else 3) ≤ 3
few true = search arith
few false = search arith

pub drives_few : (n i r : ℕ) → n ≤ 3 * i + 1 → n + drives_of r ≤ 3 * (i + 1) + 1
drives_few n i r low = let one : drives_of r ≤ 3 = few (r % 2 == 0) in omega (arith, low, one)

-- so all drives of a text have numbers of at most 64 bits
pub few_more : (n r more : ℕ) → n + 3 * suc more < 2 ^ 64 → n + drives_of r + 3 * more < 2 ^ 64
few_more n r more low = let three : drives_of r ≤ 3 = few (r % 2 == 0) in omega (arith, low, three)

-- the text goes on by the next group
pub made_on : (count i s n : ℕ) (old new whole : List ℕ) → i < count → new ≡ old ++ group (drawn (next_state s)) n → old ++ groups (count - i) s n ≡ whole
    → new ++ groups (count - (i + 1)) (next_state s) (n + drives_of (drawn (next_state s))) ≡ whole
made_on count i s n old new whole low is text =
    let more : ℕ = count - (i + 1) in
    let left : count - i ≡ suc more = omega (arith, low) in
    let rest : List ℕ = groups more (next_state s) (n + drives_of (drawn (next_state s))) in
    ap (λ (l : List ℕ). l ++ rest) is ∙ append_assoc old (group (drawn (next_state s)) n) rest ∙ ap (λ (k : ℕ). old ++ groups k s n) (sym left) ∙ text
