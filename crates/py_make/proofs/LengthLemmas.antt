-- Each text that is made is short.
use Rattle.std.proofs.Common.{◌<◌, ◌≤◌, ◌+◌, ◌*◌, ◌%◌, ◌^◌, ◌++◌, List, ℕ, zero, suc, Bool, true, false, length, length-append, arith}
use Rattle.std.specs.Prelude.{decimal, codes, if◌then◌else◌, ◌==◌}
use Rattle.std.proofs.lemmas.Fmt.{length-decimal-le}
use Rattle.py_make.specs.Made.{count_text, declarations, drawn, drives_of, group, groups, next_state, work_text}
use Rattle.py_make.specs.Laws.{AreShort}
use Rattle.py_make.proofs.GroupLemmas.{few_more}

-- a number of at most 64 bits has at most 20 digits
few_digits : (n : ℕ) → n < 2 ^ 64 → length (decimal n) ≤ 20
few_digits n small = length-decimal-le 20 n (omega arith) (omega (arith, small)) small

-- digits in a line
within : (ds rest : List ℕ) (most : ℕ) → length ds ≤ 20 → length rest ≤ most → length (ds ++ rest) ≤ 20 + most
within ds rest most few low = omega (arith, few, low, length-append ds rest)

group_short : (x : Bool) (v n : ℕ) → v < 2 ^ 64 → n < 2 ^ 64 → length (if x then work_text v else count_text v n) ≤ 90
group_short true v n low small = let one : length (decimal v ++ codes "\n") ≤ 21 = within (decimal v) (codes "\n") 1 (few_digits v low) (omega arith) in omega (arith, one)
group_short false v n low small =
    let last : length (decimal n ++ codes "\n") ≤ 21 = within (decimal n) (codes "\n") 1 (few_digits n small) (omega arith) in
    let next : length (decimal n ++ (codes "\nclose " ++ (decimal n ++ codes "\n"))) ≤ 48 = within (decimal n) (codes "\nclose " ++ (decimal n ++ codes "\n")) 28 (few_digits n small) (omega (arith, last)) in
    let all : length (decimal v ++ (codes "\nnext " ++ (decimal n ++ (codes "\nclose " ++ (decimal n ++ codes "\n"))))) ≤ 74 =
    within (decimal v) (codes "\nnext " ++ (decimal n ++ (codes "\nclose " ++ (decimal n ++ codes "\n")))) 54 (few_digits v low) (omega (arith, next)) in
    omega (arith, all)

groups_short : (count s n : ℕ) → n + 3 * count < 2 ^ 64 → length (groups count s n) ≤ 90 * count
groups_short zero s n low = omega arith
groups_short (suc more) s n low =
    let t : ℕ = next_state s in
    let r : ℕ = drawn t in
    let one : length (group r n) ≤ 90 = group_short (r % 2 == 0) (r % 1000) n (omega arith) (omega (arith, low)) in
    let rest : length (groups more t (n + drives_of r)) ≤ 90 * more = groups_short more t (n + drives_of r) (few_more n r more low) in
    omega (arith, one, rest, length-append (group r n) (groups more t (n + drives_of r)))

pub are_short : AreShort
are_short seed count low =
    let all : length (groups count (seed % 2 ^ 32) 1) ≤ 90 * count = groups_short count (seed % 2 ^ 32) 1 (omega (arith, low)) in
    omega (arith, low, all, length-append declarations (groups count (seed % 2 ^ 32) 1))
