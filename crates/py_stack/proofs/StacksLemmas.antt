-- Stacks that are kept with the top last.
use Rattle.std.proofs.Common.{◌≡◌, ℕ, ◌-◌, ◌<◌, List, ◌++◌, length, take, drop, set, reverse, get_or, sym, ap, ◌∙◌, arith, rules}
use Rattle.std.proofs.lemmas.List.{take-append-drop, reverse-append, reverse-reverse, length-reverse, length-drop, length-set, get_or-reverse, get_or-set_other, same_lists}
use Rattle.std.proofs.lemmas.Grind.{get_or-set_at}
use Rattle.std.proofs.lemmas.Bool.{cases_eq}
use Rattle.std.proofs.Math.Seq.{drop-append_seam, take-append_seam}
use Rattle.py_objects.specs.Objects.{Obj}
use Rattle.py_stack.specs.Stacks.{above, bottom, from_bottom}

-- a list turned round, in two parts
reverse_parts : (n : ℕ) (xs : List Obj) → reverse xs ≡ reverse (drop n xs) ++ reverse (take n xs)
reverse_parts n xs = ap reverse (sym (take-append-drop n xs)) ∙ reverse-append (take n xs) (drop n xs)

-- how many entries lie above the lowest n
length_above : (n : ℕ) (xs : List Obj) → length (reverse xs) - n ≡ length (reverse (drop n xs))
length_above n xs = omega (arith, length-reverse xs, length-reverse (drop n xs), length-drop n xs)

pub bottom-reverse : (n : ℕ) (xs : List Obj) → bottom n (reverse xs) ≡ reverse (take n xs)
bottom-reverse n xs =
    let high = reverse (drop n xs) in
    let low = reverse (take n xs) in
    ap (λ k. drop k (reverse xs)) (length_above n xs) ∙ ap (drop (length high)) (reverse_parts n xs) ∙ drop-append_seam high low

pub above-reverse : (n : ℕ) (xs : List Obj) → above n (reverse xs) ≡ drop n xs
above-reverse n xs =
    let high = reverse (drop n xs) in
    let low = reverse (take n xs) in
    let upper : take (length (reverse xs) - n) (reverse xs) ≡ high =
    ap (λ k. take k (reverse xs)) (length_above n xs) ∙ ap (take (length high)) (reverse_parts n xs) ∙ take-append_seam high low in
    ap reverse upper ∙ reverse-reverse (drop n xs)

pub set-reverse : (n : ℕ) (v : Obj) (xs : List Obj) → n < length xs → set (reverse xs) (from_bottom n (reverse xs)) v ≡ reverse (set xs n v)
set-reverse n v xs h =
    let long = length-reverse xs in
    let at = length xs - 1 - n in
    let same : (k : ℕ) (d : Obj) → k < length (set (reverse xs) at v) → get_or (set (reverse xs) at v) k d ≡ get_or (reverse (set xs n v)) k d =
    λ k d b. grind (arith, cases_eq k at, length-reverse, length-set, get_or-reverse, get_or-set_at, get_or-set_other) in
    let size : length (set (reverse xs) at v) ≡ length (reverse (set xs n v)) = search (rules, length-reverse, length-set) in
    ap (λ m. set (reverse xs) (m - 1 - n) v) long ∙ same_lists _ _ size same
