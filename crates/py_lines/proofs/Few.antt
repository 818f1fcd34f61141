-- A line has no more tokens than bytes, and an expression no more parts than tokens.
use Rattle.std.proofs.Common.{◌≡◌, ◌≤◌, ◌+◌, ℕ, List, [], ◌∷◌, Bool, true, false, cond, refl, ap, suc, length, map, arith}
use Rattle.py_tree.specs.Tree.{Expr, Leaf, Operate, Exprs, no_operands, operand}
use Rattle.py_tree.specs.Compilable.{parts, all_parts}
use Rattle.py_lines.specs.Meaning.{Meaning, Close, meaning}
use Rattle.py_lines.specs.Printing.{expr_tokens, exprs_tokens}
use Rattle.py_lines.specs.Reading.{meanings}
use Rattle.py_lines.specs.Tokens.{is_blank, is_mark, is_quote, mark_of, Cut, Place, Between, Quoted, Inside, cut_from, word_end, longer, started, tokens_of}

abbrev few : Cut → ℕ
few c = length c.behind

at_between : (b n : ℕ) (between quoted inside : Cut) (x y z : Bool) → few between ≤ n → few quoted ≤ n → few inside ≤ n
    → few (cond x between (cond y (word_end (mark_of b ∷ between.behind)) (cond z (started b quoted) (started b inside)))) ≤ n + 1
at_between b n between quoted inside true y z low_b low_q low_i = omega (arith, low_b)
at_between b n between quoted inside false true z low_b low_q low_i = omega (arith, low_b)
at_between b n between quoted inside false false true low_b low_q low_i = omega (arith, low_q)
at_between b n between quoted inside false false false low_b low_q low_i = omega (arith, low_i)

at_inside : (b n : ℕ) (between inside : Cut) (x y : Bool) → few between ≤ n → few inside ≤ n
    → few (cond x (word_end between.behind) (cond y (word_end (mark_of b ∷ between.behind)) (longer b inside))) ≤ n + 1
at_inside b n between inside true y low_b low_i = omega (arith, low_b)
at_inside b n between inside false true low_b low_i = omega (arith, low_b)
at_inside b n between inside false false low_b low_i = omega (arith, low_i)

at_quoted : (b n : ℕ) (inside quoted : Cut) (x : Bool) → few inside ≤ n → few quoted ≤ n → few (cond x (longer b inside) (longer b quoted)) ≤ n + 1
at_quoted b n inside quoted true low_i low_q = omega (arith, low_i)
at_quoted b n inside quoted false low_i low_q = omega (arith, low_q)

cuts_few : (p : Place) (bs : List ℕ) → few (cut_from p bs) ≤ length bs
cuts_few p [] = omega arith
cuts_few Between (b ∷ bs) =
    let h = at_between b (length bs) (cut_from Between bs) (cut_from Quoted bs) (cut_from Inside bs) (is_blank b) (is_mark b) (is_quote b) (cuts_few Between bs) (cuts_few Quoted bs) (cuts_few Inside bs) in
    omega (arith, h)
cuts_few Inside (b ∷ bs) =
    let h = at_inside b (length bs) (cut_from Between bs) (cut_from Inside bs) (is_blank b) (is_mark b) (cuts_few Between bs) (cuts_few Inside bs) in
    omega (arith, h)
cuts_few Quoted (b ∷ bs) =
    let h = at_quoted b (length bs) (cut_from Inside bs) (cut_from Quoted bs) (is_quote b) (cuts_few Inside bs) (cuts_few Quoted bs) in
    omega (arith, h)

as_many : {X Y : Type 0} (f : X → Y) (xs : List X) → length (map f xs) ≡ length xs
as_many f [] = refl
as_many f (x ∷ xs) = ap suc (as_many f xs)

pub tokens_few : (bytes : List ℕ) → length (meanings bytes) ≤ length bytes
tokens_few bytes = let h = cuts_few Between bytes in let k = as_many meaning (tokens_of bytes) in omega (arith, h, k)

mutual
  pub parts_few : (e : Expr) (behind : List Meaning) → parts e + length behind ≤ length (expr_tokens e behind)
  parts_few (Leaf a) behind = omega arith
  parts_few (Operate o es) behind = let h = all_parts_few es (Close ∷ behind) in omega (arith, h)

  all_parts_few : (es : Exprs) (behind : List Meaning) → all_parts es + length behind ≤ length (exprs_tokens es behind)
  all_parts_few no_operands behind = omega arith
  all_parts_few (operand e es) behind = let h = parts_few e (exprs_tokens es behind) in let k = all_parts_few es behind in omega (arith, h, k)
