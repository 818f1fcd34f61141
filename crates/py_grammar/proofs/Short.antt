-- Bodies are short: each part of a script is a token of its own, and each token a byte.
use Rattle.std.proofs.Common.{◌≡◌, ◌≤◌, ◌+◌, ℕ, suc, List, [], ◌∷◌, ◌++◌, length, Bool, true, false, cond, Option, Some, None, refl, ap, arith}
use Rattle.std.specs.Prelude.{◌==◌, ◌&&◌}
use Rattle.py_tree.specs.Tree.{Operate, Form, Assign, Do, Show, Return, Raise, If, IfElse, While, TryExcept, TryFinally, With, Suite, nothing, first, Clauses, no_more, clause, Tree}
use Rattle.py_tree.specs.Compilable.{statements_in, statements, statements_under}
use Rattle.py_lines.specs.Line.{LineRead, Blank, Said, Malformed}
use Rattle.py_lines.specs.Printing.{line_tokens, target_tokens}
use Rattle.py_lines.specs.Reading.{IsReadAs}
use Rattle.py_lines.proofs.Few.{parts_few, tokens_few}
use Rattle.py_grammar.specs.declared.script.Script.{Script}
use Rattle.py_grammar.specs.Lines.{lines, in_first, at_lf}
use Rattle.py_grammar.specs.Grammar.{Row, row, FunctionDecl, form_rows, suite_rows, clauses_rows, end_row, else_row, finally_row, decl_rows, items_rows}
use Rattle.py_grammar.specs.Script.{Text, with_read, rows_from, IsScript}
use Rattle.py_grammar.proofs.LineReads.{AreReadAs}

-- how many bytes lines have, and how many tokens rows
abbrev size_of_text : Text → ℕ
size_of_text [] = 0
size_of_text (l ∷ ls) = length l + size_of_text ls

abbrev pub size_of : List Row → ℕ
size_of [] = 0
size_of (r ∷ rows) = length (line_tokens r.line) + size_of rows

first_size : (b : ℕ) (ls : Text) → size_of_text (in_first b ls) ≡ suc (size_of_text ls)
first_size b [] = refl
first_size b (l ∷ ls) = omega arith

-- the lines are no longer than the bytes
all_short : (bytes : List ℕ) → size_of_text (lines bytes) ≤ length bytes
all_short [] = omega arith
all_short (b ∷ bs) = go (b == 10) (at_lf bs && b == 13) (all_short bs)
  where
    go : (p q : Bool) → size_of_text (lines bs) ≤ length bs → size_of_text (cond p ([] ∷ lines bs) (cond q (lines bs) (in_first b (lines bs)))) ≤ suc (length bs)
    go true q less = omega (arith, less)
    go false true less = omega (arith, less)
    go false false less = let one = first_size b (lines bs) in omega (arith, less, one)

-- rows have no more tokens than their lines have bytes
rows_short : (n : ℕ) (text : Text) (reads : List LineRead) (rows : List Row) → AreReadAs text reads → rows_from n reads ≡ Some rows → size_of rows ≤ size_of_text text
rows_short n [] [] [] a is = omega arith
rows_short n [] [] (r ∷ rows) a is = absurd (cc is)
rows_short n [] (r ∷ rs) rows a is = absurd a
rows_short n (l ∷ ls) [] rows a is = absurd a
rows_short n (l ∷ ls) (r ∷ rs) rows a is = go r (rows_from (suc n) rs) a.0 (λ more e. rows_short (suc n) ls rs more a.1 e) is
  where
    go : (read : LineRead) (behind : Option (List Row)) → IsReadAs l read → ((more : List Row) → behind ≡ Some more → size_of more ≤ size_of_text ls)
        → with_read n read behind ≡ Some rows → size_of rows ≤ length l + size_of_text ls
    go Malformed behind read less e = absurd (cc e)
    go Blank behind read less e = let h = less rows e in omega (arith, h)
    go (Said line) None read less e = absurd (cc e)
    go (Said line) (Some more) read less e =
        let h : size_of more ≤ size_of_text ls = less more refl in
        let same : row n line ∷ more ≡ rows = cc e in
        let sizes : length (line_tokens line) + size_of more ≡ size_of rows = ap size_of same in
        let tokens = tokens_few l in
        omega (arith, h, sizes, tokens, ap length read.0)

pub size_append : (xs ys : List Row) → size_of (xs ++ ys) ≡ size_of xs + size_of ys
size_append [] ys = omega arith
size_append (x ∷ xs) ys = let h = size_append xs ys in omega (arith, h)

-- the rows of a statement have as many tokens as it has parts, or more
mutual
  form_size : (n : ℕ) (f : Form) → statements_in f ≤ size_of (form_rows n f)
  form_size n (Assign x e) = let h = parts_few e [] in omega (arith, h)
  form_size n (Do o es) = let h = parts_few (Operate o es) [] in omega (arith, h)
  form_size n (Show e) = let h = parts_few e [] in omega (arith, h)
  form_size n (Return e) = let h = parts_few e [] in omega (arith, h)
  form_size n (Raise e) = let h = parts_few e [] in omega (arith, h)
  form_size n (If a s) = let h = parts_few a [] in let inside = suite_size s in let all = size_append (suite_rows s) (end_row ∷ []) in omega (arith, h, inside, all)
  form_size n (IfElse a s t) =
      let h = parts_few a [] in
      let one = suite_size s in
      let other = suite_size t in
      let all = size_append (suite_rows s) (else_row ∷ (suite_rows t ++ end_row ∷ [])) in
      let behind = size_append (suite_rows t) (end_row ∷ []) in
      omega (arith, h, one, other, all, behind)
  form_size n (While a s) = let h = parts_few a [] in let inside = suite_size s in let all = size_append (suite_rows s) (end_row ∷ []) in omega (arith, h, inside, all)
  form_size n (TryExcept s cs) =
      let one = suite_size s in
      let others = clauses_size cs in
      let all = size_append (suite_rows s) (clauses_rows cs ++ end_row ∷ []) in
      let behind = size_append (clauses_rows cs) (end_row ∷ []) in
      omega (arith, one, others, all, behind)
  form_size n (TryFinally s t) =
      let one = suite_size s in
      let other = suite_size t in
      let all = size_append (suite_rows s) (finally_row ∷ (suite_rows t ++ end_row ∷ [])) in
      let behind = size_append (suite_rows t) (end_row ∷ []) in
      omega (arith, one, other, all, behind)
  form_size n (With a x s) =
      let h = parts_few a (target_tokens x) in
      let inside = suite_size s in
      let all = size_append (suite_rows s) (end_row ∷ []) in
      omega (arith, h, inside, all)
  form_size n f = omega arith

  suite_size : (s : Suite) → statements s ≤ size_of (suite_rows s)
  suite_size nothing = omega arith
  suite_size (first n f more) =
      let here = form_size n f in
      let rest = suite_size more in
      let all = size_append (form_rows n f) (suite_rows more) in
      omega (arith, here, rest, all)

  clauses_size : (cs : Clauses) → statements_under cs ≤ size_of (clauses_rows cs)
  clauses_size no_more = omega arith
  clauses_size (clause n c x s more) =
      let here = suite_size s in
      let rest = clauses_size more in
      let all = size_append (suite_rows s) (clauses_rows more) in
      omega (arith, here, rest, all)

-- the rows of a declaration have as many tokens as its body has parts, or more
pub decl_size : (t : Tree) → statements t.suite ≤ size_of (decl_rows (FunctionDecl t))
decl_size t =
    let size = suite_size t.suite in
    let body = size_append (suite_rows t.suite) (end_row ∷ []) in
    omega (arith, size, body)

-- a script has as many bytes as its rows have tokens, or more
pub script_size : (bytes : List ℕ) (s : Script) (is : IsScript bytes s) → size_of (items_rows is.items) ≤ length bytes
script_size bytes s is =
    let a = rows_short 1 (lines bytes) is.reads (items_rows is.items) is.read is.spelled in
    let b = all_short bytes in
    omega (arith, a, b)
