-- The suites of statement lists, and the clauses of clause lists, by their elements.
use Rattle.std.proofs.Common.{◌≡◌, ℕ, zero, suc, refl, List, [], ◌∷◌, ◌++◌, length, slice_get, option_map, ap, rules}
use Rattle.py_tree.specs.declared.stmt.Stmt.{Stmt}
use Rattle.py_tree.specs.declared.stmt.Clause.{Clause, Clause'}
use Rattle.py_tree.specs.declared.stmt.StmtList.{StmtList, StmtList', Row_of-Stmt, end_of-Stmt, more_of-Stmt, items-the_row-Stmt, out-StmtList}
use Rattle.py_tree.specs.declared.stmt.ClauseList.{ClauseList, ClauseList', Row_of-Clause, end_of-Clause, more_of-Clause, items-the_row-Clause, out-ClauseList}
use Rattle.py_tree.specs.declared.stmt.StmtForm.{StmtForm}
use Rattle.py_tree.specs.declared.stmt.StmtForm.TheOpen.{StmtList-F, ClauseList-F}
use Rattle.py_tree.specs.declared.stmt.StmtForm.TheViews.{roll-StmtList, roll-ClauseList, the_lemmas}
use Rattle.py_tree.specs.Tree.{first, clause}
use Rattle.py_tree.specs.Views.{clauses_of, form_of, row_clauses, row_suite, suite_of}
use Rattle.py_tree.specs.Suites.{clauses_item, clauses_length, handler_of, line_of, list_clauses, list_suite, suite_item, suite_length, clauses_with, suite_with}

row_is_list : (n : _) (row : Row_of-Stmt n) → row_suite row ≡ list_suite (items-the_row-Stmt n row)
row_is_list n end_of-Stmt = refl
row_is_list n (more_of-Stmt line form rest) = ap (first line (form_of form)) (row_is_list _ rest)

pub suite_out : (l : StmtList) → suite_of l ≡ list_suite (out-StmtList l).items.items
suite_out (StmtList' shape row) = search (rules, the_lemmas, row_is_list)

pub suite_roll : (x : StmtList-F StmtForm Clause ClauseList Stmt StmtList) → suite_of (roll-StmtList x) ≡ list_suite x.items.items
suite_roll x = search (rules, the_lemmas, suite_out)

pub list_suite_append : (stmts : List Stmt) (s : Stmt) → list_suite (stmts ++ s ∷ []) ≡ suite_with (list_suite stmts) s
list_suite_append [] s = refl
list_suite_append (t ∷ stmts) s = ap (first t.line (form_of t.form)) (list_suite_append stmts s)

-- as many statements, and the same ones at each place
pub length_of_suite : (stmts : List Stmt) → suite_length (list_suite stmts) ≡ length stmts
length_of_suite [] = refl
length_of_suite (s ∷ stmts) = ap suc (length_of_suite stmts)

pub item_of_suite : (stmts : List Stmt) (at : ℕ) → suite_item (list_suite stmts) at ≡ option_map line_of (slice_get stmts at)
item_of_suite [] at = refl
item_of_suite (s ∷ stmts) zero = refl
item_of_suite (s ∷ stmts) (suc at) = item_of_suite stmts at

clauses_are_list : (n : _) (row : Row_of-Clause n) → row_clauses row ≡ list_clauses (items-the_row-Clause n row)
clauses_are_list n end_of-Clause = refl
clauses_are_list n (more_of-Clause (Clause' line class target suite) rest) = ap (clause line class target (suite_of suite)) (clauses_are_list _ rest)

pub clauses_out : (l : ClauseList) → clauses_of l ≡ list_clauses (out-ClauseList l).items.items
clauses_out (ClauseList' shape row) = search (rules, the_lemmas, clauses_are_list)

pub clauses_roll : (x : ClauseList-F StmtForm Clause ClauseList Stmt StmtList) → clauses_of (roll-ClauseList x) ≡ list_clauses x.items.items
clauses_roll x = search (rules, the_lemmas, clauses_out)

pub list_clauses_append : (clauses : List Clause) (c : Clause)
    → list_clauses (clauses ++ c ∷ []) ≡ clauses_with (list_clauses clauses) c
list_clauses_append [] (Clause' line class target suite) = refl
list_clauses_append (Clause' line class target suite ∷ clauses) (Clause' n x t s) = ap (clause line class target (suite_of suite)) (list_clauses_append clauses (Clause' n x t s))

-- as many clauses, and the same ones at each place
pub length_of_clauses : (clauses : List Clause) → clauses_length (list_clauses clauses) ≡ length clauses
length_of_clauses [] = refl
length_of_clauses (Clause' line class target suite ∷ clauses) = ap suc (length_of_clauses clauses)

pub item_of_clauses : (clauses : List Clause) (at : ℕ) → clauses_item (list_clauses clauses) at ≡ option_map handler_of (slice_get clauses at)
item_of_clauses [] at = refl
item_of_clauses (Clause' line class target suite ∷ clauses) zero = refl
item_of_clauses (Clause' line class target suite ∷ clauses) (suc at) = item_of_clauses clauses at
