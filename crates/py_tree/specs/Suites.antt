-- How suites and clauses are put together.
use Rattle.std.specs.Prelude.{ℕ, zero, suc, Option, Some, None, List, [], ◌∷◌}
use Rattle.py_tree.specs.declared.stmt.Stmt.{Stmt}
use Rattle.py_tree.specs.declared.stmt.Clause.{Clause, Clause'}
use Rattle.py_tree.specs.Tree.{Name, Form, Suite, nothing, first, Clauses, no_more, clause}
use Rattle.py_tree.specs.Views.{form_of, suite_of}

-- the suite of statements in order
abbrev pub list_suite : List Stmt → Suite
list_suite [] = nothing
list_suite (s ∷ ss) = first s.line (form_of s.form) (list_suite ss)

-- one suite behind another
abbrev pub joined : Suite → Suite → Suite
joined nothing t = t
joined (first n f more) t = first n f (joined more t)

-- a statement behind others
abbrev pub add : Suite → ℕ → Form → Suite
add s n f = joined s (first n f nothing)

-- the same, as the program has the statement
abbrev pub suite_with : Suite → Stmt → Suite
suite_with s stmt = add s stmt.line (form_of stmt.form)

-- how many statements there are, apart from those inside of others
abbrev pub suite_length : Suite → ℕ
suite_length nothing = 0
suite_length (first n f more) = suc (suite_length more)

-- a statement with its line
pub record Line : Type 0 where
  pub line : ℕ
  pub form : Form

abbrev pub line_of : Stmt → Line
line_of s = record { line = s.line; form = form_of s.form }

-- the statement at a place, from 0
abbrev pub suite_item : Suite → ℕ → Option Line
suite_item nothing at = None
suite_item (first n f more) zero = Some (record { line = n; form = f })
suite_item (first n f more) (suc at) = suite_item more at

-- clauses in order
abbrev pub list_clauses : List Clause → Clauses
list_clauses [] = no_more
list_clauses (Clause' line class target suite ∷ cs) = clause line class target (suite_of suite) (list_clauses cs)

-- clauses behind others
abbrev pub joined_clauses : Clauses → Clauses → Clauses
joined_clauses no_more more = more
joined_clauses (clause n c x s others) more = clause n c x s (joined_clauses others more)

-- a clause behind others
abbrev pub with_clause : Clauses → ℕ → Name → Option Name → Suite → Clauses
with_clause cs n c x s = joined_clauses cs (clause n c x s no_more)

-- the same, as the program has the clause
abbrev pub clauses_with : Clauses → Clause → Clauses
clauses_with cs (Clause' line class target suite) = with_clause cs line class target (suite_of suite)

-- how many clauses there are
abbrev pub clauses_length : Clauses → ℕ
clauses_length no_more = 0
clauses_length (clause n c x s others) = suc (clauses_length others)

-- a clause by its parts
pub record Handler : Type 0 where
  pub line : ℕ
  pub class : Name
  pub target : Option Name
  pub suite : Suite

abbrev pub handler_of : Clause → Handler
handler_of (Clause' line class target suite) = record { line = line; class = class; target = target; suite = suite_of suite }

-- the clause at a place, from 0
abbrev pub clauses_item : Clauses → ℕ → Option Handler
clauses_item no_more at = None
clauses_item (clause n c x s others) zero = Some (record { line = n; class = c; target = x; suite = s })
clauses_item (clause n c x s others) (suc at) = clauses_item others at
