-- The program's bodies as plain trees.
use Rattle.py_tree.specs.declared.stmt.StmtList.{StmtList, StmtList', Row_of-Stmt, end_of-Stmt, more_of-Stmt}
use Rattle.py_tree.specs.declared.stmt.ClauseList.{ClauseList, ClauseList', Row_of-Clause, end_of-Clause, more_of-Clause}
use Rattle.py_tree.specs.declared.stmt.Clause.{Clause'}
use Rattle.py_tree.specs.declared.stmt.StmtForm.{StmtForm}
use Rattle.py_tree.specs.declared.stmt.StmtForm.TheVariants as stmt
use Rattle.py_tree.specs.declared.body.Body.{Body}
use Rattle.py_tree.specs.ExprViews.{expr_of, exprs_of}
use Rattle.py_tree.specs.Tree.{Form, Assign, Do, Show, Return, Raise, Reraise, Break, Continue, Pass, If, IfElse, While, TryExcept, TryFinally, With, Suite, nothing, first, Clauses, no_more, clause, Tree}

-- a statement, a list of statements and a list of clauses
abbrev mutual
  pub form_of : StmtForm → Form
  form_of (stmt.Assign x e) = Assign x (expr_of e)
  form_of (stmt.Do o es) = Do o (exprs_of es)
  form_of (stmt.Show e) = Show (expr_of e)
  form_of (stmt.Return e) = Return (expr_of e)
  form_of (stmt.Raise e) = Raise (expr_of e)
  form_of stmt.Reraise = Reraise
  form_of stmt.Break = Break
  form_of stmt.Continue = Continue
  form_of stmt.Pass = Pass
  form_of (stmt.If e s) = If (expr_of e) (suite_of s)
  form_of (stmt.IfElse e s t) = IfElse (expr_of e) (suite_of s) (suite_of t)
  form_of (stmt.While e s) = While (expr_of e) (suite_of s)
  form_of (stmt.TryExcept s cs) = TryExcept (suite_of s) (clauses_of cs)
  form_of (stmt.TryFinally s t) = TryFinally (suite_of s) (suite_of t)
  form_of (stmt.With e x s) = With (expr_of e) x (suite_of s)

  pub suite_of : StmtList → Suite
  suite_of (StmtList' shape row) = row_suite row

  pub row_suite : {m : _} → Row_of-Stmt m → Suite
  row_suite end_of-Stmt = nothing
  row_suite (more_of-Stmt line form rest) = first line (form_of form) (row_suite rest)

  pub clauses_of : ClauseList → Clauses
  clauses_of (ClauseList' shape row) = row_clauses row

  pub row_clauses : {m : _} → Row_of-Clause m → Clauses
  row_clauses end_of-Clause = no_more
  row_clauses (more_of-Clause (Clause' line class target suite) rest) = clause line class target (suite_of suite) (row_clauses rest)

-- a function
abbrev pub tree_of : Body → Tree
tree_of b = record { kind = b.kind; name = b.name; params = b.params; suite = suite_of b.suite; line = b.line }
