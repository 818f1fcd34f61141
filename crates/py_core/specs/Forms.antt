-- Which scripts use the forms of the core alone: no code is written unit by unit, no operand is an expression of its own, and no drive has anything reported.
use Rattle.std.specs.Prelude.{Bool, true, false, ◌&&◌, ◌≡◌}
use Rattle.std.specs.List.{list_all}
use Rattle.py_tree.specs.Tree.{Expr, Leaf, Operate, Exprs, no_operands, operand, Form, Assign, Do, Show, Return, Raise, Reraise, Break, Continue, Pass, If, IfElse, While, TryExcept, TryFinally, With, Suite, nothing, first, Clauses, no_more, clause}
use Rattle.py_grammar.specs.Grammar.{Decl, ClassDecl, ManagerDecl, FunctionDecl, RawDecl}
use Rattle.py_grammar.specs.Script.{decls_of}
use Rattle.py_grammar.specs.declared.script.Script.{Script}
use Rattle.py_meaning.specs.Core.{is_plain}

-- an expression that is an atom
abbrev pub is_atom : Expr → Bool
is_atom (Leaf a) = true
is_atom (Operate o es) = false

-- operands that are atoms
abbrev pub are_atoms : Exprs → Bool
are_atoms no_operands = true
are_atoms (operand e es) = is_atom e && are_atoms es

-- an expression that is an atom, or an operator with atoms
abbrev pub is_simple : Expr → Bool
is_simple (Leaf a) = true
is_simple (Operate o es) = are_atoms es

abbrev mutual
  -- a statement of the core: what it assigns may be an operator with atoms, all else is an atom
  pub form_is_core : Form → Bool
  form_is_core (Assign x e) = is_simple e
  form_is_core (Do o es) = are_atoms es
  form_is_core (Show e) = is_atom e
  form_is_core (Return e) = is_atom e
  form_is_core (Raise e) = is_atom e
  form_is_core Reraise = true
  form_is_core Break = true
  form_is_core Continue = true
  form_is_core Pass = true
  form_is_core (If e s) = is_atom e && suite_is_core s
  form_is_core (IfElse e s t) = is_atom e && suite_is_core s && suite_is_core t
  form_is_core (While e s) = is_atom e && suite_is_core s
  form_is_core (TryExcept s cs) = suite_is_core s && clauses_are_core cs
  form_is_core (TryFinally s t) = suite_is_core s && suite_is_core t
  form_is_core (With e x s) = is_atom e && suite_is_core s

  -- statements in order
  pub suite_is_core : Suite → Bool
  suite_is_core nothing = true
  suite_is_core (first n f more) = form_is_core f && suite_is_core more

  -- clauses in order
  pub clauses_are_core : Clauses → Bool
  clauses_are_core no_more = true
  clauses_are_core (clause n c x s more) = suite_is_core s && clauses_are_core more

-- a declaration of the core
abbrev pub decl_is_core : Decl → Bool
decl_is_core (ClassDecl c b) = true
decl_is_core (ManagerDecl m e x) = true
decl_is_core (FunctionDecl t) = suite_is_core t.suite
decl_is_core (RawDecl b) = false

-- a script of the core
pub record IsCoreScript (s : Script) : Type 0 where
  pub declares : list_all decl_is_core (decls_of s) ≡ true
  pub drives : list_all is_plain s.drives ≡ true
