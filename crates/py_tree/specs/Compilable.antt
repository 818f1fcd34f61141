-- Which bodies can be compiled: their parameters differ and are few, each operator has its operands and at most 64 stand inside of one another, only
-- generators yield, break and continue stand inside of loops, no more withs stand inside of one another than blocks may be open, and there are no
-- more statements, clauses, atoms and operators than the longest script has bytes.
use Rattle.std.specs.Prelude.{ℕ, suc, ◌+◌, ◌≤◌, ◌<◌, Bool, true, false, ◌≡◌, ◌≢◌, max, length, AllPairs}
use Rattle.py_tree.specs.declared.body.BodyKind.{BodyKind}
use Rattle.py_tree.specs.declared.body.BodyKind.TheVariants.{Generator}
use Rattle.py_tree.specs.Operators.{Way, Asks_one, Asks_two, Calls_it, Yields_it, way_of}
use Rattle.py_tree.specs.Tree.{Expr, Leaf, Operate, Exprs, no_operands, operand, Form, Assign, Do, Show, Return, Raise, Break, Continue, If, IfElse, While, TryExcept, TryFinally, With, Suite, nothing, first, Clauses, no_more, clause, Tree}

-- how many operands there are
abbrev pub operands : Exprs → ℕ
operands no_operands = 0
operands (operand e es) = suc (operands es)

abbrev mutual
  -- how many operators stand inside of one another
  pub deep : Expr → ℕ
  deep (Leaf a) = 0
  deep (Operate o es) = suc (deepest es)

  pub deepest : Exprs → ℕ
  deepest no_operands = 0
  deepest (operand e es) = max (deep e) (deepest es)

abbrev mutual
  -- how many atoms and operators there are
  pub parts : Expr → ℕ
  parts (Leaf a) = 1
  parts (Operate o es) = suc (all_parts es)

  pub all_parts : Exprs → ℕ
  all_parts no_operands = 0
  all_parts (operand e es) = parts e + all_parts es

module _ (kind : BodyKind) where
  -- whether an operator takes so many operands: a call has a callee and at most 255 arguments, and only a generator yields
  abbrev pub OperandsFit : Way → Exprs → Type 0
  OperandsFit (Asks_one r) es = operands es ≡ 1
  OperandsFit (Asks_two r) es = operands es ≡ 2
  OperandsFit Calls_it es = (1 ≤ operands es) × (operands es ≤ 256)
  OperandsFit Yields_it es = (kind ≡ Generator) × (operands es ≡ 1)

  -- each operator inside of an expression has the operands that it takes
  abbrev mutual
    pub EachFits : Expr → Type 0
    EachFits (Leaf a) = Unit {0}
    EachFits (Operate o es) = OperandsFit (way_of o) es × AllFit es

    pub AllFit : Exprs → Type 0
    AllFit no_operands = Unit {0}
    AllFit (operand e es) = EachFits e × AllFit es

  -- each operator has its operands, and at most 64 stand inside of one another
  abbrev pub ExprFits : Expr → Type 0
  ExprFits e = EachFits e × (deep e ≤ 64)

  abbrev mutual
    -- each expression of a statement fits, and a break or continue stands inside of a loop, be it the one around the statement
    pub FormFits : Bool → Form → Type 0
    FormFits in_loop (Assign x e) = ExprFits e
    FormFits in_loop (Do o es) = ExprFits (Operate o es)
    FormFits in_loop (Show e) = ExprFits e
    FormFits in_loop (Return e) = ExprFits e
    FormFits in_loop (Raise e) = ExprFits e
    FormFits in_loop Break = in_loop ≡ true
    FormFits in_loop Continue = in_loop ≡ true
    FormFits in_loop (If a s) = ExprFits a × SuiteFits in_loop s
    FormFits in_loop (IfElse a s t) = ExprFits a × SuiteFits in_loop s × SuiteFits in_loop t
    FormFits in_loop (While a s) = ExprFits a × SuiteFits true s
    FormFits in_loop (TryExcept s cs) = SuiteFits in_loop s × ClausesFit in_loop cs
    FormFits in_loop (TryFinally s t) = SuiteFits in_loop s × SuiteFits in_loop t
    FormFits in_loop (With a x s) = ExprFits a × SuiteFits in_loop s
    FormFits in_loop f = Unit {0}

    pub SuiteFits : Bool → Suite → Type 0
    SuiteFits in_loop nothing = Unit {0}
    SuiteFits in_loop (first n f more) = FormFits in_loop f × SuiteFits in_loop more

    pub ClausesFit : Bool → Clauses → Type 0
    ClausesFit in_loop no_more = Unit {0}
    ClausesFit in_loop (clause n c x s more) = SuiteFits in_loop s × ClausesFit in_loop more

abbrev mutual
  -- fewer than 64 withs stand around each with, where so many stand around the statement
  pub FormNests : ℕ → Form → Type 0
  FormNests around (If a s) = SuiteNests around s
  FormNests around (IfElse a s t) = SuiteNests around s × SuiteNests around t
  FormNests around (While a s) = SuiteNests around s
  FormNests around (TryExcept s cs) = SuiteNests around s × ClausesNest around cs
  FormNests around (TryFinally s t) = SuiteNests around s × SuiteNests around t
  FormNests around (With a x s) = (around < 64) × SuiteNests (suc around) s
  FormNests around f = Unit {0}

  pub SuiteNests : ℕ → Suite → Type 0
  SuiteNests around nothing = Unit {0}
  SuiteNests around (first n f more) = FormNests around f × SuiteNests around more

  pub ClausesNest : ℕ → Clauses → Type 0
  ClausesNest around no_more = Unit {0}
  ClausesNest around (clause n c x s more) = SuiteNests around s × ClausesNest around more

abbrev mutual
  -- how many statements, clauses, atoms and operators there are, those inside others too
  pub statements_in : Form → ℕ
  statements_in (Assign x e) = suc (parts e)
  statements_in (Do o es) = suc (suc (all_parts es))
  statements_in (Show e) = suc (parts e)
  statements_in (Return e) = suc (parts e)
  statements_in (Raise e) = suc (parts e)
  statements_in (If a s) = suc (parts a + statements s)
  statements_in (IfElse a s t) = suc (parts a + (statements s + statements t))
  statements_in (While a s) = suc (parts a + statements s)
  statements_in (TryExcept s cs) = suc (statements s + statements_under cs)
  statements_in (TryFinally s t) = suc (statements s + statements t)
  statements_in (With a x s) = suc (parts a + statements s)
  statements_in f = 1

  pub statements : Suite → ℕ
  statements nothing = 0
  statements (first n f more) = statements_in f + statements more

  pub statements_under : Clauses → ℕ
  statements_under no_more = 0
  statements_under (clause n c x s more) = suc (statements s + statements_under more)

-- a body that can be compiled
pub record IsCompilable (t : Tree) : Type 0 where
  pub distinct : AllPairs (λ x y. x ≢ y) t.params
  pub few : length t.params ≤ 255
  pub fits : SuiteFits t.kind false t.suite
  pub nests : SuiteNests 0 t.suite
  pub short : statements t.suite ≤ 1048576
