-- Plain statements, and lines that open a block, as the definitions see them: plain data, apart from the program's lists.
use Rattle.std.specs.Prelude.{Option}
use Rattle.py_tree.specs.declared.expr.Operator.{Operator}
use Rattle.py_tree.specs.Tree.{Name, Expr, Exprs}

-- a plain statement
pub data Plain : Type 0 where
  Assign : Name → Expr → Plain  -- x = e
  Do : Operator → Exprs → Plain  -- do (op e ..)
  Show : Expr → Plain  -- show e
  Return : Expr → Plain  -- return e
  Raise : Expr → Plain  -- raise e
  Reraise : Plain  -- reraise
  Break : Plain  -- break
  Continue : Plain  -- continue
  Pass : Plain  -- pass

-- a line that opens a block
pub data Head : Type 0 where
  If : Expr → Head  -- if e
  While : Expr → Head  -- while e
  Try : Head  -- try
  With : Expr → Option Name → Head  -- with e, or with e as x
