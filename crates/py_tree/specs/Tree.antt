-- Bodies as the definitions see them: plain trees, apart from the program's lists.
use Rattle.std.specs.Prelude.{ℕ, Option, Some, None, List}
use Rattle.py_objects.specs.declared.payload.CoroKind.{CoroKind}
use Rattle.py_objects.specs.declared.payload.CoroKind.TheVariants as coro
pub use Rattle.py_objects.specs.Refs.{Name}
use Rattle.py_tree.specs.declared.body.BodyKind.{BodyKind}
use Rattle.py_tree.specs.declared.body.BodyKind.TheVariants.{Function, Generator}
use Rattle.py_tree.specs.declared.expr.Atom.{Atom}
use Rattle.py_tree.specs.declared.expr.Operator.{Operator}

mutual
  -- an expression
  pub data Expr : Type 0 where
    Leaf : Atom → Expr  -- a
    Operate : Operator → Exprs → Expr  -- (op e ..)

  -- operands in order
  pub data Exprs : Type 0 where
    no_operands : Exprs
    operand : Expr → Exprs → Exprs

mutual
  -- a statement
  pub data Form : Type 0 where
    Assign : Name → Expr → Form  -- x = e
    Do : Operator → Exprs → Form  -- do (op e ..)
    Show : Expr → Form  -- show e
    Return : Expr → Form  -- return e
    Raise : Expr → Form  -- raise e
    Reraise : Form  -- reraise
    Break : Form  -- break
    Continue : Form  -- continue
    Pass : Form  -- pass
    If : Expr → Suite → Form  -- if e
    IfElse : Expr → Suite → Suite → Form  -- if e, with an else
    While : Expr → Suite → Form  -- while e
    TryExcept : Suite → Clauses → Form  -- try, with clauses
    TryFinally : Suite → Suite → Form  -- try, with a finally
    With : Expr → Option Name → Suite → Form  -- with e, or with e as x

  -- statements in order, each with its line
  pub data Suite : Type 0 where
    nothing : Suite
    first : ℕ → Form → Suite → Suite

  -- clauses in order, each with its line, its class, the name that it binds and its suite
  pub data Clauses : Type 0 where
    no_more : Clauses
    clause : ℕ → Name → Option Name → Suite → Clauses → Clauses

-- a function
pub record Tree : Type 0 where
  pub kind : BodyKind
  pub name : Name
  pub params : List Name
  pub suite : Suite
  pub line : ℕ

-- what activations of a function are seen as, where they can be suspended (Python Language Reference, 6.2.9)
abbrev pub seen_as : BodyKind → Option CoroKind
seen_as Function = None
seen_as Generator = Some coro.Generator
