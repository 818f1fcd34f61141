-- How many units the code of each form takes, where it is known how many an instruction takes: sums over the tree. With other
-- numbers they say how many instructions of a kind there are.
use Rattle.std.specs.Prelude.{ℕ, suc, ◌+◌, Option, Some, None}
use Rattle.py_code.specs.declared.literal.BuiltinFn.{BuiltinFn}
use Rattle.py_laid.specs.Operators.{coding_of, callee_of}
use Rattle.py_tree.specs.Tree.{Name, Expr, Leaf, Operate, Exprs, no_operands, operand, Form, Assign, Do, Show, Return, Raise, Reraise, Break, Continue, Pass, If, IfElse, While, TryExcept, TryFinally, With, Suite, nothing, first, Clauses, no_more, clause}
use Rattle.py_body.specs.declared.sizes.Weights.{Weights}

-- where labels have so many prefixes and indices so many
abbrev pub weights : ℕ → ℕ → Weights
weights labels others = record { jump = suc labels; index = suc others; plain = 1 }

-- to count the instructions that have an index
abbrev pub counted : Weights
counted = record { jump = 0; index = 1; plain = 0 }

-- the function of the machine's own that an operator may call
abbrev pub size_callee : Weights → Option BuiltinFn → ℕ
size_callee w None = 0
size_callee w (Some fn) = w.index

abbrev mutual
  pub size_expr : Weights → Expr → ℕ
  size_expr w (Leaf a) = w.index
  size_expr w (Operate o es) = size_callee w (callee_of (coding_of o)) + size_exprs w es + w.plain

  pub size_exprs : Weights → Exprs → ℕ
  size_exprs w no_operands = 0
  size_exprs w (operand e es) = size_expr w e + size_exprs w es

-- where a value goes
abbrev pub size_target : Weights → Option Name → ℕ
size_target w None = w.plain
size_target w (Some x) = w.index

-- a try with a finally, by the size of its body, up to the finally
abbrev pub size_opening : Weights → ℕ → ℕ
size_opening w body = w.jump + body + w.plain + w.plain

-- and all of it, by the sizes of both bodies
abbrev pub size_finally : Weights → ℕ → ℕ → ℕ
size_finally w body final = size_opening w body + final + w.plain

-- a local is unset
abbrev pub size_forget : Weights → ℕ
size_forget w = w.index + w.index + w.index

-- a with whose manager's expression has so many units, and whose suite so many
abbrev pub size_around : Weights → (value : ℕ) → Option Name → (body : ℕ) → ℕ
size_around w value x body = value + w.jump + size_target w x + body + w.plain + w.plain + w.plain + w.plain

-- a with up to its exit, by its expression and the size of its body
abbrev pub size_managed : Weights → Expr → Option Name → ℕ → ℕ
size_managed w a x body = size_expr w a + w.jump + size_target w x + body + w.plain + w.plain

-- and all of it
abbrev pub size_with : Weights → Expr → Option Name → ℕ → ℕ
size_with w a x body = size_managed w a x body + w.plain + w.plain

-- the suite of a clause, by its size
abbrev pub size_handler : Weights → Option Name → ℕ → ℕ
size_handler w None body = body
size_handler w (Some x) body = size_finally w body (size_forget w)

-- whether a clause matches is tested, and its name is bound
abbrev pub size_match : Weights → Option Name → ℕ
size_match w x = w.plain + w.index + w.plain + w.jump + size_target w x

-- a clause, by the size of its suite
abbrev pub size_clause : Weights → Option Name → ℕ → ℕ
size_clause w x body = size_match w x + size_handler w x body + w.plain + w.jump

abbrev mutual
  pub size_form : Weights → Form → ℕ
  size_form w (Assign x e) = size_expr w e + w.index
  size_form w (Do o es) = size_expr w (Operate o es) + w.plain
  size_form w (Show a) = size_expr w a + w.plain
  size_form w (Return a) = size_expr w a + w.plain
  size_form w (Raise a) = size_expr w a + w.plain
  size_form w Reraise = w.plain
  size_form w Break = w.jump
  size_form w Continue = w.jump
  size_form w Pass = 0
  size_form w (If a s) = size_expr w a + w.jump + size_suite w s
  size_form w (IfElse a s t) = size_expr w a + w.jump + size_suite w s + w.jump + size_suite w t
  size_form w (While a s) = w.plain + size_expr w a + w.jump + size_suite w s + w.jump + w.plain
  size_form w (TryExcept s cs) = w.jump + size_suite w s + w.plain + w.jump + size_clauses w cs + w.plain
  size_form w (TryFinally s t) = size_finally w (size_suite w s) (size_suite w t)
  size_form w (With a x s) = size_with w a x (size_suite w s)

  pub size_suite : Weights → Suite → ℕ
  size_suite w nothing = 0
  size_suite w (first n f more) = size_form w f + size_suite w more

  pub size_clauses : Weights → Clauses → ℕ
  size_clauses w no_more = 0
  size_clauses w (clause n c x s more) = size_clause w x (size_suite w s) + size_clauses w more

-- a try with clauses, up to the clauses
abbrev pub size_tried : Weights → Suite → ℕ
size_tried w s = w.jump + size_suite w s + w.plain + w.jump

-- a loop up to where it is left
abbrev pub size_rounds : Weights → Expr → Suite → ℕ
size_rounds w a s = w.plain + size_expr w a + w.jump + size_suite w s + w.jump

-- a whole body, with the return at its end
abbrev pub size_body : Weights → Suite → ℕ
size_body w s = size_suite w s + w.index

-- no body that can be compiled has more units than this: a statement, a clause, an atom and an operator take at most 40
abbrev pub most_units : ℕ
most_units = 41943040
