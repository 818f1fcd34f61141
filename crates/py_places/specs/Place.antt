-- What is left of a body behind some of its own events: a place in its tree, its locals, and what its literals stand for.
use Rattle.std.specs.Prelude.{ℕ, Option, List}
use Rattle.py_objects.specs.declared.refs.PyBaseExceptionRef.{PyBaseExceptionRef}
use Rattle.py_objects.specs.declared.request.Request.{Request}
use Rattle.py_objects.specs.Objects.{Obj}
use Rattle.py_tree.specs.declared.expr.Operator.{Operator}
use Rattle.py_tree.specs.Tree.{Name, Expr, Exprs, Suite, Clauses, Tree}
use Rattle.py_tree.specs.Binding.{Env}
use Rattle.py_tree.specs.Outcome.{Outcome, Handled}
use Rattle.py_places.specs.Cells.{Cells}

-- what a truth value decides
pub data Choice : Type 0 where
  Branches : Suite → Choice  -- whether a suite runs
  Branches_else : (then_suite else_suite : Suite) → Choice  -- which of two does
  Turns : (line : ℕ) → Expr → Suite → Choice  -- whether the loop of a line has another turn
  Catches : (line : ℕ) → Option Name → Suite → (more : Clauses) → PyBaseExceptionRef → Choice  -- whether a clause of the try of a line does, or those behind it
  Swallows : PyBaseExceptionRef → Choice  -- whether an exit keeps an exception from being raised further

-- what becomes of a value
pub data Then : Type 0 where
  Stored : Option Name → Then  -- it is bound or dropped
  Shown : Then  -- it is shown
  Returned : Then  -- it is returned
  Raising : Then  -- what it is raised as is asked
  Raised : Then  -- it is raised
  Tested : Choice → Then  -- its truth is asked
  Told : Choice → Then  -- it is the answer to that
  Classed : (line : ℕ) → Option Name → Suite → (more : Clauses) → PyBaseExceptionRef → Then  -- it is the class of such a clause
  Entering : (line : ℕ) → Option Name → Suite → Then  -- it is the manager of the with of a line
  Entered : (line : ℕ) → Obj → Option Name → Suite → Then  -- it is the answer to the entry of that manager
  Refused : Then  -- no value answers
  Passed : Outcome → Then  -- it is dropped, and this outcome passes on
  Operand : (line : ℕ) → Operator → (front : List Obj) → (back : Exprs) → Then → Then  -- an operand, between these, of an operator whose value becomes this

-- what stands around a statement; but for the pending outcome and the clauses each has what is handled where it goes on
pub data Frame : Type 0 where
  Behind : Handled → Suite → Frame  -- statements behind it
  Turn : Handled → (line : ℕ) → Expr → Suite → Frame  -- the loop of a line
  Final : Handled → Suite → Frame  -- a finally
  Passing : Outcome → Frame  -- the suite of one, behind an outcome
  Catch : (line : ℕ) → Clauses → Frame  -- the clauses of the try of a line
  Forget : Handled → Name → Frame  -- the suite of a clause, whose name is forgotten
  Exit : Handled → (line : ℕ) → Obj → Frame  -- the with of a line with this manager

-- the innermost first
abbrev pub Frames : Type 0
Frames = List Frame

-- what is asked: a name among the globals, or a request
pub data Question : Type 0 where
  Looks_up : Name → Question
  Requests : Request → Question

-- how a body comes to its end
pub data Last : Type 0 where
  Nothing_more : Last
  Value : Obj → Last
  Raise : PyBaseExceptionRef → Last

-- what may be told next: nothing; how an activation of a function with these arguments starts; a question; its answer; a yield; how the body goes
-- on behind it; the round of a loop; the exit of a manager without a raise, or by one; the end
pub data Rest : Type 0 where
  Stuck : Rest
  Starting : Tree → List Obj → Rest
  Asking : Env → Handled → Question → Then → Frames → Rest
  Waiting : Env → Handled → Then → Frames → Rest
  Yielding : Env → Handled → Obj → Then → Frames → Rest
  Suspended : Env → Handled → Then → Frames → Rest
  Turning : Env → Handled → (line : ℕ) → Expr → Suite → Frames → Rest
  Leaving : Env → Handled → Obj → Then → Frames → Rest
  Leaving_by : Env → Handled → Obj → PyBaseExceptionRef → Then → Frames → Rest
  Ending_by : Last → Rest

pub record Place : Type 0 where
  pub cells : Cells
  pub rest : Rest

abbrev pub place : Cells → Rest → Place
place cells rest = record { cells = cells; rest = rest }
