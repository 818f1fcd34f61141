-- Codes of units that ask only what the machine answers.
use Rattle.std.proofs.Common.{◌≡◌, ◌≢◌, ℕ, true, refl}
use Rattle.std.specs.Prelude.{Bool, Option, Some, slice_get}
use Rattle.py_code.specs.declared.code.PyCode.{PyCode}
use Rattle.py_code.specs.declared.instruction.Instruction.{Instruction}
use Rattle.py_code.specs.declared.instruction.Instruction.TheVariants.{LoadFast, DeleteFast, LoadGlobal, BinaryOperation, CompareOperation, TestOperation, CallFunctionPositional, PrintExpr, JumpIfTrue, JumpIfFalse, SetupWith, WithCleanupStart, WithCleanupFinish, Raise}
use Rattle.py_code.specs.declared.operator.RaiseKind.{RaiseKind}
use Rattle.py_code.specs.declared.operator.RaiseKind.TheVariants as raise
use Rattle.py_code.specs.declared.unit.CodeUnit.{CodeUnit}
use Rattle.py_objects.specs.declared.request.Request.{Request}
use Rattle.py_objects.specs.declared.request.Request.TheVariants as request
use Rattle.py_rows.specs.Questions.{raise_of, may_raise, may_ask}
use Rattle.py_rows.specs.Signature.{kind_of}
use Rattle.py_answers.specs.Replying.{is_answered}
use Rattle.py_vm.specs.Codes.{CodeIsAnswered, IsDriven, TakesPositional}

-- instructions, each with some arguments, that the machine answers: no raise has a cause
pub record AreAnswered (is_used : Instruction → ℕ → Bool) : Type 0 where
  pub no_cause : (arg : ℕ) → is_used Raise arg ≡ true → raise_of arg ≢ Some raise.RaiseCause

-- what a raise asks that has no cause
raise_answered : (k : Option RaiseKind) (q : Request) → k ≢ Some raise.RaiseCause → may_raise k q ≡ true → is_answered q ≡ true
raise_answered (Some raise.Reraise) request.Handled plain asks = refl
raise_answered (Some raise.Raise) (request.Raisable v) plain asks = refl
raise_answered (Some raise.RaiseCause) q plain asks = absurd (plain refl)
raise_answered _ _ plain asks = absurd (cc asks)

module _ (is_used : Instruction → ℕ → Bool) (answered : AreAnswered is_used) where
  -- what a unit asks that is used the machine answers
  unit_answered : (op : Instruction) (arg : ℕ) → is_used op arg ≡ true → (q : Request) → may_ask op arg q ≡ true → is_answered q ≡ true
  unit_answered LoadFast arg used (request.Unbound x) asks = refl
  unit_answered DeleteFast arg used (request.Unbound x) asks = refl
  unit_answered LoadGlobal arg used (request.Global globals x) asks = refl
  unit_answered BinaryOperation arg used (request.Binary op a b) asks = asks
  unit_answered CompareOperation arg used (request.Compare op a b) asks = asks
  unit_answered TestOperation arg used (request.Match e c) asks = refl
  unit_answered CallFunctionPositional arg used (request.Call f vs named) asks = asks
  unit_answered CallFunctionPositional arg used (request.Send g v) asks = refl
  unit_answered CallFunctionPositional arg used (request.Throw g c v t) asks = asks
  unit_answered CallFunctionPositional arg used (request.Close g) asks = refl
  unit_answered PrintExpr arg used (request.Show v) asks = refl
  unit_answered JumpIfTrue arg used (request.Truth v) asks = refl
  unit_answered JumpIfFalse arg used (request.Truth v) asks = refl
  unit_answered WithCleanupFinish arg used (request.Truth v) asks = refl
  unit_answered SetupWith arg used (request.Enter m) asks = refl
  unit_answered SetupWith arg used (request.NoExit m) asks = refl
  unit_answered WithCleanupStart arg used (request.Exit x c e t) asks = refl
  unit_answered Raise arg used q asks = raise_answered (raise_of arg) q (answered.no_cause arg used) asks
  unit_answered _ arg used _ asks = absurd (cc asks)

  -- so are all questions of a code whose units are all such, whose arguments are bound, and whose activations are driven
  pub code_answered : (code : PyCode) → ((at : ℕ) (u : CodeUnit) → slice_get code.code.instructions.items at ≡ Some u → is_used u.op u.arg ≡ true) → TakesPositional code.code → IsDriven (kind_of code.code.flags)
      → CodeIsAnswered code
  code_answered code uses bound driven = record { bound = bound; units = λ at u here. unit_answered u.op u.arg (uses at u here); driven = driven }
