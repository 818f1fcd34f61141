-- Which instruction may ask what.
use Rattle.std.specs.Prelude.{ℕ, ◌%◌, ◌≡◌, Option, Some, None, Bool, true, false, slice_get}
use Rattle.py_code.specs.declared.instruction.Instruction.{Instruction}
use Rattle.py_code.specs.declared.instruction.Instruction.TheVariants.{LoadFast, DeleteFast, LoadGlobal, BinaryOperation, CompareOperation, TestOperation, CallFunctionPositional, PrintExpr, JumpIfTrue, JumpIfFalse, SetupWith, WithCleanupStart, WithCleanupFinish, Raise, YieldValue}
use Rattle.py_code.specs.declared.operator.RaiseKind.{RaiseKind}
use Rattle.py_code.specs.declared.operator.RaiseKind.TheVariants as raise
use Rattle.py_code.specs.declared.unit.CodeUnit.{CodeUnit}
use Rattle.py_code.specs.Operators.{raise_kinds, is_asked, is_compared}
use Rattle.py_objects.specs.declared.request.Request.{Request}
use Rattle.py_objects.specs.declared.request.Request.TheVariants as request
use Rattle.py_objects.specs.Positional.{is_positional, is_bare}

-- the kind of raise that a unit with this argument is: prefixes in front of it change nothing of its low byte
abbrev pub raise_of : ℕ → Option RaiseKind
raise_of arg = slice_get raise_kinds (arg % 256)

-- whether a raise of this kind may ask this
abbrev pub may_raise : Option RaiseKind → Request → Bool
may_raise (Some raise.Reraise) request.Handled = true
may_raise (Some raise.Raise) (request.Raisable v) = true
may_raise (Some raise.RaiseCause) (request.Raisable v) = true
may_raise (Some raise.RaiseCause) (request.Cause c) = true
may_raise _ _ = false

-- whether a unit of an instruction with this argument may ask this
abbrev pub may_ask : Instruction → ℕ → Request → Bool
may_ask LoadFast arg (request.Unbound x) = true
may_ask DeleteFast arg (request.Unbound x) = true
may_ask LoadGlobal arg (request.Global globals x) = true
may_ask BinaryOperation arg (request.Binary op a b) = is_asked op
may_ask CompareOperation arg (request.Compare op a b) = is_compared op
may_ask TestOperation arg (request.Match e c) = true
may_ask CallFunctionPositional arg (request.Call f vs named) = is_positional named
may_ask CallFunctionPositional arg (request.Send g v) = true
may_ask CallFunctionPositional arg (request.Throw g c v t) = is_bare t
may_ask CallFunctionPositional arg (request.Close g) = true
may_ask PrintExpr arg (request.Show v) = true
may_ask JumpIfTrue arg (request.Truth v) = true
may_ask JumpIfFalse arg (request.Truth v) = true
may_ask SetupWith arg (request.Enter m) = true
may_ask SetupWith arg (request.NoExit m) = true
may_ask WithCleanupStart arg (request.Exit x t v b) = true
may_ask WithCleanupFinish arg (request.Truth v) = true
may_ask Raise arg r = may_raise (raise_of arg) r
may_ask _ arg _ = false

-- a unit may ask this
abbrev pub UnitAsks : Option CodeUnit → Request → Type 0
UnitAsks None r = ⊥
UnitAsks (Some u) r = may_ask u.op u.arg r ≡ true

-- a unit may yield
abbrev pub UnitYields : Option CodeUnit → Type 0
UnitYields None = ⊥
UnitYields (Some u) = u.op ≡ YieldValue
