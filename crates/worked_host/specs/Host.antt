-- The host between two calls.
use Rattle.std.specs.Prelude.{ℕ, List, ◌<◌, false, ◌≡◌, length}
use Rattle.py_check.specs.declared.annotated.Annotated.{Annotated}
use Rattle.py_check.specs.Sheet.{sheet_of}
use Rattle.py_check.specs.Typing.{IsTyped}
use Rattle.py_check.specs.Running.{AllRun}
use Rattle.py_rows.specs.Sound.{AreNames}
use Rattle.py_vm.specs.Codes.{CodeIsAnswered}
use Rattle.worked_host.specs.declared.host.Host.{Host}

-- a host that can call its function: its machine hasn't failed, and the function is there
pub record IsReady (h : Host) : Type 0 where
  pub works : h.vm.failed ≡ false
  pub there : h.function.number < length h.vm.objects

-- a code that a machine with this table of names takes, whatever codes it has: it keeps the rules, each of its units runs, and all that they may ask
-- is answered
pub record IsTaken (names : List (List ℕ)) (code : Annotated) : Type 0 where
  pub typed : (shapes : List ℕ) → IsTyped shapes (sheet_of code)
  pub runs : AllRun (sheet_of code)
  pub named : AreNames names code.code
  pub answered : CodeIsAnswered code.code
