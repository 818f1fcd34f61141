use Rattle.std.proofs.Common.{◌≡◌, ◌<◌, ℕ, true}
use Rattle.py_check.specs.Breaking.{keeps}
use Rattle.py_check.specs.Operands.{carried}
use Rattle.py_check.specs.Sheet.{sheet_of}
use Rattle.py_check.specs.WholeCode.{keeps_whole}
use Rattle.py_check.proofs.check.first_break.Given as goal

abbrev pub invariant-loop-at : goal.invariant-loop-at
invariant-loop-at l =
    (keeps_whole l.shapes (sheet_of l.code) ≡ true) × (l.state ≡ carried l.units l.at) × ((k : ℕ) → k < l.at → keeps l.shapes (sheet_of l.code) k ≡ true)
