use Rattle.std.specs.Prelude.{◌≡◌, length}
use Rattle.py_vm.proofs.entering.no_cells.Given as goal

abbrev pub invariant-loop : goal.invariant-loop
invariant-loop l = length l.cells ≡ l.counter
