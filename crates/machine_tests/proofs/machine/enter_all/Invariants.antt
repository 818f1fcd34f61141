use Rattle.std.specs.Prelude.{◌≤◌}
use Rattle.machine_tests.proofs.machine.enter_all.Given as goal

abbrev pub invariant-loop : goal.invariant-loop
invariant-loop l = l.counter ≤ l.vm.entered
