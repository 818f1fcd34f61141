use Rattle.machine_tests.proofs.AddedLemmas.{value_error}
use Rattle.machine_tests.proofs.printing.caused.Goals as goal

pub add_error-requires-clause-class : goal.add_error-requires-clause-class
add_error-requires-clause-class c = value_error _ _ c.in_ok-vm.ensures
