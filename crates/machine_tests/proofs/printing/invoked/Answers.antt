use Rattle.std.proofs.Common.{ap}
use Rattle.py_vm.specs.Machine.{Machine}
use Rattle.machine_tests.proofs.AddedLemmas.{class_on, value_error}
use Rattle.machine_tests.proofs.printing.invoked.Goals as goal

pub invoke_exception-requires-clause-class : goal.invoke_exception-requires-clause-class
invoke_exception-requires-clause-class c =
    class_on _ _ _ _ (ap (λ (m : Machine). m.objects) c.in-Ok.ensures.1.1) (value_error _ _ c.in_ok-vm.ensures)
