use Rattle.std.proofs.Common.{sym, subst}
use Rattle.py_vm.specs.Stands.{Stands}
use Rattle.py_vm.proofs.StandsLemmas.{entered_idle}
use Rattle.py_vm.proofs.vm.VirtualMachine.leave.Goals as goal

pub invariant_of-self : goal.invariant_of-self
invariant_of-self c works = entered_idle c.deref_mut.result.now _ (subst Stands (sym c.deref_mut.ensures.value) c.self.invariant works)
