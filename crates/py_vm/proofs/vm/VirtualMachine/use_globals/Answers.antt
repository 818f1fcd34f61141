use Rattle.std.proofs.Common.{◌≡◌, sym, ap, ◌∙◌, subst}
use Rattle.py_vm.specs.declared.machinery.Core.{Core}
use Rattle.py_vm.specs.Stands.{Stands, seen}
use Rattle.py_vm.proofs.StandsLemmas.{globals_idle}
use Rattle.py_vm.proofs.vm.VirtualMachine.use_globals.Goals as goal

pub invariant_of-self-2 : goal.invariant_of-self-2
invariant_of-self-2 c works =
    let m : Core = c.deref_mut-core.result.now in
    let is : seen m ≡ c.args.self.now = ap seen c.deref_mut-core.ensures.value ∙ c.self.view_is in
    globals_idle m c.args.globals (rw (← is) at c.requires.nothing) (rw (← is) at c.requires.dict) (subst Stands (sym c.deref_mut-core.ensures.value) c.self.invariant works)
