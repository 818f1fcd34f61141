use Rattle.std.proofs.Common.{ap, ◌∙◌}
use Rattle.py_objects.specs.Attrs.{value_of}
use Rattle.py_vm.specs.declared.machinery.Core.{Core}
use Rattle.py_vm.proofs.StandsLemmas.{kept_idle}
use Rattle.py_vm.proofs.vm.VirtualMachine.declared.Goals as goal

pub returns : goal.returns
returns c =
    let m : Core = c.self.inside.core.value in
    let idle = c.self.invariant (rw (← c.self.view_is) at c.requires.works) in
    rw (← c.self.view_is) (c.get.ensures ∙ ap (λ (k : Core). value_of c.args.name.now k.world.declarations) c.deref.ensures ∙ (kept_idle m idle).stored.names_are c.args.name.now)
