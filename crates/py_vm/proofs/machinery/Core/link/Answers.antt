use Rattle.std.proofs.Common.{length, refl, sym, subst}
use Rattle.std.specs.Prelude.{Option}
use Rattle.py_stack.specs.Slots.{topmost}
use Rattle.py_vm.specs.declared.machinery.Core.{Core}
use Rattle.py_vm.specs.declared.raising.Raising.{Raising}
use Rattle.py_vm.specs.Raising.{LinksOf}
use Rattle.py_vm.proofs.machinery.Core.link.Goals as goal

pub returns-in_default : goal.returns-in_default
returns-in_default c =
    let m : Core = c.args.self.now in
    (m.world.store, subst (λ (r : Option Raising). LinksOf r (length m.events) (topmost m.slots) m.world.store m.world.store) (sym c.in_default.is) refl, refl)
