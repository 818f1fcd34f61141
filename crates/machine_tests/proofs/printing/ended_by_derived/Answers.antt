use Rattle.std.proofs.Common.{[], ◌∷◌, refl, sym, subst}
use Rattle.py_objects.specs.Objects.{AreClasses, IsMade}
use Rattle.py_vm.specs.Machine.{Machine}
use Rattle.machine_tests.proofs.printing.ended_by_derived.Goals as goal

pub add_object-requires-clause-made : goal.add_object-requires-clause-made
add_object-requires-clause-made c =
    subst (IsMade c.in_ok-vm.vm.objects) (sym c.in_ok-class.ensures) (
    subst (λ (m : Machine). AreClasses m.objects (record { number = 4 } ∷ record { number = 3 } ∷ [])) (sym c.in_ok-vm.ensures) ((_, refl), ((_, refl), tt))
    )
