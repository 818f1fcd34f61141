use Rattle.std.proofs.Common.{subst, sym}
use Rattle.py_exceptions.proofs.MakingLemmas.{built_in_class}
use Rattle.py_objects.specs.declared.error_kind.ErrorKind.TheVariants.{GeneratorExit}
use Rattle.py_objects.specs.declared.refs.PyTypeRef.{PyTypeRef}
use Rattle.py_objects.specs.Objects.{class_object, IsClassObject}
use Rattle.py_vm.proofs.world.World.exit.Goals as goal

pub make_exception-requires-clause-class : goal.make_exception-requires-clause-class
make_exception-requires-clause-class c =
    subst (λ (x : PyTypeRef). IsClassObject c.args.self.now.store.made (class_object x)) (sym c.class.ensures) (built_in_class c.args.self.now.zoo c.args.self.now.store.made GeneratorExit c.requires)
