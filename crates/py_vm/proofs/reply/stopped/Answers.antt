use Rattle.std.proofs.Common.{subst, sym}
use Rattle.py_exceptions.proofs.MakingLemmas.{built_in_class}
use Rattle.py_objects.specs.declared.error_kind.ErrorKind.TheVariants.{StopIteration}
use Rattle.py_objects.specs.declared.refs.PyTypeRef.{PyTypeRef}
use Rattle.py_objects.specs.Objects.{class_object, IsClassObject}
use Rattle.py_vm.proofs.reply.stopped.Goals as goal

pub make_exception-requires-clause-class : goal.make_exception-requires-clause-class
make_exception-requires-clause-class c =
    subst (λ (x : PyTypeRef). IsClassObject c.args.store.now.made (class_object x)) (sym c.class.ensures) (built_in_class c.args.zoo.now c.args.store.now.made StopIteration c.requires.classes)
