use Rattle.py_objects.proofs.ChangesLemmas.{now_within}
use Rattle.py_exceptions.proofs.ctor.ExceptionCtor.instantiate_value.Goals as goal

pub instance_with-outcome-requires : goal.instance_with-outcome-requires
instance_with-outcome-requires c = now_within c.args.store.now c.args.value _ c.requires.1
