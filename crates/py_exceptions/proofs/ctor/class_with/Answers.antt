use Rattle.py_objects.proofs.ChangesLemmas.{now_within}
use Rattle.py_exceptions.proofs.ctor.class_with.Goals as goal

pub get-payload-requires : goal.get-payload-requires
get-payload-requires c = now_within c.args.store.now c.args.value _ c.requires.1
