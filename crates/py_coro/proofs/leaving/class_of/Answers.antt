use Rattle.py_objects.specs.Objects.{as_object}
use Rattle.py_objects.proofs.ChangesLemmas.{now_within}
use Rattle.py_coro.proofs.leaving.class_of.Goals as goal

pub get-requires : goal.get-requires
get-requires c = rw c.from.ensures (now_within c.args.store.now (as_object c.args.exc) _ c.requires.1)
