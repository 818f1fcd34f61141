use Rattle.py_objects.proofs.ChangesLemmas.{now_within}
use Rattle.py_exceptions.proofs.reading.class_body.Goals as goal

pub get-requires : goal.get-requires
get-requires c = now_within c.args.store.now c.args.class _ c.requires.1
