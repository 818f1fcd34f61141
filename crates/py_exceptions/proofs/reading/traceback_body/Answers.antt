use Rattle.py_objects.specs.Refs.{object_of_traceback}
use Rattle.py_objects.proofs.ChangesLemmas.{now_within}
use Rattle.py_exceptions.proofs.reading.traceback_body.Goals as goal

pub get-requires : goal.get-requires
get-requires c = rw c.from.ensures (now_within c.args.store.now (object_of_traceback c.args.tb) _ c.requires.1)
