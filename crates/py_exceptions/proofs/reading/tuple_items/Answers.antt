use Rattle.py_objects.proofs.ChangesLemmas.{now_within}
use Rattle.py_exceptions.proofs.reading.tuple_items.Goals as goal

pub get-requires : goal.get-requires
get-requires c = now_within c.args.store.now c.args.tuple _ c.requires.1
