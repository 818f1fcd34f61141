use Rattle.py_coro.proofs.ReadingLemmas.{exception_is_now, of_class}
use Rattle.py_coro.proofs.leaving.is_of_class.Goals as goal

pub class_of-class-requires : goal.class_of-class-requires
class_of-class-requires c = exception_is_now c.args.store.now c.args.exc c.requires.exception

pub returns : goal.returns
returns c = of_class c.args.store.now c.args.exc c.class_of-class.result c.args.kind _ c.requires.fit c.requires.exception c.class_of-class.ensures c.derives_from.ensures
