use Rattle.py_frame.proofs.ObjectsLemmas.{class_found, is_exception}
use Rattle.py_frame.proofs.exits.traceback_of.Goals as goal

pub unreachable-requires : goal.unreachable-requires
unreachable-requires c =
    let (e, has) = c.requires in
    let (found, is, class) = is_exception _ e.class (class_found c.args.store.now.made c.args.store.now.changes c.args.exception e _ has c.get.ensures.now) in
    c.in_default.not-Exception found is
