use Rattle.std.proofs.Common.{◌∙◌}
use Rattle.py_objects.proofs.StoreLemmas.{derives_as_made}
use Rattle.py_objects.specs.Objects.{class_object}
use Rattle.py_objects.specs.ErrorKinds.{name_of}
use Rattle.py_objects.proofs.store.Store.derives_from.Goals as goal

pub returns : goal.returns
returns c =
    rw c.as_slice.ensures.value at c.derives_from.ensures
    ∙ derives_as_made _ _ _ _ _ c.self.invariant.0 c.args.self.now c.self.view_is (class_object c.args.class) (name_of c.args.kind)
