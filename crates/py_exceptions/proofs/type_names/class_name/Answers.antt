use Rattle.std.proofs.lemmas.Result.{IfOk-weaker}
use Rattle.py_objects.specs.Objects.{class_object}
use Rattle.py_objects.proofs.ChangesLemmas.{class_object_now, class_made}
use Rattle.py_exceptions.proofs.type_names.class_name.Goals as goal

pub class_body-body-requires : goal.class_body-body-requires
class_body-body-requires c = rw c.from.ensures (class_object_now c.args.store.now (class_object c.args.class) c.requires)

pub returns : goal.returns
returns c =
    IfOk-weaker c.copy.result _ _
    (λ name is. (c.class_body-body.result.now, class_made c.args.store.now (class_object c.args.class) c.class_body-body.result.now c.requires (rw c.from.ensures at c.class_body-body.ensures), is)) c.copy.ensures
