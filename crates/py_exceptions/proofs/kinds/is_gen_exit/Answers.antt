use Rattle.std.proofs.Common.{ap, sym, ◌∙◌}
use Rattle.py_objects.specs.declared.refs.PyTypeRef.{PyTypeRef}
use Rattle.py_objects.specs.declared.error_kind.ErrorKind.TheVariants.{GeneratorExit}
use Rattle.py_objects.specs.ErrorKinds.{name_of}
use Rattle.py_objects.specs.Objects.{as_object, class_object}
use Rattle.py_objects.specs.Ancestry.{derives_from}
use Rattle.py_objects.proofs.ChangesLemmas.{exception_now, exception_made}
use Rattle.py_exceptions.proofs.kinds.is_gen_exit.Goals as goal

pub exception_body-requires : goal.exception_body-requires
exception_body-requires c =
    let (e, has) = c.requires in
    let (f, now, same) = exception_now c.args.store.now (as_object c.args.exc) e has in
    (f, now)

pub returns : goal.returns
returns c =
    let (e, has, same) = exception_made c.args.store.now (as_object c.args.exc) _ c.requires c.exception_body.ensures in
    (e, has, c.derives_from.ensures ∙ ap (λ (class : PyTypeRef). derives_from c.args.store.now.made (class_object class) (name_of GeneratorExit)) (sym same))
