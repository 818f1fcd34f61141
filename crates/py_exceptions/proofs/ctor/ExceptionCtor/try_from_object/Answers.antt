use Rattle.std.proofs.Common.{◌∙◌, ap, sym}
use Rattle.std.specs.Prelude.{option_copied}
use Rattle.py_objects.proofs.ValuesLemmas.{class_is, nothing_there}
use Rattle.py_exceptions.proofs.RaisableLemmas.{class_taken, class_refused}
use Rattle.py_exceptions.proofs.TypeNamesLemmas.{other_type_name}
use Rattle.py_exceptions.proofs.ctor.ExceptionCtor.try_from_object.Goals as goal

pub not_exception-requires : goal.not_exception-requires
not_exception-requires c =
    other_type_name c.args.store.now.made c.get-payload.result.now
    (nothing_there c.exception.result _ c.exception.ensures (sym c.is_some.ensures ∙ c.if-is_some.false))

pub returns-then-is_of_exceptions : goal.returns-then-is_of_exceptions
returns-then-is_of_exceptions c =
    class_taken c.args.store.now c.args.obj c.get-payload.result.now c.in-Some.field-0.now c.get-payload.ensures.now
    (class_is c.get-payload.result.now c.in-Some.field-0.now (sym c.class.ensures ∙ ap option_copied c.in-Some.is))
    c.is_of_exceptions.result c.is_of_exceptions.ensures c.if-is_of_exceptions.true

pub not_exception-requires-2 : goal.not_exception-requires-2
not_exception-requires-2 c =
    other_type_name c.args.store.now.made c.get-payload.result.now
    (nothing_there c.exception.result _ c.exception.ensures (sym c.is_some.ensures ∙ c.if-is_some.false))

pub returns : goal.returns
returns c =
    class_refused c.args.store.now c.args.obj c.get-payload.result.now c.in-Some.field-0.now c.get-payload.ensures.now
    (class_is c.get-payload.result.now c.in-Some.field-0.now (sym c.class.ensures ∙ ap option_copied c.in-Some.is))
    c.is_of_exceptions.result c.is_of_exceptions.ensures c.if-is_of_exceptions.false c.not_exception-2.result c.not_exception-2.ensures
