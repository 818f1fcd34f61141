use Rattle.std.proofs.Common.{◌≡◌, ◌∙◌, ◌<◌, Some, sym, ap, subst, length}
use Rattle.py_objects.specs.declared.refs.PyTypeRef.{PyTypeRef}
use Rattle.py_objects.specs.declared.payload.ExceptionBody.{ExceptionBody}
use Rattle.py_objects.specs.Objects.{class_object}
use Rattle.py_frame.proofs.ObjectsLemmas.{class_of, class_found, is_exception}
use Rattle.py_frame.proofs.exits.class.Goals as goal

pub unreachable-requires : goal.unreachable-requires
unreachable-requires c =
    let (e, has) = c.requires.there in
    let (found, is, class) = is_exception _ e.class (class_found c.args.store.now.made c.args.store.now.changes c.args.exception e _ has c.get.ensures.now) in
    c.in_default.not-Exception found is

pub returns : goal.returns
returns c =
    let (e, has) = c.requires.there in
    let found : Some c.in-Exception.body.class ≡ Some e.class =
    sym (ap class_of c.in-Exception.is) ∙ class_found c.args.store.now.made c.args.store.now.changes c.args.exception e _ has c.get.ensures.now in
    let inside : c.in-Exception.body.class ≡ e.class = cc in
    let same : c.value.result.now.class ≡ e.class = ap (λ (b : ExceptionBody). b.class) c.value.ensures ∙ inside in
    let below : e.class.number < length c.args.store.now.made = c.requires.classes c.args.exception e has in
    (e, has, ap class_object same, subst (λ (x : PyTypeRef). x.number < length c.args.store.now.made) (sym same) below)
