use Rattle.std.proofs.Common.{length, sym, subst}
use Rattle.py_objects.specs.Attrs.{Attrs}
use Rattle.py_objects.specs.Objects.{attr_numbers, class_object, AllBelow}
use Rattle.py_objects.specs.Edits.{objects_of}
use Rattle.py_objects.proofs.ChangesLemmas.{now_within}
use Rattle.py_exceptions.specs.Reducing.{AreArgsBelow}
use Rattle.py_exceptions.proofs.ReducingLemmas.{all_parts, reduced_tried, remade_below}
use Rattle.py_exceptions.proofs.reducing.reduced.Goals as goal

pub remade_args-requires : goal.remade_args-requires
remade_args-requires c =
    let has = all_parts c.args.store.now c.args.exc _ c.requires c.exception_body-body.ensures in
    (has.arguments, has.are_arguments)

pub add_parts-requires-clause-class : goal.add_parts-requires-clause-class
add_parts-requires-clause-class c =
    let has = all_parts c.args.store.now c.args.exc _ c.requires c.exception_body-body.ensures in
    rw c.from-class.ensures (now_within c.args.store.now (class_object c.exception_body-body.result.now.class) _ has.class.1)

pub add_parts-requires-clause-own : goal.add_parts-requires-clause-own
add_parts-requires-clause-own c =
    let has = all_parts c.args.store.now c.args.exc _ c.requires c.exception_body-body.ensures in
    now_within c.args.store.now c.exception_body-body.result.now.args _ has.are_arguments

pub add_parts-requires-clause-remade : goal.add_parts-requires-clause-remade
add_parts-requires-clause-remade c =
    let has = all_parts c.args.store.now c.args.exc _ c.requires c.exception_body-body.ensures in
    subst (AreArgsBelow (length c.args.store.now.made)) (sym c.in_ok-remade.ensures)
    (remade_below (length c.args.store.now.made) (objects_of c.args.store.now) c.exception_body-body.result.now has.arguments has.are_arguments has.items has.values)

pub add_parts-requires-clause-attrs : goal.add_parts-requires-clause-attrs
add_parts-requires-clause-attrs c =
    let has = all_parts c.args.store.now c.args.exc _ c.requires c.exception_body-body.ensures in
    subst (λ (attrs : Attrs). AllBelow (length c.args.store.now.made) (attr_numbers attrs)) (sym c.in_ok-attrs.ensures) has.values

pub returns-clause-reduced : goal.returns-clause-reduced
returns-clause-reduced c =
    reduced_tried c.args.store.now c.add_parts.new.store c.args.exc c.exception_body-body.result.now c.add_parts.result c.exception_body-body.ensures
    (rw (c.from-class.ensures, c.in_ok-remade.ensures, c.in_ok-attrs.ensures) at c.add_parts.ensures.added) c.add_parts.ensures.last
