use Rattle.std.proofs.Common.{length, subst, ◌≡◌}
use Rattle.std.specs.Prelude.{OnOk}
use Rattle.py_objects.specs.Edits.{Kept}
use Rattle.py_objects.specs.Objects.{numbers}
use Rattle.py_objects.proofs.GrowthLemmas.{below_more, length_grown}
use Rattle.py_objects.proofs.GrownLemmas.{below_more_by_one, grown_trans, objects_grow}
use Rattle.py_exceptions.proofs.ReducingLemmas.{last_tried, tuple_tried, whole_below, whole_is}
use Rattle.py_exceptions.proofs.reducing.add_parts.Goals as goal

pub add_dict-requires : goal.add_dict-requires
add_dict-requires c = below_more _ _ _ (length_grown _ _ (objects_grow c.args.store.now c.add_args.new.store c.in_ok-args.ensures.grows)) c.requires.attrs

pub returns-in_err-dict-clause-grows : goal.returns-in_err-dict-clause-grows
returns-in_err-dict-clause-grows c = grown_trans _ _ _ c.in_ok-args.ensures.grows c.in_err-dict.ensures.grows

pub returns-in_err-parts-clause-grows : goal.returns-in_err-parts-clause-grows
returns-in_err-parts-clause-grows c = grown_trans _ _ _ c.in_ok-args.ensures.grows c.in_ok-dict.ensures.grows

pub add-requires : goal.add-requires
add-requires c =
    below_more_by_one (length c.add_dict.new.store.made) (numbers c.in_ok-parts.parts)
    (whole_below c.args.store.now c.add_args.new.store c.add_dict.new.store c.args.class c.args.own_args c.in_ok-args.args c.args.remade c.args.attrs.now c.in_ok-dict.dict
    c.in_ok-parts.parts c.in_ok-args.ensures.grows c.in_ok-dict.ensures.grows c.requires.class c.requires.own c.in_ok-args.ensures.added c.in_ok-args.ensures.object c.in_ok-dict.ensures.added
    c.in_ok-dict.ensures.object c.in_ok-parts.ensures)

pub returns-clause-grows : goal.returns-clause-grows
returns-clause-grows c =
    grown_trans _ _ _ c.in_ok-args.ensures.grows (grown_trans _ _ _ c.in_ok-dict.ensures.grows
    (tuple_tried c.add_dict.new.store c.add.new.self c.in_ok-parts.parts c.add.result
    (whole_below c.args.store.now c.add_args.new.store c.add_dict.new.store c.args.class c.args.own_args c.in_ok-args.args c.args.remade c.args.attrs.now c.in_ok-dict.dict
    c.in_ok-parts.parts c.in_ok-args.ensures.grows c.in_ok-dict.ensures.grows c.requires.class c.requires.own c.in_ok-args.ensures.added c.in_ok-args.ensures.object c.in_ok-dict.ensures.added
    c.in_ok-dict.ensures.object c.in_ok-parts.ensures)
    c.add.ensures.added c.add.ensures.err))

pub returns-clause-added : goal.returns-clause-added
returns-clause-added c =
    subst (λ (s : Kept). OnOk c.add.result (c.add.new.self ≡ s))
    (whole_is c.args.store.now c.add_args.new.store c.add_dict.new.store c.args.class c.args.own_args c.in_ok-args.args c.args.remade c.args.attrs.now c.in_ok-dict.dict
    c.in_ok-parts.parts c.in_ok-args.ensures.added c.in_ok-args.ensures.object c.in_ok-dict.ensures.added c.in_ok-dict.ensures.object c.in_ok-parts.ensures)
    c.add.ensures.added

pub returns-clause-last : goal.returns-clause-last
returns-clause-last c = last_tried c.add_dict.new.store c.add.new.self c.in_ok-parts.parts c.add.result c.add.ensures.number c.add.ensures.added
