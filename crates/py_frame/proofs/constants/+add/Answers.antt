use Rattle.std.proofs.Common.{◌≡◌, ◌∙◌, ◌<◌, suc, Some, slice_get, ap, arith, rules}
use Rattle.py_code.specs.Literals.{literals_of}
use Rattle.py_objects.specs.Edits.{Kept}
use Rattle.py_check.proofs.EarlierLemmas.{heavy_tuple, weight, weigh, weighs_less}
use Rattle.py_frame.proofs.AddedLemmas.{adds_on}
use Rattle.py_frame.proofs.LoadingLemmas.{items_more, tuple_added, tuple_below}
use Rattle.py_frame.proofs.constants.+add.Goals as goal

pub add-add_items-requires : goal.add-add_items-requires
add-add_items-requires t c =
    let heavy : weight c.args.literal.now ≡ suc (weigh (literals_of c.in-Tuple.items)) = heavy_tuple c.in-Tuple.items c.args.literal.now c.in-Tuple.is in
    let smaller : weigh (literals_of c.in-Tuple.items) < weight c.args.literal.now = omega (arith, heavy) in
    search rules

pub add-add_constant-requires-in-Tuple : goal.add-add_constant-requires-in-Tuple
add-add_constant-requires-in-Tuple t c = tuple_below c.add_items.new.store.made _ (literals_of c.in-Tuple.items) c.in_ok-items-in-Tuple.ensures.items

pub add-returns-in_ok-items-in-Tuple-clause-constant : goal.add-returns-in_ok-items-in-Tuple-clause-constant
add-returns-in_ok-items-in-Tuple-clause-constant t c =
    tuple_added _ c.add_items.new.store.made c.add_constant-in-Tuple.new.store.made _ c.in-Tuple.items c.args.literal.now c.in-Tuple.is
    c.add_constant-in-Tuple.ensures.objects c.in_ok-items-in-Tuple.ensures.items c.add_constant-in-Tuple.ensures.number c.add_constant-in-Tuple.ensures.has

pub add-returns-in_ok-items-in-Tuple-clause-objects : goal.add-returns-in_ok-items-in-Tuple-clause-objects
add-returns-in_ok-items-in-Tuple-clause-objects t c = adds_on _ _ _ c.add_items.ensures.objects c.add_constant-in-Tuple.ensures.objects

pub add_items-add-requires : goal.add_items-add-requires
add_items-add-requires t c =
    let there : slice_get (literals_of c.args.literals.now) c.loop-place.place ≡ Some c.in-Some.literal.now = search (rules, c.in-Some.ensures) in
    let smaller : weight c.in-Some.literal.now < weigh (literals_of c.args.literals.now) = weighs_less (literals_of c.args.literals.now) c.loop-place.place c.in-Some.literal.now there in
    search rules

pub add_items-returns-in_err-object-clause-objects : goal.add_items-returns-in_err-object-clause-objects
add_items-returns-in_err-object-clause-objects t c = adds_on _ _ _ c.loop-place.invariant.adds c.add.ensures.objects

pub add_items-returns-in_err-push-clause-objects : goal.add_items-returns-in_err-push-clause-objects
add_items-returns-in_err-push-clause-objects t c = adds_on _ _ _ c.loop-place.invariant.adds c.add.ensures.objects

pub add_items-loop-place-preserved : goal.add_items-loop-place-preserved
add_items-loop-place-preserved t c =
    let there : slice_get (literals_of c.args.literals.now) c.loop-place.place ≡ Some c.in-Some.literal.now = search (rules, c.in-Some.ensures) in
    record {
      adds = adds_on _ _ _ c.loop-place.invariant.adds c.add.ensures.objects;
      others = c.add.ensures.unchanged ∙ ap (λ (s : Kept). record s { made = c.add.new.store.made }) c.loop-place.invariant.others;
      are = items_more c.loop-place.store.made c.add.new.store.made c.loop-place.objects c.push.new.self (literals_of c.args.literals.now) c.loop-place.place c.in_ok-object.object c.in-Some.literal.now
          c.add.ensures.objects there c.loop-place.invariant.are c.in_ok-object.ensures.constant c.in_ok-push.ensures.added;
    }
