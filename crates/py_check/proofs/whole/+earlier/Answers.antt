use Rattle.std.proofs.Common.{◌≡◌, ◌<◌, suc, Some, slice_get, sym, ◌∙◌, arith, rules}
use Rattle.py_code.specs.Literals.{literals_of}
use Rattle.py_check.specs.Constants.{is_earlier}
use Rattle.py_check.proofs.EarlierLemmas.{earlier_tuple, heavy_tuple, weight, weigh, weighs_less, all_but, one_more}
use Rattle.py_check.proofs.whole.+earlier.Goals as goal

pub are_earlier-is_earlier-requires : goal.are_earlier-is_earlier-requires
are_earlier-is_earlier-requires t c =
    let there : slice_get (literals_of c.args.constants.now) c.loop-place.place ≡ Some c.in-Some.literal.now = search (rules, c.in-Some.ensures) in
    let smaller : weight c.in-Some.literal.now < weigh (literals_of c.args.constants.now) = weighs_less (literals_of c.args.constants.now) c.loop-place.place c.in-Some.literal.now there in
    search rules

pub are_earlier-returns-then-not-is_earlier : goal.are_earlier-returns-then-not-is_earlier
are_earlier-returns-then-not-is_earlier t c =
    let there : slice_get (literals_of c.args.constants.now) c.loop-place.place ≡ Some c.in-Some.literal.now = search (rules, c.in-Some.ensures) in
    sym (all_but (is_earlier c.args.count) (literals_of c.args.constants.now) c.loop-place.place c.in-Some.literal.now there (sym c.is_earlier.ensures ∙ c.if-not-is_earlier.true))

pub are_earlier-loop-place-preserved : goal.are_earlier-loop-place-preserved
are_earlier-loop-place-preserved t c =
    let there : slice_get (literals_of c.args.constants.now) c.loop-place.place ≡ Some c.in-Some.literal.now = search (rules, c.in-Some.ensures) in
    one_more (is_earlier c.args.count) (literals_of c.args.constants.now) c.loop-place.place c.in-Some.literal.now there c.loop-place.invariant (sym c.is_earlier.ensures ∙ c.if-not-is_earlier.false)

pub is_earlier-are_earlier-requires : goal.is_earlier-are_earlier-requires
is_earlier-are_earlier-requires t c =
    let heavy : weight c.args.literal.now ≡ suc (weigh (literals_of c.in-Tuple.items)) = heavy_tuple c.in-Tuple.items c.args.literal.now c.in-Tuple.is in
    let smaller : weigh (literals_of c.in-Tuple.items) < weight c.args.literal.now = omega (arith, heavy) in
    search rules

pub is_earlier-returns-in-Tuple : goal.is_earlier-returns-in-Tuple
is_earlier-returns-in-Tuple t c = c.are_earlier.ensures ∙ sym (earlier_tuple c.in-Tuple.items c.args.count c.args.literal.now c.in-Tuple.is)
