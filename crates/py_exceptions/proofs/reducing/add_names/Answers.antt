use Rattle.std.proofs.Common.{add-one}
use Rattle.py_objects.proofs.GrownLemmas.{grown_trans}
use Rattle.py_exceptions.proofs.MakingLemmas.{text_grows}
use Rattle.py_exceptions.proofs.ReducingLemmas.{named_on}
use Rattle.py_exceptions.proofs.reducing.add_names.Goals as goal

pub loop-place-preserved : goal.loop-place-preserved
loop-place-preserved c =
    rw add-one
    (named_on c.args.store.now c.loop-place.store c.add.new.self c.args.attrs.now c.loop-place.place c.loop-place.pairs c.push.new.self (c.in_ok-name.name, c.in_ok-name.value)
    c.in_ok-key.key c.in_ok-name.ensures c.in_ok-key.ensures.added c.in_ok-key.ensures.number c.in_ok-push.ensures.added c.loop-place.invariant)

pub returns-in_err-push-clause-grows : goal.returns-in_err-push-clause-grows
returns-in_err-push-clause-grows c =
    grown_trans c.args.store.now c.loop-place.store c.add.new.self c.loop-place.invariant.grown
    (text_grows c.loop-place.store c.add.new.self c.in_ok-name.name c.in_ok-key.ensures.added)
