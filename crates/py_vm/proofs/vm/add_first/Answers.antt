use Rattle.py_vm.proofs.FirstLemmas.{singles_begin, singles_take, classes_begin, dict_begins}
use Rattle.py_vm.proofs.vm.add_first.Goals as goal

pub extend-requires-clause-store : goal.extend-requires-clause-store
extend-requires-clause-store c =
    let singles = singles_begin _ c.add.new.self c.add-2.new.self c.requires.fresh c.in_ok-add.ensures.added c.in_ok-add-2.ensures.added in
    (singles_take _ singles.made).0

pub extend-requires-clause-short : goal.extend-requires-clause-short
extend-requires-clause-short c =
    let singles = singles_begin _ c.add.new.self c.add-2.new.self c.requires.fresh c.in_ok-add.ensures.added c.in_ok-add-2.ensures.added in
    (singles_take _ singles.made).1

pub returns-clause-first : goal.returns-clause-first
returns-clause-first c =
    let singles = singles_begin _ c.add.new.self c.add-2.new.self c.requires.fresh c.in_ok-add.ensures.added c.in_ok-add-2.ensures.added in
    let begun = classes_begin _ c.extend.new.store c.in_ok-zoo.zoo singles c.in_ok-zoo.ensures.first c.in_ok-zoo.ensures.added in
    dict_begins c.extend.new.store _ c.in_ok-zoo.zoo _ _ begun c.new.ensures c.in_ok-globals.ensures.added c.in_ok-globals.ensures.number
