use Rattle.std.proofs.Common.{length}
use Rattle.py_objects.specs.Objects.{numbers, payload_numbers}
use Rattle.py_objects.specs.declared.payload.Payload.TheVariants as payload
use Rattle.py_objects.proofs.GrownLemmas.{below_more_by_one, still_grown, grown_trans}
use Rattle.py_exceptions.specs.Making.{exception_from}
use Rattle.py_exceptions.proofs.MakingLemmas.{tuple_grows, instance_below, instance_grows, instance_new}
use Rattle.py_exceptions.proofs.making.add_exception.Goals as goal

pub add-requires : goal.add-requires
add-requires c = below_more_by_one (length c.args.store.now.made) (numbers c.args.args) c.requires.args

pub returns-in_err-args-clause-grows : goal.returns-in_err-args-clause-grows
returns-in_err-args-clause-grows c = still_grown _ _ c.in_err-args.ensures.err

pub add-requires-2 : goal.add-requires-2
add-requires-2 c =
    rw c.in_ok-new.ensures
    (below_more_by_one (length c.add.new.self.made)
    (payload_numbers (payload.Exception (exception_from c.args.class c.in_ok-args.args c.args.cause c.args.attrs)))
    (instance_below c.args.store.now _ c.args.class c.args.args c.args.cause c.args.attrs c.in_ok-args.args c.requires.class c.requires.args c.requires.cause c.requires.attrs
    c.in_ok-args.ensures.added c.in_ok-args.ensures.number))

pub returns-in_err-new-clause-grows : goal.returns-in_err-new-clause-grows
returns-in_err-new-clause-grows c = tuple_grows _ _ c.args.args c.requires.args c.in_ok-args.ensures.added

pub returns-in_err-exception-clause-grows : goal.returns-in_err-exception-clause-grows
returns-in_err-exception-clause-grows c =
    grown_trans _ _ _ (tuple_grows _ _ c.args.args c.requires.args c.in_ok-args.ensures.added) (still_grown _ _ c.in_err-exception.ensures.err)

pub returns-clause-grows : goal.returns-clause-grows
returns-clause-grows c =
    instance_grows c.args.store.now c.add.new.self c.add-2.new.self c.args.class c.args.args c.args.cause c.args.attrs c.in_ok-args.args c.in_ok-exception.exception
    c.requires.class c.requires.args c.requires.cause c.requires.attrs (record {
      args_added = c.in_ok-args.ensures.added;
      args_last = c.in_ok-args.ensures.number;
      entry_added = rw (c.in_ok-new.ensures, c.is_some.ensures) at c.in_ok-exception.ensures.added;
      last = c.in_ok-exception.ensures.number;
    })

pub returns-clause-made : goal.returns-clause-made
returns-clause-made c =
    instance_new c.args.store.now c.add.new.self c.add-2.new.self c.args.class c.args.args c.args.cause c.args.attrs c.in_ok-args.args c.in_ok-exception.exception (record {
      args_added = c.in_ok-args.ensures.added;
      args_last = c.in_ok-args.ensures.number;
      entry_added = rw (c.in_ok-new.ensures, c.is_some.ensures) at c.in_ok-exception.ensures.added;
      last = c.in_ok-exception.ensures.number;
    })
