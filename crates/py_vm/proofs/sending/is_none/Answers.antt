use Rattle.std.proofs.Common.{ap, sym, true, false}
use Rattle.py_objects.specs.Values.{is_none}
use Rattle.py_coro.proofs.ReadingLemmas.{made_by_now, other_than_none}
use Rattle.py_vm.proofs.sending.is_none.Goals as goal

pub returns-in-None : goal.returns-in-None
returns-in-None c = made_by_now c.args.store.now c.args.value _ true c.requires c.get.ensures.now (sym (ap is_none c.in-None.is))

pub returns-in_default : goal.returns-in_default
returns-in_default c = made_by_now c.args.store.now c.args.value _ false c.requires c.get.ensures.now (other_than_none _ c.in_default.not-None)
