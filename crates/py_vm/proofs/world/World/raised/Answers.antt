use Rattle.py_vm.proofs.CallsLemmas.{raise_given}
use Rattle.py_vm.proofs.world.World.raised.Goals as goal

pub returns-clause-given : goal.returns-clause-given
returns-clause-given c = (
  raise_given c.args.self.now.store.made c.new_exception.new.store.made c.args.self.now.zoo c.args.fault.now.kind c.args.fault.now.text c.in_ok-exception.exception c.requires
      c.in_ok-exception.ensures.grows.objects c.in_ok-exception.ensures.made,
  c.in_ok-exception.ensures.made.made.later,
)
