use Rattle.py_vm.proofs.CallsLemmas.{itself_given}
use Rattle.py_vm.proofs.world.World.reraised.Goals as goal

pub returns-in-Some-clause-given : goal.returns-in-Some-clause-given
returns-in-Some-clause-given c = rw (c.from.ensures, c.in-Some.is) (itself_given c.args.self.now.store.made _ (rw c.in-Some.is at c.requires.handled).0)
