use Rattle.py_vm.proofs.world.World.entered.Goals as goal

pub called-requires-clause-function : goal.called-requires-clause-function
called-requires-clause-function c = (c.requires.sound.readable.fit c.args.manager.number _ c.manager_body.ensures).1.0
