use Rattle.py_stack.specs.Slots.{topmost}
use Rattle.py_vm.proofs.LinksLemmas.{exception_there, handled_exception}
use Rattle.py_vm.proofs.tracing.contextualize.Goals as goal

pub contextualize_exception-requires-clause-exception : goal.contextualize_exception-requires-clause-exception
contextualize_exception-requires-clause-exception c = exception_there c.args.store.now c.args.raising.exception c.requires.there.exception

pub contextualize_exception-requires-clause-handled : goal.contextualize_exception-requires-clause-handled
contextualize_exception-requires-clause-handled c = handled_exception c.args.store.now (topmost c.args.slots.now) c.requires.there.handled_there
