use Rattle.py_vm.proofs.LinksLemmas.{exception_there}
use Rattle.py_vm.proofs.tracing.trace.Goals as goal

pub set_traceback-requires-clause-exception : goal.set_traceback-requires-clause-exception
set_traceback-requires-clause-exception c = exception_there c.args.store.now c.args.raising.exception c.requires.exception
