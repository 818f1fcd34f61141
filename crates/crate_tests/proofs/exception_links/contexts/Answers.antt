use Rattle.std.proofs.Common.{refl}
use Rattle.crate_tests.proofs.LinkedLemmas.{exception_there}
use Rattle.crate_tests.proofs.exception_links.contexts.Goals as goal

pub context-requires : goal.context-requires
context-requires c = exception_there c.args.store.now (record { number = 3 }) c.requires refl

pub context-requires-2 : goal.context-requires-2
context-requires-2 c = exception_there c.args.store.now (record { number = 4 }) c.requires refl

pub context-requires-3 : goal.context-requires-3
context-requires-3 c = exception_there c.args.store.now (record { number = 5 }) c.requires refl
