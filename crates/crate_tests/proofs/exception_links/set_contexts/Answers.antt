use Rattle.std.proofs.Common.{refl, ◌∙◌}
use Rattle.crate_tests.proofs.LinkedLemmas.{exception_there}
use Rattle.crate_tests.proofs.exception_links.set_contexts.Goals as goal

pub set_context-requires-clause-exception : goal.set_context-requires-clause-exception
set_context-requires-clause-exception c = exception_there c.args.store.now (record { number = 3 }) c.requires.made refl

pub set_context-requires-clause-context : goal.set_context-requires-clause-context
set_context-requires-clause-context c = exception_there c.args.store.now c.args.first c.requires.made c.requires.first

pub set_context-requires-2-clause-exception : goal.set_context-requires-2-clause-exception
set_context-requires-2-clause-exception c = exception_there c.set_context.new.store (record { number = 4 }) (c.set_context.ensures.edited.made ∙ c.requires.made) refl

pub set_context-requires-2-clause-context : goal.set_context-requires-2-clause-context
set_context-requires-2-clause-context c = exception_there c.set_context.new.store c.args.second (c.set_context.ensures.edited.made ∙ c.requires.made) c.requires.second
