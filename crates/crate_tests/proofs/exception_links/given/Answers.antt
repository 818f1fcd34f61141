use Rattle.std.proofs.Common.{refl}
use Rattle.crate_tests.proofs.LinkedLemmas.{exception_there}
use Rattle.crate_tests.proofs.exception_links.given.Goals as goal

pub cause-requires : goal.cause-requires
cause-requires c = exception_there c.args.store.now (record { number = 3 }) c.requires refl

pub get_suppress_context-requires : goal.get_suppress_context-requires
get_suppress_context-requires c = exception_there c.args.store.now (record { number = 3 }) c.requires refl
