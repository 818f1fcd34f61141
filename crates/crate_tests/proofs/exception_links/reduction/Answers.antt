use Rattle.crate_tests.proofs.LinkedLemmas.{first_reducible}
use Rattle.crate_tests.proofs.exception_links.reduction.Goals as goal

pub reduce-requires : goal.reduce-requires
reduce-requires c = first_reducible c.args.store.now c.requires
