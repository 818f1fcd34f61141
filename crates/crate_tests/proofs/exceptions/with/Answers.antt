use Rattle.crate_tests.proofs.ExitLemmas.{exit_now, exit_parts}
use Rattle.crate_tests.proofs.exceptions.with.Goals as goal

pub instantiate_value-requires : goal.instantiate_value-requires
instantiate_value-requires c =
    rw (c.object.ensures, exit_now c.args.store.now c.requires.store) (exit_parts c.args.number c.requires.number)
