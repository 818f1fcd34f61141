use Rattle.std.proofs.Common.{refl}
use Rattle.crate_tests.specs.Linked.{last_entry}
use Rattle.crate_tests.proofs.LinkedLemmas.{entry_there}
use Rattle.crate_tests.proofs.exception_links.lead_on.Goals as goal

pub set_tb_next-requires-clause-entry : goal.set_tb_next-requires-clause-entry
set_tb_next-requires-clause-entry c = entry_there c.args.store.now (record { number = 7 }) c.requires.made (last_entry, refl)

pub set_tb_next-requires-clause-value : goal.set_tb_next-requires-clause-value
set_tb_next-requires-clause-value c = entry_there c.args.store.now c.args.value c.requires.made c.requires.value
