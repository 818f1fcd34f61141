use Rattle.std.proofs.Common.{refl}
use Rattle.crate_tests.specs.Linked.{first_entry, last_entry}
use Rattle.crate_tests.proofs.LinkedLemmas.{entry_there}
use Rattle.crate_tests.proofs.exception_links.nexts.Goals as goal

pub tb_next-requires : goal.tb_next-requires
tb_next-requires c = entry_there c.args.store.now (record { number = 8 }) c.requires (first_entry, refl)

pub tb_next-requires-2 : goal.tb_next-requires-2
tb_next-requires-2 c = entry_there c.args.store.now (record { number = 7 }) c.requires (last_entry, refl)
