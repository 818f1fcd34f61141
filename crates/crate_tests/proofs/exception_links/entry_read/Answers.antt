use Rattle.std.proofs.Common.{refl}
use Rattle.crate_tests.specs.Linked.{first_entry}
use Rattle.crate_tests.proofs.LinkedLemmas.{entry_there}
use Rattle.crate_tests.proofs.exception_links.entry_read.Goals as goal

pub tb_frame-requires : goal.tb_frame-requires
tb_frame-requires c = entry_there c.args.store.now (record { number = 8 }) c.requires (first_entry, refl)
