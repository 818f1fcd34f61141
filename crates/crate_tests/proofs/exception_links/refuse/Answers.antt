use Rattle.std.proofs.Common.{refl}
use Rattle.crate_tests.specs.Linked.{last_entry}
use Rattle.crate_tests.proofs.exception_links.refuse.Goals as goal

pub lead_on-requires-clause-value : goal.lead_on-requires-clause-value
lead_on-requires-clause-value g c = (last_entry, refl)
