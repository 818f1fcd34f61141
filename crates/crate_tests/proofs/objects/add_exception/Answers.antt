use Rattle.std.proofs.Common.{arith}
use Rattle.crate_tests.proofs.objects.add_exception.Goals as goal

pub add-requires-3 : goal.add-requires-3
add-requires-3 g c = rw c.in_ok-exception.ensures (omega arith, (omega arith, tt))
