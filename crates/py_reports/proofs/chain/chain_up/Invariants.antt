use Rattle.std.proofs.Common.{◌≡◌, ◌++◌, length}
use Rattle.py_reports.specs.Chains.{chained}
use Rattle.py_reports.proofs.chain.chain_up.Given as goal

abbrev pub invariant-each : goal.invariant-each
invariant-each l = l.chain ++ chained l.objects l.rest ≡ chained l.objects l.fn.met

abbrev pub decreases-each : goal.decreases-each
decreases-each l = length l.rest
