use Rattle.std.proofs.Common.{◌≡◌, ◌++◌, List, length}
use Rattle.std.specs.Prelude.{string_bytes}
use Rattle.py_reports.specs.declared.chain.Chained.{Chained}
use Rattle.py_reports.specs.Reports.{IsText}
use Rattle.py_reports.proofs.whole.chain_text.Given as goal

abbrev pub invariant-each : goal.invariant-each
invariant-each l = (tail : List Chained) × (l.chain ++ tail ≡ l.fn.chain) × IsText l.scene tail (string_bytes l.out)

abbrev pub decreases-each : goal.decreases-each
decreases-each l = length l.chain
