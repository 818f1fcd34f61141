use Rattle.std.proofs.Common.{◌≡◌, map, take}
use Rattle.frame_tests.specs.Codes.{unit_of}
use Rattle.frame_tests.proofs.codes.units.Given as goal

abbrev pub invariant-loop-row : goal.invariant-loop-row
invariant-loop-row l = l.made.items ≡ map unit_of (take l.row-index l.rows)
