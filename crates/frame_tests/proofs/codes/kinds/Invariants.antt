use Rattle.std.proofs.Common.{◌≡◌, take}
use Rattle.frame_tests.proofs.codes.kinds.Given as goal

abbrev pub invariant-loop-kind : goal.invariant-loop-kind
invariant-loop-kind l = l.made ≡ take l.kind-index l.entries
