use Rattle.std.proofs.Common.{length}
use Rattle.frame_tests.proofs.codes.+blocks.Given as goal

abbrev pub decreases-blocks : goal.decreases-blocks
decreases-blocks l = length l.opens.now
