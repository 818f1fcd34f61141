use Rattle.frame_tests.specs.Drives.{IsDriven}
use Rattle.frame_tests.proofs.drives.drive.Given as goal

abbrev pub invariant-loop-said : goal.invariant-loop-said
invariant-loop-said l = IsDriven l.store.made l.scene l.slots l.frame
