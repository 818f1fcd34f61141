use Rattle.frame_tests.proofs.DriveLemmas.{sound}
use Rattle.frame_tests.proofs.drives.events_of.Goals as goal

pub events_among-requires-clause-sound : goal.events_among-requires-clause-sound
events_among-requires-clause-sound c = sound _ _ _ c.in_ok-code.ensures.of c.in_ok-code.ensures.typed c.in_ok-code.ensures.runs c.in_ok-names.ensures
