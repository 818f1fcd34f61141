use Rattle.std.proofs.Common.{◌∙◌, ap}
use Rattle.py_objects.specs.Edits.{Kept}
use Rattle.frame_tests.proofs.DriveLemmas.{driven_first}
use Rattle.frame_tests.proofs.drives.events_among.Goals as goal

pub drive-requires-clause-driven : goal.drive-requires-clause-driven
drive-requires-clause-driven c =
    driven_first _ (record { code = c.args.code.now; names = c.args.names.now }) _ (ap (λ (s : Kept). s.made) c.in_ok-frame.ensures.store ∙ c.requires.objects)
    (c.in_ok-frame.ensures.running _ c.requires.sound) c.in_ok-frame.ensures.fresh
