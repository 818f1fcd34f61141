use Rattle.frame_tests.proofs.DriveLemmas.{driven_on, expected}
use Rattle.py_frame.specs.Frames.{setting}
use Rattle.frame_tests.proofs.drives.turn.Goals as goal

pub step-requires-clause-expected : goal.step-requires-clause-expected
step-requires-clause-expected c = (expected _ (setting c.args.scene.now c.args.frame.now) _ _ _ c.in_ok-input.ensures c.expects.ensures c.requires.driven.grown c.requires.generator).0

pub step-requires-clause-named : goal.step-requires-clause-named
step-requires-clause-named c = (expected _ (setting c.args.scene.now c.args.frame.now) _ _ _ c.in_ok-input.ensures c.expects.ensures c.requires.driven.grown c.requires.generator).1

pub returns : goal.returns
returns c = driven_on _ _ c.args.scene.now _ _ _ _ c.requires.driven c.step.ensures.objects c.step.ensures.classes c.step.ensures.running c.step.ensures.slot
