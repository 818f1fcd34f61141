use Rattle.py_frame.proofs.AddedLemmas.{adds_plainly, classes_stay}
use Rattle.py_frame.proofs.frame.Frame.step.Goals as goal

pub returns-clause-objects : goal.returns-clause-objects
returns-clause-objects g c = adds_plainly _ _ c.step-step.ensures.objects

pub returns-clause-classes : goal.returns-clause-classes
returns-clause-classes g c = classes_stay _ _ c.step-step.ensures.objects c.requires.classes
