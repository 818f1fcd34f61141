use Rattle.std.proofs.Common.{◌∙◌, ℕ, List, length, ap}
use Rattle.std.specs.Prelude.{slice_get}
use Rattle.py_objects.specs.declared.payload.Payload.{Payload}
use Rattle.py_objects.specs.declared.event.DriveAnswer.{DriveAnswer}
use Rattle.py_objects.specs.declared.event.Event.{Event}
use Rattle.py_objects.specs.declared.event.Event.TheVariants as event
use Rattle.py_objects.specs.Objects.{result_numbers, AllBelow, AreNamed}
use Rattle.py_objects.proofs.NewLemmas.{newest}
use Rattle.py_vm.specs.Machine.{EndsBy}
use Rattle.worked_host.proofs.host.Host.drive.Goals as goal

-- what the last result names is there
result_there : (objects : List Payload) (events : List Event) (d : ℕ) (w : DriveAnswer) → AreNamed objects events → EndsBy events d w → AllBelow (length objects) (result_numbers w)
result_there objects events d w named (front, is) =
    named.in_events (length front) (event.Result d w) (ap (λ (es : List Event). slice_get es (length front)) is ∙ newest front (event.Result d w))

pub returns-clause-there : goal.returns-clause-there
returns-clause-there c =
    result_there c.drive-2.new.self.objects c.drive-2.new.self.events _ c.in_ok-answer.answer (c.drive-2.ensures.adds c.requires.ready.works).named c.in_ok-answer.ensures.answer
