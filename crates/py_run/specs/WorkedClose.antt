-- A generator that is closed before it began, worked by hand: gen g / do (yield 1) / end / call g / close 1 / next 1.
use Rattle.std.specs.Prelude.{None, List, [], ◌∷◌}
use Rattle.py_objects.specs.declared.payload.Payload.{Payload}
use Rattle.py_objects.specs.declared.event.DriveAnswer.TheVariants as answer
use Rattle.py_objects.specs.declared.event.Event.{Event}
use Rattle.py_objects.specs.declared.event.Event.TheVariants as event
use Rattle.py_run.specs.Run.{Plan}
use Rattle.py_run.specs.Worked.{object, send, close, objects_with, plan_with, created}

abbrev pub objects : List Payload
objects = objects_with []

abbrev pub plan : Plan
plan = plan_with [] (close (object 2) ∷ send (object 2) (object 0) ∷ [])

-- the close comes
abbrev pub closing : List Event → List Event
closing events = created (event.Drive 2 ∷ events)

-- it closes the generator, and the next comes
abbrev pub closed : List Event → List Event
closed events = closing (event.Result 2 answer.Closes ∷ event.Drive 3 ∷ events)

-- the run: that finds it closed
abbrev pub events : List Event
events = closed (event.Result 3 (answer.Stops None) ∷ [])
