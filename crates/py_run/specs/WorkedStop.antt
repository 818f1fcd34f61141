-- A generator out of which a StopIteration comes (PEP 479), worked by hand: gen g / raise StopIteration / end / call g / next 1.
use Rattle.std.specs.Prelude.{ℕ, Some, None, List, [], ◌∷◌, codes}
use Rattle.py_objects.specs.declared.payload.Payload.{Payload}
use Rattle.py_objects.specs.declared.payload.Payload.TheVariants as payload
use Rattle.py_objects.specs.declared.event.ResumeHow.TheVariants as how
use Rattle.py_objects.specs.declared.event.Ending.TheVariants as ending
use Rattle.py_objects.specs.declared.event.DriveAnswer.TheVariants as answer
use Rattle.py_objects.specs.declared.event.Event.{Event}
use Rattle.py_objects.specs.declared.event.Event.TheVariants as event
use Rattle.py_run.specs.Run.{Plan}
use Rattle.py_run.specs.Worked.{object, exception, send, class, error, objects_with, plan_with, created}

-- two classes, 4 and 5, what the generator raises, 7, and what becomes of it, 10; 11 is the same without a cause
abbrev pub objects : List Payload
objects =
    objects_with (class (codes "StopIteration") [] ∷ class (codes "RuntimeError") [] ∷ payload.Tuple [] ∷ error 4 6 None ∷ payload.Str (codes "generator raised StopIteration")
    ∷ payload.Tuple (object 8 ∷ []) ∷ error 5 9 (Some (object 7)) ∷ error 5 9 None ∷ [])

abbrev pub plan : Plan
plan = plan_with [] (send (object 2) (object 0) ∷ [])

-- the generator starts and ends by the exception; what it asked before is left out
abbrev pub raising : List Event → List Event
raising events = created (event.Drive 2 ∷ event.Resume 1 how.Start ∷ event.End 1 (ending.Raise (exception 7)) 1 ∷ events)

-- the drive raises the exception with this number
abbrev pub events_by : ℕ → List Event
events_by n = raising (event.Result 2 (answer.Raises (exception n)) ∷ [])
