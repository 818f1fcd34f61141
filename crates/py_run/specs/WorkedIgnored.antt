-- A generator that yields while it is closed, worked by hand: gen g / try / do (yield 1) / finally / do (yield 1) / end / end / call g / next 1 /
-- close 1 / next 1.
use Rattle.std.specs.Prelude.{None, List, [], ◌∷◌, codes}
use Rattle.py_objects.specs.declared.payload.Payload.{Payload}
use Rattle.py_objects.specs.declared.payload.Payload.TheVariants as payload
use Rattle.py_objects.specs.declared.event.ResumeHow.TheVariants as how
use Rattle.py_objects.specs.declared.event.DriveAnswer.TheVariants as answer
use Rattle.py_objects.specs.declared.event.Event.{Event}
use Rattle.py_objects.specs.declared.event.Event.TheVariants as event
use Rattle.py_run.specs.Run.{Plan}
use Rattle.py_run.specs.Worked.{object, exception, send, close, class, error, objects_with, plan_with, yielded}

-- two classes, 4 and 5, what is thrown into the generator, 7, and the refusal, 10
abbrev pub objects : List Payload
objects =
    objects_with (class (codes "GeneratorExit") [] ∷ class (codes "RuntimeError") [] ∷ payload.Tuple [] ∷ error 4 6 None ∷ payload.Str (codes "generator ignored GeneratorExit")
    ∷ payload.Tuple (object 8 ∷ []) ∷ error 5 9 None ∷ [])

abbrev pub plan : Plan
plan = plan_with [] (send (object 2) (object 0) ∷ close (object 2) ∷ send (object 2) (object 0) ∷ [])

-- the generator yields, and its close throws a GeneratorExit into it, at which it yields again
abbrev pub yielding : List Event → List Event
yielding events = yielded (event.Drive 3 ∷ event.Resume 1 (how.Throw (exception 7)) ∷ event.Yield 1 (object 3) 5 ∷ events)

-- the close raises, and the next comes
abbrev pub ignored : List Event → List Event
ignored events = yielding (event.Result 3 (answer.Raises (exception 10)) ∷ event.Drive 4 ∷ events)

-- the run: that finds it closed
abbrev pub events : List Event
events = ignored (event.Result 4 (answer.Stops None) ∷ [])
