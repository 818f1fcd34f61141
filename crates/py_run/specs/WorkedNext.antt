-- A generator that yields, stops, and stays closed, worked by hand: gen g / do (yield 1) / end / call g / next 1 / next 1 / next 1. And a
-- call of a generator function with a generator.
use Rattle.std.specs.Prelude.{ℕ, Some, None, List, [], ◌∷◌, codes}
use Rattle.py_objects.specs.declared.payload.Payload.{Payload}
use Rattle.py_objects.specs.declared.payload.CoroKind.TheVariants as coro
use Rattle.py_objects.specs.declared.event.ResumeHow.TheVariants as how
use Rattle.py_objects.specs.declared.event.Ending.TheVariants as ending
use Rattle.py_objects.specs.declared.event.DriveAnswer.TheVariants as answer
use Rattle.py_objects.specs.declared.event.Event.{Event}
use Rattle.py_objects.specs.declared.event.Event.TheVariants as event
use Rattle.py_run.specs.Run.{Plan}
use Rattle.py_run.specs.Worked.{object, call, send, generator, objects_with, plan_with, created, yielded}

abbrev pub objects : List Payload
objects = objects_with []

abbrev pub plan : Plan
plan = plan_with [] (send (object 2) (object 0) ∷ send (object 2) (object 0) ∷ send (object 2) (object 0) ∷ [])

-- the first next enters the generator
abbrev pub entering : List Event
entering = created (event.Drive 2 ∷ [])

-- it yields, the second one resumes it, and it stops; then the third one comes
abbrev pub stopped : List Event → List Event
stopped events =
    yielded (event.Drive 3 ∷ event.Resume 1 (how.Send (object 0)) ∷ event.End 1 (ending.Return (object 0)) 3 ∷ event.Result 3 (answer.Stops None) ∷ event.Drive 4 ∷ events)

-- the run: that finds it closed
abbrev pub events : List Event
events = stopped (event.Result 4 (answer.Stops None) ∷ [])

-- with a second object that a call of g may make, 4
abbrev pub two_objects : List Payload
two_objects = objects_with (generator ∷ [])

-- where g has a parameter, and is called with the first one, 2
abbrev pub naming : Plan
naming = record { signatures = record { params = codes "a" ∷ []; kind = Some coro.Generator } ∷ []; asked = call (object 1) (object 2 ∷ []) ∷ [] }

-- the call gives the object with this number
abbrev pub giving : ℕ → List Event
giving n = event.Drive 1 ∷ event.Make 1 (object 1) (object 2 ∷ []) ∷ event.Result 1 (answer.Returns (object n)) ∷ []
