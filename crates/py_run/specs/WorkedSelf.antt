-- A generator that sends to itself, worked by hand: gen g / me = (yield 1) / do (send me None) / end / call g / next 1 / send 1 $1.
use Rattle.std.specs.Prelude.{None, List, [], ◌∷◌, codes}
use Rattle.py_objects.specs.declared.payload.Payload.{Payload}
use Rattle.py_objects.specs.declared.payload.Payload.TheVariants as payload
use Rattle.py_objects.specs.declared.request.Request.TheVariants as request
use Rattle.py_objects.specs.declared.event.ResumeHow.TheVariants as how
use Rattle.py_objects.specs.declared.event.GotAnswer.TheVariants as got
use Rattle.py_objects.specs.declared.event.Ending.TheVariants as ending
use Rattle.py_objects.specs.declared.event.DriveAnswer.TheVariants as answer
use Rattle.py_objects.specs.declared.event.Event.{Event}
use Rattle.py_objects.specs.declared.event.Event.TheVariants as event
use Rattle.py_run.specs.Run.{Plan}
use Rattle.py_run.specs.Worked.{object, exception, send, class, error, objects_with, plan_with, yielded}

-- a class, 4, and the refusal, 7
abbrev pub objects : List Payload
objects = objects_with (class (codes "ValueError") [] ∷ payload.Str (codes "generator already executing") ∷ payload.Tuple (object 5 ∷ []) ∷ error 4 6 None ∷ [])

abbrev pub plan : Plan
plan = plan_with [] (send (object 2) (object 0) ∷ send (object 2) (object 2) ∷ [])

-- the generator yields and is sent itself, to which it sends None; these events follow
abbrev pub sending : List Event → List Event
sending events = yielded (event.Drive 3 ∷ event.Resume 1 (how.Send (object 2)) ∷ event.Ask 1 (request.Send (object 2) (object 0)) None 4 ∷ events)

-- it gets a raise
abbrev pub refused : List Event → List Event
refused events = sending (event.Got 1 (got.Raise (exception 7)) ∷ events)

-- the run: it ends by that
abbrev pub events : List Event
events = refused (event.End 1 (ending.Raise (exception 7)) 4 ∷ event.Result 3 (answer.Raises (exception 7)) ∷ [])
