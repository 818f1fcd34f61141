-- A generator that raises again what its resumer handles (Python Language Reference, 7.8), worked by hand: gen g / do (yield 1) / reraise / end, and a
-- function that sends to it while it handles an exception; call g / next 1 / call f $1.
use Rattle.std.specs.Prelude.{Some, None, List, [], ◌∷◌, codes}
use Rattle.py_objects.specs.declared.payload.Payload.{Payload}
use Rattle.py_objects.specs.declared.payload.Payload.TheVariants as payload
use Rattle.py_objects.specs.declared.request.Request.TheVariants as request
use Rattle.py_objects.specs.declared.event.ResumeHow.TheVariants as how
use Rattle.py_objects.specs.declared.event.GotAnswer.TheVariants as got
use Rattle.py_objects.specs.declared.event.Ending.TheVariants as ending
use Rattle.py_objects.specs.declared.event.DriveAnswer.TheVariants as answer
use Rattle.py_objects.specs.declared.event.Event.{Event}
use Rattle.py_objects.specs.declared.event.Event.TheVariants as event
use Rattle.py_run.specs.Run.{Plan}
use Rattle.py_run.specs.Worked.{object, exception, call, send, function, class, error, objects_with, plain, plan_with, yielded}

-- f, 4, a class, 5, and the exception that f handles, 7
abbrev pub objects : List Payload
objects = objects_with (function (codes "f") 1 ∷ class (codes "KeyError") [] ∷ payload.Tuple [] ∷ error 5 6 None ∷ [])

abbrev pub plan : Plan
plan = plan_with (plain (codes "it" ∷ []) ∷ []) (send (object 2) (object 0) ∷ call (object 4) (object 2 ∷ []) ∷ [])

-- f resumes the generator while it handles the exception, and that asks what is handled; what f asked before is left out
abbrev pub asking : List Event → List Event
asking events =
    yielded (event.Drive 3 ∷ event.Make 2 (object 4) (object 2 ∷ []) ∷ event.Resume 2 how.Start ∷ event.Ask 2 (request.Send (object 2) (object 0)) (Some (exception 7)) 7
    ∷ event.Resume 1 (how.Send (object 0)) ∷ event.Ask 1 request.Handled None 3 ∷ events)

-- the run: it gets the exception and ends by it, and so does f
abbrev pub events : List Event
events =
    asking (event.Got 1 (got.Value (object 7)) ∷ event.End 1 (ending.Raise (exception 7)) 3 ∷ event.Got 2 (got.Raise (exception 7)) ∷ event.End 2 (ending.Raise (exception 7)) 7
    ∷ event.Result 3 (answer.Raises (exception 7)) ∷ [])

-- it gets something else
abbrev pub got_another : List Event
got_another = asking (event.Got 1 (got.Value (object 3)) ∷ [])
