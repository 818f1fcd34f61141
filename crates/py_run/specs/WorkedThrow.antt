-- Throws into a generator that hasn't begun, worked by hand: gen g / do (yield 1) / end / call g / throw 1 1 / throw 1 KeyError.
use Rattle.std.specs.Prelude.{None, List, [], ◌∷◌, codes}
use Rattle.py_objects.specs.declared.payload.Payload.{Payload}
use Rattle.py_objects.specs.declared.payload.Payload.TheVariants as payload
use Rattle.py_objects.specs.declared.event.ResumeHow.TheVariants as how
use Rattle.py_objects.specs.declared.event.Ending.TheVariants as ending
use Rattle.py_objects.specs.declared.event.DriveAnswer.TheVariants as answer
use Rattle.py_objects.specs.declared.event.Event.{Event}
use Rattle.py_objects.specs.declared.event.Event.TheVariants as event
use Rattle.py_run.specs.Run.{Plan}
use Rattle.py_run.specs.Worked.{object, exception, send, throw, class, error, objects_with, plan_with, created}

-- KeyError, 4, which derives from BaseException, 5, the class TypeError, 6, the refusal of the number, 9, and what is thrown, 11
abbrev pub objects : List Payload
objects =
    objects_with (class (codes "KeyError") (object 5 ∷ []) ∷ class (codes "BaseException") [] ∷ class (codes "TypeError") []
    ∷ payload.Str (codes "exceptions must be classes or instances deriving from BaseException, not int") ∷ payload.Tuple (object 7 ∷ []) ∷ error 6 8 None
    ∷ payload.Tuple [] ∷ error 4 10 None ∷ [])

-- a throw without a value has None as its value
abbrev pub plan : Plan
plan = plan_with [] (throw (object 2) (object 3) (object 0) ∷ throw (object 2) (object 4) (object 0) ∷ [])

-- the number comes to be thrown
abbrev pub throwing : List Event
throwing = created (event.Drive 2 ∷ [])

-- it is refused, and the next drive comes
abbrev pub refused : List Event → List Event
refused events = created (event.Drive 2 ∷ event.Result 2 (answer.Raises (exception 9)) ∷ event.Drive 3 ∷ events)

-- the run: a new KeyError is thrown into the generator, and ends it
abbrev pub events : List Event
events = refused (event.Resume 1 (how.Throw (exception 11)) ∷ event.End 1 (ending.Raise (exception 11)) 0 ∷ event.Result 3 (answer.Raises (exception 11)) ∷ [])

-- where a next comes instead
abbrev pub sending : Plan
sending = plan_with [] (throw (object 2) (object 3) (object 0) ∷ send (object 2) (object 0) ∷ [])

-- it starts the generator
abbrev pub started : List Event
started = refused (event.Resume 1 how.Start ∷ [])
