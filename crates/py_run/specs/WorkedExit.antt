-- A manager that is left twice by one raise (Python Language Reference, 8.5), worked by hand: def e / end / def x t v b / end / manager m e x /
-- def f it / with m / with m / raise it / end / end / end, and a call of f with an exception.
use Rattle.std.specs.Prelude.{ℕ, Option, Some, None, List, [], ◌∷◌, ◌≡◌, false, codes}
use Rattle.py_code.specs.Codes.{Codes}
use Rattle.py_objects.specs.declared.payload.Payload.{Payload}
use Rattle.py_objects.specs.declared.payload.Payload.TheVariants as payload
use Rattle.py_objects.specs.declared.edit.Change.{Change}
use Rattle.py_objects.specs.declared.edit.Edit.TheVariants as edit
use Rattle.py_objects.specs.declared.edit.LinkField.TheVariants as link
use Rattle.py_objects.specs.declared.request.Request.TheVariants as request
use Rattle.py_objects.specs.declared.event.ResumeHow.TheVariants as how
use Rattle.py_objects.specs.declared.event.GotAnswer.TheVariants as got
use Rattle.py_objects.specs.declared.event.Ending.TheVariants as ending
use Rattle.py_objects.specs.declared.event.DriveAnswer.TheVariants as answer
use Rattle.py_objects.specs.declared.event.Event.{Event}
use Rattle.py_objects.specs.declared.event.Event.TheVariants as event
use Rattle.py_objects.specs.Objects.{Obj}
use Rattle.py_run.specs.Run.{Plan}
use Rattle.py_run.specs.Links.{HasLinks, lines_in}
use Rattle.py_run.specs.Worked.{object, exception, call, function, class, error, plain, anything}

-- an entry of a traceback: what it leads on to, its frame, the place behind the unit that raised, and its line
abbrev pub entry : Option Obj → (frame lasti line : ℕ) → Payload
entry next frame lasti line = payload.Traceback (record { next = next; frame = record { number = frame }; lasti = lasti; lineno = line })

-- None, 0, the class, 1, e, 2, x, 3, m, 4, f, 5, the exception, 7, False, 11, and the frames of f, of both calls of e, and of both of x: 9 and 12 to 15. The
-- raise in f makes the entry 8, that in x the entry 10, and where that comes out of the exit, 16
abbrev pub objects : List Payload
objects =
    payload.None ∷ class (codes "KeyError") [] ∷ function (codes "e") 0 ∷ function (codes "x") 1 ∷ payload.Manager (record { name = codes "m"; enter = object 2; exit = object 3 })
    ∷ function (codes "f") 2 ∷ payload.Tuple [] ∷ error 1 6 None ∷ entry None 9 3 9 ∷ payload.Frame 2 ∷ entry (Some (object 8)) 14 1 4 ∷ payload.Bool false
    ∷ payload.Frame 0 ∷ payload.Frame 0 ∷ payload.Frame 1 ∷ payload.Frame 1 ∷ entry (Some (object 10)) 9 4 8 ∷ []

abbrev pub plan : Plan
plan = record { signatures = plain [] ∷ plain (codes "t" ∷ codes "v" ∷ codes "b" ∷ []) ∷ plain (codes "it" ∷ []) ∷ []; asked = call (object 5) (object 7 ∷ []) ∷ [] }

-- the manager is entered by the n-th activation, and these events follow
abbrev pub entered : ℕ → List Event → List Event
entered n events =
    event.Ask 1 (request.Enter (object 4)) None 0 ∷ event.Make n (object 2) [] ∷ event.Resume n how.Start ∷ event.End n (ending.Return (object 0)) 0 ∷ event.Got 1 (got.Value (object 0)) ∷ events

-- f is called, enters the manager twice, and raises the exception
abbrev pub raising : List Event → List Event
raising events =
    event.Drive 1 ∷ event.Make 1 (object 5) (object 7 ∷ []) ∷ event.Resume 1 how.Start
    ∷ entered 2 (entered 3 (event.Ask 1 (request.Raisable (object 7)) None 2 ∷ event.Got 1 (got.Value (object 7)) ∷ events))

-- the exit is told this as the traceback
abbrev pub exit : Obj → Event
exit t = event.Ask 1 (request.Exit (object 4) (object 1) (object 7) t) (Some (exception 7)) 3

-- then the n-th activation is made, of this function
abbrev pub exiting : ℕ → Obj → Obj → List Event → List Event
exiting n f t events = exit t ∷ event.Make n f (object 1 ∷ object 7 ∷ t ∷ []) ∷ events

-- the exit function returns None, so that the exception goes on
abbrev pub exited : ℕ → Obj → List Event → List Event
exited n t events =
    exiting n (object 3) t
    (event.Resume n how.Start ∷ event.End n (ending.Return (object 0)) 0 ∷ event.Got 1 (got.Value (object 0)) ∷ event.Ask 1 (request.Truth (object 0)) None 4
    ∷ event.Got 1 (got.Value (object 11)) ∷ events)

-- f ends by it
abbrev pub ended : List Event
ended = event.End 1 (ending.Raise (exception 7)) 5 ∷ event.Result 1 (answer.Raises (exception 7)) ∷ []

-- the run
abbrev pub events : List Event
events = raising (exited 4 (object 8) (exited 5 (object 8) ended))

-- the second exit is told another traceback
abbrev pub told_another : List Event
told_another = raising (exited 4 (object 8) (exit (object 10) ∷ []))

-- the first is told None
abbrev pub told_none : List Event
told_none = raising (exit (object 0) ∷ [])

-- the exit function raises the exception again, and the second exit is told this traceback
abbrev pub again : Obj → List Event
again t =
    raising (exiting 4 (object 3) (object 8) (event.Resume 4 how.Start ∷ event.Ask 4 request.Handled None 0 ∷ event.Got 4 (got.Value (object 7)) ∷ event.End 4 (ending.Raise (exception 7)) 1
    ∷ event.Got 1 (got.Raise (exception 7)) ∷ exit t ∷ []))

-- the exit calls the enter function
abbrev pub enters_again : List Event
enters_again = raising (exiting 4 (object 2) (object 8) [])

-- ---- its links

-- the lines of the units that raise, and of the one that exits: f raises in line 9, the first exit is of line 8, and x raises in line 4
abbrev pub HasLines : Codes → Type 0
HasLines k = (lines_in k 2 2 ≡ Some 9) × (lines_in k 2 3 ≡ Some 8) × (lines_in k 1 0 ≡ Some 4)

-- when there were so many events, the exception got this traceback
abbrev pub put : (events entry : ℕ) → Change
put events entry = record { after = events; object = object 7; edit = edit.Link link.Traceback (Some (object entry)) }

-- the raise in f is the fifteenth event
abbrev pub first_entry : Change
first_entry = put 15 8

-- the one in x comes later, and goes on in f
abbrev pub entries_again : List Change
entries_again = first_entry ∷ put 20 10 ∷ put 22 16 ∷ []

-- these changes are the links that come of these events
abbrev pub AreLinked : List Event → List Change → Codes → Type 0
AreLinked events changes k = HasLinks (λ throws. anything) (record { events = events; objects = objects; changes = changes; codes = k })

-- so it is, whatever codes have those lines
abbrev pub Linked : List Event → List Change → Type 0
Linked events changes = (k : Codes) → HasLines k → AreLinked events changes k

-- so it isn't
abbrev pub Unlinked : List Event → List Change → Type 0
Unlinked events changes = (k : Codes) → HasLines k → AreLinked events changes k → ⊥
