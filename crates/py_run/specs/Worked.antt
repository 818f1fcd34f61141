-- What journals of generators that are worked by hand share: their objects, their first events, and what is said of what may come.
use Rattle.std.specs.Prelude.{ℕ, Option, Some, None, is_some, List, [], ◌∷◌, pos, ◌≡◌, codes}
use Rattle.py_objects.specs.declared.refs.PyBaseExceptionRef.{PyBaseExceptionRef}
use Rattle.py_objects.specs.declared.payload.Payload.{Payload}
use Rattle.py_objects.specs.declared.payload.Payload.TheVariants as payload
use Rattle.py_objects.specs.declared.payload.CoroKind.TheVariants as coro
use Rattle.py_objects.specs.declared.request.Keywords.TheVariants as keywords
use Rattle.py_objects.specs.declared.request.Request.TheVariants as request
use Rattle.py_objects.specs.declared.event.ResumeHow.{ResumeHow}
use Rattle.py_objects.specs.declared.event.ResumeHow.TheVariants as how
use Rattle.py_objects.specs.declared.event.DriveAnswer.TheVariants as answer
use Rattle.py_objects.specs.declared.event.Event.{Event}
use Rattle.py_objects.specs.declared.event.Event.TheVariants as event
use Rattle.py_objects.specs.Objects.{Obj, Name}
use Rattle.py_objects.specs.Values.{new_exception}
use Rattle.py_run.specs.Run.{Signature, Requests, Posed, Plan}
use Rattle.py_run.specs.Coming.{nothing, May, MayCome}
use Rattle.py_run.specs.Past.{past_behind}

-- an object, and an exception, by its number
abbrev pub object : ℕ → Obj
object n = record { number = n }

abbrev pub exception : ℕ → PyBaseExceptionRef
exception n = record { number = n }

-- what drives ask
abbrev pub call : Obj → List Obj → Posed
call f vs = record { pose = Requests (request.Call f vs keywords.None); entered = 0 }

abbrev pub send : Obj → Obj → Posed
send g v = record { pose = Requests (request.Send g v); entered = 0 }

abbrev pub throw : Obj → Obj → Obj → Posed
throw g k v = record { pose = Requests (request.Throw g k (Some v) None); entered = 0 }

abbrev pub close : Obj → Posed
close g = record { pose = Requests (request.Close g); entered = 0 }

-- a function, and a class with those that it derives from
abbrev pub function : Name → ℕ → Payload
function name code = payload.Function (record { name = name; code = code })

abbrev pub class : Name → List Obj → Payload
class name mro = payload.Class (record { name = name; mro = mro })

-- an exception of the class with this number, with the tuple of arguments that has that one, and maybe with a cause
abbrev pub error : ℕ → ℕ → Option Obj → Payload
error type args cause = payload.Exception (record (new_exception (record { number = type }) (object args)) { cause = cause; suppress = is_some cause })

-- the generator that a call of g makes, where its activation is the first
abbrev pub generator : Payload
generator = payload.Generator (record { activation = 1; name = codes "g"; kind = coro.Generator })

-- None is object 0, the generator function g object 1, a generator of it object 2, and the number 1 object 3; then come more
abbrev pub objects_with : List Payload → List Payload
objects_with more = payload.None ∷ function (codes "g") 0 ∷ generator ∷ payload.Int (pos 1) ∷ more

-- a function with these parameters
abbrev pub plain : List Name → Signature
plain params = record { params = params; kind = None }

-- call g, and more
abbrev pub plan_with : List Signature → List Posed → Plan
plan_with more asked = record { signatures = record { params = []; kind = Some coro.Generator } ∷ more; asked = call (object 1) [] ∷ asked }

-- the call is answered by the generator, and these events follow
abbrev pub created : List Event → List Event
created events = event.Drive 1 ∷ event.Make 1 (object 1) [] ∷ event.Result 1 (answer.Returns (object 2)) ∷ events

-- the first next yields 1, and these events follow
abbrev pub yielded : List Event → List Event
yielded events = created (event.Drive 2 ∷ event.Resume 1 how.Start ∷ event.Yield 1 (object 3) 1 ∷ event.Result 2 (answer.Yields (object 3)) ∷ events)

-- whatever an activation tells
abbrev pub anything : May
anything f vs told = Unit {0}

-- behind these events no activation may be entered
abbrev pub NoneEnters : Plan → List Payload → List Event → Type 0
NoneEnters plan objects front = (a : ℕ) (h : ResumeHow) → MayCome plan objects (past_behind plan nothing front) (event.Resume a h) → ⊥

-- behind these events this activation alone may be entered
abbrev pub OnlyEnters : Plan → List Payload → List Event → ℕ → Type 0
OnlyEnters plan objects front n = (a : ℕ) (h : ResumeHow) → MayCome plan objects (past_behind plan nothing front) (event.Resume a h) → a ≡ n

-- behind these events an activation may be entered by a throw alone
abbrev pub OnlyThrows : Plan → List Payload → List Event → Type 0
OnlyThrows plan objects front = (a : ℕ) (h : ResumeHow) → MayCome plan objects (past_behind plan nothing front) (event.Resume a h) → (e : PyBaseExceptionRef) × (h ≡ how.Throw e)
