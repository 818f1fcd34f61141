-- What comes of what a drive has an exception made of: an exception or a class of exceptions, with a value and a traceback.
use Rattle.std.specs.Prelude.{Option, Some, None, List, ◌++◌, ◌≡◌, codes}
use Rattle.py_objects.specs.declared.payload.Payload.{Payload}
use Rattle.py_objects.specs.declared.payload.Payload.TheVariants as payload
use Rattle.py_objects.specs.declared.error_kind.ErrorKind.TheVariants.{TypeError}
use Rattle.py_objects.specs.Objects.{Obj, Name, HasPayload, as_object}
use Rattle.py_exceptions.specs.Normalizing.{Normalizes}
use Rattle.py_exceptions.specs.declared.ctor.Instantiate.{Instantiate}
use Rattle.py_exceptions.specs.declared.ctor.Instantiate.TheVariants as comes
use Rattle.py_answers.specs.Answers.{Reply, Is, Makes, Fails, IsTypeName}
use Rattle.py_run.specs.declared.drive.Makings.{Makings}

-- what an object with a payload is as a traceback: itself, none where it is None, and else nothing
abbrev pub traceback_as : Payload → Obj → Option (Option Obj)
traceback_as payload.None t = Some None
traceback_as (payload.Traceback b) t = Some (Some t)
traceback_as _ t = None

-- the text of the refusal of an object of the type of this name as a traceback
abbrev pub not_traceback : Name → Name
not_traceback n = codes "Expected type 'traceback' but '" ++ (n ++ codes "' found")

-- a reply with what is a traceback like this, where the name of its type is this: the refusal of what is none
abbrev pub traced : Option (Option Obj) → Name → Reply → Reply
traced None n reply = Fails TypeError (not_traceback n)
traced (Some t) n reply = reply

-- the reply where what is thrown comes to this: a fault is raised before the traceback is looked at
abbrev pub formed : Option (Option Obj) → Name → Instantiate → Option Reply
formed t n (comes.Done e) = Some (traced t n (Is (as_object e)))
formed t n (comes.Make class args) = Some (traced t n (Makes class args))
formed t n (comes.Fault f) = Some (Fails f.kind f.text)
formed t n comes.NoMemory = None

-- what an exception is made of comes to this reply
pub record NormalizesTo (objects : List Payload) (x : Makings) (reply : Reply) : Type 0 where
  pub outcome : Instantiate
  pub normalizes : Normalizes objects x.thrown (Some x.value) outcome
  pub entry : Payload
  pub has : HasPayload objects x.traceback entry
  pub name : Name
  pub typed : IsTypeName objects entry name
  pub is : formed (traceback_as entry x.traceback) name outcome ≡ Some reply
