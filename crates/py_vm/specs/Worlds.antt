-- What requests read and change of a machine, and what they come to from one such world to the next.
use Rattle.std.specs.Prelude.{ℕ, Option, None, List, ◌≡◌}
use Rattle.py_objects.specs.declared.refs.PyBaseExceptionRef.{PyBaseExceptionRef}
use Rattle.py_objects.specs.declared.payload.Fault.{Fault}
use Rattle.py_objects.specs.declared.payload.Payload.{Payload}
use Rattle.py_objects.specs.declared.request.Request.{Request}
use Rattle.py_objects.specs.declared.request.Request.TheVariants as request
use Rattle.py_objects.specs.Attrs.{value_of}
use Rattle.py_objects.specs.Growth.{IsGrown}
use Rattle.py_objects.specs.Objects.{Obj, Name, declared, HasPayload, IsFunction}
use Rattle.py_exceptions.specs.Classes.{HaveClasses}
use Rattle.py_answers.specs.Answers.{Reply}
use Rattle.py_answers.specs.Readable.{IsReadable}
use Rattle.py_run.specs.Calls.{Setting, exit_of}
use Rattle.py_vm.specs.declared.calls.Course.{Course as MadeCourse}
use Rattle.py_vm.specs.declared.calls.Standing.{Standing}
use Rattle.py_vm.specs.declared.reply.Reply.{Reply as MadeReply}
use Rattle.py_vm.specs.declared.world.World.{World}
use Rattle.py_vm.specs.Courses.{setting_by, IsCourse, IsCourseAt, IsCourseOf, IsEntryCourse, IsExitCourse, IsRefusal, IsReplied, IsThrownCourse}
use Rattle.py_vm.specs.Holds.{AreRunnable}

-- what a world must be: its store can be read, the built-in classes are there, and its codes can run. Under each name it has the first object
-- that is declared so
pub record IsSound (w : World) : Type 0 where
  pub readable : IsReadable w.store
  pub classes : HaveClasses w.zoo w.store.made
  pub runnable : AreRunnable w.codes w.store.made
  pub names_are : (x : Name) → value_of x w.declarations ≡ declared w.store.made x

-- there may be more objects, and nothing else changed
pub record HasGrown (old new : World) : Type 0 where
  pub grows : IsGrown old.store new.store
  pub others : new ≡ record old { store = new.store }

-- there may be more objects, and generators may have changed, but nothing else
pub record GrowsTo (old new : World) : Type 0 where
  pub grows : IsGrown old.store new.store
  pub others : new ≡ record old { store = new.store; generators = new.generators }

-- where a question stands in it
abbrev pub setting_in : World → Standing → Setting
setting_in w at = setting_by w.codes w.generators at

-- a course that was made for a request, from the one world to the other
abbrev pub IsCourseFrom : (old new : World) → Standing → Request → MadeCourse → Type 0
IsCourseFrom old new at r c = IsCourse (setting_in old at) old.store new.store old.generators new.generators r c

-- the same of the call of a function, the entry of a manager, and an exit that is told this
abbrev pub CallsFrom : (old new : World) → Standing → Obj → List Obj → MadeCourse → Type 0
CallsFrom old new at f vs c = IsCourseOf (setting_in old at) old.store new.store f vs c

abbrev pub EntersFrom : (old new : World) → Standing → Obj → MadeCourse → Type 0
EntersFrom old new at m c = IsEntryCourse (setting_in old at) old.store new.store m c

abbrev pub LeavesFrom : (old new : World) → Standing → Obj → List Obj → MadeCourse → Type 0
LeavesFrom old new at x told c = IsExitCourse (setting_in old at) old.store new.store x told c

-- the function that leaving by an exit calls
abbrev pub IsExitFunction : List Payload → Obj → Obj → Type 0
IsExitFunction objects x f = (p : Payload) × HasPayload objects x p × (f ≡ exit_of p x) × IsFunction objects f

-- a course that was made for a send, a throw and a close
abbrev pub SendsFrom : (old new : World) → (depth : ℕ) → (g v : Obj) → MadeCourse → Type 0
SendsFrom old new depth g v c = IsCourseAt depth old.store new.store old.generators new.generators (request.Send g v) c

abbrev pub ThrowsFrom : (old new : World) → (depth : ℕ) → (g k : Obj) → Option Obj → MadeCourse → Type 0
ThrowsFrom old new depth g k v c = IsCourseAt depth old.store new.store old.generators new.generators (request.Throw g k v None) c

abbrev pub ClosesFrom : (old new : World) → (depth : ℕ) → Obj → MadeCourse → Type 0
ClosesFrom old new depth g c = IsCourseAt depth old.store new.store old.generators new.generators (request.Close g) c

-- an exception is thrown into the generator that an object is, which raises it by this reply where it isn't entered
abbrev pub GoesInto : (old new : World) → (depth : ℕ) → Obj → PyBaseExceptionRef → (raise : MadeReply) → MadeCourse → Type 0
GoesInto old new depth g e raise c = IsThrownCourse depth old.store.made new.store.made old.generators new.generators g e raise c

-- why the call of a function with so many arguments is refused, if it is
abbrev pub IsRefusalIn : World → Standing → Obj → ℕ → Option Fault → Type 0
IsRefusalIn w at f given fault = IsRefusal (setting_in w at) w.store.made f given fault

-- what a question is answered is the reply
abbrev pub IsRepliedFrom : (old new : World) → Reply → MadeReply → Type 0
IsRepliedFrom old new reply w = IsReplied old.store.made new.store.made reply w
