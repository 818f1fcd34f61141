-- Drives by which a host has an exception made by the call of its class, and what they leave.
use Rattle.std.specs.Prelude.{ℕ, suc, Result, Ok, Err, List, ◌≡◌}
use Rattle.py_objects.specs.declared.refs.PyBaseExceptionRef.{PyBaseExceptionRef}
use Rattle.py_objects.specs.declared.refs.PyTypeRef.{PyTypeRef}
use Rattle.py_objects.specs.declared.payload.Payload.{Payload}
use Rattle.py_objects.specs.declared.event.DriveAnswer.{DriveAnswer}
use Rattle.py_objects.specs.declared.event.DriveAnswer.TheVariants as answer
use Rattle.py_objects.specs.declared.request.Keywords.TheVariants as keywords
use Rattle.py_objects.specs.declared.request.Request.TheVariants as request
use Rattle.py_objects.specs.Objects.{Obj, as_object, class_object, IsException}
use Rattle.py_run.specs.Run.{Pose, Requests}
use Rattle.py_vm.specs.declared.fault.VmFault.{VmFault}
use Rattle.py_vm.specs.declared.fault.VmFault.TheVariants as fault
use Rattle.py_vm.specs.Machine.{Machine, EndsBy, IsCutShort, IsDoneBy, IsSpent, KeepsGenerators, done_of}

-- what such a drive poses: the call of the class with these arguments
abbrev pub calling : PyTypeRef → List Obj → Pose
calling class args = Requests (request.Call (class_object class) args keywords.None)

-- a drive has this result, and all is ready for the next one
pub record HasResult (pose : Pose) (old new : Machine) (w : DriveAnswer) : Type 0 where
  pub done : IsDoneBy old new
  pub ends : EndsBy new.events (suc (done_of old)) w
  pub generators : KeepsGenerators pose old new

-- what comes of such a drive of a machine that hasn't failed: an exception is returned, or one is raised; else turns are spent, or memory ran out
abbrev pub Invokes : Pose → (turns : ℕ) → Machine → Result PyBaseExceptionRef VmFault → Machine → Type 0
Invokes pose turns m (Ok e) m' = HasResult pose m m' (answer.Returns (as_object e)) × IsException m'.objects (as_object e)
Invokes pose turns m (Err (fault.Exception e)) m' = HasResult pose m m' (answer.Raises e)
Invokes pose turns m (Err fault.OutOfTurns) m' = IsSpent m turns m'
Invokes pose turns m (Err fault.NoMemory) m' = IsCutShort m turns m'
Invokes pose turns m (Err fault.Failed) m' = ⊥

-- ---- what the functions inside the crate promise each other

-- the result of a drive is a return or a raise
abbrev pub IsReturnOrRaise : DriveAnswer → Type 0
IsReturnOrRaise (answer.Returns v) = Unit {0}
IsReturnOrRaise (answer.Raises e) = Unit {0}
IsReturnOrRaise (answer.Yields v) = ⊥
IsReturnOrRaise (answer.Stops v) = ⊥
IsReturnOrRaise answer.Closes = ⊥
IsReturnOrRaise (answer.Reported text) = ⊥

-- it is the return of an exception, or a raise
abbrev pub IsExceptionOrRaise : List Payload → DriveAnswer → Type 0
IsExceptionOrRaise objects (answer.Returns v) = IsException objects v
IsExceptionOrRaise objects (answer.Raises e) = Unit {0}
IsExceptionOrRaise objects (answer.Yields v) = ⊥
IsExceptionOrRaise objects (answer.Stops v) = ⊥
IsExceptionOrRaise objects answer.Closes = ⊥
IsExceptionOrRaise objects (answer.Reported text) = ⊥

-- the host is answered what is returned, or raised
abbrev pub Gives : DriveAnswer → Result PyBaseExceptionRef VmFault → Type 0
Gives w (Ok e) = w ≡ answer.Returns (as_object e)
Gives w (Err (fault.Exception e)) = w ≡ answer.Raises e
Gives w (Err fault.OutOfTurns) = ⊥
Gives w (Err fault.NoMemory) = ⊥
Gives w (Err fault.Failed) = ⊥
