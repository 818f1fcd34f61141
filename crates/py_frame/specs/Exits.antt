-- Which traceback the exit of a manager is told.
use Rattle.std.specs.Prelude.{◌<◌, ◌≡◌, ◌⊎◌, Option, Some, None, List, length}
use Rattle.py_code.specs.declared.instruction.Instruction.{Instruction}
use Rattle.py_code.specs.declared.instruction.Instruction.TheVariants.{WithCleanupStart}
use Rattle.py_code.specs.declared.unit.CodeUnit.{CodeUnit}
use Rattle.py_objects.specs.declared.refs.PyBaseExceptionRef.{PyBaseExceptionRef}
use Rattle.py_objects.specs.declared.payload.Payload.{Payload}
use Rattle.py_objects.specs.declared.payload.Payload.TheVariants as payload
use Rattle.py_objects.specs.declared.payload.ExceptionBody.{ExceptionBody}
use Rattle.py_objects.specs.declared.request.Request.{Request}
use Rattle.py_objects.specs.declared.request.Request.TheVariants as request
use Rattle.py_objects.specs.Objects.{Obj, HasPayload, IsTraceback, as_object, class_object}
use Rattle.py_objects.specs.Edits.{Kept, objects_of}
use Rattle.py_frame.specs.declared.input.FrameStep.{FrameStep}
use Rattle.py_frame.specs.declared.input.FrameStep.TheVariants as step
use Rattle.py_frame.specs.declared.unit_step.UnitStep.{UnitStep}
use Rattle.py_frame.specs.declared.unit_step.UnitStep.TheVariants as unit

-- an object is an exception that is there
abbrev pub IsException : List Payload → Obj → Type 0
IsException objects v = (e : ExceptionBody) × HasPayload objects v (payload.Exception e)

-- its class, which is there
abbrev pub IsClassOf : List Payload → Obj → Obj → Type 0
IsClassOf objects v class = (e : ExceptionBody) × HasPayload objects v (payload.Exception e) × (class ≡ class_object e.class) × (class.number < length objects)

-- the traceback that an exception has by now, if any
abbrev pub HasTraceback : Kept → Obj → Option Obj → Type 0
HasTraceback store v traceback = (e : ExceptionBody) × HasPayload (objects_of store) v (payload.Exception e) × (traceback ≡ e.traceback)

-- of an exception with this in the place of its traceback this is told: the same, where it is a traceback, else a None
abbrev pub IsTold : Kept → Kept → Option Obj → Obj → Type 0
IsTold before behind None told = HasPayload behind.made told payload.None
IsTold before behind (Some t) told = (IsTraceback before.made t × (told ≡ t)) ⊎ ((IsTraceback before.made t → ⊥) × HasPayload behind.made told payload.None)

-- of an exception this is told as its traceback
abbrev pub TellsTraceback : Kept → Kept → Obj → Obj → Type 0
TellsTraceback before behind v told = (t : Option Obj) × HasTraceback before v t × IsTold before behind t told

-- the same where there is one
abbrev pub TellsIf : Kept → Kept → Option PyBaseExceptionRef → Obj → Type 0
TellsIf before behind None told = Unit {0}
TellsIf before behind (Some e) told = TellsTraceback before behind (as_object e) told

-- a request to an exit tells it the traceback of the exception that it tells; other requests tell none
abbrev pub RequestTellsExit : Kept → Kept → Request → Type 0
RequestTellsExit before behind (request.Exit exit class v traceback) = (e : ExceptionBody) → HasPayload behind.made v (payload.Exception e) → TellsTraceback before behind v traceback
RequestTellsExit before behind _ = Unit {0}

-- the same of what a frame tells
abbrev pub TellsExit : Kept → Kept → FrameStep → Type 0
TellsExit before behind (step.Ask r own) = RequestTellsExit before behind r
TellsExit before behind step.Round = Unit {0}
TellsExit before behind (step.Yield v) = Unit {0}
TellsExit before behind (step.Return v) = Unit {0}
TellsExit before behind (step.Raise e) = Unit {0}
TellsExit before behind step.NoMemory = Unit {0}

-- the same of what a unit did
abbrev pub UnitTellsExit : Kept → Kept → UnitStep → Type 0
UnitTellsExit before behind unit.Goes = Unit {0}
UnitTellsExit before behind (unit.Tells step) = TellsExit before behind step

-- the same of a unit, where there is one, of the instruction that asks exits
abbrev pub UnitAtTellsExit : Option CodeUnit → Kept → Kept → UnitStep → Type 0
UnitAtTellsExit there before behind step = (u : CodeUnit) → there ≡ Some u → u.op ≡ WithCleanupStart → UnitTellsExit before behind step

-- the same of the instruction that asks exits
abbrev pub OpTellsExit : Instruction → Kept → Kept → UnitStep → Type 0
OpTellsExit op before behind step = op ≡ WithCleanupStart → UnitTellsExit before behind step
