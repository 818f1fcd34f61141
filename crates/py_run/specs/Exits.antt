-- How an exception ends a program: its status, and what is printed (Python Library Reference, SystemExit).
use Rattle.std.specs.Prelude.{ℕ, ℤ, pos, negsuc, Option, Some, List, [], ◌∷◌, ◌++◌, ◌≡◌, true, false, nat_lt, codes, encode_utf8_all, if◌then◌else◌}
use Rattle.py_objects.specs.declared.refs.PyBaseExceptionRef.{PyBaseExceptionRef}
use Rattle.py_objects.specs.declared.payload.Payload.{Payload}
use Rattle.py_objects.specs.declared.payload.Payload.TheVariants as payload
use Rattle.py_objects.specs.declared.payload.ExceptionBody.{ExceptionBody}
use Rattle.py_objects.specs.declared.error_kind.ErrorKind.TheVariants.{KeyboardInterrupt, SystemExit}
use Rattle.py_objects.specs.ErrorKinds.{name_of}
use Rattle.py_objects.specs.Objects.{Obj, Name, as_object, class_object}
use Rattle.py_objects.specs.Ancestry.{derives_from}
use Rattle.py_exceptions.specs.Repr.{items_of, payload_of}
use Rattle.py_exceptions.specs.Texts.{repr, str}
use Rattle.py_reports.specs.Reports.{IsReport}
use Rattle.py_reports.specs.Scenes.{Scene}
use Rattle.py_run.specs.declared.exit.Exit.{Exit}
use Rattle.py_run.specs.declared.exit.Exit.TheVariants as exit

-- a whole number as a status: where it is no byte, 0
abbrev pub byte_of : ℤ → ℕ
byte_of (pos n) = if nat_lt n 256 then n else 0
byte_of (negsuc n) = 0

-- how a SystemExit ends it whose one argument has this payload: None and whole numbers are statuses
abbrev pub ends_by_payload : Obj → Option Payload → Exit
ends_by_payload v (Some payload.None) = exit.Silent 0
ends_by_payload v (Some (payload.Bool true)) = exit.Silent 1
ends_by_payload v (Some (payload.Bool false)) = exit.Silent 0
ends_by_payload v (Some (payload.Int n)) = exit.Silent (byte_of n)
ends_by_payload v _ = exit.Says v

abbrev pub ends_by_argument : List Payload → Obj → Exit
ends_by_argument objects v = ends_by_payload v (payload_of objects v)

-- how one ends it whose arguments are the items of a tuple: several are shown as that
abbrev pub ends_by_items : List Payload → Obj → List Obj → Exit
ends_by_items objects args [] = exit.Silent 0
ends_by_items objects args (v ∷ []) = ends_by_argument objects v
ends_by_items objects args (v ∷ w ∷ vs) = exit.Shows args

abbrev pub ends_by_arguments : List Payload → Obj → Exit
ends_by_arguments objects args = ends_by_items objects args (items_of (payload_of objects args))

-- how an exception ends it: one that is no SystemExit is reported, and 130 is the status of an interrupt
abbrev pub ends_by : List Payload → ExceptionBody → Exit
ends_by objects e =
    if derives_from objects (class_object e.class) (name_of SystemExit) then ends_by_arguments objects e.args
    else (if derives_from objects (class_object e.class) (name_of KeyboardInterrupt) then exit.Reports 130 else exit.Reports 1)

-- the same of an object; what is no exception ends it as one of no kind
abbrev pub ends_as : List Payload → Option Payload → Exit
ends_as objects (Some (payload.Exception e)) = ends_by objects e
ends_as objects _ = exit.Reports 1

abbrev pub exit_of : List Payload → PyBaseExceptionRef → Exit
exit_of objects exc = ends_as objects (payload_of objects (as_object exc))

-- the status of the program
abbrev pub status_of : Exit → ℕ
status_of (exit.Silent n) = n
status_of (exit.Says v) = 1
status_of (exit.Shows v) = 1
status_of (exit.Reports n) = n

-- this is printed where an exception ends a program in this way
abbrev pub PrintsAt : Scene → PyBaseExceptionRef → Exit → List ℕ → Type 0
PrintsAt scene exc (exit.Silent n) bytes = bytes ≡ []
PrintsAt scene exc (exit.Says v) bytes = bytes ≡ str scene.objects v ++ codes "\n"
PrintsAt scene exc (exit.Shows v) bytes = bytes ≡ repr scene.objects v ++ codes "\n"
PrintsAt scene exc (exit.Reports n) bytes = IsReport scene (as_object exc) bytes

-- this text is printed where an exception ends a program
abbrev pub IsExitText : Scene → PyBaseExceptionRef → Name → Type 0
IsExitText scene exc text = PrintsAt scene exc (exit_of scene.objects exc) (encode_utf8_all text)
