-- Objects by their numbers, and names.
use Rattle.std.specs.Prelude.{ℕ, List}
use Rattle.py_objects.specs.declared.refs.PyObjectRef.{PyObjectRef}
use Rattle.py_objects.specs.declared.refs.PyTypeRef.{PyTypeRef}
use Rattle.py_objects.specs.declared.refs.PyBaseExceptionRef.{PyBaseExceptionRef}
use Rattle.py_objects.specs.declared.refs.PyTracebackRef.{PyTracebackRef}
use Rattle.py_objects.specs.declared.refs.FrameRef.{FrameRef}

-- an object is the number of its entry
abbrev pub Obj : Type 0
Obj = PyObjectRef

-- a name is the list of its characters
abbrev pub Name : Type 0
Name = List ℕ

-- a class as an object
abbrev pub class_object : PyTypeRef → Obj
class_object c = record { number = c.number }

-- an exception as an object
abbrev pub as_object : PyBaseExceptionRef → Obj
as_object e = record { number = e.number }

-- a traceback as an object
abbrev pub object_of_traceback : PyTracebackRef → Obj
object_of_traceback t = record { number = t.number }

-- a frame as an object
abbrev pub frame_object : FrameRef → Obj
frame_object f = record { number = f.number }
