-- Stores worked by hand, whose exceptions are reported.
use Rattle.std.specs.Prelude.{Option, Some, None, List, [], ◌∷◌, ◌++◌, pos, codes}
use Rattle.py_objects.specs.declared.payload.Payload.{Payload}
use Rattle.py_objects.specs.declared.payload.Payload.TheVariants as payload
use Rattle.py_objects.specs.declared.payload.ExceptionBody.{ExceptionBody}
use Rattle.py_objects.specs.Attrs.{Attrs}
use Rattle.py_objects.specs.Objects.{Obj}
use Rattle.py_objects.specs.Values.{new_exception}
use Rattle.crate_tests.specs.Exit.{object}

-- an exception of the class 1, with these arguments and links
abbrev pub linked_body : Obj → Option Obj → Option Obj → Attrs → ExceptionBody
linked_body args cause traceback attrs = record (new_exception (record { number = 1 }) args) { cause = cause; traceback = traceback; attrs = attrs }

-- None, ValueError, and an exception of it with the argument 'a'
abbrev pub first_reported : List Payload
first_reported =
    payload.None ∷ payload.Class (record { name = codes "ValueError"; mro = [] }) ∷ payload.Str (codes "a") ∷ payload.Tuple (object 2 ∷ [])
    ∷ payload.Exception (linked_body (object 3) None None []) ∷ []

-- and one with the argument 'b', of which that is the cause
abbrev pub two_reported : List Payload
two_reported =
    first_reported ++ payload.Str (codes "b") ∷ payload.Tuple (object 5 ∷ []) ∷ payload.Exception (linked_body (object 6) (Some (object 4)) None []) ∷ []

-- and an entry of a traceback
abbrev pub traced_reported : List Payload
traced_reported =
    two_reported ++ payload.Frame 0 ∷ payload.Traceback (record { next = None; frame = record { number = 8 }; lasti = 0; lineno = 2 }) ∷ []

-- None, SyntaxError, arguments of it, and values for its attributes
abbrev pub syntax_reported : List Payload
syntax_reported =
    payload.None ∷ payload.Class (record { name = codes "SyntaxError"; mro = [] }) ∷ payload.Str (codes "invalid syntax") ∷ payload.Tuple (object 2 ∷ [])
    ∷ payload.Int (pos 1) ∷ payload.Str (codes "  a b\n") ∷ payload.Int (pos 5) ∷ payload.Int (pos 3)
    ∷ payload.Str (codes "f.py") ∷ []

-- attributes of one: the line 1, the text, and the offset 5
abbrev pub syntax_attrs : Attrs
syntax_attrs = (codes "lineno", object 4) ∷ (codes "text", object 5) ∷ (codes "offset", object 6) ∷ []

-- attributes of another one: a file without a line, the text, and the offsets 3 and 5
abbrev pub file_attrs : Attrs
file_attrs = (codes "filename", object 8) ∷ (codes "text", object 5) ∷ (codes "offset", object 7) ∷ (codes "end_offset", object 6) ∷ []
