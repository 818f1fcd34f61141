-- Reports of exceptions that are worked by hand.
use Rattle.std.specs.Prelude.{ℕ, pos, Option, Some, None, List, [], ◌∷◌, Bool, true, false, codes}
use Rattle.py_objects.specs.declared.payload.Payload.{Payload}
use Rattle.py_objects.specs.declared.payload.Payload.TheVariants as payload
use Rattle.py_objects.specs.Attrs.{Attrs}
use Rattle.py_objects.specs.Objects.{Obj}
use Rattle.py_objects.specs.Values.{new_exception}
use Rattle.py_reports.specs.Scenes.{source_of, Scene}

-- ---- objects: a ValueError of 'a' is the object 6, and one of 'b' the object 7, after their class and their arguments

-- the object of this number
abbrev pub object : ℕ → Obj
object n = record { number = n }

-- the exception that came first
abbrev pub first : Obj
first = object 6

-- the one that is reported
abbrev pub last : Obj
last = object 7

-- a ValueError with these arguments and links
abbrev pub error : ℕ → Option Obj → Option Obj → Bool → Option Obj → Payload
error args cause context suppress traceback = payload.Exception (record (new_exception (record { number = 1 }) (object args)) {
  cause = cause;
  context = context;
  suppress = suppress;
  traceback = traceback;
})

-- both exceptions, and what their tracebacks need
abbrev pub objects_of : Payload → Payload → List Payload → List Payload
objects_of a b more =
    payload.None ∷ payload.Class (record { name = codes "ValueError"; mro = [] })
    ∷ payload.Str (codes "a") ∷ payload.Tuple (object 2 ∷ []) ∷ payload.Str (codes "b") ∷ payload.Tuple (object 4 ∷ [])
    ∷ a ∷ b ∷ more

-- an exception without links
abbrev pub plain : ℕ → Payload
plain args = error args None None false None

-- these objects, where no code is known
abbrev pub without_codes : List Payload → Scene
without_codes objects = record { objects = objects; names = []; places = []; sources = [] }

-- ---- the links of the last exception

-- the first one is its cause
abbrev pub caused : Scene
caused = without_codes (objects_of (plain 3) (error 5 (Some first) None false None) [])

-- the first one is its context
abbrev pub followed : Scene
followed = without_codes (objects_of (plain 3) (error 5 None (Some first) false None) [])

-- the first one is its context, which is suppressed
abbrev pub suppressed : Scene
suppressed = without_codes (objects_of (plain 3) (error 5 None (Some first) true None) [])

-- each is the context of the other
abbrev pub round : Scene
round = without_codes (objects_of (error 3 None (Some last) false None) (error 5 None (Some first) false None) [])

-- it is its own cause, and the first one is its context
abbrev pub caused_by_itself : Scene
caused_by_itself = without_codes (objects_of (plain 3) (error 5 (Some last) (Some first) false None) [])

-- it has a traceback of one entry, whose code has a source text
abbrev pub traced : Scene
traced = record {
  objects = objects_of (plain 3) (error 5 None None false (Some (object 8)))
      (payload.Traceback (record { next = None; frame = record { number = 9 }; lasti = 0; lineno = 2 }) ∷ payload.Frame 0 ∷ []);
  names = codes "<script>" ∷ codes "f" ∷ [];
  places = record { source_path = record { index = 0 }; obj_name = record { index = 1 } } ∷ [];
  sources = source_of (codes "<script>") (codes "def f\n  raise e\r\nend\n") ∷ [];
}

-- ---- a SyntaxError

-- it is the object 8, after its class, its arguments, and the values of its attributes
abbrev pub misread : Obj
misread = object 8

-- the file, the line and its text, and the column of the second =
abbrev pub where_misread : Attrs
where_misread = (codes "filename", object 4) ∷ (codes "lineno", object 5) ∷ (codes "text", object 6) ∷ (codes "offset", object 7) ∷ []

-- it was found in a file
abbrev pub with_misread : Scene
with_misread = without_codes
    (payload.None ∷ payload.Class (record { name = codes "SyntaxError"; mro = [] })
    ∷ payload.Str (codes "invalid syntax") ∷ payload.Tuple (object 2 ∷ []) ∷ payload.Str (codes "f.py") ∷ payload.Int (pos 3) ∷ payload.Str (codes "  x = = 1\n") ∷ payload.Int (pos 7)
    ∷ payload.Exception (record (new_exception (record { number = 1 }) (object 3)) { attrs = where_misread }) ∷ [])

-- ---- what is printed

-- the one that is reported, and no other
abbrev pub last_alone : List ℕ
last_alone = codes "ValueError: b\n"

-- both, where the first one is the cause
abbrev pub after_its_cause : List ℕ
after_its_cause = codes "ValueError: a\n\nThe above exception was the direct cause of the following exception:\n\nValueError: b\n"

-- both, where the first one is the context
abbrev pub after_its_context : List ℕ
after_its_context = codes "ValueError: a\n\nDuring handling of the above exception, another exception occurred:\n\nValueError: b\n"

-- the one that is reported, with its traceback
abbrev pub with_traceback : List ℕ
with_traceback = codes "Traceback (most recent call last):\n  File \"<script>\", line 2, in f\n    raise e\nValueError: b\n"

-- the SyntaxError, with the line where it was found
abbrev pub with_its_line : List ℕ
with_its_line = codes "  File \"f.py\", line 3\n    x = = 1\n        ^\nSyntaxError: invalid syntax\n"
