-- What the functions that write a text promise each other.
use Rattle.std.specs.Prelude.{ℕ, zero, suc, Option, Some, None, List, [], Result, String, OnOk, string_bytes, codes, encode_utf8_all, ◌++◌, ◌≡◌}
use Rattle.py_code.specs.BuiltinNames.{builtin_name}
use Rattle.py_code.specs.declared.literal.BuiltinFn.{BuiltinFn}
use Rattle.py_objects.specs.declared.refs.PyBaseExceptionRef.{PyBaseExceptionRef}
use Rattle.py_objects.specs.declared.refs.PyTypeRef.{PyTypeRef}
use Rattle.py_objects.specs.declared.payload.Payload.{Payload}
use Rattle.py_objects.specs.declared.payload.ExceptionBody.{ExceptionBody}
use Rattle.py_objects.specs.Objects.{Obj, as_object, class_object}
use Rattle.py_exceptions.specs.Repr.{Inner, class_name, in_parentheses, items_of, joined, pair_by, payload_of, repr_within, shown}
use Rattle.py_exceptions.specs.Said.{files, key_said, line_between, os_said, said, said_by, syntax_said, whereabouts}
use Rattle.py_exceptions.specs.Texts.{raised, str_by, str_within}

-- where memory was enough, a text has this after what it had
abbrev pub Adds : {T E Z : Type 0} → Result T E → (old new : String Z) → List ℕ → Type 0
Adds result old new text = OnOk result (string_bytes new ≡ string_bytes old ++ text)

-- how the objects inside of one are shown, where that one may hold others so deep
abbrev pub inner_at : ℕ → List Payload → Inner
inner_at zero objects = None
inner_at (suc k) objects = Some (repr_within k objects)

-- an object with this payload, which may hold others so deep
abbrev pub payload_text : ℕ → List Payload → Payload → List ℕ
payload_text k objects p = shown (inner_at k objects) objects (Some p)

-- objects in parentheses, each of which may hold others so deep
abbrev pub enclosed_text : ℕ → List Payload → List Obj → List ℕ
enclosed_text k objects vs = in_parentheses (Some (repr_within k objects)) vs

-- pairs of a dict with commas between, whose objects may hold others so deep
abbrev pub pairs_text : ℕ → List Payload → List (Obj × Obj) → List ℕ
pairs_text k objects ps = joined (pair_by (repr_within k objects)) ps

-- a function of the machine's own
abbrev pub builtin_text : BuiltinFn → List ℕ
builtin_text f = codes "<built-in function " ++ (encode_utf8_all (builtin_name f) ++ codes ">")

-- the name of a class that is an object
abbrev pub class_text : List Payload → PyTypeRef → List ℕ
class_text objects class = encode_utf8_all (class_name (payload_of objects (class_object class)))

-- what an exception says whose arguments may hold others so deep, also by the rule of one class
abbrev pub args_text : ℕ → List Payload → List Obj → List ℕ
args_text k objects vs = said (str_within k objects) (repr_within k objects) vs

abbrev pub key_text : ℕ → List Payload → List Obj → List ℕ
key_text k objects vs = key_said (str_within k objects) (repr_within k objects) vs

abbrev pub os_text : ℕ → List Payload → ExceptionBody → List Obj → List ℕ
os_text k objects e vs = os_said (str_within k objects) (repr_within k objects) objects e vs

abbrev pub syntax_text : ℕ → List Payload → ExceptionBody → List Obj → List ℕ
syntax_text k objects e vs = syntax_said (str_within k objects) (repr_within k objects) objects e vs

abbrev pub exception_text : ℕ → List Payload → ExceptionBody → List ℕ
exception_text k objects e = said_by (str_within k objects) (repr_within k objects) objects e (items_of (payload_of objects e.args))

-- the files of an OSError; where a SyntaxError was found, and its line alone or in a file
abbrev pub files_text : ℕ → List Payload → ExceptionBody → List ℕ
files_text k objects e = files (repr_within k objects) objects e

abbrev pub found_text : ℕ → List Payload → ExceptionBody → List ℕ
found_text k objects e = whereabouts (str_within k objects) objects e

abbrev pub line_text : ℕ → List Payload → Option Obj → List ℕ
line_text k objects line = line_between (str_within k objects) (codes " (line ") (codes ")") line

abbrev pub line_in_file : ℕ → List Payload → Option Obj → List ℕ
line_in_file k objects line = line_between (str_within k objects) (codes ", line ") [] line

-- what an exception says, where it may hold others so deep itself
abbrev pub says_at : ℕ → List Payload → Option (ExceptionBody → List Obj → List ℕ)
says_at zero objects = None
says_at (suc k) objects = Some (said_by (str_within k objects) (repr_within k objects) objects)

-- an object with this payload as a text, which may hold others so deep
abbrev pub entry_text : ℕ → List Payload → Obj → Payload → List ℕ
entry_text k objects v p = str_by (says_at k objects) (repr_within k objects v) objects (Some p)

-- an exception that is raised
abbrev pub raised_text : List Payload → PyBaseExceptionRef → List ℕ
raised_text objects e = raised objects (payload_of objects (as_object e))
