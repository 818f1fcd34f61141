-- What is printed of one exception: its traceback, and its class with what it says (Python Language Reference, 4.2).
use Rattle.std.specs.Prelude.{ℕ, Option, Some, None, List, [], ◌++◌, ◌≡◌, codes, encode_utf8_all, if◌then◌else◌}
use Rattle.py_objects.specs.declared.payload.Payload.{Payload}
use Rattle.py_objects.specs.declared.payload.Payload.TheVariants as payload
use Rattle.py_objects.specs.declared.payload.ExceptionBody.{ExceptionBody}
use Rattle.py_objects.specs.declared.edit.LinkField.TheVariants as link
use Rattle.py_objects.specs.declared.refs.PyBaseExceptionRef.{PyBaseExceptionRef}
use Rattle.py_objects.specs.Objects.{Obj, Name, as_object}
use Rattle.py_exceptions.specs.Repr.{payload_of}
use Rattle.py_exceptions.specs.Texts.{raised}
use Rattle.py_exceptions.specs.Walks.{link_at}
use Rattle.py_reports.specs.Entries.{traceback_text, HasEntries}
use Rattle.py_reports.specs.Scenes.{Scene}
use Rattle.py_reports.specs.SyntaxLines.{is_syntax_error, syntax_end, syntax_lines}

-- the body of a SyntaxError that has this payload
abbrev pub syntax_error_in : List Payload → Option Payload → Option ExceptionBody
syntax_error_in objects (Some (payload.Exception e)) = if is_syntax_error objects e then Some e else None
syntax_error_in objects _ = None

-- the body of an object that is a SyntaxError
abbrev pub syntax_error_at : List Payload → Obj → Option ExceptionBody
syntax_error_at objects v = syntax_error_in objects (payload_of objects v)

-- what stands before the last line: only a SyntaxError has more
abbrev pub lines_before : List Payload → Option ExceptionBody → List ℕ
lines_before objects None = []
lines_before objects (Some e) = syntax_lines objects e

-- what ends the last line
abbrev pub end_of_line : List Payload → Option ExceptionBody → List ℕ
end_of_line objects None = []
end_of_line objects (Some e) = syntax_end objects e

-- the class and the arguments in the last line, with what stands around them; nothing stands for what is no exception
abbrev pub said_with : List Payload → Option ExceptionBody → Option Payload → List ℕ
said_with objects error p = lines_before objects error ++ (raised objects p ++ (end_of_line objects error ++ codes "\n"))

-- the same of a SyntaxError
abbrev pub syntax_error_text : List Payload → PyBaseExceptionRef → ExceptionBody → List ℕ
syntax_error_text objects exc e = said_with objects (Some e) (payload_of objects (as_object exc))

-- the same of an object
abbrev pub said_at : List Payload → Obj → List ℕ
said_at objects v = said_with objects (syntax_error_at objects v) (payload_of objects v)

-- an exception whose traceback has these entries
abbrev pub part_text : Scene → Obj → List Obj → List ℕ
part_text scene v entries = traceback_text scene entries ++ said_at scene.objects v

-- this is what is printed of an exception
abbrev pub IsPart : Scene → Obj → List ℕ → Type 0
IsPart scene v text =
    (entries : List Obj) × HasEntries scene.objects (link_at link.Traceback scene.objects v) entries × (text ≡ part_text scene v entries)

-- this text is what is printed of an exception
abbrev pub IsPartText : Scene → PyBaseExceptionRef → Name → Type 0
IsPartText scene exc text = IsPart scene (as_object exc) (encode_utf8_all text)
