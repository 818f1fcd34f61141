-- What is printed of a SyntaxError before its last line, and at the end of that (Python Library Reference, Built-in Exceptions).
use Rattle.std.specs.Prelude.{ℕ, ◌==◌, ℤ, pos, Option, Some, None, List, [], ◌∷◌, ◌++◌, ◌-◌, Bool, if◌then◌else◌, map, take, length, replicate, max, chars, codes, encode_utf8_all}
use Rattle.std.specs.Char.{is_whitespace}
use Rattle.py_objects.specs.declared.payload.Payload.{Payload}
use Rattle.py_objects.specs.declared.payload.ExceptionBody.{ExceptionBody}
use Rattle.py_objects.specs.declared.error_kind.ErrorKind.TheVariants.{SyntaxError}
use Rattle.py_objects.specs.Ancestry.{derives_from}
use Rattle.py_objects.specs.ErrorKinds.{name_of}
use Rattle.py_objects.specs.Objects.{Obj, Name, class_object}
use Rattle.py_objects.specs.Values.{number_of}
use Rattle.py_exceptions.specs.Repr.{payload_of}
use Rattle.py_exceptions.specs.Said.{attribute}
use Rattle.py_exceptions.specs.Texts.{str}
use Rattle.py_reports.specs.Entries.{file_line}
use Rattle.py_reports.specs.Lines.{without_ends, without_front}

-- ---- its attributes

-- an object as a text, where there is one
abbrev pub str_if : List Payload → Option Obj → Option (List ℕ)
str_if objects None = None
str_if objects (Some v) = Some (str objects v)

-- an attribute as a text, where the exception has it
abbrev pub attribute_text : List Payload → ExceptionBody → Name → Option (List ℕ)
attribute_text objects e name = str_if objects (attribute objects e name)

-- a number from 1 on; 0 stands for any other, and for what is no number
abbrev pub column_by : Option ℤ → ℕ
column_by (Some (pos n)) = n
column_by _ = 0

-- the same of an object with this payload
abbrev pub column_in : Option Payload → ℕ
column_in None = 0
column_in (Some p) = column_by (number_of p)

-- the same of an object, where there is one
abbrev pub column_at : List Payload → Option Obj → ℕ
column_at objects None = 0
column_at objects (Some v) = column_in (payload_of objects v)

-- ---- where it was found

-- its file and its line, where they are known
pub record Found : Type 0 where
  pub path : Option (List ℕ)
  pub line : Option (List ℕ)

-- where an exception says that it was found
abbrev pub found_of : List Payload → ExceptionBody → Found
found_of objects e = record { path = attribute_text objects e (codes "filename"); line = attribute_text objects e (codes "lineno") }

-- a path, and what stands for one that is not known
abbrev pub path_or_string : Option (List ℕ) → List ℕ
path_or_string None = codes "<string>"
path_or_string (Some path) = path

-- the line for a file and a line in it, where that is known
abbrev pub line_in : List ℕ → Option (List ℕ) → List ℕ
line_in path None = []
line_in path (Some line) = file_line path line ++ codes "\n"

-- the line that says where it was found
abbrev pub found_line : Found → List ℕ
found_line found = line_in (path_or_string found.path) found.line

-- the file alone, where the line isn't known
abbrev pub file_without : Option (List ℕ) → Option (List ℕ) → List ℕ
file_without None line = []
file_without (Some path) (Some line) = []
file_without (Some path) None = codes " (" ++ (path ++ codes ")")

-- what is said of it at the end of the last line
abbrev pub found_end : Found → List ℕ
found_end found = file_without found.path found.line

-- ---- its text

-- what stands before the carets, below a character: white space as it is, and a space for all else
abbrev pub blank : ℕ → ℕ
blank c = if is_whitespace c then c else 32

-- so many carets, below what comes after these characters
abbrev pub carets_after : Name → ℕ → List ℕ
carets_after line count = codes "    " ++ (encode_utf8_all (map blank line) ++ (replicate count 94 ++ codes "\n"))

-- so many carets at a column of a line, from 1; none where the column is before the line
abbrev pub caret_line : Name → ℕ → ℕ → List ℕ
caret_line line column count = if column == 0 then [] else carets_after (take (column - 1) line) count

-- a line, whose front was left out, with carets from a column of the whole line to an end
abbrev pub shown_line : Name → Name → ℕ → ℕ → List ℕ
shown_line whole line column end =
    codes "    " ++ (encode_utf8_all line ++ (codes "\n" ++ caret_line line (column - (length whole - length line)) (max 1 (end - column))))

-- a text without line feeds at its end, and then without spaces, line feeds and form feeds at its front
abbrev pub trimmed_line : Name → ℕ → ℕ → List ℕ
trimmed_line whole column end = shown_line whole (without_front (12 ∷ codes " \n") whole) column end

-- the line of a text, where there is one, with carets from a column to an end
abbrev pub text_lines : Option (List ℕ) → ℕ → ℕ → List ℕ
text_lines None column end = []
text_lines (Some text) column end = trimmed_line (without_ends (chars text)) column end

-- ---- all of it

-- whether an exception is a SyntaxError
abbrev pub is_syntax_error : List Payload → ExceptionBody → Bool
is_syntax_error objects e = derives_from objects (class_object e.class) (name_of SyntaxError)

-- an attribute as a column
abbrev pub column_of : List Payload → ExceptionBody → Name → ℕ
column_of objects e name = column_at objects (attribute objects e name)

-- the lines of its text
abbrev pub shown_text : List Payload → ExceptionBody → List ℕ
shown_text objects e =
    text_lines (attribute_text objects e (codes "text")) (column_of objects e (codes "offset")) (column_of objects e (codes "end_offset"))

-- what stands before its last line
abbrev pub syntax_lines : List Payload → ExceptionBody → List ℕ
syntax_lines objects e = found_line (found_of objects e) ++ shown_text objects e

-- what ends its last line
abbrev pub syntax_end : List Payload → ExceptionBody → List ℕ
syntax_end objects e = found_end (found_of objects e)
