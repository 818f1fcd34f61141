-- The text of a code.
use Rattle.std.specs.Prelude.{ℕ, List, [], ◌++◌, Option, Some, None, chars, codes, decimal, get_or}
use Rattle.py_code.specs.declared.code.PyCode.{PyCode}
use Rattle.py_code.specs.declared.names.NameId.{NameId}

-- the characters of a name; the table has its text
abbrev pub characters_of : List (List ℕ) → NameId → List ℕ
characters_of table id = chars (get_or table id.index [])

-- a line, -1 where there is none
abbrev pub line_text : Option ℕ → List ℕ
line_text None = codes "-1"
line_text (Some line) = decimal line

-- the repr of a code that has this number
abbrev pub code_repr : List (List ℕ) → PyCode → ℕ → List ℕ
code_repr table code number =
    codes "<code object " ++ characters_of table code.code.obj_name ++ codes " at " ++ decimal number
    ++ codes " file \"" ++ characters_of table code.code.source_path ++ codes "\", line " ++ line_text code.code.first_line_number ++ codes ">"
