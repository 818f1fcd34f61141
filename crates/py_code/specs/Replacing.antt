-- A code in which some parts are replaced.
use Rattle.std.specs.Prelude.{◌≡◌, ℕ, Bool, true, List, ◌&&◌, ◌==◌, if◌then◌else◌, Option, Some, None, [], ◌∷◌, ◌++◌, map, slice_get, unwrap_or, encode_utf8_all}
use Rattle.std.specs.List.{list_all}
use Rattle.py_code.specs.declared.code.CodeObject.{CodeObject}
use Rattle.py_code.specs.declared.flags.CodeFlags.{CodeFlags}
use Rattle.py_code.specs.declared.literal.Literal.{Literal, Str as StrLiteral}
use Rattle.py_code.specs.declared.literal.LiteralList.{LiteralList}
use Rattle.py_code.specs.declared.names.NameId.{NameId}
use Rattle.py_code.specs.declared.replace.ReplaceArgs.{ReplaceArgs}
use Rattle.py_code.specs.Flags.{known_flags}
use Rattle.py_code.specs.Literals.{AreSame, is_text, literals_of}

-- whether these constants, where some are given, are texts
abbrev pub are_texts : Option LiteralList → Bool
are_texts None = true
are_texts (Some list) = list_all is_text (literals_of list)

-- whether each name that is given is a text
abbrev pub names_are_texts : ReplaceArgs → Bool
names_are_texts args = are_texts args.co_names && are_texts args.co_varnames

-- nothing is given
abbrev pub nothing_given : ReplaceArgs
nothing_given =
    record {
      co_posonlyargcount = None;
      co_argcount = None;
      co_kwonlyargcount = None;
      co_flags = None;
      co_firstlineno = None;
      co_filename = None;
      co_name = None;
      co_names = None;
      co_varnames = None;
      co_consts = None;
    }

-- the text that is given, in UTF-8
abbrev pub text_given : Option (List ℕ) → List (List ℕ)
text_given None = []
text_given (Some text) = encode_utf8_all text ∷ []

-- the bytes of a constant that is a text
abbrev pub text_bytes : Literal → List ℕ
text_bytes (StrLiteral s) = encode_utf8_all s
text_bytes _ = []

-- the bytes of constants that are texts, in order
abbrev pub texts_of : LiteralList → List (List ℕ)
texts_of list = map text_bytes (literals_of list)

-- those that are given
abbrev pub texts_given : Option LiteralList → List (List ℕ)
texts_given None = []
texts_given (Some list) = texts_of list

-- all texts that are to be names: those of the file, of the code, of the names and of the locals
abbrev pub names_given : ReplaceArgs → List (List ℕ)
names_given args = text_given args.co_filename ++ text_given args.co_name ++ texts_given args.co_names ++ texts_given args.co_varnames

-- the table has these texts at the places of the names, in order
abbrev pub AreNames : List (List ℕ) → List NameId → List (List ℕ) → Type 0
AreNames table ids texts = map (λ id. slice_get table id.index) ids ≡ map Some texts

-- the flags: those of the number that is given
abbrev pub flags_or : Option ℕ → CodeFlags → CodeFlags
flags_or None own = own
flags_or (Some bits) own = known_flags bits

-- the first line: the one that is given, of which 0 is none
abbrev pub line_or : Option ℕ → Option ℕ → Option ℕ
line_or None own = own
line_or (Some line) own = if line == 0 then None else Some line

-- a name: that of the text that is given, which the table then has at its place
abbrev pub IsNameOr : List (List ℕ) → Option (List ℕ) → NameId → NameId → Type 0
IsNameOr table None own id = id ≡ own
IsNameOr table (Some text) own id = slice_get table id.index ≡ Some (encode_utf8_all text)

-- names: those of the texts that are given, in order
abbrev pub AreNamesOr : List (List ℕ) → Option LiteralList → List NameId → List NameId → Type 0
AreNamesOr table None own ids = ids ≡ own
AreNamesOr table (Some list) own ids = AreNames table ids (texts_of list)

-- each part is the one that is given, or else the code's own; names are places in this table
pub record IsReplaced (table : List (List ℕ)) (own : CodeObject) (args : ReplaceArgs) (made : CodeObject) : Type 0 where
  pub posonlyarg_count : made.posonlyarg_count ≡ unwrap_or args.co_posonlyargcount own.posonlyarg_count
  pub arg_count : made.arg_count ≡ unwrap_or args.co_argcount own.arg_count
  pub kwonlyarg_count : made.kwonlyarg_count ≡ unwrap_or args.co_kwonlyargcount own.kwonlyarg_count
  pub flags : made.flags ≡ flags_or args.co_flags own.flags
  pub first_line_number : made.first_line_number ≡ line_or args.co_firstlineno own.first_line_number
  pub source_path : IsNameOr table args.co_filename own.source_path made.source_path
  pub obj_name : IsNameOr table args.co_name own.obj_name made.obj_name
  pub names : AreNamesOr table args.co_names own.names.items made.names.items
  pub varnames : AreNamesOr table args.co_varnames own.varnames.items made.varnames.items
  pub constants : AreSame made.constants (unwrap_or args.co_consts own.constants)
  pub instructions : made.instructions.items ≡ own.instructions.items
  pub locations : made.locations.items ≡ own.locations.items
  pub max_stackdepth : made.max_stackdepth ≡ own.max_stackdepth
  pub cell2arg : made.cell2arg.items ≡ own.cell2arg.items
  pub cellvars : made.cellvars.items ≡ own.cellvars.items
  pub freevars : made.freevars.items ≡ own.freevars.items
