-- The code that a raw code is.
use Rattle.std.specs.Prelude.{◌≡◌, ℕ, Some, List, codes, map}
use Rattle.py_code.specs.declared.literal.Literal.{Literal}
use Rattle.py_tree.specs.Tree.{Name}
use Rattle.py_check.specs.declared.annotated.Annotated.{Annotated}
use Rattle.py_check.specs.Sheet.{sheet_of}
use Rattle.py_laid.specs.Naming.{IsNameOf, IsNameFor, NamesAll}
use Rattle.py_grammar.specs.declared.raw_block.RawBlock.{RawBlock}
use Rattle.py_raw.specs.RawSheet.{AreLiteralsOf, line_of, locals_of, raw_sheet}

-- where codes of scripts come from
abbrev pub script_path : List ℕ
script_path = codes "<script>"

-- a code with its notes is a raw code as it was written, after codes of these names: what the rules read of the one is what they read of
-- the other, each unit has the line that it stands in, the code has the line of its header, and the names, in this table, are those
-- that were written
pub record IsAssembled (table : List (List ℕ)) (earlier : List Name) (a : Annotated) (b : RawBlock) : Type 0 where
  pub literals : List Literal
  pub are_literals : AreLiteralsOf earlier b.consts literals
  pub sheet : sheet_of a ≡ raw_sheet b literals
  pub locations : a.code.code.locations.items ≡ map line_of b.units
  pub first_line_number : a.code.code.first_line_number ≡ Some b.line
  pub source_path : IsNameOf table a.code.code.source_path script_path
  pub obj_name : IsNameFor table a.code.code.obj_name b.name
  pub names : NamesAll table a.code.code.names.items b.names
  pub varnames : NamesAll table a.code.code.varnames.items (locals_of b)
  pub cellvars : NamesAll table a.code.code.cellvars.items b.cells
  pub freevars : NamesAll table a.code.code.freevars.items b.frees
