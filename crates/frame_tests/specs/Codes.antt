-- Codes as tables.
use Rattle.std.specs.Prelude.{◌≡◌, Option, Some, None, List, [], ◌∷◌, Bool, ◌&&◌, map, length, replicate}
use Rattle.py_code.specs.declared.flags.TheConstants.CodeFlags.{NEW_LOCALS, IS_GENERATOR, IS_OPTIMIZED}
use Rattle.py_code.specs.Flags.{all_of}
use Rattle.py_code.specs.declared.unit.CodeUnit.{CodeUnit}
use Rattle.py_code.specs.declared.literal.Literal.{Literal, None as NoneLiteral, Builtin}
use Rattle.py_code.specs.declared.literal.BuiltinFn.TheVariants.{Send, Throw, Close}
use Rattle.py_check.specs.declared.note.BlockNote.{BlockNote}
use Rattle.py_check.specs.declared.note.BlockNote.TheVariants as block
use Rattle.py_check.specs.declared.note.Note.{Note}
use Rattle.py_check.specs.declared.note.Note.TheVariants.{Live}
use Rattle.py_check.specs.declared.note.Pending.{Pending}
use Rattle.py_check.specs.declared.annotated.Annotated.{Annotated}
use Rattle.py_check.specs.WholeCode.{keeps_whole}
use Rattle.py_check.specs.Sheet.{Sheet, sheet_of}
use Rattle.py_check.specs.Typing.{keeps_at}
use Rattle.py_check.specs.Running.{runs_at}
use Rattle.py_check.proofs.WorkedLemmas.{all_below}
use Rattle.frame_tests.specs.declared.tables.Open.{Open}
use Rattle.frame_tests.specs.declared.tables.Open.TheVariants.{Loop, TryExcept, Finally, FinallyHandler, ExceptHandler}
use Rattle.frame_tests.specs.declared.tables.Row.{Row}

-- the jumps that may wait
abbrev pub waiting_of : Option Pending → List Pending
waiting_of None = []
waiting_of (Some p) = p ∷ []

abbrev pub block_of : Open → BlockNote
block_of (Loop level) = block.Loop level
block_of (TryExcept level handler) = block.TryExcept level handler
block_of (Finally level handler) = block.Finally level handler
block_of (FinallyHandler level jump) = block.FinallyHandler level (waiting_of jump)
block_of (ExceptHandler level) = block.ExceptHandler level

abbrev pub unit_of : Row → CodeUnit
unit_of row = record { op = row.0; arg = row.1 }

abbrev pub note_of : Row → Note
note_of row = Live row.2.now (map block_of row.3.now)

-- None and the functions that drive generators
abbrev pub table_constants : List Literal
table_constants = NoneLiteral ∷ Builtin Send ∷ Builtin Throw ∷ Builtin Close ∷ []

-- what the rules read of a table's code: a generator's, of two parameters and one more local, with None and the functions that drive
-- generators as constants, and with the name of a global
abbrev pub sheet : List Row → Sheet
sheet rows =
    record {
      units = map unit_of rows;
      locations = length rows;
      notes = map note_of rows;
      flags = all_of (NEW_LOCALS ∷ IS_OPTIMIZED ∷ IS_GENERATOR ∷ []);
      posonlyarg_count = 0;
      arg_count = 2;
      kwonlyarg_count = 0;
      max_stackdepth = 5;
      cell2arg = [];
      constants = table_constants;
      names = 1;
      varnames = 3;
      cellvars = 0;
      freevars = 0;
    }

-- a code is a table's: each name is the first of the table of names, and there is nothing of bodies around
pub record IsCodeOf (rows : List Row) (code : Annotated) : Type 0 where
  pub read : sheet_of code ≡ sheet rows
  pub names : code.code.code.names.items ≡ record { index = 0 } ∷ []
  pub varnames : code.code.code.varnames.items ≡ replicate 3 (record { index = 0 })
  pub freevars : code.code.code.freevars.items ≡ []

-- whether the notes of a table keep the rules, and all of its units run so far
abbrev pub keeps_rules : List Row → Bool
keeps_rules rows = keeps_whole [] (sheet rows) && all_below (keeps_at [] (sheet rows)) (length (sheet rows).units) && all_below (runs_at (sheet rows)) (length (sheet rows).units)
