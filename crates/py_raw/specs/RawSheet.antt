-- Raw codes as the typing rules read them.
use Rattle.std.specs.Prelude.{◌≡◌, ℕ, ◌++◌, Option, Some, None, option_map, List, [], length, map, reverse}
use Rattle.std.specs.List.{AllZip}
use Rattle.py_code.specs.declared.flags.CodeFlags.{CodeFlags}
use Rattle.py_code.specs.declared.flags.TheConstants.CodeFlags.{NEW_LOCALS, IS_GENERATOR, IS_COROUTINE, HAS_VARARGS, HAS_VARKEYWORDS, IS_OPTIMIZED}
use Rattle.py_code.specs.declared.literal.Literal.{Literal}
use Rattle.py_code.specs.declared.unit.CodeUnit.{CodeUnit}
use Rattle.py_code.specs.Flags.{all_of}
use Rattle.py_code.specs.Literals.{Constant, none, truth, number, text, tuple, code, constant_of, in_order}
use Rattle.py_code.specs.Names.{place_of}
use Rattle.py_tree.specs.Tree.{Name}
use Rattle.py_check.specs.declared.note.Note.{Note}
use Rattle.py_check.specs.declared.note.Note.TheVariants.{Dead, Live}
use Rattle.py_check.specs.Sheet.{Sheet}
use Rattle.py_check.specs.Typing.{IsTyped}
use Rattle.py_check.specs.Breaking.{BreaksFirst}
use Rattle.py_lines.specs.declared.constant.RawAtom.{RawAtom}
use Rattle.py_lines.specs.declared.constant.RawAtom.TheVariants as atom
use Rattle.py_lines.specs.declared.constant.RawConst.{RawConst}
use Rattle.py_lines.specs.declared.constant.RawConst.TheVariants as constant
use Rattle.py_lines.specs.declared.flag.RawFlag.{RawFlag}
use Rattle.py_lines.specs.declared.flag.RawFlag.TheVariants as flag
use Rattle.py_lines.specs.declared.unit.RawNote.{RawNote}
use Rattle.py_lines.specs.declared.unit.RawNote.TheVariants as raw
use Rattle.py_grammar.specs.declared.raw_block.RawBlock.{RawBlock}
use Rattle.py_grammar.specs.declared.raw_block.RawCounts.{RawCounts}
use Rattle.py_grammar.specs.declared.raw_block.RawUnit.{RawUnit}
use Rattle.py_raw.specs.declared.earlier.Earlier.{Earlier}

-- ---- units

abbrev pub unit_of : RawUnit → CodeUnit
unit_of u = record { op = u.op; arg = u.arg }

-- the line that a unit stands in
abbrev pub line_of : RawUnit → ℕ
line_of u = u.line

-- a note: its line names the deepest entry of the stack and the outermost block first
abbrev pub note_of : RawNote → Note
note_of raw.Dead = Dead
note_of (raw.Live kinds blocks) = Live (reverse kinds) (reverse blocks)

abbrev pub note_at : RawUnit → Note
note_at u = note_of u.note

-- ---- what the header says

-- the flag that a word stands for
abbrev pub flag_of : RawFlag → CodeFlags
flag_of flag.Gen = IS_GENERATOR
flag_of flag.Coro = IS_COROUTINE
flag_of flag.VarArgs = HAS_VARARGS
flag_of flag.VarKw = HAS_VARKEYWORDS
flag_of flag.NewLocals = NEW_LOCALS
flag_of flag.Optimized = IS_OPTIMIZED

abbrev pub flags_of : List RawFlag → CodeFlags
flags_of words = all_of (map flag_of words)

-- the counts of so many parameters: where no line says them, all of them take positional arguments
abbrev pub counts_by : ℕ → Option RawCounts → RawCounts
counts_by params None = record { positional = 0; args = params; named = 0 }
counts_by params (Some counts) = counts

abbrev pub counts_of : RawBlock → RawCounts
counts_of b = counts_by (length b.params) b.counts

-- the locals: the parameters that the first line names, and after them the others
abbrev pub locals_of : RawBlock → List Name
locals_of b = b.params ++ b.vars

-- what a constant stands for that holds no others
abbrev pub plain_constant : RawAtom → Constant
plain_constant atom.None = none
plain_constant (atom.Bool b) = truth b
plain_constant (atom.Int n) = number n
plain_constant (atom.Str s) = text s

-- what a constant stands for after codes of these names: a code's number is the place of its name
abbrev pub constant_for : List Name → RawConst → Option Constant
constant_for earlier (constant.Atom a) = Some (plain_constant a)
constant_for earlier (constant.Code f) = option_map code (place_of earlier f)
constant_for earlier (constant.Tuple xs) = Some (tuple (in_order (map plain_constant xs)))

-- a literal is that of a constant
abbrev pub IsLiteralOf : List Name → RawConst → Literal → Type 0
IsLiteralOf earlier constant literal = constant_for earlier constant ≡ Some (constant_of literal)

abbrev pub AreLiteralsOf : List Name → List RawConst → List Literal → Type 0
AreLiteralsOf earlier constants literals = AllZip (IsLiteralOf earlier) constants literals

-- ---- the rules

-- what the rules read of a raw code whose constants are these
abbrev pub raw_sheet : RawBlock → List Literal → Sheet
raw_sheet b literals =
    let counts = counts_of b in
    record {
      units = map unit_of b.units;
      locations = length b.units;
      notes = map note_at b.units;
      flags = flags_of b.flags;
      posonlyarg_count = counts.positional;
      arg_count = counts.args;
      kwonlyarg_count = counts.named;
      max_stackdepth = b.depth;
      cell2arg = [];
      constants = literals;
      names = length b.names;
      varnames = length (locals_of b);
      cellvars = length b.cells;
      freevars = length b.frees;
    }

-- a raw code keeps the rules after these codes
abbrev pub KeepsRules : Earlier → RawBlock → Type 0
KeepsRules earlier b =
    (literals : List Literal) × AreLiteralsOf earlier.names b.consts literals × IsTyped earlier.shapes (raw_sheet b literals)

-- or this unit is the first that breaks one
abbrev pub BreaksRule : Earlier → RawBlock → ℕ → Type 0
BreaksRule earlier b at =
    (literals : List Literal) × AreLiteralsOf earlier.names b.consts literals × BreaksFirst earlier.shapes (raw_sheet b literals) at
