-- Codes that were worked by hand, of instructions that don't run yet: cells, containers, names, new functions, iterators and delegates.
use Rattle.std.specs.Prelude.{ℕ, List, [], ◌∷◌}
use Rattle.py_code.specs.declared.flags.TheConstants.CodeFlags.{NEW_LOCALS, IS_OPTIMIZED, IS_GENERATOR}
use Rattle.py_code.specs.Flags.{all_of}
use Rattle.py_code.specs.declared.unit.CodeUnit.{CodeUnit}
use Rattle.py_code.specs.declared.instruction.Instruction.TheVariants as op
use Rattle.py_code.specs.declared.literal.Literal.{None as NoneLiteral, Str as StrLiteral}
use Rattle.py_check.specs.declared.note.Kind.{Kind}
use Rattle.py_check.specs.declared.note.Kind.TheVariants.{Any, Str, Code}
use Rattle.py_check.specs.declared.note.Note.{Note}
use Rattle.py_check.specs.Sheet.{Sheet}
use Rattle.py_check.specs.Worked.{unit, sheet, holds, nothing, one, two, returning, stranded}

-- a unit is the first, and what it pushes is returned, where the code has a cell of its own and one from outside
abbrev pub with_a_cell : CodeUnit → Sheet
with_a_cell u = record (returning u) { cellvars = 1; freevars = 1 }

-- a parameter is put into an empty container, which is of this kind, and that is returned
abbrev pub putting : CodeUnit → CodeUnit → Kind → Sheet
putting builds puts container =
    sheet (builds ∷ unit op.LoadFast 0 ∷ puts ∷ unit op.ReturnValue 0 ∷ []) (nothing ∷ holds (container ∷ []) ∷ holds (Any ∷ container ∷ []) ∷ holds (container ∷ []) ∷ [])

-- a text and what this unit pushes, which is of this kind, are joined
abbrev pub joining : CodeUnit → Kind → Sheet
joining loads k =
    record (sheet (unit op.LoadConst 1 ∷ loads ∷ unit op.BuildString 2 ∷ unit op.ReturnValue 0 ∷ []) (nothing ∷ holds (Str ∷ []) ∷ holds (k ∷ Str ∷ []) ∷ holds (Str ∷ []) ∷ []))
    { constants = NoneLiteral ∷ StrLiteral [] ∷ [] }

-- a unit takes these entries, and leaves one
abbrev pub taking : CodeUnit → List Kind → Sheet
taking u kinds = record (stranded u (holds kinds) one) { max_stackdepth = 3 }

-- a function is called with an argument that has a name, where this lies on top
abbrev pub calling_by_name : Kind → Sheet
calling_by_name names = taking (unit op.CallFunctionKeyword 1) (names ∷ Any ∷ Any ∷ [])

-- a function is made of the first code, with these flags and these parts below it
abbrev pub making : ℕ → List Kind → Sheet
making flags parts = taking (unit op.MakeFunction flags) (Str ∷ Code 0 ∷ parts)

-- what an iterator gives is dropped until it ends, where this lies on the stack after its end
abbrev pub iterating : Note → Sheet
iterating behind =
    sheet (unit op.LoadFast 0 ∷ unit op.ForIter 4 ∷ unit op.Pop 0 ∷ unit op.Jump 1 ∷ unit op.ReturnConst 0 ∷ []) (nothing ∷ one ∷ two ∷ one ∷ behind ∷ [])

-- a generator that goes on as another, after this unit, which pushes what that is sent first
abbrev pub delegating : CodeUnit → Sheet
delegating before =
    record (sheet (unit op.LoadFast 0 ∷ unit op.LoadFast 1 ∷ before ∷ unit op.YieldFrom 0 ∷ unit op.ReturnValue 0 ∷ []) (nothing ∷ one ∷ two ∷ two ∷ one ∷ [])) { flags = all_of (NEW_LOCALS ∷ IS_OPTIMIZED ∷ IS_GENERATOR ∷ []) }
