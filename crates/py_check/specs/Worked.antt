-- Codes that were worked by hand: small ones that keep the rules, and others that differ from them in one thing.
use Rattle.std.specs.Prelude.{ℕ, ℤ, List, [], ◌∷◌, length, replicate}
use Rattle.py_code.specs.declared.flags.TheConstants.CodeFlags.{NEW_LOCALS, IS_OPTIMIZED}
use Rattle.py_code.specs.Flags.{all_of}
use Rattle.py_code.specs.declared.unit.CodeUnit.{CodeUnit}
use Rattle.py_code.specs.declared.instruction.Instruction.{Instruction}
use Rattle.py_code.specs.declared.instruction.Instruction.TheVariants.{LoadConst, LoadFast, LoadGlobal, Pop, BinaryOperation, CallFunctionPositional, Jump, JumpIfFalse, SetupLoop, PopBlock, ReturnValue, ReturnConst, ExtendedArg}
use Rattle.py_code.specs.declared.literal.Literal.{Literal, None as NoneLiteral}
use Rattle.py_check.specs.declared.note.Kind.{Kind}
use Rattle.py_check.specs.declared.note.Kind.TheVariants.{Any, Str, Exc}
use Rattle.py_check.specs.declared.note.Pending.{Pending}
use Rattle.py_check.specs.declared.note.Pending.TheVariants as pending
use Rattle.py_check.specs.declared.note.BlockNote.{BlockNote}
use Rattle.py_check.specs.declared.note.BlockNote.TheVariants.{Loop, TryExcept, FinallyHandler, ExceptHandler}
use Rattle.py_check.specs.declared.note.Note.{Note}
use Rattle.py_check.specs.declared.note.Note.TheVariants.{Live}
use Rattle.py_check.specs.Sheet.{Sheet}
use Rattle.py_check.specs.Typing.{IsTyped}
use Rattle.py_check.specs.Breaking.{BreaksFirst}

-- a code of which the rules read this keeps them, where no code stands before it
abbrev pub Typed : Sheet → Type 0
Typed sheet = IsTyped [] sheet

-- it breaks them, first at a unit
abbrev pub Breaks : Sheet → ℕ → Type 0
Breaks sheet at = BreaksFirst [] sheet at

abbrev pub unit : Instruction → ℕ → CodeUnit
unit op arg = record { op = op; arg = arg }

-- a code of two parameters, the constant None and the name of a global, with a stack of two; the flags say that it makes a scope and knows its locals by place
abbrev pub sheet : List CodeUnit → List Note → Sheet
sheet units notes =
    record {
      units = units;
      locations = length units;
      notes = notes;
      flags = all_of (NEW_LOCALS ∷ IS_OPTIMIZED ∷ []);
      posonlyarg_count = 0;
      arg_count = 2;
      kwonlyarg_count = 0;
      max_stackdepth = 2;
      cell2arg = [];
      constants = NoneLiteral ∷ [];
      names = 1;
      varnames = 2;
      cellvars = 0;
      freevars = 0;
    }

-- a note without blocks
abbrev pub holds : List Kind → Note
holds kinds = Live kinds []

-- so many entries of which nothing is known
abbrev pub values : ℕ → List Kind
values n = replicate n Any

-- a note without blocks, of so many of these or of a text
abbrev pub nothing : Note
nothing = holds (values 0)

abbrev pub one : Note
one = holds (values 1)

abbrev pub two : Note
two = holds (values 2)

abbrev pub one_text : Note
one_text = holds (Str ∷ [])

-- a unit takes the two parameters, and what it gives is returned
abbrev pub on_both : Instruction → ℕ → Sheet
on_both op arg = sheet (unit LoadFast 0 ∷ unit LoadFast 1 ∷ unit op arg ∷ unit ReturnValue 0 ∷ []) (nothing ∷ one ∷ two ∷ one ∷ [])

-- their sum is returned
abbrev pub sum : Sheet
sum = on_both BinaryOperation 6

-- the same, with two cells that take over these parameters, or none
abbrev pub with_cells : List ℤ → Sheet
with_cells cells = record sum { cellvars = 2; cell2arg = cells }

-- a unit after the load of the first parameter, and the note after the unit, whose value is returned
abbrev pub on_first : CodeUnit → Note → Sheet
on_first u behind = sheet (unit LoadFast 0 ∷ u ∷ unit ReturnValue 0 ∷ []) (nothing ∷ one ∷ behind ∷ [])

-- a unit ends the code after the load of the first parameter
abbrev pub ending : CodeUnit → Sheet
ending u = sheet (unit LoadFast 0 ∷ u ∷ []) (nothing ∷ one ∷ [])

-- a unit is the first, and what it pushes is returned
abbrev pub returning : CodeUnit → Sheet
returning u = sheet (u ∷ unit ReturnValue 0 ∷ []) (nothing ∷ one ∷ [])

-- a unit is the first, and None is returned
abbrev pub beginning : CodeUnit → Sheet
beginning u = sheet (u ∷ unit ReturnConst 0 ∷ []) (nothing ∷ nothing ∷ [])

-- a global is called with the two parameters in order, where the operand is 2, and what it answers is returned
abbrev pub calling : ℕ → Sheet
calling count =
    record (sheet (unit LoadGlobal 0 ∷ unit LoadFast 0 ∷ unit LoadFast 1 ∷ unit CallFunctionPositional count ∷ unit ReturnValue 0 ∷ []) (nothing ∷ one ∷ two ∷ holds (Any ∷ Any ∷ Any ∷ []) ∷ one ∷ [])) { max_stackdepth = 3 }

-- a code with a prefix before it, which carries this byte
abbrev pub prefixed : ℕ → Sheet → Sheet
prefixed byte s = sheet (unit ExtendedArg byte ∷ s.units) (nothing ∷ s.notes)

-- a constant is loaded and returned, and the note after the load says this
abbrev pub loaded : Literal → Kind → Sheet
loaded literal kind = record (sheet (unit LoadConst 0 ∷ unit ReturnValue 0 ∷ []) (nothing ∷ holds (kind ∷ []) ∷ [])) { constants = literal ∷ [] }

-- the same, where None is loaded and dropped before
abbrev pub loaded_later : Literal → Kind → Sheet
loaded_later literal kind =
    record (sheet (unit LoadConst 0 ∷ unit Pop 0 ∷ unit LoadConst 1 ∷ unit ReturnValue 0 ∷ []) (nothing ∷ one ∷ nothing ∷ holds (kind ∷ []) ∷ [])) { constants = NoneLiteral ∷ literal ∷ [] }

-- None is returned at once, and other units stand after that, where control never gets
abbrev pub behind_the_end : List CodeUnit → List Note → Sheet
behind_the_end units notes = sheet (unit ReturnConst 0 ∷ units) (nothing ∷ notes)

-- a unit and a return of None there, with these notes
abbrev pub stranded : CodeUnit → Note → Note → Sheet
stranded u before behind = behind_the_end (u ∷ unit ReturnConst 0 ∷ []) (before ∷ behind ∷ [])

-- two returns of None there, with a note of these kinds and this block, and with another note
abbrev pub guarded : List Kind → BlockNote → Note → Sheet
guarded kinds block handler = stranded (unit ReturnConst 0) (Live kinds (block ∷ [])) handler

-- where an exception is handled, and where it was
abbrev pub handles : Note
handles = Live (Exc ∷ []) (ExceptHandler 0 ∷ [])

abbrev pub handled : Note
handled = Live [] (ExceptHandler 0 ∷ [])

-- the same over a text, and the kinds before it
abbrev pub handles_above : Note
handles_above = Live (Exc ∷ Str ∷ []) (ExceptHandler 1 ∷ [])

abbrev pub above_text : List Kind
above_text = Any ∷ Str ∷ []

-- in the handler of a finally, while which these jumps may wait
abbrev pub finishes : List Kind → List Pending → Note
finishes kinds waiting = Live kinds (FinallyHandler 0 waiting ∷ [])

-- a try there whose handler is at this unit, 2 or the prefix's at 3
abbrev pub guarded_prefix : ℕ → Sheet
guarded_prefix handler = behind_the_end (unit ReturnConst 0 ∷ unit ExtendedArg 0 ∷ unit ReturnConst 0 ∷ []) (Live [] (TryExcept 0 handler ∷ []) ∷ handles ∷ handles ∷ [])

-- so many values, with a loop over the lowest
abbrev pub loop_above : ℕ → Note
loop_above n = Live (values n) (Loop 1 ∷ [])

-- a loop within another, whose level is greater
abbrev pub falling_levels : Sheet
falling_levels = behind_the_end (unit ReturnConst 0 ∷ []) (Live (values 1) (Loop 0 ∷ Loop 1 ∷ []) ∷ [])

-- a value is loaded in the handler of a finally, while which a break may wait before, and these jumps after
abbrev pub waiting_on : List Pending → Sheet
waiting_on jumps = behind_the_end (unit LoadFast 0 ∷ unit ReturnValue 0 ∷ []) (finishes [] (pending.Break 1 ∷ []) ∷ finishes (values 1) jumps ∷ [])

-- the units of a loop that goes on while the first parameter is true, with the label after it
abbrev pub loop_units : ℕ → List CodeUnit
loop_units behind = unit SetupLoop 0 ∷ unit LoadFast 0 ∷ unit JumpIfFalse behind ∷ unit Jump 1 ∷ unit PopBlock 0 ∷ unit ReturnConst 0 ∷ []

-- a loop is open
abbrev pub in_loop : Note
in_loop = Live [] (Loop 0 ∷ [])

-- its notes, with the one where its test has held
abbrev pub loop_notes : Note → List Note
loop_notes holds = nothing ∷ in_loop ∷ Live (values 1) (Loop 0 ∷ []) ∷ holds ∷ in_loop ∷ nothing ∷ []

-- notes of such a code by which no loop is open
abbrev pub no_loop_notes : List Note
no_loop_notes = nothing ∷ nothing ∷ one ∷ nothing ∷ nothing ∷ nothing ∷ []

abbrev pub looping : Sheet
looping = sheet (loop_units 4) (loop_notes in_loop)

-- a loop is opened over a value, at this level
abbrev pub opening : ℕ → Sheet
opening level = sheet (unit LoadFast 0 ∷ unit SetupLoop 0 ∷ unit ReturnConst 0 ∷ []) (nothing ∷ one ∷ Live (values 1) (Loop level ∷ []) ∷ [])

-- a value that is loaded in a loop goes with the loop, and the one under the loop is returned
abbrev pub cutting : Sheet
cutting =
    sheet (unit LoadFast 0 ∷ unit SetupLoop 0 ∷ unit LoadFast 1 ∷ unit PopBlock 0 ∷ unit ReturnValue 0 ∷ []) (nothing ∷ one ∷ loop_above 1 ∷ loop_above 2 ∷ one ∷ [])
