-- Codes that were worked by hand, as a host might write them.
use Rattle.std.specs.Prelude.{ℕ, List, [], ◌∷◌}
use Rattle.py_code.specs.declared.flags.TheConstants.CodeFlags.{IS_COROUTINE}
use Rattle.py_code.specs.Flags.{all_of}
use Rattle.py_code.specs.declared.unit.CodeUnit.{CodeUnit}
use Rattle.py_code.specs.declared.instruction.Instruction.TheVariants as op
use Rattle.py_check.specs.declared.note.Kind.TheVariants.{Any, Exc, Tuple}
use Rattle.py_check.specs.declared.note.BlockNote.{BlockNote}
use Rattle.py_check.specs.declared.note.BlockNote.TheVariants.{Loop, TryExcept, Finally, FinallyHandler, ExceptHandler}
use Rattle.py_check.specs.declared.note.Kind.{Kind}
use Rattle.py_check.specs.declared.note.Note.{Note}
use Rattle.py_check.specs.declared.note.Note.TheVariants.{Live}
use Rattle.py_check.specs.Sheet.{Sheet}
use Rattle.py_check.specs.Worked.{unit, sheet}

-- a code without parameters and names, with a stack of this depth
abbrev pub plain : ℕ → List CodeUnit → List Note → Sheet
plain depth units notes = record (sheet units notes) { flags = all_of []; arg_count = 0; varnames = 0; names = 0; max_stackdepth = depth }

-- one entry of which nothing is known
abbrev pub any1 : List Kind
any1 = Any ∷ []

-- two such entries
abbrev pub any2 : List Kind
any2 = Any ∷ Any ∷ []

-- three such entries
abbrev pub any3 : List Kind
any3 = Any ∷ Any ∷ Any ∷ []

-- a jump into its own prefixes
abbrev pub into_prefixes : Sheet
into_prefixes = plain 1 (unit op.ExtendedArg 0 ∷ unit op.Jump 1 ∷ unit op.ReturnConst 0 ∷ []) (Live [] [] ∷ Live [] [] ∷ Live [] [] ∷ [])

-- None is returned, by a note that says that it is a tuple
abbrev pub none_as_tuple : Sheet
none_as_tuple = plain 1 (unit op.LoadConst 0 ∷ unit op.ReturnValue 0 ∷ []) (Live [] [] ∷ Live (Tuple ∷ []) [] ∷ [])

-- a unit with an empty note, then a return of None with this note, where the stack has room for so many
abbrev pub before_return : ℕ → CodeUnit → Note → Sheet
before_return depth u behind = plain depth (u ∷ unit op.ReturnConst 0 ∷ []) (Live [] [] ∷ behind ∷ [])

-- a prefix alone
abbrev pub prefix_alone : Sheet
prefix_alone = plain 0 (unit op.ExtendedArg 0 ∷ []) (Live [] [] ∷ [])

-- a value is yielded where no code is a generator's
abbrev pub yielding_in_none : Sheet
yielding_in_none = plain 1 (unit op.LoadConst 0 ∷ unit op.YieldValue 0 ∷ unit op.ReturnValue 0 ∷ []) (Live [] [] ∷ Live any1 [] ∷ Live any1 [] ∷ [])

-- the units of rows, each of which is a unit and the note before it
abbrev pub units_of : List (CodeUnit × Note) → List CodeUnit
units_of [] = []
units_of (row ∷ rows) = row.0 ∷ units_of rows

-- the notes of rows
abbrev pub notes_of : List (CodeUnit × Note) → List Note
notes_of [] = []
notes_of (row ∷ rows) = row.1 ∷ notes_of rows

-- a coroutine with a local and the names of two globals, by its rows
abbrev pub coroutine : List (CodeUnit × Note) → Sheet
coroutine rows =
    record (sheet (units_of rows) (notes_of rows)) { flags = IS_COROUTINE; arg_count = 0; varnames = 1; names = 2; max_stackdepth = 3 }

-- a manager that is entered and left asynchronously
abbrev pub managing_async : Sheet
managing_async =
    let in_body : List BlockNote = Finally 1 10 ∷ [] in
    let in_exit : List BlockNote = FinallyHandler 1 [] ∷ [] in
    coroutine (
    (unit op.LoadGlobal 0, Live [] []) ∷
    (unit op.CallFunctionPositional 0, Live any1 []) ∷
    (unit op.BeforeAsyncWith 0, Live any1 []) ∷
    (unit op.GetAwaitable 0, Live any2 []) ∷
    (unit op.LoadConst 0, Live any2 []) ∷
    (unit op.YieldFrom 0, Live any3 []) ∷
    (unit op.SetupAsyncWith 10, Live any2 []) ∷
    (unit op.StoreFast 0, Live any2 in_body) ∷
    (unit op.LoadGlobal 1, Live any1 in_body) ∷
    (unit op.Raise 1, Live any2 in_body) ∷
    (unit op.WithCleanupStart 0, Live any1 in_exit) ∷
    (unit op.GetAwaitable 0, Live any2 in_exit) ∷
    (unit op.LoadConst 0, Live any2 in_exit) ∷
    (unit op.YieldFrom 0, Live any3 in_exit) ∷
    (unit op.WithCleanupFinish 0, Live any2 in_exit) ∷
    (unit op.LoadFast 0, Live [] []) ∷
    (unit op.ReturnValue 0, Live any1 []) ∷
    [])

-- an asynchronous loop; this unit ends it
abbrev pub looping_async : CodeUnit → Sheet
looping_async ends =
    let in_loop : List BlockNote = Loop 0 ∷ [] in
    let in_try : List BlockNote = TryExcept 1 13 ∷ Loop 0 ∷ [] in
    coroutine (
    (unit op.SetupLoop 0, Live [] []) ∷
    (unit op.LoadGlobal 0, Live [] in_loop) ∷
    (unit op.CallFunctionPositional 0, Live any1 in_loop) ∷
    (unit op.GetAIter 0, Live any1 in_loop) ∷
    (unit op.SetupExcept 13, Live any1 in_loop) ∷
    (unit op.GetANext 0, Live any1 in_try) ∷
    (unit op.LoadConst 0, Live any2 in_try) ∷
    (unit op.YieldFrom 0, Live any3 in_try) ∷
    (unit op.StoreFast 0, Live any2 in_try) ∷
    (unit op.PopBlock 0, Live any1 in_try) ∷
    (unit op.LoadFast 0, Live any1 in_loop) ∷
    (unit op.PrintExpr 0, Live any2 in_loop) ∷
    (unit op.Jump 4, Live any1 in_loop) ∷
    (ends, Live (Exc ∷ Any ∷ []) (ExceptHandler 1 ∷ Loop 0 ∷ [])) ∷
    (unit op.PopBlock 0, Live [] in_loop) ∷
    (unit op.ReturnConst 0, Live [] []) ∷
    [])
