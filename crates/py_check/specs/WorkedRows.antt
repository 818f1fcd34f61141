-- Codes that were worked by hand for the instructions, and the cases of instructions, that the other worked codes leave out: what a unit
-- finds on the stack, and what it leaves there.
use Rattle.std.specs.Prelude.{ℕ, suc, List, [], ◌∷◌, ◌++◌}
use Rattle.py_code.specs.declared.flags.CodeFlags.{CodeFlags}
use Rattle.py_code.specs.declared.flags.TheConstants.CodeFlags.{IS_GENERATOR}
use Rattle.py_code.specs.declared.unit.CodeUnit.{CodeUnit}
use Rattle.py_code.specs.declared.instruction.Instruction.{Instruction}
use Rattle.py_code.specs.declared.instruction.Instruction.TheVariants.{MapAdd, ReturnValue, ReturnConst, YieldFrom, WithCleanupStart, WithCleanupFinish, EndAsyncFor, MakeFunction, ExtendedArg}
use Rattle.py_check.specs.declared.note.Kind.{Kind}
use Rattle.py_check.specs.declared.note.Kind.TheVariants.{Any, Str, Exc, Cell, Code}
use Rattle.py_check.specs.declared.note.BlockNote.{BlockNote}
use Rattle.py_check.specs.declared.note.BlockNote.TheVariants.{Loop, FinallyHandler, ExceptHandler}
use Rattle.py_check.specs.declared.note.Note.{Note}
use Rattle.py_check.specs.declared.note.Note.TheVariants.{Live}
use Rattle.py_check.specs.Sheet.{Sheet}
use Rattle.py_check.specs.Worked.{unit, holds, values, one, two, behind_the_end, stranded}

-- a unit stands between these notes, where the stack has room for six
abbrev pub between : CodeUnit → Note → Note → Sheet
between u before behind = record (stranded u before behind) { max_stackdepth = 6 }

-- an instruction with its operand finds entries of these kinds, the top first, and leaves those
abbrev pub turning : Instruction → ℕ → List Kind → List Kind → Sheet
turning op i before behind = between (unit op i) (holds before) (holds behind)

-- the same, and it leaves one entry, of this kind
abbrev pub building : Instruction → ℕ → List Kind → Kind → Sheet
building op i before built = turning op i before (built ∷ [])

-- a unit finds so many entries of any kind, and leaves so many
abbrev pub changing : CodeUnit → ℕ → ℕ → Sheet
changing u before behind = between u (holds (values before)) (holds (values behind))

-- the same, where the stack has room for two
abbrev pub crowding : CodeUnit → ℕ → ℕ → Sheet
crowding u before behind = stranded u (holds (values before)) (holds (values behind))

-- a unit finds and leaves these kinds, where the code has a cell of its own and one from outside
abbrev pub celling : CodeUnit → List Kind → List Kind → Sheet
celling u before behind = record (between u (holds before) (holds behind)) { cellvars = 1; freevars = 1 }

-- a unit finds so many entries, all of them under a loop, and leaves so many
abbrev pub looping_over : CodeUnit → ℕ → ℕ → Sheet
looping_over u before behind = between u (Live (values before) (Loop before ∷ [])) (Live (values behind) (Loop before ∷ []))

-- three entries, the top first
abbrev pub three : Kind → Kind → Kind → List Kind
three top next third = top ∷ next ∷ third ∷ []

-- two texts
abbrev pub texts : List Kind
texts = Str ∷ Str ∷ []

-- two cells
abbrev pub cells : List Kind
cells = Cell ∷ Cell ∷ []

-- an exception lies on a value
abbrev pub raised : List Kind
raised = Exc ∷ Any ∷ []

-- a unit finds so many entries and leaves so many, and a prefix in front of it carries this byte
abbrev pub extending : ℕ → CodeUnit → ℕ → ℕ → Sheet
extending byte u before behind =
    record (behind_the_end (unit ExtendedArg byte ∷ u ∷ unit ReturnConst 0 ∷ []) (holds (values before) ∷ holds (values before) ∷ holds (values behind) ∷ [])) { max_stackdepth = 6 }

-- a key and a value are put into the dict that lies so deep among these, which stay
abbrev pub putting_pair : ℕ → List Kind → Sheet
putting_pair place kinds = turning MapAdd place (Any ∷ Any ∷ kinds) kinds

-- a value is put into a container that is the second of these, which stay
abbrev pub putting_below : Instruction → List Kind → Sheet
putting_below op kinds = turning op 1 (Any ∷ kinds) kinds

-- so many entries are put into a container of this kind, which lies right under a loop and stays
abbrev pub filling : Instruction → ℕ → Kind → Sheet
filling op n container = between (unit op 0) (Live (values n ++ container ∷ []) (Loop 1 ∷ [])) (Live (container ∷ []) (Loop 1 ∷ []))

-- a function or a method is called with an argument, where names of this kind lie on top of so many entries
abbrev pub calling_by : Instruction → Kind → ℕ → Sheet
calling_by op names below = building op 1 (names ∷ values below) Any

-- a jump to unit 3 finds the first kinds, leaves the second where it goes on, and the third where it goes to
abbrev pub parting_over : Instruction → List Kind → List Kind → List Kind → Sheet
parting_over op before behind there =
    behind_the_end (unit op 3 ∷ unit ReturnConst 0 ∷ unit ReturnConst 0 ∷ []) (holds before ∷ holds behind ∷ holds there ∷ [])

-- the same of so many entries of any kind
abbrev pub parting : Instruction → ℕ → ℕ → ℕ → Sheet
parting op before behind there = parting_over op (values before) (values behind) (values there)

-- a text stays where a jump goes to, and nowhere else
abbrev pub parting_by_text : Instruction → Sheet
parting_by_text op = parting_over op (Str ∷ []) [] (Str ∷ [])

-- a jump that goes to a unit behind a prefix, with so many entries before, where it goes on, and where it goes to
abbrev pub parting_behind : Instruction → ℕ → ℕ → ℕ → Sheet
parting_behind op before behind there =
    behind_the_end (unit op 4 ∷ unit ReturnConst 0 ∷ unit ExtendedArg 0 ∷ unit ReturnConst 0 ∷ []) (holds (values before) ∷ holds (values behind) ∷ holds (values there) ∷ holds (values there) ∷ [])

-- a jump that finds a value right under a loop, which stays where it goes to, and nowhere else
abbrev pub parting_in_a_loop : Instruction → Sheet
parting_in_a_loop op =
    behind_the_end (unit op 3 ∷ unit ReturnConst 0 ∷ unit ReturnConst 0 ∷ []) (Live (values 1) (Loop 1 ∷ []) ∷ Live [] (Loop 1 ∷ []) ∷ Live (values 1) (Loop 1 ∷ []) ∷ [])

-- a function is made with these flags of these kinds, the top first
abbrev pub making_by : ℕ → List Kind → Sheet
making_by flags kinds = building MakeFunction flags kinds Any

-- the same of a name and the first code, with these parts below them
abbrev pub making_of : ℕ → List Kind → Sheet
making_of flags parts = making_by flags (Str ∷ Code 0 ∷ parts)

-- in the handler of a finally at a level, within a loop at another
abbrev pub cleaning : List Kind → ℕ → ℕ → Note
cleaning kinds level around = Live kinds (FinallyHandler level [] ∷ Loop around ∷ [])

-- an exit is called with so many entries on the stack, which is the level of its finally, within a loop at another
abbrev pub calling_exit : ℕ → ℕ → Sheet
calling_exit level around = between (unit WithCleanupStart 0) (cleaning (values level) level around) (cleaning (values (suc level)) level around)

-- an instruction leaves a block, within a loop at this level, and takes all that lies on the stack
abbrev pub leaving : Instruction → List Kind → BlockNote → ℕ → Sheet
leaving op kinds block around = between (unit op 0) (Live kinds (block ∷ Loop around ∷ [])) (Live [] (Loop around ∷ []))

-- an instruction leaves the only block, and one value stays on the stack
abbrev pub leaving_one : Instruction → List Kind → BlockNote → Sheet
leaving_one op kinds block = between (unit op 0) (Live kinds (block ∷ [])) one

-- the answer of an exit and the exit go off three values, with a finally at this level
abbrev pub ending_exit_at : ℕ → Sheet
ending_exit_at level = leaving_one WithCleanupFinish (values 3) (FinallyHandler level [])

-- an exception and an iterator go off three entries, with a handler at this level
abbrev pub ending_loop_at : ℕ → Sheet
ending_loop_at level = leaving_one EndAsyncFor (Exc ∷ values 2) (ExceptHandler level)

-- the answer of an exit, which lies right under the level of its finally, goes with the exit, within a loop at another level
abbrev pub ending_exit : ℕ → ℕ → Sheet
ending_exit level around = leaving WithCleanupFinish (values (suc level)) (FinallyHandler level []) around

-- a code with these flags goes on as another, where these kinds lie on the stack
abbrev pub delegating_in : CodeFlags → List Kind → Sheet
delegating_in flags kinds = record (building YieldFrom 0 kinds Any) { flags = flags }

-- the same of a generator
abbrev pub delegating_to : List Kind → Sheet
delegating_to kinds = delegating_in IS_GENERATOR kinds

-- a generator goes on as another, which lies right under a loop
abbrev pub delegating_under_a_loop : Sheet
delegating_under_a_loop = record (between (unit YieldFrom 0) (Live (values 2) (Loop 1 ∷ [])) (Live (values 1) (Loop 1 ∷ []))) { flags = IS_GENERATOR }

-- a generator goes on as another, right behind a unit that finds so many entries and leaves two
abbrev pub delegating_behind : CodeUnit → ℕ → Sheet
delegating_behind u before =
    record (behind_the_end (u ∷ unit YieldFrom 0 ∷ unit ReturnValue 0 ∷ []) (holds (values before) ∷ two ∷ one ∷ [])) { flags = IS_GENERATOR; max_stackdepth = 3 }

-- the same, where a prefix stands behind that unit
abbrev pub delegating_prefixed : CodeUnit → ℕ → Sheet
delegating_prefixed u before =
    record (behind_the_end (u ∷ unit ExtendedArg 0 ∷ unit YieldFrom 0 ∷ unit ReturnValue 0 ∷ []) (holds (values before) ∷ two ∷ two ∷ one ∷ [])) { flags = IS_GENERATOR; max_stackdepth = 3 }
