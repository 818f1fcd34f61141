-- The rules that notes keep, unit by unit, and codes whose notes keep them.
use Rattle.std.specs.Prelude.{◌≡◌, ℕ, zero, suc, ◌+◌, ◌-◌, ◌<◌, nat_lt, option_map, List, [], ◌∷◌, ◌++◌, length, take, drop, replicate, slice_get, Bool, true, false, ◌&&◌, ◌||◌, ◌==◌, Option, Some, None}
use Rattle.py_code.specs.declared.unit.CodeUnit.{CodeUnit}
use Rattle.py_code.specs.declared.instruction.Instruction.{Instruction}
use Rattle.py_code.specs.declared.instruction.Instruction.TheVariants.{LoadConst, LoadFast, StoreFast, DeleteFast, BuildTuple, DictUpdate, ListAppend, SetAdd, MapAdd, ReturnValue, ReturnConst, YieldValue, YieldFrom, SetupLoop, SetupExcept, SetupFinally, EnterFinally, EndFinally, SetupWith, SetupAsyncWith, WithCleanupStart, WithCleanupFinish, PopBlock, PopException, GetANext, EndAsyncFor, ForIter, MakeFunction, CallFunctionPositional, CallFunctionKeyword, CallMethodKeyword, Jump, JumpIfTrue, JumpIfFalse, JumpIfTrueOrPop, JumpIfFalseOrPop, Raise, Break, Continue, ImportFrom, ExtendedArg}
use Rattle.py_code.specs.declared.flags.CodeFlags.{CodeFlags}
use Rattle.py_code.specs.declared.flags.TheConstants.CodeFlags.{IS_GENERATOR, IS_COROUTINE}
use Rattle.py_check.specs.declared.note.Kind.{Kind}
use Rattle.py_check.specs.declared.note.Kind.TheVariants.{Any, List as ListKind, Set, Dict}
use Rattle.py_check.specs.declared.note.BlockNote.{BlockNote}
use Rattle.py_check.specs.declared.note.BlockNote.TheVariants.{Loop, TryExcept, Finally, FinallyHandler}
use Rattle.py_check.specs.declared.note.Note.{Note}
use Rattle.py_check.specs.declared.note.Note.TheVariants.{Dead, Live}
use Rattle.py_check.specs.declared.note.Pending.TheVariants as pending
use Rattle.py_check.specs.Effects.{Effect, Moves, AsksOnce, Takes, Other, effect, has_operand}
use Rattle.py_check.specs.Taking.{takes, takes_top, takes_named, reads, tuple_of, at_place, moved_kinds, may_move}
use Rattle.py_check.specs.Making.{makes_function}
use Rattle.py_check.specs.Leaving.{walks, ends_async, ends_finally, leaves_handler, starts_cleanup, ends_cleanup, leaves_block}
use Rattle.py_check.specs.Operands.{prefixes, operand}
use Rattle.py_check.specs.Constants.{loads}
use Rattle.py_check.specs.Landing.{has_room, levels_nest, handlers_land, goes_on, lands, top_level}
use Rattle.py_check.specs.WholeCode.{counts_if, keeps_whole}
use Rattle.py_check.specs.Sheet.{Sheet}

-- a generator or a coroutine, which alone may be suspended
abbrev pub may_yield : CodeFlags → Bool
may_yield flags = (counts_if flags IS_GENERATOR == 1) || (counts_if flags IS_COROUTINE == 1)

-- the instruction right before a place
abbrev pub op_right_before : List CodeUnit → ℕ → Option Instruction
op_right_before units zero = None
op_right_before units (suc at) = option_map (λ u. u.op) (slice_get units at)

-- the same, prefixes passed over
abbrev pub op_before : List CodeUnit → ℕ → Option Instruction
op_before units at = op_right_before units (at - prefixes units at)

-- a unit that a delegation may begin after
abbrev pub may_begin_after : Option Instruction → Bool
may_begin_after None = false
may_begin_after (Some YieldValue) = false
may_begin_after (Some YieldFrom) = false
may_begin_after (Some op) = true

-- a value for a delegate: what that yields is yielded, and what is sent comes in the place of the value; what it returns comes in the
-- place of both
abbrev pub delegates : Sheet → ℕ → List Kind → List BlockNote → Bool
delegates sheet at kinds blocks =
    takes (Any ∷ Any ∷ []) kinds blocks (λ rest. lands sheet at (Any ∷ drop 1 kinds) blocks && goes_on sheet (at + 1) (Any ∷ rest) blocks)

-- what an instruction that isn't in the table of effects asks, with its operand, of the kinds and blocks before it
abbrev pub keeps_own : List ℕ → Sheet → ℕ → Instruction → ℕ → List Kind → List BlockNote → Bool
keeps_own shapes sheet at LoadConst i kinds blocks = loads (slice_get sheet.constants i) (λ k. goes_on sheet (at + 1) (k ∷ kinds) blocks)
keeps_own shapes sheet at LoadFast i kinds blocks = goes_on sheet (at + 1) (Any ∷ kinds) blocks
keeps_own shapes sheet at StoreFast i kinds blocks = takes_top kinds blocks (λ rest. goes_on sheet (at + 1) rest blocks)
keeps_own shapes sheet at DeleteFast i kinds blocks = goes_on sheet (at + 1) kinds blocks
keeps_own shapes sheet at BuildTuple n kinds blocks =
    takes (replicate n Any) kinds blocks (λ rest. goes_on sheet (at + 1) (tuple_of n (take n kinds) ∷ rest) blocks)
keeps_own shapes sheet at DictUpdate i kinds blocks = takes_top kinds blocks (λ rest. reads 0 Dict rest && goes_on sheet (at + 1) rest blocks)
keeps_own shapes sheet at ListAppend n kinds blocks = takes_top kinds blocks (λ rest. reads n ListKind rest && goes_on sheet (at + 1) rest blocks)
keeps_own shapes sheet at SetAdd n kinds blocks = takes_top kinds blocks (λ rest. reads n Set rest && goes_on sheet (at + 1) rest blocks)
keeps_own shapes sheet at MapAdd n kinds blocks = takes (Any ∷ Any ∷ []) kinds blocks (λ rest. reads n Dict rest && goes_on sheet (at + 1) rest blocks)
keeps_own shapes sheet at ReturnValue i kinds blocks = takes_top kinds blocks (λ rest. true)
keeps_own shapes sheet at ReturnConst i kinds blocks = true
keeps_own shapes sheet at YieldValue i kinds blocks = may_yield sheet.flags && takes_top kinds blocks (λ rest. goes_on sheet (at + 1) (Any ∷ rest) blocks)
keeps_own shapes sheet at YieldFrom i kinds blocks = may_yield sheet.flags && may_begin_after (op_before sheet.units at) && delegates sheet at kinds blocks
keeps_own shapes sheet at SetupLoop i kinds blocks = goes_on sheet (at + 1) kinds (Loop (length kinds) ∷ blocks)
keeps_own shapes sheet at SetupExcept to kinds blocks = goes_on sheet (at + 1) kinds (TryExcept (length kinds) to ∷ blocks)
keeps_own shapes sheet at SetupFinally to kinds blocks = goes_on sheet (at + 1) kinds (Finally (length kinds) to ∷ blocks)
keeps_own shapes sheet at EnterFinally i kinds blocks = goes_on sheet (at + 1) kinds (FinallyHandler (length kinds) [] ∷ blocks)
keeps_own shapes sheet at EndFinally i kinds blocks = ends_finally sheet (at + 1) kinds blocks
keeps_own shapes sheet at SetupWith to kinds blocks =
    takes_top kinds blocks (λ rest. goes_on sheet (at + 1) (Any ∷ Any ∷ rest) (Finally (suc (length rest)) to ∷ blocks))
keeps_own shapes sheet at SetupAsyncWith to kinds blocks =
    takes_top kinds blocks (λ rest. goes_on sheet (at + 1) (Any ∷ rest) (Finally (length rest) to ∷ blocks))
keeps_own shapes sheet at WithCleanupStart i kinds blocks = starts_cleanup sheet (at + 1) kinds blocks
keeps_own shapes sheet at WithCleanupFinish i kinds blocks = ends_cleanup sheet (at + 1) kinds blocks
keeps_own shapes sheet at PopBlock i kinds blocks = leaves_block sheet (at + 1) kinds blocks
keeps_own shapes sheet at PopException i kinds blocks = leaves_handler sheet (at + 1) kinds blocks
keeps_own shapes sheet at GetANext i kinds blocks = reads 0 Any kinds && goes_on sheet (at + 1) (Any ∷ kinds) blocks
keeps_own shapes sheet at EndAsyncFor i kinds blocks = ends_async sheet (at + 1) kinds blocks
keeps_own shapes sheet at ForIter to kinds blocks = takes_top kinds blocks (λ rest. lands sheet to rest blocks && goes_on sheet (at + 1) (Any ∷ kinds) blocks)
keeps_own shapes sheet at MakeFunction flags kinds blocks = makes_function shapes flags kinds blocks (λ rest. goes_on sheet (at + 1) (Any ∷ rest) blocks)
keeps_own shapes sheet at CallFunctionPositional n kinds blocks =
    takes (replicate (suc n) Any) kinds blocks (λ rest. goes_on sheet (at + 1) (Any ∷ rest) blocks)
keeps_own shapes sheet at CallFunctionKeyword n kinds blocks = takes_named n (n + 1) kinds blocks (λ rest. goes_on sheet (at + 1) (Any ∷ rest) blocks)
keeps_own shapes sheet at CallMethodKeyword n kinds blocks = takes_named n (n + 3) kinds blocks (λ rest. goes_on sheet (at + 1) (Any ∷ rest) blocks)
keeps_own shapes sheet at Jump to kinds blocks = lands sheet to kinds blocks
keeps_own shapes sheet at JumpIfTrue to kinds blocks = takes_top kinds blocks (λ rest. lands sheet to rest blocks && goes_on sheet (at + 1) rest blocks)
keeps_own shapes sheet at JumpIfFalse to kinds blocks = takes_top kinds blocks (λ rest. lands sheet to rest blocks && goes_on sheet (at + 1) rest blocks)
keeps_own shapes sheet at JumpIfTrueOrPop to kinds blocks = takes_top kinds blocks (λ rest. lands sheet to kinds blocks && goes_on sheet (at + 1) rest blocks)
keeps_own shapes sheet at JumpIfFalseOrPop to kinds blocks = takes_top kinds blocks (λ rest. lands sheet to kinds blocks && goes_on sheet (at + 1) rest blocks)
keeps_own shapes sheet at Raise n kinds blocks = takes (replicate n Any) kinds blocks (λ rest. true)
keeps_own shapes sheet at Break to kinds blocks = walks sheet (pending.Break to) kinds blocks
keeps_own shapes sheet at Continue to kinds blocks = walks sheet (pending.Continue to) kinds blocks
keeps_own shapes sheet at ImportFrom i kinds blocks = reads 0 Any kinds && goes_on sheet (at + 1) (Any ∷ kinds) blocks
keeps_own shapes sheet at ExtendedArg i kinds blocks = nat_lt (prefixes sheet.units at) 3 && goes_on sheet (at + 1) kinds blocks
keeps_own shapes sheet at _ i kinds blocks = false

-- what an effect asks; of another instruction, what it asks itself
abbrev pub keeps_by : Sheet → ℕ → Effect → Bool → List Kind → List BlockNote → Bool
keeps_by sheet at (Moves n places) own kinds blocks =
    may_move n places (length kinds) (top_level blocks) && goes_on sheet (at + 1) (moved_kinds n places kinds ++ drop n kinds) blocks
keeps_by sheet at (AsksOnce wanted pushes) own kinds blocks = takes wanted kinds blocks (λ rest. goes_on sheet (at + 1) (at_place pushes ++ rest) blocks)
keeps_by sheet at (Takes n pushes) own kinds blocks = takes (replicate n Any) kinds blocks (λ rest. goes_on sheet (at + 1) (pushes ++ rest) blocks)
keeps_by sheet at Other own kinds blocks = own

-- what an instruction asks, with its operand
abbrev pub keeps_op : List ℕ → Sheet → ℕ → Instruction → ℕ → List Kind → List BlockNote → Bool
keeps_op shapes sheet at op i kinds blocks =
    has_operand sheet op i && keeps_by sheet at (effect op i) (keeps_own shapes sheet at op i kinds blocks) kinds blocks

-- a unit keeps the rules, with this note before it
abbrev pub keeps_after_note : List ℕ → Sheet → ℕ → CodeUnit → Note → Bool
keeps_after_note shapes sheet at unit Dead = true
keeps_after_note shapes sheet at unit (Live kinds blocks) =
    has_room sheet kinds && levels_nest (length kinds) blocks && handlers_land sheet kinds blocks
    && keeps_op shapes sheet at unit.op (operand sheet.units at unit) kinds blocks

-- a unit and its note are there, and keep the rules
abbrev pub keeps_both : List ℕ → Sheet → ℕ → Option CodeUnit → Option Note → Bool
keeps_both shapes sheet at (Some unit) (Some note) = keeps_after_note shapes sheet at unit note
keeps_both shapes sheet at _ _ = false

-- the unit at a place keeps the rules on units
abbrev pub keeps_at : List ℕ → Sheet → ℕ → Bool
keeps_at shapes sheet at = keeps_both shapes sheet at (slice_get sheet.units at) (slice_get sheet.notes at)

-- the code and each of its units keep the rules, where this is how many free names each code before it has
pub record IsTyped (shapes : List ℕ) (sheet : Sheet) : Type 0 where
  pub whole : keeps_whole shapes sheet ≡ true
  pub each : (at : ℕ) → at < length sheet.units → keeps_at shapes sheet at ≡ true
