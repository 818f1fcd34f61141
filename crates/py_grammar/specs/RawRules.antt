-- The rules on the lines of raw codes, each a test.
use Rattle.std.specs.Prelude.{ℕ, ◌%◌, List, [], ◌∷◌, ◌++◌, length, Bool, true, false, Option, Some, None, ◌==◌, ◌&&◌, ◌||◌, not, bytes_eq, codes, slice_get}
use Rattle.std.specs.List.{list_any, list_all}
use Rattle.py_code.specs.declared.instruction.Instruction.{Instruction}
use Rattle.py_code.specs.declared.instruction.Instruction.TheVariants as op
use Rattle.py_code.specs.declared.operator.BinaryOperator.{BinaryOperator}
use Rattle.py_code.specs.declared.operator.ComparisonOperator.{ComparisonOperator}
use Rattle.py_code.specs.declared.operator.RaiseKind.{RaiseKind}
use Rattle.py_code.specs.declared.operator.RaiseKind.TheVariants as raise
use Rattle.py_code.specs.declared.operator.TestOperator.{TestOperator}
use Rattle.py_code.specs.declared.operator.TestOperator.TheVariants as test
use Rattle.py_code.specs.Arguments.{with_byte}
use Rattle.py_code.specs.Operators.{binary_operators, comparison_operators, raise_kinds, test_operators, is_asked, is_compared}
use Rattle.py_tree.specs.Tree.{Name}
use Rattle.py_lines.specs.declared.constant.RawConst.{RawConst}
use Rattle.py_lines.specs.declared.constant.RawConst.TheVariants as constant
use Rattle.py_lines.specs.declared.flag.RawFlag.{RawFlag}
use Rattle.py_lines.specs.declared.flag.RawFlag.TheVariants as flag
use Rattle.py_lines.specs.declared.raw.RawLine.{RawLine}
use Rattle.py_lines.specs.declared.raw.RawLine.TheVariants as raw
use Rattle.py_grammar.specs.declared.raw_block.RawUnit.{RawUnit}
use Rattle.py_grammar.specs.RawText.{prefix_behind}
use Rattle.py_grammar.specs.Rules.{is_among}

-- ---- header lines

-- the flags that frames heed so far
abbrev pub is_heeded : RawFlag → Bool
is_heeded flag.Gen = true
is_heeded flag.Coro = false
is_heeded flag.VarArgs = false
is_heeded flag.VarKw = false
is_heeded flag.NewLocals = true
is_heeded flag.Optimized = true

-- whether a constant may stand behind functions of these names: a code is that of one of them
abbrev pub may_load : List Name → RawConst → Bool
may_load fs (constant.Atom a) = true
may_load fs (constant.Code f) = is_among f fs
may_load fs (constant.Tuple xs) = true

-- whether a raw code behind functions of these names may have this header line:
-- so far no parameter takes named arguments alone, and there are no cells
abbrev pub may_say : List Name → RawLine → Bool
may_say fs (raw.Flags xs) = list_all is_heeded xs
may_say fs (raw.Counts p a k) = k == 0
may_say fs (raw.Vars xs) = true
may_say fs (raw.Cells xs) = length xs == 0
may_say fs (raw.Frees xs) = length xs == 0
may_say fs (raw.Names xs) = true
may_say fs (raw.Consts cs) = list_all (may_load fs) cs
may_say fs (raw.Depth d) = true
may_say fs (raw.Unit i a n) = false

-- the word that a line begins with
abbrev pub word_of : RawLine → List ℕ
word_of (raw.Flags xs) = codes "flags"
word_of (raw.Counts p a k) = codes "counts"
word_of (raw.Vars xs) = codes "vars"
word_of (raw.Cells xs) = codes "cells"
word_of (raw.Frees xs) = codes "frees"
word_of (raw.Names xs) = codes "names"
word_of (raw.Consts cs) = codes "consts"
word_of (raw.Depth d) = codes "depth"
word_of (raw.Unit i a n) = codes "u"

-- whether one of these lines begins with this word
abbrev pub have_word : List RawLine → List ℕ → Bool
have_word ls w = list_any (λ l. bytes_eq (word_of l) w) ls

abbrev pub have_depth : List RawLine → Bool
have_depth ls = have_word ls (codes "depth")

-- whether a header line may stand behind these: each word stands once
abbrev pub may_follow : List Name → List RawLine → RawLine → Bool
may_follow fs before l = may_say fs l && not (have_word before (word_of l))

-- whether header lines may stand one after another behind these
abbrev pub may_all_follow : List Name → List RawLine → List RawLine → Bool
may_all_follow fs before [] = true
may_all_follow fs before (l ∷ ls) = may_follow fs before l && may_all_follow fs (before ++ l ∷ []) ls

-- ---- units

-- whether something that a number names is asked so far; a number that names nothing is no matter of the grammar
abbrev pub may_ask : Option BinaryOperator → Bool
may_ask None = true
may_ask (Some o) = is_asked o

abbrev pub may_compare : Option ComparisonOperator → Bool
may_compare None = true
may_compare (Some o) = is_compared o

abbrev pub may_test : Option TestOperator → Bool
may_test None = true
may_test (Some test.ExceptionMatch) = true
may_test (Some _) = false

abbrev pub may_raise : Option RaiseKind → Bool
may_raise None = true
may_raise (Some raise.RaiseCause) = false
may_raise (Some _) = true

-- the instructions that move values, ask for them or show them, as far as frames run them
abbrev pub moves_values : Instruction → Bool
moves_values op.LoadConst = true
moves_values op.LoadFast = true
moves_values op.StoreFast = true
moves_values op.DeleteFast = true
moves_values op.LoadGlobal = true
moves_values op.Pop = true
moves_values op.Duplicate = true
moves_values op.Rotate2 = true
moves_values op.Rotate3 = true
moves_values op.CallFunctionPositional = true
moves_values op.PrintExpr = true
moves_values _ = false

-- those that say where a frame goes on, or are a part of others
abbrev pub leads_on : Instruction → Bool
leads_on op.Jump = true
leads_on op.JumpIfTrue = true
leads_on op.JumpIfFalse = true
leads_on op.Break = true
leads_on op.Continue = true
leads_on op.ReturnValue = true
leads_on op.ReturnConst = true
leads_on op.YieldValue = true
leads_on op.ExtendedArg = true
leads_on _ = false

-- those that open blocks, leave them, or handle what is raised in them
abbrev pub keeps_blocks : Instruction → Bool
keeps_blocks op.SetupLoop = true
keeps_blocks op.SetupExcept = true
keeps_blocks op.SetupFinally = true
keeps_blocks op.EnterFinally = true
keeps_blocks op.EndFinally = true
keeps_blocks op.SetupWith = true
keeps_blocks op.WithCleanupStart = true
keeps_blocks op.WithCleanupFinish = true
keeps_blocks op.PopBlock = true
keeps_blocks op.PopException = true
keeps_blocks _ = false

-- those that frames run whatever their operand is
abbrev pub is_run : Instruction → Bool
is_run i = moves_values i || leads_on i || keeps_blocks i

-- whether they run an instruction with this operand; of a raise its lowest byte alone says which one it is
abbrev pub may_run : Instruction → ℕ → Bool
may_run op.BinaryOperation n = may_ask (slice_get binary_operators n)
may_run op.CompareOperation n = may_compare (slice_get comparison_operators n)
may_run op.TestOperation n = may_test (slice_get test_operators n)
may_run op.Raise n = may_raise (slice_get raise_kinds (n % 256))
may_run i n = is_run i

-- whether they run a unit where the prefixes before it have built this argument
abbrev pub may_run_behind : ℕ → RawUnit → Bool
may_run_behind state u = may_run u.op (with_byte state u.arg)

-- and each of these units
abbrev pub all_run : ℕ → List RawUnit → Bool
all_run state [] = true
all_run state (u ∷ us) = may_run_behind state u && all_run (prefix_behind state u) us
