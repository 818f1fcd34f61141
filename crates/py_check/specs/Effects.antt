-- The table of effects: what instructions do to the stack that move its entries, take operands and ask once, or take some and
-- push others; and what their operands name.
use Rattle.std.specs.Prelude.{ℕ, zero, suc, ◌+◌, ◌*◌, ◌%◌, ◌/◌, List, [], ◌∷◌, Bool, true, ◌&&◌, ◌==◌, Option, Some, None, nat_lt, nat_le, length, replicate, if◌then◌else◌}
use Rattle.py_code.specs.declared.instruction.Instruction.{Instruction}
use Rattle.py_code.specs.declared.instruction.Instruction.TheVariants.{LoadConst, LoadFast, StoreFast, DeleteFast, LoadGlobal, LoadNameAny, StoreLocal, StoreGlobal, DeleteLocal, DeleteGlobal, LoadDeref, LoadClassDeref, StoreDeref, DeleteDeref, LoadClosure, Pop, Duplicate, Duplicate2, Rotate2, Rotate3, Reverse, Subscript, StoreSubscript, DeleteSubscript, BuildString, BuildList, BuildSet, BuildListUnpack, BuildTupleUnpack, BuildSetUnpack, BuildMap, BuildMapForCall, BuildSlice, BinaryOperation, BinaryOperationInplace, UnaryOperation, CompareOperation, TestOperation, LoadAttr, StoreAttr, DeleteAttr, ReturnConst, SetupAnnotation, SetupExcept, SetupFinally, SetupWith, SetupAsyncWith, BeforeAsyncWith, GetIter, GetAwaitable, GetAIter, ForIter, MakeFunction, CallFunctionEx, LoadMethod, CallMethodPositional, CallMethodEx, Jump, JumpIfTrue, JumpIfFalse, JumpIfTrueOrPop, JumpIfFalseOrPop, Raise, Break, Continue, PrintExpr, LoadBuildClass, UnpackSequence, UnpackEx, FormatValue, ImportName, ImportNameless, ImportFrom, ImportStar}
use Rattle.py_check.specs.Operands.{is_label}
use Rattle.py_check.specs.declared.note.Kind.{Kind}
use Rattle.py_check.specs.declared.note.Kind.TheVariants as kind
use Rattle.py_check.specs.Sheet.{Sheet}
use Rattle.py_check.specs.declared.table.OpArgType.{OpArgType}
use Rattle.py_check.specs.declared.table.OpArgType.TheVariants.{Nothing, Constant, Local, Name, Cell, FreeCell, Label, OneOf}

-- what an instruction does to the stack, where that is all that it does beside a question
pub data Effect : Type 0 where
  -- so many entries go, and those at these places, the first of them on top, come; places are counted from the top before
  Moves : ℕ → List ℕ → Effect
  -- entries of these kinds, the top first, are taken; the answer, which is of this kind, is pushed, or nothing is
  AsksOnce : List Kind → Option Kind → Effect
  -- so many entries of any kind are taken, and those of these kinds are pushed, the top first, in a way of its own
  Takes : ℕ → List Kind → Effect
  -- it does more
  Other : Effect

-- so many entries of any kind are taken, and the answer is pushed
abbrev pub gives : ℕ → Effect
gives n = AsksOnce (replicate n kind.Any) (Some kind.Any)

-- the same, and nothing is pushed
abbrev pub does : ℕ → Effect
does n = AsksOnce (replicate n kind.Any) None

-- so many entries of a kind are taken, and what is built of them is pushed
abbrev pub builds : ℕ → Kind → Kind → Effect
builds n of k = AsksOnce (replicate n of) (Some k)

-- the places below so many, the lowest first
abbrev pub places_down : ℕ → List ℕ
places_down zero = []
places_down (suc n) = n ∷ places_down n

-- what an instruction with its operand does
abbrev pub effect : Instruction → ℕ → Effect
effect LoadGlobal i = gives 0
effect LoadNameAny i = gives 0
effect StoreLocal i = does 1
effect StoreGlobal i = does 1
effect DeleteLocal i = does 0
effect DeleteGlobal i = does 0
effect LoadDeref i = Takes 0 (kind.Any ∷ [])
effect LoadClassDeref i = gives 0
effect StoreDeref i = Takes 1 []
effect DeleteDeref i = Takes 0 []
effect LoadClosure i = Takes 0 (kind.Cell ∷ [])
effect Pop i = Moves 1 []
effect Duplicate i = Moves 0 (0 ∷ [])
effect Duplicate2 i = Moves 0 (0 ∷ 1 ∷ [])
effect Rotate2 i = Moves 2 (1 ∷ 0 ∷ [])
effect Rotate3 i = Moves 3 (1 ∷ 2 ∷ 0 ∷ [])
effect Reverse n = Moves n (places_down n)
effect Subscript i = gives 2
effect StoreSubscript i = does 3
effect DeleteSubscript i = does 2
effect BuildString n = builds n kind.Str kind.Str
effect BuildList n = builds n kind.Any kind.List
effect BuildSet n = builds n kind.Any kind.Set
effect BuildListUnpack n = Takes n (kind.List ∷ [])
effect BuildTupleUnpack n = Takes n (kind.Tuple ∷ [])
effect BuildSetUnpack n = Takes n (kind.Set ∷ [])
effect BuildMap n = builds (2 * n) kind.Any kind.Dict
effect BuildMapForCall n = gives n
effect BuildSlice step = gives (if step == 1 then 3 else 2)
effect BinaryOperation i = gives 2
effect BinaryOperationInplace i = gives 2
effect UnaryOperation i = gives 1
effect CompareOperation i = gives 2
effect TestOperation i = gives 2
effect LoadAttr i = gives 1
effect StoreAttr i = does 2
effect DeleteAttr i = does 1
effect SetupAnnotation i = does 0
effect BeforeAsyncWith i = Takes 1 (kind.Any ∷ kind.Any ∷ [])
effect GetIter i = gives 1
effect GetAwaitable i = gives 1
effect GetAIter i = gives 1
effect CallFunctionEx b = Takes (if b == 1 then 3 else 2) (kind.Any ∷ [])
effect LoadMethod i = Takes 1 (kind.Any ∷ kind.Any ∷ kind.Any ∷ [])
effect CallMethodPositional n = Takes (n + 3) (kind.Any ∷ [])
effect CallMethodEx b = Takes (if b == 1 then 5 else 4) (kind.Any ∷ [])
effect PrintExpr i = does 1
effect LoadBuildClass i = Takes 0 (kind.Any ∷ [])
effect UnpackSequence n = Takes 1 (replicate n kind.Any)
effect UnpackEx i = Takes 1 (replicate (i % 256 + 1 + i / 256) kind.Any)
effect FormatValue i = AsksOnce (kind.Any ∷ kind.Str ∷ []) (Some kind.Any)
effect ImportName i = gives 2
effect ImportNameless i = gives 2
effect ImportStar i = does 1
effect _ i = Other

-- what the operand of an instruction names; there are 13 operators of two operands, 4 of one, 6 comparisons and 5 tests, 4 ways to format,
-- 3 to raise, and 16 sets of the four flags of a new function
abbrev pub names_by : Instruction → OpArgType
names_by LoadConst = Constant
names_by ReturnConst = Constant
names_by LoadFast = Local
names_by StoreFast = Local
names_by DeleteFast = Local
names_by LoadGlobal = Name
names_by LoadNameAny = Name
names_by StoreLocal = Name
names_by StoreGlobal = Name
names_by DeleteLocal = Name
names_by DeleteGlobal = Name
names_by LoadAttr = Name
names_by StoreAttr = Name
names_by DeleteAttr = Name
names_by LoadMethod = Name
names_by ImportName = Name
names_by ImportFrom = Name
names_by LoadDeref = Cell
names_by StoreDeref = Cell
names_by DeleteDeref = Cell
names_by LoadClosure = Cell
names_by LoadClassDeref = FreeCell
names_by SetupExcept = Label
names_by SetupFinally = Label
names_by SetupWith = Label
names_by SetupAsyncWith = Label
names_by ForIter = Label
names_by Jump = Label
names_by JumpIfTrue = Label
names_by JumpIfFalse = Label
names_by JumpIfTrueOrPop = Label
names_by JumpIfFalseOrPop = Label
names_by Break = Label
names_by Continue = Label
names_by BinaryOperation = OneOf 13
names_by BinaryOperationInplace = OneOf 13
names_by UnaryOperation = OneOf 4
names_by CompareOperation = OneOf 6
names_by TestOperation = OneOf 5
names_by FormatValue = OneOf 4
names_by Raise = OneOf 3
names_by MakeFunction = OneOf 16
names_by _ = Nothing

-- whether what an operand names is there
abbrev pub is_named : Sheet → OpArgType → ℕ → Bool
is_named sheet Nothing i = true
is_named sheet Constant i = nat_lt i (length sheet.constants)
is_named sheet Local i = nat_lt i sheet.varnames
is_named sheet Name i = nat_lt i sheet.names
is_named sheet Cell i = nat_lt i (sheet.cellvars + sheet.freevars)
is_named sheet FreeCell i = nat_le sheet.cellvars i && nat_lt i (sheet.cellvars + sheet.freevars)
is_named sheet Label i = is_label sheet.units i
is_named sheet (OneOf n) i = nat_lt i n

-- whether what the operand of an instruction names is there
abbrev pub has_operand : Sheet → Instruction → ℕ → Bool
has_operand sheet op i = is_named sheet (names_by op) i
