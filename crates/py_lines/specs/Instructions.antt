-- The names of instructions.
use Rattle.std.specs.Prelude.{ℕ, List, [], ◌∷◌, codes}
use Rattle.py_code.specs.declared.instruction.Instruction.{Instruction}
use Rattle.py_code.specs.declared.instruction.Instruction.TheVariants as op

-- how an instruction is spelled
abbrev pub instruction_text : Instruction → List ℕ
instruction_text op.LoadConst = codes "LoadConst"
instruction_text op.LoadFast = codes "LoadFast"
instruction_text op.StoreFast = codes "StoreFast"
instruction_text op.DeleteFast = codes "DeleteFast"
instruction_text op.LoadGlobal = codes "LoadGlobal"
instruction_text op.LoadNameAny = codes "LoadNameAny"
instruction_text op.StoreLocal = codes "StoreLocal"
instruction_text op.StoreGlobal = codes "StoreGlobal"
instruction_text op.DeleteLocal = codes "DeleteLocal"
instruction_text op.DeleteGlobal = codes "DeleteGlobal"
instruction_text op.LoadDeref = codes "LoadDeref"
instruction_text op.LoadClassDeref = codes "LoadClassDeref"
instruction_text op.StoreDeref = codes "StoreDeref"
instruction_text op.DeleteDeref = codes "DeleteDeref"
instruction_text op.LoadClosure = codes "LoadClosure"
instruction_text op.Pop = codes "Pop"
instruction_text op.Duplicate = codes "Duplicate"
instruction_text op.Duplicate2 = codes "Duplicate2"
instruction_text op.Rotate2 = codes "Rotate2"
instruction_text op.Rotate3 = codes "Rotate3"
instruction_text op.Reverse = codes "Reverse"
instruction_text op.Subscript = codes "Subscript"
instruction_text op.StoreSubscript = codes "StoreSubscript"
instruction_text op.DeleteSubscript = codes "DeleteSubscript"
instruction_text op.BuildString = codes "BuildString"
instruction_text op.BuildList = codes "BuildList"
instruction_text op.BuildTuple = codes "BuildTuple"
instruction_text op.BuildSet = codes "BuildSet"
instruction_text op.BuildListUnpack = codes "BuildListUnpack"
instruction_text op.BuildTupleUnpack = codes "BuildTupleUnpack"
instruction_text op.BuildSetUnpack = codes "BuildSetUnpack"
instruction_text op.BuildMap = codes "BuildMap"
instruction_text op.BuildMapForCall = codes "BuildMapForCall"
instruction_text op.BuildSlice = codes "BuildSlice"
instruction_text op.DictUpdate = codes "DictUpdate"
instruction_text op.ListAppend = codes "ListAppend"
instruction_text op.SetAdd = codes "SetAdd"
instruction_text op.MapAdd = codes "MapAdd"
instruction_text op.BinaryOperation = codes "BinaryOperation"
instruction_text op.BinaryOperationInplace = codes "BinaryOperationInplace"
instruction_text op.UnaryOperation = codes "UnaryOperation"
instruction_text op.CompareOperation = codes "CompareOperation"
instruction_text op.TestOperation = codes "TestOperation"
instruction_text op.LoadAttr = codes "LoadAttr"
instruction_text op.StoreAttr = codes "StoreAttr"
instruction_text op.DeleteAttr = codes "DeleteAttr"
instruction_text op.ReturnValue = codes "ReturnValue"
instruction_text op.ReturnConst = codes "ReturnConst"
instruction_text op.YieldValue = codes "YieldValue"
instruction_text op.YieldFrom = codes "YieldFrom"
instruction_text op.SetupAnnotation = codes "SetupAnnotation"
instruction_text op.SetupLoop = codes "SetupLoop"
instruction_text op.SetupExcept = codes "SetupExcept"
instruction_text op.SetupFinally = codes "SetupFinally"
instruction_text op.EnterFinally = codes "EnterFinally"
instruction_text op.EndFinally = codes "EndFinally"
instruction_text op.SetupWith = codes "SetupWith"
instruction_text op.BeforeAsyncWith = codes "BeforeAsyncWith"
instruction_text op.SetupAsyncWith = codes "SetupAsyncWith"
instruction_text op.WithCleanupStart = codes "WithCleanupStart"
instruction_text op.WithCleanupFinish = codes "WithCleanupFinish"
instruction_text op.PopBlock = codes "PopBlock"
instruction_text op.PopException = codes "PopException"
instruction_text op.GetIter = codes "GetIter"
instruction_text op.GetAwaitable = codes "GetAwaitable"
instruction_text op.GetAIter = codes "GetAIter"
instruction_text op.GetANext = codes "GetANext"
instruction_text op.EndAsyncFor = codes "EndAsyncFor"
instruction_text op.ForIter = codes "ForIter"
instruction_text op.MakeFunction = codes "MakeFunction"
instruction_text op.CallFunctionPositional = codes "CallFunctionPositional"
instruction_text op.CallFunctionKeyword = codes "CallFunctionKeyword"
instruction_text op.CallFunctionEx = codes "CallFunctionEx"
instruction_text op.LoadMethod = codes "LoadMethod"
instruction_text op.CallMethodPositional = codes "CallMethodPositional"
instruction_text op.CallMethodKeyword = codes "CallMethodKeyword"
instruction_text op.CallMethodEx = codes "CallMethodEx"
instruction_text op.Jump = codes "Jump"
instruction_text op.JumpIfTrue = codes "JumpIfTrue"
instruction_text op.JumpIfFalse = codes "JumpIfFalse"
instruction_text op.JumpIfTrueOrPop = codes "JumpIfTrueOrPop"
instruction_text op.JumpIfFalseOrPop = codes "JumpIfFalseOrPop"
instruction_text op.Raise = codes "Raise"
instruction_text op.Break = codes "Break"
instruction_text op.Continue = codes "Continue"
instruction_text op.PrintExpr = codes "PrintExpr"
instruction_text op.LoadBuildClass = codes "LoadBuildClass"
instruction_text op.UnpackSequence = codes "UnpackSequence"
instruction_text op.UnpackEx = codes "UnpackEx"
instruction_text op.FormatValue = codes "FormatValue"
instruction_text op.ImportName = codes "ImportName"
instruction_text op.ImportNameless = codes "ImportNameless"
instruction_text op.ImportFrom = codes "ImportFrom"
instruction_text op.ImportStar = codes "ImportStar"
instruction_text op.ExtendedArg = codes "ExtendedArg"

abbrev pub all_instructions : List Instruction
all_instructions =
    op.LoadConst ∷ op.LoadFast ∷ op.StoreFast ∷ op.DeleteFast ∷ op.LoadGlobal
    ∷ op.LoadNameAny ∷ op.StoreLocal ∷ op.StoreGlobal ∷ op.DeleteLocal ∷ op.DeleteGlobal
    ∷ op.LoadDeref ∷ op.LoadClassDeref ∷ op.StoreDeref ∷ op.DeleteDeref ∷ op.LoadClosure
    ∷ op.Pop ∷ op.Duplicate ∷ op.Duplicate2 ∷ op.Rotate2 ∷ op.Rotate3
    ∷ op.Reverse ∷ op.Subscript ∷ op.StoreSubscript ∷ op.DeleteSubscript ∷ op.BuildString
    ∷ op.BuildList ∷ op.BuildTuple ∷ op.BuildSet ∷ op.BuildListUnpack ∷ op.BuildTupleUnpack
    ∷ op.BuildSetUnpack ∷ op.BuildMap ∷ op.BuildMapForCall ∷ op.BuildSlice ∷ op.DictUpdate
    ∷ op.ListAppend ∷ op.SetAdd ∷ op.MapAdd ∷ op.BinaryOperation ∷ op.BinaryOperationInplace
    ∷ op.UnaryOperation ∷ op.CompareOperation ∷ op.TestOperation ∷ op.LoadAttr ∷ op.StoreAttr
    ∷ op.DeleteAttr ∷ op.ReturnValue ∷ op.ReturnConst ∷ op.YieldValue ∷ op.YieldFrom
    ∷ op.SetupAnnotation ∷ op.SetupLoop ∷ op.SetupExcept ∷ op.SetupFinally ∷ op.EnterFinally
    ∷ op.EndFinally ∷ op.SetupWith ∷ op.BeforeAsyncWith ∷ op.SetupAsyncWith ∷ op.WithCleanupStart
    ∷ op.WithCleanupFinish ∷ op.PopBlock ∷ op.PopException ∷ op.GetIter ∷ op.GetAwaitable
    ∷ op.GetAIter ∷ op.GetANext ∷ op.EndAsyncFor ∷ op.ForIter ∷ op.MakeFunction
    ∷ op.CallFunctionPositional ∷ op.CallFunctionKeyword ∷ op.CallFunctionEx ∷ op.LoadMethod ∷ op.CallMethodPositional
    ∷ op.CallMethodKeyword ∷ op.CallMethodEx ∷ op.Jump ∷ op.JumpIfTrue ∷ op.JumpIfFalse
    ∷ op.JumpIfTrueOrPop ∷ op.JumpIfFalseOrPop ∷ op.Raise ∷ op.Break ∷ op.Continue
    ∷ op.PrintExpr ∷ op.LoadBuildClass ∷ op.UnpackSequence ∷ op.UnpackEx ∷ op.FormatValue
    ∷ op.ImportName ∷ op.ImportNameless ∷ op.ImportFrom ∷ op.ImportStar ∷ op.ExtendedArg ∷ []
