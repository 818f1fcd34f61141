-- Small raw codes, by computing.
use Rattle.std.proofs.Common.{List, [], ◌∷◌, refl}
use Rattle.std.specs.Prelude.{codes, pos}
use Rattle.py_code.specs.declared.instruction.Instruction.TheVariants as op
use Rattle.py_tree.specs.declared.body.BodyKind.TheVariants as body
use Rattle.py_tree.specs.Tree.{nothing}
use Rattle.py_lines.specs.declared.constant.RawAtom.TheVariants as atom
use Rattle.py_lines.specs.declared.constant.RawConst.{RawConst}
use Rattle.py_lines.specs.declared.constant.RawConst.TheVariants as constant
use Rattle.py_lines.specs.declared.drive.DriveLine.TheVariants as drive
use Rattle.py_lines.specs.declared.header.Header.TheVariants as header
use Rattle.py_lines.specs.declared.flag.RawFlag.TheVariants as flag
use Rattle.py_lines.specs.declared.raw.RawLine.TheVariants as raw
use Rattle.py_lines.specs.declared.unit.RawNote.TheVariants as note
use Rattle.py_lines.specs.Line as line
use Rattle.py_lines.specs.Line.{Said}
use Rattle.py_lines.specs.Statements as said
use Rattle.py_grammar.specs.Grammar.{ManagerDecl, FunctionDecl, Codes, Declares, Drives}
use Rattle.py_grammar.specs.Reader.{Bad}
use Rattle.py_grammar.specs.WorkedRaw.{RawIsScript, TwiceBad, LateBad, ShallowBad, CoroBad, VarArgsBad, VarKwBad, NamedBad, CellsBad, FreesBad, OwnConstBad, ClassConstBad, OpBad, AskBad, CompareBad, TestBad, RaiseBad, EmptyBad, OtherBad, OpenBad, SameParamsBad, SameNameBad}
use Rattle.py_grammar.proofs.Verdicts.{verdict_true}

-- those of the last raw code
abbrev constants : List RawConst
constants = constant.Code (codes "f")
    ∷ constant.Tuple (atom.Int (pos 1) ∷ atom.Str (codes "a") ∷ [])
    ∷ constant.Tuple []
    ∷ constant.Code (codes "g")
    ∷ []

pub raw_is_script : RawIsScript
raw_is_script = record {
  items = Declares (FunctionDecl (record { kind = body.Function; name = codes "g"; params = []; suite = nothing; line = 1 }))
      ∷ Codes (record {
        line = 3;
        name = codes "f";
        params = codes "a" ∷ [];
        head = raw.Consts (constant.Atom atom.None ∷ constant.Atom (atom.Int (pos 5)) ∷ []) ∷ raw.Depth 1 ∷ raw.Flags (flag.NewLocals ∷ []) ∷ [];
        units = record { line = 7; op = op.LoadFast; arg = 0; note = note.Live [] [] }
            ∷ record { line = 8; op = op.ReturnValue; arg = 0; note = note.Live [] [] }
            ∷ [];
      })
      ∷ Codes (record {
        line = 10;
        name = codes "h";
        params = [];
        head = raw.Depth 2 ∷ raw.Consts constants ∷ [];
        units = record { line = 13; op = op.ReturnConst; arg = 0; note = note.Live [] [] } ∷ [];
      })
      ∷ Declares (ManagerDecl (codes "m") (codes "f") (codes "h"))
      ∷ Drives (drive.Call (codes "f") [])
      ∷ [];
  reads = Said (line.Header (header.Def body.Function (codes "g") []))
      ∷ Said line.End
      ∷ Said (line.Header (header.Code (codes "f") (codes "a" ∷ [])))
      ∷ Said (line.Raw (raw.Consts (constant.Atom atom.None ∷ constant.Atom (atom.Int (pos 5)) ∷ [])))
      ∷ Said (line.Raw (raw.Depth 1))
      ∷ Said (line.Raw (raw.Flags (flag.NewLocals ∷ [])))
      ∷ Said (line.Raw (raw.Unit op.LoadFast 0 (note.Live [] [])))
      ∷ Said (line.Raw (raw.Unit op.ReturnValue 0 (note.Live [] [])))
      ∷ Said line.End
      ∷ Said (line.Header (header.Code (codes "h") []))
      ∷ Said (line.Raw (raw.Depth 2))
      ∷ Said (line.Raw (raw.Consts constants))
      ∷ Said (line.Raw (raw.Unit op.ReturnConst 0 (note.Live [] [])))
      ∷ Said line.End
      ∷ Said (line.Header (header.Manager (codes "m") (codes "f") (codes "h")))
      ∷ Said (line.Drive (drive.Call (codes "f") []))
      ∷ [];
  read = ((refl, tt), ((refl, tt), ((refl, tt), ((refl, tt), ((refl, tt), ((refl, tt), ((refl, tt), ((refl, tt), ((refl, tt), ((refl, tt), ((refl, tt), ((refl, tt), ((refl, tt), ((refl, tt), ((refl, tt), ((refl, tt), tt))))))))))))))));
  spelled = refl;
  well = ((refl, tt), (record { declared = refl; head = refl; deep = refl; some = refl; run = refl }, (record { declared = refl; head = refl; deep = refl; some = refl; run = refl }, (refl, (refl, tt)))));
  declared = refl;
  driven = refl;
}

pub twice_bad : TwiceBad
twice_bad =
    verdict_true (codes "code f" ∷ codes "depth 1" ∷ codes "depth 1" ∷ []) (Bad 3)
    (Said (line.Header (header.Code (codes "f") [])), (refl, tt), (Said (line.Raw (raw.Depth 1)), (refl, tt), (Said (line.Raw (raw.Depth 1)), (refl, tt), refl)))

pub late_bad : LateBad
late_bad =
    verdict_true (codes "code f" ∷ codes "depth 1" ∷ codes "u Pop 0 - -" ∷ codes "vars" ∷ []) (Bad 4)
    (Said (line.Header (header.Code (codes "f") [])), (refl, tt), (Said (line.Raw (raw.Depth 1)), (refl, tt), (Said (line.Raw (raw.Unit op.Pop 0 (note.Live [] []))), (refl, tt), (Said (line.Raw (raw.Vars [])), (refl, tt), refl))))

pub shallow_bad : ShallowBad
shallow_bad =
    verdict_true (codes "code f" ∷ codes "u Pop 0 - -" ∷ []) (Bad 2)
    (Said (line.Header (header.Code (codes "f") [])), (refl, tt), (Said (line.Raw (raw.Unit op.Pop 0 (note.Live [] []))), (refl, tt), refl))

pub coro_bad : CoroBad
coro_bad =
    verdict_true (codes "code f" ∷ codes "flags gen coro" ∷ []) (Bad 2)
    (Said (line.Header (header.Code (codes "f") [])), (refl, tt), (Said (line.Raw (raw.Flags (flag.Gen ∷ flag.Coro ∷ []))), (refl, tt), refl))

pub var_args_bad : VarArgsBad
var_args_bad =
    verdict_true (codes "code f" ∷ codes "flags varargs" ∷ []) (Bad 2)
    (Said (line.Header (header.Code (codes "f") [])), (refl, tt), (Said (line.Raw (raw.Flags (flag.VarArgs ∷ []))), (refl, tt), refl))

pub var_kw_bad : VarKwBad
var_kw_bad =
    verdict_true (codes "code f" ∷ codes "flags varkw" ∷ []) (Bad 2)
    (Said (line.Header (header.Code (codes "f") [])), (refl, tt), (Said (line.Raw (raw.Flags (flag.VarKw ∷ []))), (refl, tt), refl))

pub named_bad : NamedBad
named_bad =
    verdict_true (codes "code f" ∷ codes "counts 0 0 1" ∷ []) (Bad 2)
    (Said (line.Header (header.Code (codes "f") [])), (refl, tt), (Said (line.Raw (raw.Counts 0 0 1)), (refl, tt), refl))

pub cells_bad : CellsBad
cells_bad =
    verdict_true (codes "code f" ∷ codes "cells a" ∷ []) (Bad 2)
    (Said (line.Header (header.Code (codes "f") [])), (refl, tt), (Said (line.Raw (raw.Cells (codes "a" ∷ []))), (refl, tt), refl))

pub frees_bad : FreesBad
frees_bad =
    verdict_true (codes "code f" ∷ codes "frees a" ∷ []) (Bad 2)
    (Said (line.Header (header.Code (codes "f") [])), (refl, tt), (Said (line.Raw (raw.Frees (codes "a" ∷ []))), (refl, tt), refl))

pub own_const_bad : OwnConstBad
own_const_bad =
    verdict_true (codes "code f" ∷ codes "consts @f" ∷ []) (Bad 2)
    (Said (line.Header (header.Code (codes "f") [])), (refl, tt), (Said (line.Raw (raw.Consts (constant.Code (codes "f") ∷ []))), (refl, tt), refl))

pub class_const_bad : ClassConstBad
class_const_bad =
    verdict_true (codes "class C Exception" ∷ codes "def g" ∷ codes "end" ∷ codes "code f" ∷ codes "consts @g @C" ∷ []) (Bad 5) (
      Said (line.Header (header.Class (codes "C") (codes "Exception"))),
      (refl, tt),
      (
        Said (line.Header (header.Def body.Function (codes "g") [])),
        (refl, tt),
        (
          Said line.End,
          (refl, tt),
          (
            Said (line.Header (header.Code (codes "f") [])),
            (refl, tt),
            (Said (line.Raw (raw.Consts (constant.Code (codes "g") ∷ constant.Code (codes "C") ∷ []))), (refl, tt), refl),
          ),
        ),
      ),
    )

pub op_bad : OpBad
op_bad =
    verdict_true (codes "code f" ∷ codes "depth 1" ∷ codes "u BuildList 0 dead" ∷ []) (Bad 3)
    (Said (line.Header (header.Code (codes "f") [])), (refl, tt), (Said (line.Raw (raw.Depth 1)), (refl, tt), (Said (line.Raw (raw.Unit op.BuildList 0 note.Dead)), (refl, tt), refl)))

pub ask_bad : AskBad
ask_bad =
    verdict_true (codes "code f" ∷ codes "depth 1" ∷ codes "u ExtendedArg 1 - -" ∷ codes "u BinaryOperation 1 - -" ∷ codes "u BinaryOperation 1 - -" ∷ []) (Bad 5)
    (Said (line.Header (header.Code (codes "f") [])), (refl, tt), (Said (line.Raw (raw.Depth 1)), (refl, tt), (Said (line.Raw (raw.Unit op.ExtendedArg 1 (note.Live [] []))), (refl, tt), (Said (line.Raw (raw.Unit op.BinaryOperation 1 (note.Live [] []))), (refl, tt), (Said (line.Raw (raw.Unit op.BinaryOperation 1 (note.Live [] []))), (refl, tt), refl)))))

pub compare_bad : CompareBad
compare_bad =
    verdict_true (codes "code f" ∷ codes "depth 1" ∷ codes "u CompareOperation 1 - -" ∷ []) (Bad 3)
    (Said (line.Header (header.Code (codes "f") [])), (refl, tt), (Said (line.Raw (raw.Depth 1)), (refl, tt), (Said (line.Raw (raw.Unit op.CompareOperation 1 (note.Live [] []))), (refl, tt), refl)))

pub test_bad : TestBad
test_bad =
    verdict_true (codes "code f" ∷ codes "depth 1" ∷ codes "u TestOperation 0 - -" ∷ []) (Bad 3)
    (Said (line.Header (header.Code (codes "f") [])), (refl, tt), (Said (line.Raw (raw.Depth 1)), (refl, tt), (Said (line.Raw (raw.Unit op.TestOperation 0 (note.Live [] []))), (refl, tt), refl)))

pub raise_bad : RaiseBad
raise_bad =
    verdict_true (codes "code f" ∷ codes "depth 1" ∷ codes "u Raise 2 - -" ∷ []) (Bad 3)
    (Said (line.Header (header.Code (codes "f") [])), (refl, tt), (Said (line.Raw (raw.Depth 1)), (refl, tt), (Said (line.Raw (raw.Unit op.Raise 2 (note.Live [] []))), (refl, tt), refl)))

pub empty_bad : EmptyBad
empty_bad =
    verdict_true (codes "code f" ∷ codes "depth 1" ∷ codes "end" ∷ []) (Bad 3)
    (Said (line.Header (header.Code (codes "f") [])), (refl, tt), (Said (line.Raw (raw.Depth 1)), (refl, tt), (Said line.End, (refl, tt), refl)))

pub other_bad : OtherBad
other_bad =
    verdict_true (codes "code f" ∷ codes "depth 1" ∷ codes "pass" ∷ []) (Bad 3)
    (Said (line.Header (header.Code (codes "f") [])), (refl, tt), (Said (line.Raw (raw.Depth 1)), (refl, tt), (Said (line.Plain said.Pass), (refl, tt), refl)))

pub open_bad : OpenBad
open_bad =
    verdict_true (codes "code f" ∷ codes "depth 1" ∷ codes "u Pop 0 - -" ∷ []) (Bad 4)
    (Said (line.Header (header.Code (codes "f") [])), (refl, tt), (Said (line.Raw (raw.Depth 1)), (refl, tt), (Said (line.Raw (raw.Unit op.Pop 0 (note.Live [] []))), (refl, tt), refl)))

pub same_params_bad : SameParamsBad
same_params_bad =
    verdict_true (codes "code f a a" ∷ []) (Bad 1)
    (Said (line.Header (header.Code (codes "f") (codes "a" ∷ codes "a" ∷ []))), (refl, tt), refl)

pub same_name_bad : SameNameBad
same_name_bad =
    verdict_true (codes "def f" ∷ codes "end" ∷ codes "code f" ∷ []) (Bad 3)
    (Said (line.Header (header.Def body.Function (codes "f") [])), (refl, tt), (Said line.End, (refl, tt), (Said (line.Header (header.Code (codes "f") [])), (refl, tt), refl)))
