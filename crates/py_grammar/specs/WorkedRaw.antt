-- Small raw codes, worked by hand: a script that has some, and the bad line of what is none.
use Rattle.std.specs.Prelude.{ℕ, pos, List, [], ◌∷◌, ◌++◌, None, codes}
use Rattle.py_code.specs.declared.instruction.Instruction.TheVariants as op
use Rattle.py_tree.specs.declared.body.BodyKind.TheVariants as body
use Rattle.py_tree.specs.Tree.{nothing}
use Rattle.py_lines.specs.declared.constant.RawAtom.TheVariants as atom
use Rattle.py_lines.specs.declared.constant.RawConst.TheVariants as constant
use Rattle.py_lines.specs.declared.drive.DriveLine.{DriveLine}
use Rattle.py_lines.specs.declared.drive.DriveLine.TheVariants as drive
use Rattle.py_lines.specs.declared.flag.RawFlag.TheVariants as flag
use Rattle.py_lines.specs.declared.unit.RawNote.TheVariants as note
use Rattle.py_grammar.specs.Grammar.{Decl, ManagerDecl, FunctionDecl, RawDecl}
use Rattle.py_grammar.specs.Script.{Text, Spells, IsBadLine}

-- a function, two raw codes, and a manager that they enter and leave
abbrev pub raw_text : Text
raw_text = codes "def g" ∷ codes "end" ∷ codes "code f a" ∷ codes "consts None 5" ∷ codes "depth 1" ∷ codes "flags newlocals"
    ∷ codes "u LoadFast 0 - -" ∷ codes "u ReturnValue 0 - -" ∷ codes "end" ∷ codes "code h" ∷ codes "depth 2"
    ∷ codes "consts @f (1 'a') () @g" ∷ codes "u ReturnConst 0 - -" ∷ codes "end" ∷ codes "manager m f h" ∷ codes "call f" ∷ []

abbrev pub raw_decls : List Decl
raw_decls = FunctionDecl (record { kind = body.Function; name = codes "g"; params = []; suite = nothing; line = 1 })
    ∷ RawDecl (record {
      line = 3;
      name = codes "f";
      params = codes "a" ∷ [];
      flags = flag.NewLocals ∷ [];
      counts = None;
      vars = [];
      cells = [];
      frees = [];
      names = [];
      consts = constant.Atom atom.None ∷ constant.Atom (atom.Int (pos 5)) ∷ [];
      depth = 1;
      units = record { line = 7; op = op.LoadFast; arg = 0; note = note.Live [] [] }
          ∷ record { line = 8; op = op.ReturnValue; arg = 0; note = note.Live [] [] }
          ∷ [];
    })
    ∷ RawDecl (record {
      line = 10;
      name = codes "h";
      params = [];
      flags = [];
      counts = None;
      vars = [];
      cells = [];
      frees = [];
      names = [];
      consts = constant.Code (codes "f")
          ∷ constant.Tuple (atom.Int (pos 1) ∷ atom.Str (codes "a") ∷ [])
          ∷ constant.Tuple []
          ∷ constant.Code (codes "g")
          ∷ [];
      depth = 2;
      units = record { line = 13; op = op.ReturnConst; arg = 0; note = note.Live [] [] } ∷ [];
    })
    ∷ ManagerDecl (codes "m") (codes "f") (codes "h")
    ∷ []

abbrev pub raw_drives : List DriveLine
raw_drives = drive.Call (codes "f") [] ∷ []

-- the lines are that script
abbrev pub RawIsScript : Type 0
RawIsScript = Spells raw_text raw_decls raw_drives

-- lines as bytes, each with its LF
abbrev pub bytes_of : Text → List ℕ
bytes_of [] = []
bytes_of (l ∷ ls) = l ++ 10 ∷ bytes_of ls

-- a header line stands once
abbrev pub TwiceBad : Type 0
TwiceBad = IsBadLine (bytes_of (codes "code f" ∷ codes "depth 1" ∷ codes "depth 1" ∷ [])) 3

-- and in front of the units
abbrev pub LateBad : Type 0
LateBad = IsBadLine (bytes_of (codes "code f" ∷ codes "depth 1" ∷ codes "u Pop 0 - -" ∷ codes "vars" ∷ [])) 4

-- a unit stands behind the depth
abbrev pub ShallowBad : Type 0
ShallowBad = IsBadLine (bytes_of (codes "code f" ∷ codes "u Pop 0 - -" ∷ [])) 2

-- no flag stands that frames do not heed yet
abbrev pub CoroBad : Type 0
CoroBad = IsBadLine (bytes_of (codes "code f" ∷ codes "flags gen coro" ∷ [])) 2

abbrev pub VarArgsBad : Type 0
VarArgsBad = IsBadLine (bytes_of (codes "code f" ∷ codes "flags varargs" ∷ [])) 2

abbrev pub VarKwBad : Type 0
VarKwBad = IsBadLine (bytes_of (codes "code f" ∷ codes "flags varkw" ∷ [])) 2

-- no parameter takes named arguments alone yet
abbrev pub NamedBad : Type 0
NamedBad = IsBadLine (bytes_of (codes "code f" ∷ codes "counts 0 0 1" ∷ [])) 2

-- there are no cells yet
abbrev pub CellsBad : Type 0
CellsBad = IsBadLine (bytes_of (codes "code f" ∷ codes "cells a" ∷ [])) 2

abbrev pub FreesBad : Type 0
FreesBad = IsBadLine (bytes_of (codes "code f" ∷ codes "frees a" ∷ [])) 2

-- a constant that is a code is an earlier one: neither its own
abbrev pub OwnConstBad : Type 0
OwnConstBad = IsBadLine (bytes_of (codes "code f" ∷ codes "consts @f" ∷ [])) 2

-- nor one of another name, which may be that of a class
abbrev pub ClassConstBad : Type 0
ClassConstBad =
    IsBadLine (bytes_of (codes "class C Exception" ∷ codes "def g" ∷ codes "end" ∷ codes "code f" ∷ codes "consts @g @C" ∷ [])) 5

-- no instruction stands that frames do not run yet, even where control never comes
abbrev pub OpBad : Type 0
OpBad = IsBadLine (bytes_of (codes "code f" ∷ codes "depth 1" ∷ codes "u BuildList 0 dead" ∷ [])) 3

-- no operator that is not asked yet, by the whole operand: one that names none is no matter of the grammar
abbrev pub AskBad : Type 0
AskBad = IsBadLine (bytes_of (codes "code f" ∷ codes "depth 1" ∷ codes "u ExtendedArg 1 - -" ∷ codes "u BinaryOperation 1 - -" ∷ codes "u BinaryOperation 1 - -" ∷ [])) 5

-- so are comparisons, tests and raises
abbrev pub CompareBad : Type 0
CompareBad = IsBadLine (bytes_of (codes "code f" ∷ codes "depth 1" ∷ codes "u CompareOperation 1 - -" ∷ [])) 3

abbrev pub TestBad : Type 0
TestBad = IsBadLine (bytes_of (codes "code f" ∷ codes "depth 1" ∷ codes "u TestOperation 0 - -" ∷ [])) 3

abbrev pub RaiseBad : Type 0
RaiseBad = IsBadLine (bytes_of (codes "code f" ∷ codes "depth 1" ∷ codes "u Raise 2 - -" ∷ [])) 3

-- a raw code has a unit
abbrev pub EmptyBad : Type 0
EmptyBad = IsBadLine (bytes_of (codes "code f" ∷ codes "depth 1" ∷ codes "end" ∷ [])) 3

-- no other line stands in it
abbrev pub OtherBad : Type 0
OtherBad = IsBadLine (bytes_of (codes "code f" ∷ codes "depth 1" ∷ codes "pass" ∷ [])) 3

-- and it ends
abbrev pub OpenBad : Type 0
OpenBad = IsBadLine (bytes_of (codes "code f" ∷ codes "depth 1" ∷ codes "u Pop 0 - -" ∷ [])) 4

-- its parameters differ, and its name is new
abbrev pub SameParamsBad : Type 0
SameParamsBad = IsBadLine (bytes_of (codes "code f a a" ∷ [])) 1

abbrev pub SameNameBad : Type 0
SameNameBad = IsBadLine (bytes_of (codes "def f" ∷ codes "end" ∷ codes "code f" ∷ [])) 3
