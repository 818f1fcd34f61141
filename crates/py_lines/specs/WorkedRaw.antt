-- Small lines of raw codes, worked by hand.
use Rattle.std.specs.Prelude.{[], ◌∷◌, codes, pos}
use Rattle.py_code.specs.declared.instruction.Instruction.TheVariants as op
use Rattle.py_check.specs.declared.note.BlockNote.TheVariants as block
use Rattle.py_check.specs.declared.note.Kind.TheVariants as kind
use Rattle.py_check.specs.declared.note.Pending.TheVariants as pending
use Rattle.py_tree.specs.declared.expr.Atom.TheVariants as atom
use Rattle.py_tree.specs.Tree.{Leaf}
use Rattle.py_lines.specs.declared.constant.RawAtom.TheVariants as raw_atom
use Rattle.py_lines.specs.declared.constant.RawConst.TheVariants as constant
use Rattle.py_lines.specs.declared.header.Header.TheVariants as header
use Rattle.py_lines.specs.declared.flag.RawFlag.TheVariants as flag
use Rattle.py_lines.specs.declared.raw.RawLine.TheVariants as raw
use Rattle.py_lines.specs.declared.unit.RawNote.TheVariants as note
use Rattle.py_lines.specs.Line as line
use Rattle.py_lines.specs.Line.{Said, Malformed}
use Rattle.py_lines.specs.Statements as said
use Rattle.py_lines.specs.Reading.{IsReadAs}

-- a raw code has a name and parameters
abbrev pub CodeIsAHeader : Type 0
CodeIsAHeader =
    IsReadAs (codes "code f a b")
    (Said (line.Header (header.Code (codes "f") (codes "a" ∷ codes "b" ∷ []))))

-- flags, of which one is a keyword
abbrev pub FlagsInARow : Type 0
FlagsInARow = IsReadAs (codes "flags gen varargs") (Said (line.Raw (raw.Flags (flag.Gen ∷ flag.VarArgs ∷ []))))

-- there may be none
abbrev pub NoFlagsAtAll : Type 0
NoFlagsAtAll = IsReadAs (codes "flags") (Said (line.Raw (raw.Flags [])))

-- in front of `=` a word of raw codes is a name, and so it is behind one
abbrev pub VarsIsAName : Type 0
VarsIsAName =
    IsReadAs (codes "vars = vars")
    (Said (line.Plain (said.Assign (codes "vars") (Leaf (atom.Name (codes "vars"))))))

abbrev pub NamesOfLines : Type 0
NamesOfLines = IsReadAs (codes "names u depth") (Said (line.Raw (raw.Names (codes "u" ∷ codes "depth" ∷ []))))

-- a number may begin with zeros, and has 32 bits at most
abbrev pub ThreeCounts : Type 0
ThreeCounts = IsReadAs (codes "counts 00 2 4294967295") (Said (line.Raw (raw.Counts 0 2 4294967295)))

-- a constant is an atom, an earlier code or a tuple
abbrev pub Constants : Type 0
Constants =
    IsReadAs (codes "consts 1 @f ('a' None) ()")
    (Said (line.Raw (raw.Consts (constant.Atom (raw_atom.Int (pos 1)) ∷ constant.Code (codes "f") ∷ constant.Tuple (raw_atom.Str (codes "a") ∷ raw_atom.None ∷ []) ∷ constant.Tuple [] ∷ []))))

-- numbers of a unit may begin with zeros, too
abbrev pub KindsWithZeros : Type 0
KindsWithZeros =
    IsReadAs (codes "u Pop 007 any,cells.01 -")
    (Said (line.Raw (raw.Unit op.Pop 7 (note.Live (kind.Any ∷ kind.Cells 1 ∷ []) []))))

-- control may never come to a unit
abbrev pub DeadUnit : Type 0
DeadUnit = IsReadAs (codes "u LoadConst 0 dead") (Said (line.Raw (raw.Unit op.LoadConst 0 note.Dead)))

-- blocks, the outermost first
abbrev pub BlocksOfAUnit : Type 0
BlocksOfAUnit =
    IsReadAs (codes "u Duplicate 0 str loop.0,try.0.9,eh.1")
    (Said (line.Raw (raw.Unit op.Duplicate 0 (note.Live (kind.Str ∷ []) (block.Loop 0 ∷ block.TryExcept 0 9 ∷ block.ExceptHandler 1 ∷ [])))))

-- and the jumps that wait until a `finally` has ended
abbrev pub JumpsThatWait : Type 0
JumpsThatWait =
    IsReadAs (codes "u EndFinally 0 any fh.1.b2.c3")
    (Said (line.Raw (raw.Unit op.EndFinally 0 (note.Live (kind.Any ∷ []) (block.FinallyHandler 1 (pending.Break 2 ∷ pending.Continue 3 ∷ []) ∷ [])))))

-- no flag has another word
abbrev pub NoSuchFlag : Type 0
NoSuchFlag = IsReadAs (codes "flags fast") Malformed

-- there are three counts
abbrev pub TwoCounts : Type 0
TwoCounts = IsReadAs (codes "counts 1 2") Malformed

-- a number of more than 32 bits is none
abbrev pub NoDepthBeyond : Type 0
NoDepthBeyond = IsReadAs (codes "depth 4294967296") Malformed

-- a name is no constant
abbrev pub NoNameAmongConstants : Type 0
NoNameAmongConstants = IsReadAs (codes "consts f") Malformed

-- nor does a keyword name a code
abbrev pub KeywordNamesNoCode : Type 0
KeywordNamesNoCode = IsReadAs (codes "consts @code") Malformed

-- an argument has 8 bits
abbrev pub NoArgumentBeyond : Type 0
NoArgumentBeyond = IsReadAs (codes "u LoadConst 256 - -") Malformed

-- no instruction has another name
abbrev pub NoSuchInstruction : Type 0
NoSuchInstruction = IsReadAs (codes "u Nothing 0 - -") Malformed

-- blocks stand behind kinds, be they none
abbrev pub NoBlocksBehindKinds : Type 0
NoBlocksBehindKinds = IsReadAs (codes "u Pop 0 any") Malformed

-- something stands behind a comma
abbrev pub NothingBehindAComma : Type 0
NothingBehindAComma = IsReadAs (codes "u Pop 0 any, -") Malformed

-- a block has a level
abbrev pub LoopWithoutLevel : Type 0
LoopWithoutLevel = IsReadAs (codes "u Pop 0 - loop") Malformed
