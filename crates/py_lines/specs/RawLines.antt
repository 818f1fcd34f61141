-- The tokens that a line of a raw code prints.
use Rattle.std.specs.Prelude.{ℕ, List, [], ◌∷◌, true, false, Some, codes, map}
use Rattle.py_code.specs.declared.instruction.Instruction.{Instruction}
use Rattle.py_check.specs.declared.note.BlockNote.{BlockNote}
use Rattle.py_check.specs.declared.note.BlockNote.TheVariants as block
use Rattle.py_check.specs.declared.note.Kind.{Kind}
use Rattle.py_check.specs.declared.note.Kind.TheVariants as kind
use Rattle.py_lines.specs.declared.constant.RawAtom.{RawAtom}
use Rattle.py_lines.specs.declared.constant.RawAtom.TheVariants as atom
use Rattle.py_lines.specs.declared.constant.RawConst.{RawConst}
use Rattle.py_lines.specs.declared.constant.RawConst.TheVariants as constant
use Rattle.py_lines.specs.declared.keyword.Keyword.TheVariants as keyword
use Rattle.py_lines.specs.declared.flag.RawFlag.{RawFlag}
use Rattle.py_lines.specs.declared.flag.RawFlag.TheVariants as flag
use Rattle.py_lines.specs.declared.raw.RawLine.{RawLine}
use Rattle.py_lines.specs.declared.raw.RawLine.TheVariants as raw
use Rattle.py_lines.specs.declared.unit.RawNote.{RawNote}
use Rattle.py_lines.specs.declared.unit.RawNote.TheVariants as note
use Rattle.py_lines.specs.Instructions.{instruction_text}
use Rattle.py_lines.specs.Meaning.{Meaning, Open, Close, Key, Word, Number, Text, Ref, Dash, Parts, number_within}
use Rattle.py_lines.specs.Parts.{Piece, Letters, Count, Jump}
use Rattle.py_lines.specs.Words.{is_byte, is_small}

-- how a flag is spelled
abbrev pub flag_text : RawFlag → List ℕ
flag_text flag.Gen = codes "gen"
flag_text flag.Coro = codes "coro"
flag_text flag.VarArgs = codes "varargs"
flag_text flag.VarKw = codes "varkw"
flag_text flag.NewLocals = codes "newlocals"
flag_text flag.Optimized = codes "optimized"

-- the token of a flag, of which one is a keyword too
abbrev pub flag_token : RawFlag → Meaning
flag_token flag.Gen = Key keyword.Gen
flag_token f = Word (flag_text f)

-- a number of at most 32 bits
abbrev pub small_token : ℕ → Meaning
small_token n = number_within is_small n

-- three of those
abbrev pub counts_tokens : ℕ × ℕ × ℕ → List Meaning
counts_tokens p = small_token p.0 ∷ small_token p.1 ∷ small_token p.2 ∷ []

-- a constant that holds no others is one token
abbrev pub raw_atom_token : RawAtom → Meaning
raw_atom_token atom.None = Key keyword.None
raw_atom_token (atom.Bool true) = Key keyword.True
raw_atom_token (atom.Bool false) = Key keyword.False
raw_atom_token (atom.Int n) = Number n
raw_atom_token (atom.Str s) = Text s

-- the items of a tuple and its end, in front of other tokens
abbrev pub tuple_tokens : List RawAtom → List Meaning → List Meaning
tuple_tokens [] behind = Close ∷ behind
tuple_tokens (a ∷ xs) behind = raw_atom_token a ∷ tuple_tokens xs behind

-- a constant in front of other tokens
abbrev pub const_tokens : RawConst → List Meaning → List Meaning
const_tokens (constant.Atom a) behind = raw_atom_token a ∷ behind
const_tokens (constant.Code x) behind = Ref x ∷ behind
const_tokens (constant.Tuple xs) behind = Open ∷ tuple_tokens xs behind

-- constants, likewise
abbrev pub consts_tokens : List RawConst → List Meaning → List Meaning
consts_tokens [] behind = behind
consts_tokens (c ∷ cs) behind = const_tokens c (consts_tokens cs behind)

-- the pieces of a kind
abbrev pub kind_pieces : Kind → List Piece
kind_pieces kind.Any = Letters (codes "any") ∷ []
kind_pieces kind.Str = Letters (codes "str") ∷ []
kind_pieces kind.Tuple = Letters (codes "tuple") ∷ []
kind_pieces kind.List = Letters (codes "list") ∷ []
kind_pieces kind.Set = Letters (codes "set") ∷ []
kind_pieces kind.Dict = Letters (codes "dict") ∷ []
kind_pieces kind.Exc = Letters (codes "exc") ∷ []
kind_pieces kind.Cell = Letters (codes "cell") ∷ []
kind_pieces (kind.Cells n) = Letters (codes "cells") ∷ Count n ∷ []
kind_pieces (kind.Names n) = Letters (codes "names") ∷ Count n ∷ []
kind_pieces (kind.Code n) = Letters (codes "code") ∷ Count n ∷ []

-- the pieces of a block
abbrev pub block_pieces : BlockNote → List Piece
block_pieces (block.Loop l) = Letters (codes "loop") ∷ Count l ∷ []
block_pieces (block.TryExcept l h) = Letters (codes "try") ∷ Count l ∷ Count h ∷ []
block_pieces (block.Finally l h) = Letters (codes "fin") ∷ Count l ∷ Count h ∷ []
block_pieces (block.FinallyHandler l ps) = Letters (codes "fh") ∷ Count l ∷ map Jump ps
block_pieces (block.ExceptHandler l) = Letters (codes "eh") ∷ Count l ∷ []

-- a comma list: a dash where it is empty, and one word alone is a name
abbrev pub parts_token : List (List Piece) → Meaning
parts_token [] = Dash
parts_token ((Letters w ∷ []) ∷ []) = Word w
parts_token ps = Parts (Some ps)

-- kinds, and blocks, the outermost first
abbrev pub kinds_token : List Kind → Meaning
kinds_token ks = parts_token (map kind_pieces ks)

abbrev pub blocks_token : List BlockNote → Meaning
blocks_token bs = parts_token (map block_pieces bs)

-- what holds in front of a unit, where control gets there
abbrev pub note_tokens : RawNote → List Meaning
note_tokens note.Dead = Word (codes "dead") ∷ []
note_tokens (note.Live ks bs) = kinds_token ks ∷ blocks_token bs ∷ []

-- the name of an instruction
abbrev pub instruction_token : Instruction → Meaning
instruction_token i = Word (instruction_text i)

-- the argument of a unit, which has 8 bits
abbrev pub byte_token : ℕ → Meaning
byte_token n = number_within is_byte n

-- an instruction, its argument, and what holds in front of it
abbrev pub unit_tokens : Instruction × ℕ × RawNote → List Meaning
unit_tokens p = instruction_token p.0 ∷ byte_token p.1 ∷ note_tokens p.2

-- a line: its word, and what stands behind it
abbrev pub raw_tokens : RawLine → List Meaning
raw_tokens (raw.Flags fs) = Word (codes "flags") ∷ map flag_token fs
raw_tokens (raw.Counts p a k) = Word (codes "counts") ∷ counts_tokens (p, a, k)
raw_tokens (raw.Vars xs) = Word (codes "vars") ∷ map Word xs
raw_tokens (raw.Cells xs) = Word (codes "cells") ∷ map Word xs
raw_tokens (raw.Frees xs) = Word (codes "frees") ∷ map Word xs
raw_tokens (raw.Names xs) = Word (codes "names") ∷ map Word xs
raw_tokens (raw.Consts cs) = Word (codes "consts") ∷ consts_tokens cs []
raw_tokens (raw.Depth n) = Word (codes "depth") ∷ small_token n ∷ []
raw_tokens (raw.Unit i a n) = Word (codes "u") ∷ unit_tokens (i, a, n)
