-- Each token that a line prints means something.
use Rattle.std.proofs.Common.{◌≡◌, ℕ, List, [], ◌∷◌, Bool, true, false, Some, None, refl, ap, ◌∙◌}
use Rattle.std.specs.Prelude.{◌&&◌, Option, map}
use Rattle.std.specs.List.{list_all}
use Rattle.py_tree.specs.declared.expr.Atom.{Atom}
use Rattle.py_tree.specs.declared.expr.Atom.TheVariants as atom
use Rattle.py_tree.specs.Tree.{Name, Expr, Leaf, Operate, Exprs, no_operands, operand}
use Rattle.py_lines.specs.declared.drive.DriveAtom.{DriveAtom}
use Rattle.py_lines.specs.declared.drive.DriveAtom.TheVariants as argument
use Rattle.py_lines.specs.declared.drive.DriveLine.{DriveLine}
use Rattle.py_lines.specs.declared.drive.DriveLine.TheVariants as drive
use Rattle.py_lines.specs.declared.head.Turn.{Turn}
use Rattle.py_lines.specs.declared.head.Turn.TheVariants as turn
use Rattle.py_lines.specs.declared.header.Header.{Header}
use Rattle.py_lines.specs.declared.header.Header.TheVariants as header
use Rattle.py_lines.specs.declared.constant.RawAtom.{RawAtom}
use Rattle.py_lines.specs.declared.constant.RawAtom.TheVariants as raw_atom
use Rattle.py_lines.specs.declared.constant.RawConst.{RawConst}
use Rattle.py_lines.specs.declared.constant.RawConst.TheVariants as constant
use Rattle.py_lines.specs.declared.flag.RawFlag.{RawFlag}
use Rattle.py_lines.specs.declared.flag.RawFlag.TheVariants as flag
use Rattle.py_lines.specs.declared.raw.RawLine.{RawLine}
use Rattle.py_lines.specs.declared.raw.RawLine.TheVariants as raw
use Rattle.py_lines.specs.Line.{Line}
use Rattle.py_lines.specs.Line as line
use Rattle.py_lines.specs.Statements.{Plain, Head}
use Rattle.py_lines.specs.Statements as said
use Rattle.py_lines.specs.Meaning.{Meaning, Close as Closes, Parts, Word as Named, number_within}
use Rattle.py_lines.specs.RawLines.{block_pieces, blocks_token, byte_token, const_tokens, consts_tokens, flag_token, kind_pieces, kinds_token, note_tokens, parts_token, raw_atom_token, raw_tokens, small_token, tuple_tokens}
use Rattle.py_lines.specs.Printing.{atom_token, drive_token, number_token, expr_tokens, exprs_tokens, plain_tokens, target_tokens, head_tokens, turn_tokens, header_tokens, thrown_tokens, drive_tokens, line_tokens}
use Rattle.py_lines.specs.Words.{is_byte, is_short, is_small}
use Rattle.py_lines.proofs.Counts.{printed}
use Rattle.py_lines.specs.declared.unit.RawNote.{RawNote}
use Rattle.py_lines.specs.declared.unit.RawNote.TheVariants as note
use Rattle.py_lines.specs.Parts.{Piece, Letters}

-- whether a token means something
abbrev pub is_known : Meaning → Bool
is_known (Parts None) = false
is_known _ = true

abbrev AllKnown : List Meaning → Type 0
AllKnown ts = list_all is_known ts ≡ true

known_and : (t : Meaning) (ts : List Meaning) → is_known t ≡ true → AllKnown ts → AllKnown (t ∷ ts)
known_and t ts h k = ap (λ b. b && list_all is_known ts) h ∙ k

known_map : {X : Type 0} (f : X → Meaning) → ((x : X) → is_known (f x) ≡ true) → (xs : List X) → AllKnown (map f xs)
known_map f h [] = refl
known_map f h (x ∷ xs) = known_and (f x) (map f xs) (h x) (known_map f h xs)

atom_known : (a : Atom) → is_known (atom_token a) ≡ true
atom_known (atom.Bool true) = refl
atom_known (atom.Bool false) = refl
atom_known _ = refl

argument_known : (a : DriveAtom) → is_known (drive_token a) ≡ true
argument_known (argument.Bool true) = refl
argument_known (argument.Bool false) = refl
argument_known _ = refl

mutual
  expr_known : (e : Expr) (behind : List Meaning) → AllKnown behind → AllKnown (expr_tokens e behind)
  expr_known (Leaf a) behind h = known_and (atom_token a) behind (atom_known a) h
  expr_known (Operate o es) behind h = exprs_known es (Closes ∷ behind) h

  exprs_known : (es : Exprs) (behind : List Meaning) → AllKnown behind → AllKnown (exprs_tokens es behind)
  exprs_known no_operands behind h = h
  exprs_known (operand e es) behind h = expr_known e (exprs_tokens es behind) (exprs_known es behind h)

plain_known : (p : Plain) → AllKnown (plain_tokens p)
plain_known (said.Assign x e) = expr_known e [] refl
plain_known (said.Do o es) = expr_known (Operate o es) [] refl
plain_known (said.Show e) = expr_known e [] refl
plain_known (said.Return e) = expr_known e [] refl
plain_known (said.Raise e) = expr_known e [] refl
plain_known _ = refl

target_known : (x : Option Name) → AllKnown (target_tokens x)
target_known None = refl
target_known (Some x) = refl

head_known : (h : Head) → AllKnown (head_tokens h)
head_known (said.If e) = expr_known e [] refl
head_known (said.While e) = expr_known e [] refl
head_known said.Try = refl
head_known (said.With e x) = expr_known e (target_tokens x) (target_known x)

turn_known : (t : Turn) → AllKnown (turn_tokens t)
turn_known turn.Else = refl
turn_known (turn.Except c x) = target_known x
turn_known turn.Finally = refl

header_known : (h : Header) → AllKnown (header_tokens h)
header_known (header.Def k f ps) = known_map Named (λ x. refl) ps
header_known (header.Code f ps) = known_map Named (λ x. refl) ps
header_known (header.Class c b) = refl
header_known (header.Manager m e x) = refl

thrown_known : (a : Option DriveAtom) → AllKnown (thrown_tokens a)
thrown_known None = refl
thrown_known (Some a) = known_and (drive_token a) [] (argument_known a) refl

number_known : (fits : ℕ → Bool) (n : ℕ) → is_known (number_within fits n) ≡ true
number_known fits n = at (fits n)
  where
    at : (short : Bool) → is_known (printed short n) ≡ true
    at true = refl
    at false = refl

drive_known : (d : DriveLine) → AllKnown (drive_tokens d)
drive_known (drive.Call f args) = known_map drive_token argument_known args
drive_known (drive.Next n) = known_and (number_token n) [] (number_known is_short n) refl
drive_known (drive.Send n a) = known_and (number_token n) (drive_token a ∷ []) (number_known is_short n) (known_and (drive_token a) [] (argument_known a) refl)
drive_known (drive.Throw n c v) = known_and (number_token n) (Named c ∷ thrown_tokens v) (number_known is_short n) (thrown_known v)
drive_known (drive.Close n) = known_and (number_token n) [] (number_known is_short n) refl
drive_known (drive.Report n) = known_and (number_token n) [] (number_known is_short n) refl

flag_known : (f : RawFlag) → is_known (flag_token f) ≡ true
flag_known flag.Gen = refl
flag_known f = refl

names_known : (xs : List Name) → AllKnown (map Named xs)
names_known = known_map Named (λ x. refl)

raw_atom_known : (a : RawAtom) → is_known (raw_atom_token a) ≡ true
raw_atom_known (raw_atom.Bool true) = refl
raw_atom_known (raw_atom.Bool false) = refl
raw_atom_known _ = refl

tuple_known : (xs : List RawAtom) (behind : List Meaning) → AllKnown behind → AllKnown (tuple_tokens xs behind)
tuple_known [] behind h = h
tuple_known (a ∷ xs) behind h = known_and (raw_atom_token a) (tuple_tokens xs behind) (raw_atom_known a) (tuple_known xs behind h)

const_known : (c : RawConst) (behind : List Meaning) → AllKnown behind → AllKnown (const_tokens c behind)
const_known (constant.Atom a) behind h = known_and (raw_atom_token a) behind (raw_atom_known a) h
const_known (constant.Code x) behind h = h
const_known (constant.Tuple xs) behind h = tuple_known xs behind h

consts_known : (cs : List RawConst) → AllKnown (consts_tokens cs [])
consts_known [] = refl
consts_known (c ∷ cs) = const_known c (consts_tokens cs []) (consts_known cs)

parts_known : (ps : List (List Piece)) → is_known (parts_token ps) ≡ true
parts_known [] = refl
parts_known ((Letters w ∷ []) ∷ []) = refl
parts_known ps = refl

note_known : (n : RawNote) → AllKnown (note_tokens n)
note_known note.Dead = refl
note_known (note.Live ks bs) =
    known_and (kinds_token ks) (blocks_token bs ∷ []) (parts_known (map kind_pieces ks)) (known_and (blocks_token bs) [] (parts_known (map block_pieces bs)) refl)

raw_known : (r : RawLine) → AllKnown (raw_tokens r)
raw_known (raw.Flags fs) = known_map flag_token flag_known fs
raw_known (raw.Counts p a k) =
    known_and (small_token p) (small_token a ∷ small_token k ∷ []) (number_known is_small p)
    (known_and (small_token a) (small_token k ∷ []) (number_known is_small a) (known_and (small_token k) [] (number_known is_small k) refl))
raw_known (raw.Vars xs) = names_known xs
raw_known (raw.Cells xs) = names_known xs
raw_known (raw.Frees xs) = names_known xs
raw_known (raw.Names xs) = names_known xs
raw_known (raw.Consts cs) = consts_known cs
raw_known (raw.Unit i a n) = known_and (byte_token a) (note_tokens n) (number_known is_byte a) (note_known n)
raw_known (raw.Depth n) = known_and (small_token n) [] (number_known is_small n) refl

pub line_known : (l : Line) → AllKnown (line_tokens l)
line_known line.End = refl
line_known (line.Plain p) = plain_known p
line_known (line.Opens h) = head_known h
line_known (line.Turns t) = turn_known t
line_known (line.Header h) = header_known h
line_known (line.Drive d) = drive_known d
line_known (line.Raw r) = raw_known r
