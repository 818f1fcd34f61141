-- The tokens that a line prints.
use Rattle.std.specs.Prelude.{ℕ, List, [], ◌∷◌, true, false, Option, Some, None, codes, map}
use Rattle.py_tree.specs.declared.body.BodyKind.{BodyKind}
use Rattle.py_tree.specs.declared.body.BodyKind.TheVariants as body
use Rattle.py_tree.specs.declared.expr.Atom.{Atom}
use Rattle.py_tree.specs.declared.expr.Atom.TheVariants as atom
use Rattle.py_tree.specs.declared.expr.Operator.{Operator}
use Rattle.py_tree.specs.declared.expr.Operator.TheVariants as operator
use Rattle.py_tree.specs.Tree.{Name, Expr, Leaf, Operate, Exprs, no_operands, operand}
use Rattle.py_lines.specs.declared.drive.DriveAtom.{DriveAtom}
use Rattle.py_lines.specs.declared.drive.DriveAtom.TheVariants as drive
use Rattle.py_lines.specs.declared.drive.DriveLine.{DriveLine}
use Rattle.py_lines.specs.declared.drive.DriveLine.TheVariants as drive_line
use Rattle.py_lines.specs.declared.head.Turn.{Turn}
use Rattle.py_lines.specs.declared.head.Turn.TheVariants as turn
use Rattle.py_lines.specs.declared.header.Header.{Header}
use Rattle.py_lines.specs.declared.header.Header.TheVariants as header
use Rattle.py_lines.specs.declared.keyword.Keyword.{Keyword}
use Rattle.py_lines.specs.declared.keyword.Keyword.TheVariants as keyword
use Rattle.py_lines.specs.Statements.{Plain, Head}
use Rattle.py_lines.specs.Statements as said
use Rattle.py_lines.specs.Line.{Line}
use Rattle.py_lines.specs.Line as line
use Rattle.py_lines.specs.Meaning.{Meaning, Open, Close, Equals, Key, Word, Number, Text, Drive, number_within}
use Rattle.py_lines.specs.RawLines.{raw_tokens}
use Rattle.py_lines.specs.Words.{is_short}

-- an atom is one token
abbrev pub atom_token : Atom → Meaning
atom_token atom.None = Key keyword.None
atom_token (atom.Bool true) = Key keyword.True
atom_token (atom.Bool false) = Key keyword.False
atom_token (atom.Int n) = Number n
atom_token (atom.Str s) = Text s
atom_token (atom.Name x) = Word x

-- so is an argument of a drive
abbrev pub drive_token : DriveAtom → Meaning
drive_token drive.None = Key keyword.None
drive_token (drive.Bool true) = Key keyword.True
drive_token (drive.Bool false) = Key keyword.False
drive_token (drive.Int n) = Number n
drive_token (drive.Str s) = Text s
drive_token (drive.Name x) = Word x
drive_token (drive.Drive n) = Drive n

-- the number of the drive that another one goes on with, which has at most 64 bits
abbrev pub number_token : ℕ → Meaning
number_token n = number_within is_short n

abbrev pub operator_word : Operator → List ℕ
operator_word operator.Add = codes "add"
operator_word operator.Sub = codes "sub"
operator_word operator.Lt = codes "lt"
operator_word operator.Eq = codes "eq"
operator_word operator.Send = codes "send"
operator_word operator.Throw = codes "throw"
operator_word operator.Close = codes "close"
operator_word operator.Yield = codes "yield"
operator_word operator.Call = codes "call"

abbrev mutual
  -- an expression in front of other tokens
  pub expr_tokens : Expr → List Meaning → List Meaning
  expr_tokens (Leaf a) behind = atom_token a ∷ behind
  expr_tokens (Operate o es) behind = Open ∷ Word (operator_word o) ∷ exprs_tokens es (Close ∷ behind)

  pub exprs_tokens : Exprs → List Meaning → List Meaning
  exprs_tokens no_operands behind = behind
  exprs_tokens (operand e es) behind = expr_tokens e (exprs_tokens es behind)

abbrev pub plain_tokens : Plain → List Meaning
plain_tokens (said.Assign x e) = Word x ∷ Equals ∷ expr_tokens e []
plain_tokens (said.Do o es) = Key keyword.Do ∷ expr_tokens (Operate o es) []
plain_tokens (said.Show e) = Key keyword.Show ∷ expr_tokens e []
plain_tokens (said.Return e) = Key keyword.Return ∷ expr_tokens e []
plain_tokens (said.Raise e) = Key keyword.Raise ∷ expr_tokens e []
plain_tokens said.Reraise = Key keyword.Reraise ∷ []
plain_tokens said.Break = Key keyword.Break ∷ []
plain_tokens said.Continue = Key keyword.Continue ∷ []
plain_tokens said.Pass = Key keyword.Pass ∷ []

-- the name that a clause or a `with` binds, behind `as`, which is a name too
abbrev pub target_tokens : Option Name → List Meaning
target_tokens None = []
target_tokens (Some x) = Word (codes "as") ∷ Word x ∷ []

abbrev pub head_tokens : Head → List Meaning
head_tokens (said.If e) = Key keyword.If ∷ expr_tokens e []
head_tokens (said.While e) = Key keyword.While ∷ expr_tokens e []
head_tokens said.Try = Key keyword.Try ∷ []
head_tokens (said.With e x) = Key keyword.With ∷ expr_tokens e (target_tokens x)

abbrev pub turn_tokens : Turn → List Meaning
turn_tokens turn.Else = Key keyword.Else ∷ []
turn_tokens (turn.Except c x) = Key keyword.Except ∷ Word c ∷ target_tokens x
turn_tokens turn.Finally = Key keyword.Finally ∷ []

-- the word that declares a body of this kind
abbrev pub body_keyword : BodyKind → Keyword
body_keyword body.Function = keyword.Def
body_keyword body.Generator = keyword.Gen

abbrev pub header_tokens : Header → List Meaning
header_tokens (header.Def k f ps) = Key (body_keyword k) ∷ Word f ∷ map Word ps
header_tokens (header.Code f ps) = Key keyword.Code ∷ Word f ∷ map Word ps
header_tokens (header.Class c b) = Key keyword.Class ∷ Word c ∷ Word b ∷ []
header_tokens (header.Manager m e x) = Key keyword.Manager ∷ Word m ∷ Word e ∷ Word x ∷ []

-- the value that is thrown with a class, where there is one
abbrev pub thrown_tokens : Option DriveAtom → List Meaning
thrown_tokens None = []
thrown_tokens (Some a) = drive_token a ∷ []

abbrev pub drive_tokens : DriveLine → List Meaning
drive_tokens (drive_line.Call f args) = Word (codes "call") ∷ Word f ∷ map drive_token args
drive_tokens (drive_line.Next n) = Word (codes "next") ∷ number_token n ∷ []
drive_tokens (drive_line.Send n a) = Word (codes "send") ∷ number_token n ∷ drive_token a ∷ []
drive_tokens (drive_line.Throw n c v) = Word (codes "throw") ∷ number_token n ∷ Word c ∷ thrown_tokens v
drive_tokens (drive_line.Close n) = Word (codes "close") ∷ number_token n ∷ []
drive_tokens (drive_line.Report n) = Word (codes "report") ∷ number_token n ∷ []

-- the tokens of a line
abbrev pub line_tokens : Line → List Meaning
line_tokens line.End = Key keyword.End ∷ []
line_tokens (line.Plain p) = plain_tokens p
line_tokens (line.Opens h) = head_tokens h
line_tokens (line.Turns t) = turn_tokens t
line_tokens (line.Header h) = header_tokens h
line_tokens (line.Drive d) = drive_tokens d
line_tokens (line.Raw r) = raw_tokens r
