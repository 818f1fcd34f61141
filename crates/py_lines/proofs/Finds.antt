-- What is not found among tokens, from what is not found among those behind the first.
use Rattle.std.proofs.Common.{◌≡◌, ◌≢◌, ℕ, List, [], ◌∷◌, None, true, false, map, refl, sym, ◌∙◌, subst}
use Rattle.std.specs.Prelude.{Option, codes}
use Rattle.py_tree.specs.declared.body.BodyKind.{BodyKind}
use Rattle.py_tree.specs.declared.body.BodyKind.TheVariants as body
use Rattle.py_tree.specs.Tree.{Name, Operate}
use Rattle.py_tree.specs.declared.expr.Expr.{Expr as OwnExpr}
use Rattle.py_tree.specs.declared.expr.Atom.{Atom}
use Rattle.py_tree.specs.declared.expr.Atom.TheVariants as atom
use Rattle.py_lines.specs.declared.drive.DriveAtom.{DriveAtom}
use Rattle.py_lines.specs.declared.drive.DriveAtom.TheVariants as drive
use Rattle.py_lines.specs.declared.drive.DriveLine.{DriveLine}
use Rattle.py_lines.specs.declared.drive.DriveLine.TheVariants as drive_line
use Rattle.py_lines.specs.Statements as said
use Rattle.py_lines.specs.declared.head.Turn.{Turn}
use Rattle.py_lines.specs.declared.head.Turn.TheVariants as turn
use Rattle.py_lines.specs.declared.header.Header.{Header}
use Rattle.py_lines.specs.declared.header.Header.TheVariants as header
use Rattle.py_lines.specs.declared.keyword.Keyword.TheVariants as keyword
use Rattle.py_lines.specs.declared.raw.RawLine.{RawLine}
use Rattle.py_lines.specs.Line.{Line}
use Rattle.py_lines.specs.Line as line
use Rattle.py_lines.specs.declared.meaning.Sense.{Sense}
use Rattle.py_lines.specs.declared.meaning.Sense.TheVariants as sense
use Rattle.py_lines.specs.Statements.{Plain, Head}
use Rattle.py_lines.specs.Finding.{Prints, Shows, ShowsExpr, ShowsTarget}
use Rattle.py_lines.specs.Reading.{HeadIsLow, LineIsLow, PlainIsLow}
use Rattle.py_lines.specs.Meaning.{Meaning, Key, Word, Drive}
use Rattle.py_lines.specs.RawLines.{raw_tokens}
use Rattle.py_lines.specs.Senses.{meaning_of}
use Rattle.py_lines.specs.Printing.{atom_token, drive_token, number_token, plain_tokens, head_tokens, target_tokens, turn_tokens, body_keyword, header_tokens, thrown_tokens, drive_tokens, line_tokens}
use Rattle.py_lines.proofs.Expressions.{no_open}
use Rattle.py_lines.proofs.Alike.{other_word}

-- where nothing was found, none that may be found prints these
pub none_shows : {X Y T : Type 0} (view : Y → X) (May : X → Type 0) (printing : X → T) (ts : T) (r : Option Y) → r ≡ None → Shows view May printing ts r → (x : X) → May x → ts ≢ printing x
none_shows view May printing ts r is found = subst (Shows view May printing ts) is found

-- where nothing was found, no finding prints these
pub none_prints : {X T : Type 0} (printing : X → T) (ts : T) (r : Option X) → r ≡ None → Prints printing ts r → (x : X) → ts ≢ printing x
none_prints printing ts r is found = subst (Prints printing ts) is found

-- a header has a name and names behind its word
pub no_def : (k : BodyKind) (ts : List Meaning) (r : Option (Name × List Name)) → r ≡ None → Prints (λ p. Word p.0 ∷ map Word p.1) ts r
    → (h : Header) → Key (body_keyword k) ∷ ts ≢ header_tokens h
no_def k ts r is found (header.Def j f ps) e = none_prints (λ p. Word p.0 ∷ map Word p.1) ts r is found (f, ps) (cc)
no_def body.Function ts r is found h e = cc
no_def body.Generator ts r is found h e = cc

pub no_code : (ts : List Meaning) (r : Option (Name × List Name)) → r ≡ None → Prints (λ p. Word p.0 ∷ map Word p.1) ts r → (h : Header) → Key keyword.Code ∷ ts ≢ header_tokens h
no_code ts r is found (header.Code f ps) e = none_prints (λ p. Word p.0 ∷ map Word p.1) ts r is found (f, ps) (cc)
no_code ts r is found (header.Def body.Function f ps) e = cc
no_code ts r is found (header.Def body.Generator f ps) e = cc
no_code ts r is found h e = cc

-- a `class` has two names behind it
pub no_class : (ts : List Meaning) (r : Option (Name × Name)) → r ≡ None → Prints (λ p. Word p.0 ∷ Word p.1 ∷ []) ts r → (h : Header) → Key keyword.Class ∷ ts ≢ header_tokens h
no_class ts r is found (header.Class c b) e = none_prints (λ p. Word p.0 ∷ Word p.1 ∷ []) ts r is found (c, b) (cc)
no_class ts r is found (header.Def body.Function f ps) e = cc
no_class ts r is found (header.Def body.Generator f ps) e = cc
no_class ts r is found h e = cc

-- a name with no two names behind it is not the first of three
pub no_three : (t : Meaning) (ts all : List Meaning) (r : Option (Name × Name)) → all ≡ t ∷ ts → r ≡ None → Prints (λ p. Word p.0 ∷ Word p.1 ∷ []) ts r → (x : Name × Name × Name) → all ≢ Word x.0 ∷ Word x.1 ∷ Word x.2 ∷ []
no_three t ts all r cut is found x e = none_prints (λ p. Word p.0 ∷ Word p.1 ∷ []) ts r is found (x.1, x.2) (cc)

-- a `manager` has three
pub no_manager : (ts : List Meaning) (r : Option (Name × Name × Name)) → r ≡ None → Prints (λ p. Word p.0 ∷ Word p.1 ∷ Word p.2 ∷ []) ts r → (h : Header) → Key keyword.Manager ∷ ts ≢ header_tokens h
no_manager ts r is found (header.Manager m n x) e = none_prints (λ p. Word p.0 ∷ Word p.1 ∷ Word p.2 ∷ []) ts r is found (m, n, x) (cc)
no_manager ts r is found (header.Def body.Function f ps) e = cc
no_manager ts r is found (header.Def body.Generator f ps) e = cc
no_manager ts r is found h e = cc

-- a `with` has an expression, and behind it nothing or `as` and a name
pub no_with : (ts : List Meaning) (r : Option (OwnExpr × Option Name)) → r ≡ None → ShowsTarget ts r → (h : Head) → HeadIsLow h → Key keyword.With ∷ ts ≢ head_tokens h
no_with ts r is found (said.With a x) low e = (subst (ShowsTarget ts) is found) (a, x) low (cc)
no_with ts r is found h low e = cc

-- an `except` has a class, and behind it nothing or `as` and a name
pub no_except : (ts : List Meaning) (r : Option (Name × Option Name)) → r ≡ None → Prints (λ p. Word p.0 ∷ target_tokens p.1) ts r → (t : Turn) → Key keyword.Except ∷ ts ≢ turn_tokens t
no_except ts r is found (turn.Except c x) e = none_prints (λ p. Word p.0 ∷ target_tokens p.1) ts r is found (c, x) (cc)
no_except ts r is found t e = cc

-- the drive `call` has a name and arguments behind it
pub no_call : (ts : List Meaning) (r : Option (Name × List DriveAtom)) → r ≡ None → Prints (λ p. Word p.0 ∷ map drive_token p.1) ts r → (d : DriveLine) → Word (codes "call") ∷ ts ≢ drive_tokens d
no_call ts r is found (drive_line.Call f args) e = none_prints (λ p. Word p.0 ∷ map drive_token p.1) ts r is found (f, args) (cc)
no_call ts r is found d e = other_word _ _ refl _ _ e

-- `send` has a number and an argument
pub no_send : (ts : List Meaning) (r : Option (ℕ × DriveAtom)) → r ≡ None → Prints (λ p. number_token p.0 ∷ drive_token p.1 ∷ []) ts r → (d : DriveLine) → Word (codes "send") ∷ ts ≢ drive_tokens d
no_send ts r is found (drive_line.Send n a) e = none_prints (λ p. number_token p.0 ∷ drive_token p.1 ∷ []) ts r is found (n, a) (cc)
no_send ts r is found d e = other_word _ _ refl _ _ e

-- `throw` has a number, and behind it a class, and a value or none
pub no_throw : (m : ℕ) (ts : List Meaning) (r : Option (Name × Option DriveAtom)) → r ≡ None → Prints (λ p. Word p.0 ∷ thrown_tokens p.1) ts r
    → (d : DriveLine) → Word (codes "throw") ∷ number_token m ∷ ts ≢ drive_tokens d
no_throw m ts r is found (drive_line.Throw n c v) e = none_prints (λ p. Word p.0 ∷ thrown_tokens p.1) ts r is found (c, v) (cc)
no_throw m ts r is found d e = other_word _ _ refl _ _ e

-- an argument of a drive is an atom, or the number of a drive
pub no_argument : (m : Meaning) → ((a : Atom) → m ≢ atom_token a) → ((n : ℕ) → m ≢ Drive n) → (x : DriveAtom) → m ≢ drive_token x
no_argument m none other drive.None e = none atom.None e
no_argument m none other (drive.Bool true) e = none (atom.Bool true) e
no_argument m none other (drive.Bool false) e = none (atom.Bool false) e
no_argument m none other (drive.Int n) e = none (atom.Int n) e
no_argument m none other (drive.Str s) e = none (atom.Str s) e
no_argument m none other (drive.Name x) e = none (atom.Name x) e
no_argument m none other (drive.Drive n) e = other n e

pub no_drive : (s : Sense) → ((n : ℕ) → s ≢ sense.Drive n) → (n : ℕ) → meaning_of s ≢ Drive n
no_drive (sense.Drive k) other n e = absurd (other k refl)
no_drive s other n e = cc

-- a line is of one of the classes
pub no_line : (ts : List Meaning) → ((p : Plain) → PlainIsLow p → ts ≢ plain_tokens p) → ((h : Head) → HeadIsLow h → ts ≢ head_tokens h) → ((t : Turn) → ts ≢ turn_tokens t) → ((h : Header) → ts ≢ header_tokens h)
    → ((d : DriveLine) → ts ≢ drive_tokens d) → ((r : RawLine) → ts ≢ raw_tokens r) → (ts ≢ Key keyword.End ∷ []) → (l : Line) → LineIsLow l → ts ≢ line_tokens l
no_line ts plain head turn header drive raw end line.End low = end
no_line ts plain head turn header drive raw end (line.Plain p) low = plain p low
no_line ts plain head turn header drive raw end (line.Opens h) low = head h low
no_line ts plain head turn header drive raw end (line.Turns t) low = turn t
no_line ts plain head turn header drive raw end (line.Header h) low = header h
no_line ts plain head turn header drive raw end (line.Drive d) low = drive d
no_line ts plain head turn header drive raw end (line.Raw r) low = raw r

behind_do : (ts us : List Meaning) → Key keyword.Do ∷ ts ≡ Key keyword.Do ∷ us → ts ≡ us
behind_do ts us e = cc

-- a `do` has an operation, and no atom
pub no_do : (ts : List Meaning) (r : Option OwnExpr) → r ≡ None → ShowsExpr ts r → (p : Plain) → PlainIsLow p → Key keyword.Do ∷ ts ≢ plain_tokens p
no_do ts r is found (said.Do o es) low e = (subst (ShowsExpr ts) is found) (Operate o es) low (cc)
no_do ts r is found p low e = cc

pub no_do_atom : (ts : List Meaning) (a : Atom) → ts ≡ atom_token a ∷ [] → (p : Plain) → PlainIsLow p → Key keyword.Do ∷ ts ≢ plain_tokens p
no_do_atom ts a is (said.Do o es) low e = no_open a [] _ (sym is ∙ behind_do ts _ e)
no_do_atom ts a is p low e = cc
