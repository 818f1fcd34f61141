-- That no two lines print the same tokens, class by class.
use Rattle.std.proofs.Common.{◌≡◌, ◌≢◌, [], true, false, refl, sym, ap, ◌∙◌, Some, None}
use Rattle.std.specs.Prelude.{Option}
use Rattle.py_tree.specs.declared.body.BodyKind.TheVariants as body
use Rattle.py_tree.specs.Tree.{Name, Expr, Operate}
use Rattle.py_lines.specs.declared.drive.DriveAtom.{DriveAtom}
use Rattle.py_lines.specs.declared.drive.DriveAtom.TheVariants as drive
use Rattle.py_lines.specs.declared.drive.DriveLine.{DriveLine}
use Rattle.py_lines.specs.declared.drive.DriveLine.TheVariants as drive_line
use Rattle.py_lines.specs.declared.head.Turn.{Turn}
use Rattle.py_lines.specs.declared.head.Turn.TheVariants as turn
use Rattle.py_lines.specs.declared.header.Header.{Header}
use Rattle.py_lines.specs.declared.header.Header.TheVariants as header
use Rattle.py_lines.specs.declared.keyword.Keyword.TheVariants as keyword
use Rattle.py_lines.specs.Line.{Line}
use Rattle.py_lines.specs.Line as line
use Rattle.py_lines.specs.Statements.{Plain, Head}
use Rattle.py_lines.specs.Statements as said
use Rattle.py_lines.specs.Meaning.{Meaning, Key, Word, Number, Text, Drive}
use Rattle.py_lines.specs.Words.{is_short}
use Rattle.py_lines.specs.Printing.{drive_token, expr_tokens, plain_tokens, head_tokens, target_tokens, turn_tokens, header_tokens, thrown_tokens, drive_tokens, line_tokens}
use Rattle.py_lines.proofs.Alike.{same_all, same_names, other_word}
use Rattle.py_lines.proofs.Classes.{line_class, same_class}
use Rattle.py_lines.proofs.Counts.{same_count}
use Rattle.py_lines.proofs.Expressions.{one_expr}
use Rattle.py_lines.proofs.RawOneToOne.{same_raw}

-- the argument of a drive that prints a token
abbrev pub token_drive : Meaning → Option DriveAtom
token_drive (Key keyword.None) = Some drive.None
token_drive (Key keyword.True) = Some (drive.Bool true)
token_drive (Key keyword.False) = Some (drive.Bool false)
token_drive (Number n) = Some (drive.Int n)
token_drive (Text s) = Some (drive.Str s)
token_drive (Word x) = Some (drive.Name x)
token_drive (Drive n) = Some (drive.Drive n)
token_drive t = None

drive_back : (a : DriveAtom) → token_drive (drive_token a) ≡ Some a
drive_back (drive.Bool true) = refl
drive_back (drive.Bool false) = refl
drive_back a = refl

pub no_drive_atom : (t : Meaning) → token_drive t ≡ None → (a : DriveAtom) → t ≢ drive_token a
no_drive_atom t none a e = let h : None ≡ Some a = sym none ∙ ap token_drive e ∙ drive_back a in cc h

same_drive_atom : (a b : DriveAtom) → drive_token a ≡ drive_token b → a ≡ b
same_drive_atom a b e = let h : Some a ≡ Some b = sym (drive_back a) ∙ ap token_drive e ∙ drive_back b in cc h

-- an expression with nothing behind it
same_expr : (e f : Expr) → expr_tokens e [] ≡ expr_tokens f [] → e ≡ f
same_expr e f h = (one_expr e f [] [] h).0

same_plain : (p q : Plain) → plain_tokens p ≡ plain_tokens q → p ≡ q
same_plain (said.Assign x e) (said.Assign y f) h = let k : e ≡ f = same_expr e f (cc) in cc
same_plain (said.Do o es) (said.Do p fs) h = let k : Operate o es ≡ Operate p fs = same_expr (Operate o es) (Operate p fs) (cc) in cc
same_plain (said.Show e) (said.Show f) h = ap said.Show (same_expr e f (cc))
same_plain (said.Return e) (said.Return f) h = ap said.Return (same_expr e f (cc))
same_plain (said.Raise e) (said.Raise f) h = ap said.Raise (same_expr e f (cc))
same_plain said.Reraise said.Reraise h = refl
same_plain said.Break said.Break h = refl
same_plain said.Continue said.Continue h = refl
same_plain said.Pass said.Pass h = refl
same_plain p q h = cc

same_target : (x y : Option Name) → target_tokens x ≡ target_tokens y → x ≡ y
same_target None None e = refl
same_target None (Some y) e = cc
same_target (Some x) None e = cc
same_target (Some x) (Some y) e = cc

same_head : (h k : Head) → head_tokens h ≡ head_tokens k → h ≡ k
same_head (said.If e) (said.If f) h = ap said.If (same_expr e f (cc))
same_head (said.While e) (said.While f) h = ap said.While (same_expr e f (cc))
same_head (said.With e x) (said.With f y) h =
    let (k, behind) = one_expr e f (target_tokens x) (target_tokens y) (cc) in
    let j : x ≡ y = same_target x y behind in
    cc
same_head said.Try said.Try e = refl
same_head h k e = cc

same_turn : (t u : Turn) → turn_tokens t ≡ turn_tokens u → t ≡ u
same_turn turn.Else turn.Else e = refl
same_turn (turn.Except c x) (turn.Except d y) e = let k : x ≡ y = same_target x y (cc) in cc
same_turn turn.Finally turn.Finally e = refl
same_turn t u e = cc

same_header : (h k : Header) → header_tokens h ≡ header_tokens k → h ≡ k
same_header (header.Def body.Function f ps) (header.Def body.Function g qs) e = let k : ps ≡ qs = same_names ps qs (cc) in cc
same_header (header.Def body.Generator f ps) (header.Def body.Generator g qs) e = let k : ps ≡ qs = same_names ps qs (cc) in cc
same_header (header.Code f ps) (header.Code g qs) e = let k : ps ≡ qs = same_names ps qs (cc) in cc
same_header (header.Def body.Function f ps) k e = cc
same_header (header.Def body.Generator f ps) k e = cc
same_header h (header.Def body.Function g qs) e = cc
same_header h (header.Def body.Generator g qs) e = cc
same_header h k e = cc

same_thrown : (v w : Option DriveAtom) → thrown_tokens v ≡ thrown_tokens w → v ≡ w
same_thrown None None e = refl
same_thrown None (Some b) e = cc
same_thrown (Some a) None e = cc
same_thrown (Some a) (Some b) e = let h : a ≡ b = same_drive_atom a b (cc) in cc

same_drive : (d e : DriveLine) → drive_tokens d ≡ drive_tokens e → d ≡ e
same_drive (drive_line.Call f xs) (drive_line.Call g ys) h = let k : xs ≡ ys = same_all drive_token same_drive_atom xs ys (cc) in cc
same_drive (drive_line.Next m) (drive_line.Next n) h = let k : m ≡ n = same_count is_short m n (cc) in cc
same_drive (drive_line.Send m a) (drive_line.Send n b) h = let j : m ≡ n = same_count is_short m n (cc) in let k : a ≡ b = same_drive_atom a b (cc) in cc
same_drive (drive_line.Throw m c v) (drive_line.Throw n d w) h = let j : m ≡ n = same_count is_short m n (cc) in let k : v ≡ w = same_thrown v w (cc) in cc
same_drive (drive_line.Close m) (drive_line.Close n) h = let k : m ≡ n = same_count is_short m n (cc) in cc
same_drive (drive_line.Report m) (drive_line.Report n) h = let k : m ≡ n = same_count is_short m n (cc) in cc
same_drive d e h = absurd (other_word _ _ refl _ _ h)

-- no two lines print the same tokens
pub same_line : (l m : Line) → line_tokens l ≡ line_tokens m → l ≡ m
same_line l m e = go l m (same_class l m e) e
  where
    go : (l m : Line) → line_class l ≡ line_class m → line_tokens l ≡ line_tokens m → l ≡ m
    go line.End line.End c e = refl
    go (line.Plain p) (line.Plain q) c e = ap line.Plain (same_plain p q e)
    go (line.Opens h) (line.Opens k) c e = ap line.Opens (same_head h k e)
    go (line.Turns t) (line.Turns u) c e = ap line.Turns (same_turn t u e)
    go (line.Header h) (line.Header k) c e = ap line.Header (same_header h k e)
    go (line.Drive d) (line.Drive f) c e = ap line.Drive (same_drive d f e)
    go (line.Raw r) (line.Raw s) c e = ap line.Raw (same_raw r s e)
    go l m c e = cc
