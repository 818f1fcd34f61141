-- Of which class a line is, by the tokens that it prints.
use Rattle.std.proofs.Common.{◌≡◌, ◌≢◌, ℕ, Bool, true, false, List, [], ◌∷◌, Some, None, refl, sym, ap, ◌∙◌, map, bytes_eq}
use Rattle.std.specs.Prelude.{Option, codes, if◌then◌else◌}
use Rattle.std.specs.List.{list_any}
use Rattle.py_tree.specs.Tree.{Name}
use Rattle.py_tree.specs.declared.body.BodyKind.TheVariants as body
use Rattle.py_lines.specs.declared.drive.DriveLine.{DriveLine}
use Rattle.py_lines.specs.declared.drive.DriveLine.TheVariants as drive_line
use Rattle.py_lines.specs.declared.head.Turn.{Turn}
use Rattle.py_lines.specs.declared.head.Turn.TheVariants as turn
use Rattle.py_lines.specs.declared.header.Header.{Header}
use Rattle.py_lines.specs.declared.header.Header.TheVariants as header
use Rattle.py_lines.specs.declared.keyword.Keyword.{Keyword}
use Rattle.py_lines.specs.declared.keyword.Keyword.TheVariants as keyword
use Rattle.py_lines.specs.declared.constant.RawAtom.TheVariants as raw_atom
use Rattle.py_lines.specs.declared.constant.RawConst.{RawConst}
use Rattle.py_lines.specs.declared.constant.RawConst.TheVariants as constant
use Rattle.py_lines.specs.declared.flag.RawFlag.{RawFlag}
use Rattle.py_lines.specs.declared.flag.RawFlag.TheVariants as flag
use Rattle.py_lines.specs.declared.raw.RawLine.{RawLine}
use Rattle.py_lines.specs.declared.raw.RawLine.TheVariants as raw
use Rattle.py_lines.specs.Line.{Line}
use Rattle.py_lines.specs.Line as line
use Rattle.py_lines.specs.Statements.{Plain, Head}
use Rattle.py_lines.specs.Statements as said
use Rattle.py_lines.specs.Meaning.{Meaning, Equals, Key, Word, number_within}
use Rattle.py_lines.specs.Printing.{drive_token, number_token, thrown_tokens, plain_tokens, head_tokens, turn_tokens, header_tokens, drive_tokens, line_tokens}
use Rattle.py_lines.specs.RawLines.{consts_tokens, flag_token, raw_tokens, small_token}
use Rattle.py_lines.specs.Words.{is_short, is_small}
use Rattle.py_lines.proofs.Counts.{printed}

-- the classes of lines
pub data Class : Type 0 where
  Ends Plains Opens Turns Headers Drives Raws : Class

-- the class of a line that a keyword begins: a plain statement's, unless it is listed
abbrev pub keyword_class : Keyword → Class
keyword_class keyword.End = Ends
keyword_class keyword.If = Opens
keyword_class keyword.While = Opens
keyword_class keyword.Try = Opens
keyword_class keyword.With = Opens
keyword_class keyword.Else = Turns
keyword_class keyword.Except = Turns
keyword_class keyword.Finally = Turns
keyword_class keyword.Def = Headers
keyword_class keyword.Gen = Headers
keyword_class keyword.Code = Headers
keyword_class keyword.Class = Headers
keyword_class keyword.Manager = Headers
keyword_class k = Plains

-- whether a = stands in front
abbrev pub begins_equals : List Meaning → Bool
begins_equals (Equals ∷ ts) = true
begins_equals ts = false

-- the words that begin lines of raw codes
abbrev pub raw_words : List (List ℕ)
raw_words = codes "flags" ∷ codes "counts" ∷ codes "vars" ∷ codes "cells" ∷ codes "frees" ∷ codes "names" ∷ codes "consts" ∷ codes "depth" ∷ codes "u" ∷ []

abbrev pub begins_raw : List ℕ → Bool
begins_raw w = list_any (bytes_eq w) raw_words

abbrev pub class_by : Bool → Bool → Class
class_by equals raw = if equals then Plains else if raw then Raws else Drives

-- the class of a line that another word begins, by what stands behind it and by the word
abbrev pub word_class : List ℕ → List Meaning → Class
word_class w ts = class_by (begins_equals ts) (begins_raw w)

-- the class that the first tokens tell
abbrev pub tokens_class : List Meaning → Option Class
tokens_class (Key k ∷ ts) = Some (keyword_class k)
tokens_class (Word w ∷ ts) = Some (word_class w ts)
tokens_class ts = None

abbrev pub line_class : Line → Class
line_class line.End = Ends
line_class (line.Plain p) = Plains
line_class (line.Opens h) = Opens
line_class (line.Turns t) = Turns
line_class (line.Header h) = Headers
line_class (line.Drive d) = Drives
line_class (line.Raw r) = Raws

plain_class : (p : Plain) → tokens_class (plain_tokens p) ≡ Some Plains
plain_class said.Pass = refl
plain_class p = refl

head_class : (h : Head) → tokens_class (head_tokens h) ≡ Some Opens
head_class (said.If a) = refl
head_class h = refl

turn_class : (t : Turn) → tokens_class (turn_tokens t) ≡ Some Turns
turn_class turn.Else = refl
turn_class t = refl

header_class : (h : Header) → tokens_class (header_tokens h) ≡ Some Headers
header_class (header.Def body.Function f ps) = refl
header_class (header.Def body.Generator f ps) = refl
header_class h = refl

-- a number is no =
number_equals : (fits : ℕ → Bool) (n : ℕ) (ts : List Meaning) → begins_equals (number_within fits n ∷ ts) ≡ false
number_equals fits n ts = at (fits n)
  where
    at : (short : Bool) → begins_equals (printed short n ∷ ts) ≡ false
    at true = refl
    at false = refl

names_equals : (xs : List Name) → begins_equals (map Word xs) ≡ false
names_equals [] = refl
names_equals (x ∷ xs) = refl

flags_equals : (fs : List RawFlag) → begins_equals (map flag_token fs) ≡ false
flags_equals [] = refl
flags_equals (flag.Gen ∷ fs) = refl
flags_equals (f ∷ fs) = refl

consts_equals : (cs : List RawConst) → begins_equals (consts_tokens cs []) ≡ false
consts_equals [] = refl
consts_equals (constant.Atom (raw_atom.Bool true) ∷ cs) = refl
consts_equals (constant.Atom (raw_atom.Bool false) ∷ cs) = refl
consts_equals (constant.Atom a ∷ cs) = refl
consts_equals (c ∷ cs) = refl

-- words with no = behind them
word_first : (w : List ℕ) (ts : List Meaning) (raw : Bool) → begins_raw w ≡ raw → begins_equals ts ≡ false → tokens_class (Word w ∷ ts) ≡ Some (class_by false raw)
word_first w ts raw is none = ap (λ e. Some (class_by e (begins_raw w))) none ∙ ap (λ r. Some (class_by false r)) is

drive_class : (d : DriveLine) → tokens_class (drive_tokens d) ≡ Some Drives
drive_class (drive_line.Call f args) = refl
drive_class (drive_line.Next n) = word_first (codes "next") (number_token n ∷ []) false refl (number_equals is_short n [])
drive_class (drive_line.Send n a) = word_first (codes "send") (number_token n ∷ drive_token a ∷ []) false refl (number_equals is_short n (drive_token a ∷ []))
drive_class (drive_line.Throw n c v) = word_first (codes "throw") (number_token n ∷ Word c ∷ thrown_tokens v) false refl (number_equals is_short n (Word c ∷ thrown_tokens v))
drive_class (drive_line.Close n) = word_first (codes "close") (number_token n ∷ []) false refl (number_equals is_short n [])
drive_class (drive_line.Report n) = word_first (codes "report") (number_token n ∷ []) false refl (number_equals is_short n [])

raw_class : (r : RawLine) → tokens_class (raw_tokens r) ≡ Some Raws
raw_class (raw.Flags fs) = word_first (codes "flags") _ true refl (flags_equals fs)
raw_class (raw.Counts p a k) =
    word_first (codes "counts") (small_token p ∷ small_token a ∷ small_token k ∷ []) true refl (number_equals is_small p (small_token a ∷ small_token k ∷ []))
raw_class (raw.Vars xs) = word_first (codes "vars") _ true refl (names_equals xs)
raw_class (raw.Cells xs) = word_first (codes "cells") _ true refl (names_equals xs)
raw_class (raw.Frees xs) = word_first (codes "frees") _ true refl (names_equals xs)
raw_class (raw.Names xs) = word_first (codes "names") _ true refl (names_equals xs)
raw_class (raw.Consts cs) = word_first (codes "consts") _ true refl (consts_equals cs)
raw_class (raw.Unit i a n) = refl
raw_class (raw.Depth n) = word_first (codes "depth") (small_token n ∷ []) true refl (number_equals is_small n [])

pub class_shown : (l : Line) → tokens_class (line_tokens l) ≡ Some (line_class l)
class_shown line.End = refl
class_shown (line.Plain p) = plain_class p
class_shown (line.Opens h) = head_class h
class_shown (line.Turns t) = turn_class t
class_shown (line.Header h) = header_class h
class_shown (line.Drive d) = drive_class d
class_shown (line.Raw r) = raw_class r

pub same_class : (l m : Line) → line_tokens l ≡ line_tokens m → line_class l ≡ line_class m
same_class l m e = let h : Some (line_class l) ≡ Some (line_class m) = sym (class_shown l) ∙ ap tokens_class e ∙ class_shown m in cc h

-- tokens that tell no class are no line's
pub no_class : (ts : List Meaning) → tokens_class ts ≡ None → (l : Line) → ts ≢ line_tokens l
no_class ts none l e = let h : None ≡ Some (line_class l) = sym none ∙ ap tokens_class e ∙ class_shown l in cc h

-- tokens that are no plain statement's, though they begin as one
pub no_plain : (ts : List Meaning) → tokens_class ts ≡ Some Plains → ((p : Plain) → ts ≢ plain_tokens p) → (l : Line) → ts ≢ line_tokens l
no_plain ts class none l e = go l (sym class ∙ ap tokens_class e ∙ class_shown l) e
  where
    go : (l : Line) → Some Plains ≡ Some (line_class l) → ts ≢ line_tokens l
    go (line.Plain p) c h = none p h
    go l c h = cc

-- nor a drive's
pub no_drive_line : (ts : List Meaning) → tokens_class ts ≡ Some Drives → ((d : DriveLine) → ts ≢ drive_tokens d) → (l : Line) → ts ≢ line_tokens l
no_drive_line ts class none l e = go l (sym class ∙ ap tokens_class e ∙ class_shown l) e
  where
    go : (l : Line) → Some Drives ≡ Some (line_class l) → ts ≢ line_tokens l
    go (line.Drive d) c h = none d h
    go l c h = cc

-- nor of a line of a raw code
pub no_raw_line : (ts : List Meaning) → tokens_class ts ≡ Some Raws → ((r : RawLine) → ts ≢ raw_tokens r) → (l : Line) → ts ≢ line_tokens l
no_raw_line ts class none l e = go l (sym class ∙ ap tokens_class e ∙ class_shown l) e
  where
    go : (l : Line) → Some Raws ≡ Some (line_class l) → ts ≢ line_tokens l
    go (line.Raw r) c h = none r h
    go l c h = cc

-- nor of a line that opens a block
pub no_opening : (ts : List Meaning) → tokens_class ts ≡ Some Opens → ((h : Head) → ts ≢ head_tokens h) → (l : Line) → ts ≢ line_tokens l
no_opening ts class none l e = go l (sym class ∙ ap tokens_class e ∙ class_shown l) e
  where
    go : (l : Line) → Some Opens ≡ Some (line_class l) → ts ≢ line_tokens l
    go (line.Opens h) c k = none h k
    go l c h = cc

-- nor a header's
pub no_header : (ts : List Meaning) → tokens_class ts ≡ Some Headers → ((h : Header) → ts ≢ header_tokens h) → (l : Line) → ts ≢ line_tokens l
no_header ts class none l e = go l (sym class ∙ ap tokens_class e ∙ class_shown l) e
  where
    go : (l : Line) → Some Headers ≡ Some (line_class l) → ts ≢ line_tokens l
    go (line.Header h) c k = none h k
    go l c h = cc
