-- The program's lines as plain ones.
use Rattle.py_tree.specs.ExprViews.{expr_of, exprs_of}
use Rattle.py_lines.specs.declared.plain.Plain.{Plain as OwnPlain}
use Rattle.py_lines.specs.declared.plain.Plain.TheVariants as own_plain
use Rattle.py_lines.specs.declared.head.Head.{Head as OwnHead}
use Rattle.py_lines.specs.declared.head.Head.TheVariants as own_head
use Rattle.py_lines.specs.declared.line.Line.{Line as OwnLine}
use Rattle.py_lines.specs.declared.line.Line.TheVariants as own_line
use Rattle.py_lines.specs.declared.line.LineRead.{LineRead as OwnRead}
use Rattle.py_lines.specs.declared.line.LineRead.TheVariants as own_read
use Rattle.py_lines.specs.Statements.{Plain, Head}
use Rattle.py_lines.specs.Statements as said
use Rattle.py_lines.specs.Line.{Line, LineRead}
use Rattle.py_lines.specs.Line as line

abbrev pub plain_of : OwnPlain → Plain
plain_of (own_plain.Assign x e) = said.Assign x (expr_of e)
plain_of (own_plain.Do o es) = said.Do o (exprs_of es)
plain_of (own_plain.Show e) = said.Show (expr_of e)
plain_of (own_plain.Return e) = said.Return (expr_of e)
plain_of (own_plain.Raise e) = said.Raise (expr_of e)
plain_of own_plain.Reraise = said.Reraise
plain_of own_plain.Break = said.Break
plain_of own_plain.Continue = said.Continue
plain_of own_plain.Pass = said.Pass

abbrev pub head_of : OwnHead → Head
head_of (own_head.If e) = said.If (expr_of e)
head_of (own_head.While e) = said.While (expr_of e)
head_of own_head.Try = said.Try
head_of (own_head.With e x) = said.With (expr_of e) x

abbrev pub line_of : OwnLine → Line
line_of own_line.End = line.End
line_of (own_line.Plain p) = line.Plain (plain_of p)
line_of (own_line.Opens h) = line.Opens (head_of h)
line_of (own_line.Turns t) = line.Turns t
line_of (own_line.Header h) = line.Header h
line_of (own_line.Drive d) = line.Drive d
line_of (own_line.Raw r) = line.Raw r

abbrev pub read_of : OwnRead → LineRead
read_of own_read.Blank = line.Blank
read_of (own_read.Said l) = line.Said (line_of l)
read_of own_read.Malformed = line.Malformed
