-- Small lines, worked by hand.
use Rattle.std.specs.Prelude.{[], ◌∷◌, Some, None, true, codes, pos, neg_ℤ}
use Rattle.py_tree.specs.declared.body.BodyKind.TheVariants as body
use Rattle.py_tree.specs.declared.expr.Atom.TheVariants as atom
use Rattle.py_tree.specs.declared.expr.Operator.TheVariants as operator
use Rattle.py_tree.specs.Tree.{Leaf, Operate, no_operands, operand}
use Rattle.py_lines.specs.declared.drive.DriveAtom.TheVariants as drive
use Rattle.py_lines.specs.declared.drive.DriveLine.TheVariants as drive_line
use Rattle.py_lines.specs.declared.head.Turn.TheVariants as turn
use Rattle.py_lines.specs.declared.header.Header.TheVariants as header
use Rattle.py_lines.specs.Line as line
use Rattle.py_lines.specs.Line.{Blank, Said, Malformed}
use Rattle.py_lines.specs.Statements as said
use Rattle.py_lines.specs.Reading.{IsReadAs}

-- in front of `=` an operator's word is a name; a number keeps its sign, and may begin with zeros
abbrev pub CallIsAName : Type 0
CallIsAName = IsReadAs (codes "  call=(sub 007 -2) ") (Said (line.Plain (said.Assign (codes "call") (Operate operator.Sub (operand (Leaf (atom.Int (pos 7))) (operand (Leaf (atom.Int (neg_ℤ (pos 2)))) no_operands))))))

-- else `call` begins a drive
abbrev pub CallIsADrive : Type 0
CallIsADrive = IsReadAs (codes "call f True 'a b' $12") (Said (line.Drive (drive_line.Call (codes "f") (drive.Bool true ∷ drive.Str (codes "a b") ∷ drive.Drive 12 ∷ []))))

-- a function may have the name of an operator, and parameters
abbrev pub AddIsAName : Type 0
AddIsAName = IsReadAs (codes "def add x y") (Said (line.Header (header.Def body.Function (codes "add") (codes "x" ∷ codes "y" ∷ []))))

-- so may a generator, and in front of `=` a drive's word is a name
abbrev pub YieldIsAName : Type 0
YieldIsAName = IsReadAs (codes "gen yield next") (Said (line.Header (header.Def body.Generator (codes "yield") (codes "next" ∷ []))))

abbrev pub CloseIsAName : Type 0
CloseIsAName = IsReadAs (codes "close = (yield close)") (Said (line.Plain (said.Assign (codes "close") (Operate operator.Yield (operand (Leaf (atom.Name (codes "close"))) no_operands)))))

-- else it begins a drive; the number of a drive may begin with zeros, and whether there is such a drive the grammar says
abbrev pub ThrowIsADrive : Type 0
ThrowIsADrive = IsReadAs (codes "throw 007 E 'x'") (Said (line.Drive (drive_line.Throw 7 (codes "E") (Some (drive.Str (codes "x"))))))

abbrev pub NextNothing : Type 0
NextNothing = IsReadAs (codes "next -0") (Said (line.Drive (drive_line.Next 0)))

-- no drive has a number below 0
abbrev pub NoNumberBelow : Type 0
NoNumberBelow = IsReadAs (codes "close -1") Malformed

-- `as` is a name, too: of a class, and of what is bound to
abbrev pub AsIsAName : Type 0
AsIsAName = IsReadAs (codes "except as as as") (Said (line.Turns (turn.Except (codes "as") (Some (codes "as")))))

-- and of a manager
abbrev pub WithAs : Type 0
WithAs = IsReadAs (codes "with as as as") (Said (line.Opens (said.With (Leaf (atom.Name (codes "as"))) (Some (codes "as")))))

-- what stands behind `with` is any expression; whether it gives a manager is seen when the line runs
abbrev pub WithNone : Type 0
WithNone = IsReadAs (codes "with None") (Said (line.Opens (said.With (Leaf atom.None) None)))

-- a name stands behind its `as`
abbrev pub NoNameBehindAs : Type 0
NoNameBehindAs = IsReadAs (codes "with x as") Malformed

-- the names of declarations; whether there are a base, an enter and an exit of these names the grammar says
abbrev pub ClassOfItself : Type 0
ClassOfItself = IsReadAs (codes "class throw throw") (Said (line.Header (header.Class (codes "throw") (codes "throw"))))

abbrev pub ManagerOfTwo : Type 0
ManagerOfTwo = IsReadAs (codes "manager scope enter exit") (Said (line.Header (header.Manager (codes "scope") (codes "enter") (codes "exit"))))

-- a class has one base
abbrev pub ClassOfNothing : Type 0
ClassOfNothing = IsReadAs (codes "class C") Malformed

-- a keyword is no name
abbrev pub KeywordIsNoName : Type 0
KeywordIsNoName = IsReadAs (codes "in = 1") Malformed

-- nothing may stand behind the end of a line
abbrev pub NothingBehind : Type 0
NothingBehind = IsReadAs (codes "show x y") Malformed

-- a number of more than 128 bits is none
abbrev pub NoLargeNumber : Type 0
NoLargeNumber = IsReadAs (codes "return 170141183460469231731687303715884105728") Malformed

-- nor one of more than 64 bits the number of a drive
abbrev pub NoCountBeyond : Type 0
NoCountBeyond = IsReadAs (codes "next 18446744073709551616") Malformed

-- blanks alone say nothing
abbrev pub NothingIsBlank : Type 0
NothingIsBlank = IsReadAs (codes "  ") Blank

-- an operand is an expression, too
abbrev pub CallOfSums : Type 0
CallOfSums =
    IsReadAs (codes "return (add (call f n) 1)")
    (Said (line.Plain (said.Return
    (Operate operator.Add (operand (Operate operator.Call (operand (Leaf (atom.Name (codes "f"))) (operand (Leaf (atom.Name (codes "n"))) no_operands))) (operand (Leaf (atom.Int (pos 1))) no_operands))))))

-- parentheses hold an operator, and close
abbrev pub NothingInParentheses : Type 0
NothingInParentheses = IsReadAs (codes "show ()") Malformed

abbrev pub NoCloseAtTheEnd : Type 0
NoCloseAtTheEnd = IsReadAs (codes "show (add 1 2") Malformed

abbrev pub NoOperatorOfThisName : Type 0
NoOperatorOfThisName = IsReadAs (codes "show (f 1)") Malformed
