-- The declarations of made scripts as the program has them, so that there is a script that has them.
use Rattle.py_objects.specs.Objects.{Name}
use Rattle.std.proofs.Common.{◌≡◌, ◌<◌, ◌^◌, ℕ, List, [], ◌∷◌, Some, None, length, refl, lit<, arith, true, Global}
use Rattle.std.specs.Prelude.{Vec, codes, pos}
use denote.RawPtr.{null_ptr}
use Rattle.py_tree.specs.declared.stmt.Clause.{Clause'}
use Rattle.py_tree.specs.declared.stmt.StmtList.{StmtList, StmtList', end_of-Stmt, more_of-Stmt}
use Rattle.py_tree.specs.declared.stmt.ClauseList.{ClauseList, ClauseList', end_of-Clause, more_of-Clause}
use Rattle.py_tree.specs.declared.stmt.StmtForm.{StmtForm}
use Rattle.py_tree.specs.declared.stmt.StmtForm.TheVariants as stmt
use Rattle.py_tree.specs.declared.body.Body.{Body}
use Rattle.py_tree.specs.declared.body.BodyKind.{BodyKind}
use Rattle.py_tree.specs.declared.body.BodyKind.TheVariants as body
use Rattle.py_tree.specs.declared.expr.Atom.TheVariants as atom
use Rattle.py_tree.specs.declared.expr.Operator.{Operator}
use Rattle.py_tree.specs.declared.expr.Operator.TheVariants as operator
use Rattle.py_tree.specs.declared.expr.ExprList.{ExprList}
use Rattle.py_tree.specs.declared.expr.Expr.{Expr, Atom, Operation', end_of-Expr, more_of-Expr}
use Rattle.py_lines.specs.declared.drive.DriveLine.{DriveLine}
use Rattle.py_grammar.specs.declared.script.Declaration.{Declaration}
use Rattle.py_grammar.specs.declared.script.Declaration.TheVariants.{Class, Manager, Function}
use Rattle.py_grammar.specs.declared.script.Script.{Script}
use Rattle.py_grammar.specs.Script.{decls_of}
use Rattle.made_runs.proofs.Objects.{decls}

-- ---- lists of a few items

-- a vector of these, wherever it lies
abbrev vec : {X : Type 0} (xs : List X) → length xs < 2 ^ 63 → Vec X Global
vec xs few = record {
  ptr = null_ptr;
  len = length xs;
  cap = length xs;
  alloc = record { memory = record { seal = tt } };
  items = xs;
  ok = (refl, omega arith);
  small = few;
}

-- the room of no items
abbrev no_room : Vec (Unit {0}) Global
no_room = vec [] (lit< tt)

-- of one
abbrev room : Vec (Unit {0}) Global
room = vec (tt ∷ []) (lit< tt)

-- of two
abbrev room_of_two : Vec (Unit {0}) Global
room_of_two = vec (tt ∷ tt ∷ []) (lit< tt)

-- of three
abbrev room_of_three : Vec (Unit {0}) Global
room_of_three = vec (tt ∷ tt ∷ tt ∷ []) (lit< tt)

-- ---- expressions and suites

-- a name
abbrev name : List ℕ → Expr
name x = Atom (atom.Name x)

-- a number
abbrev number : ℕ → Expr
number n = Atom (atom.Int (pos n))

-- an operator with two operands
abbrev operate : Operator → Expr → Expr → Expr
operate o x y = Operation' o room_of_two (more_of-Expr x (more_of-Expr y end_of-Expr))

-- no statements
abbrev no_statements : StmtList
no_statements = StmtList' no_room end_of-Stmt

-- one, by its line
abbrev statement : ℕ → StmtForm → StmtList
statement n f = StmtList' room (more_of-Stmt n f end_of-Stmt)

-- two, each by its line
abbrev two_statements : ℕ → StmtForm → ℕ → StmtForm → StmtList
two_statements m f n g = StmtList' room_of_two (more_of-Stmt m f (more_of-Stmt n g end_of-Stmt))

-- three, each by its line
abbrev three_statements : ℕ → StmtForm → ℕ → StmtForm → ℕ → StmtForm → StmtList
three_statements m f n g k h =
    StmtList' room_of_three (more_of-Stmt m f (more_of-Stmt n g (more_of-Stmt k h end_of-Stmt)))

-- the body of a function
abbrev body_of : BodyKind → List ℕ → List (List ℕ) → StmtList → ℕ → Body
body_of kind name params suite line = record { kind = kind; name = name; params = params; suite = suite; line = line }

-- ---- the declarations

-- the function that the manager is entered by
abbrev enters : Body
enters = body_of body.Function (codes "enter") [] (statement 3 (stmt.Show (Atom (atom.Str (codes "open"))))) 2

-- the one that it is left by
abbrev exits : Body
exits =
    body_of body.Function (codes "exit") (codes "t" ∷ codes "v" ∷ codes "b" ∷ [])
    (statement 6 (stmt.Show (Atom (atom.Str (codes "close"))))) 5

-- what is done within the scope
abbrev within : StmtList
within =
    two_statements 13
    (stmt.If (name (codes "c")) (statement 14 (stmt.Raise (name (codes "Fault"))))) 16
    (stmt.Return (name (codes "a")))

-- how its exception is caught
abbrev caught : ClauseList
caught =
    let returns : StmtList = statement 19 (stmt.Return (name (codes "e"))) in
    ClauseList' room (more_of-Clause (Clause' 18 (codes "Fault") (Some (codes "e")) returns) end_of-Clause)

-- the function work
abbrev works : Body
works =
    body_of body.Function (codes "work") (codes "a" ∷ [])
    (two_statements 10 (stmt.Assign (codes "c") (operate operator.Lt (name (codes "a")) (number 500))) 11
    (stmt.TryExcept (statement 12 (stmt.With (name (codes "scope")) None within)) caught)) 9

-- what count yields
abbrev yields : ExprList
yields = record { items = vec (name (codes "i") ∷ []) (lit< tt) }

-- what it does in each round
abbrev round : StmtList
round =
    three_statements 25
    (stmt.TryFinally (statement 26 (stmt.Do operator.Yield yields))
    (statement 28 (stmt.Assign (codes "i") (operate operator.Add (name (codes "i")) (number 1))))) 30
    (stmt.Assign (codes "c") (operate operator.Lt (name (codes "i")) (name (codes "n")))) 31
    (stmt.IfElse (name (codes "c")) no_statements (statement 33 stmt.Break))

-- the function count
abbrev counts : Body
counts =
    body_of body.Generator (codes "count") (codes "n" ∷ [])
    (two_statements 23 (stmt.Assign (codes "i") (number 0)) 24 (stmt.While (Atom (atom.Bool true)) round)) 22

-- all declarations
abbrev declarations : List Declaration
declarations =
    Class (codes "Fault") (codes "Exception") ∷ Function enters ∷ Function exits
    ∷ Manager (codes "scope") (codes "enter") (codes "exit") ∷ Function works ∷ Function counts ∷ []

-- there is a script that has them, and any text and drives
pub script_of : (text : Name) (ds : List DriveLine) → (s : Script) × (decls_of s ≡ decls) × (s.drives ≡ ds) × (s.text ≡ text)
script_of text ds = (record { text = text; declarations = declarations; drives = ds }, refl, refl, refl)
