-- The rules on lines that look at what stands around them, each a test.
use Rattle.std.specs.Prelude.{ℕ, suc, List, [], ◌∷◌, length, Bool, Option, Some, None, true, false, ◌==◌, ◌&&◌, ◌||◌, not, nat_le, nat_lt, bytes_eq, map, if◌then◌else◌}
use Rattle.std.specs.List.{list_any, list_all}
use Rattle.py_objects.specs.ErrorKinds.{error_kinds, name_of}
use Rattle.py_tree.specs.declared.body.BodyKind.{BodyKind}
use Rattle.py_tree.specs.declared.body.BodyKind.TheVariants as body
use Rattle.py_tree.specs.Tree.{Name, Expr, Leaf, Operate, Exprs, no_operands, operand}
use Rattle.py_tree.specs.Operators.{Way, Asks_one, Asks_two, Calls_it, Yields_it, way_of}
use Rattle.py_tree.specs.Compilable.{operands}
use Rattle.py_lines.specs.declared.drive.DriveAtom.{DriveAtom}
use Rattle.py_lines.specs.declared.drive.DriveAtom.TheVariants as argument
use Rattle.py_lines.specs.declared.drive.DriveLine.{DriveLine}
use Rattle.py_lines.specs.declared.drive.DriveLine.TheVariants as drive
use Rattle.py_lines.specs.Statements.{Plain, Head}
use Rattle.py_lines.specs.Statements as said
use Rattle.py_grammar.specs.declared.rules.Inside.{Inside}

-- ---- what was declared before

-- what a declaration declares: a class, a manager, or a function, also one whose calls make generators
pub data Kind : Type 0 where
  OfClass OfManager OfFunction : Kind

-- a declaration by what later lines ask of it
pub record Declared : Type 0 where
  pub name : Name
  pub kind : Kind

abbrev pub is_among : Name → List Name → Bool
is_among x ys = list_any (bytes_eq x) ys

-- no name stands twice
abbrev pub all_differ : List Name → Bool
all_differ [] = true
all_differ (x ∷ xs) = not (is_among x xs) && all_differ xs

abbrev pub declares : Name → List Declared → Bool
declares x ds = list_any (λ d. bytes_eq x d.name) ds

abbrev pub is_callable : Kind → Bool
is_callable OfClass = false
is_callable OfManager = false
is_callable OfFunction = true

abbrev pub is_class : Kind → Bool
is_class OfClass = true
is_class OfManager = false
is_class OfFunction = false

-- whether what is declared under a name can be called
abbrev pub declares_callable : Name → List Declared → Bool
declares_callable f ds = list_any (λ d. bytes_eq f d.name && is_callable d.kind) ds

-- the names of what can be called
abbrev pub callables : List Declared → List Name
callables [] = []
callables (d ∷ ds) = if is_callable d.kind then d.name ∷ callables ds else callables ds

-- the names of the classes that are there without a declaration
abbrev pub is_builtin_class : Name → Bool
is_builtin_class f = is_among f (map name_of error_kinds)

-- whether a name is that of a declared class, or of a built-in one
abbrev pub is_base : List Declared → Name → Bool
is_base ds c = list_any (λ d. bytes_eq c d.name && is_class d.kind) ds || is_builtin_class c

-- whether a name is that of no declaration and of no built-in class
abbrev pub is_new : List Declared → Name → Bool
is_new ds x = not (declares x ds) && not (is_builtin_class x)

-- whether, behind these declarations, a class may have this name and this base (Python Language Reference, 8.8)
abbrev pub may_derive : List Declared → Name → Name → Bool
may_derive ds c b = is_new ds c && is_base ds b

-- whether a manager may have this name and these functions, which may be one
abbrev pub may_manage : List Declared → Name → Name → Name → Bool
may_manage ds m e x = is_new ds m && declares_callable e ds && declares_callable x ds

-- whether, behind these declarations, a function may have this name and these parameters:
-- its name is new, and at most 255 parameters have names of their own
abbrev pub may_declare : List Declared → Name → List Name → Bool
may_declare ds f ps = is_new ds f && all_differ ps && nat_le (length ps) 255

-- whether a number is that of one of so many drives, which are numbered from 1
abbrev pub numbers_drive : ℕ → ℕ → Bool
numbers_drive made n = nat_le 1 n && nat_le n made

-- whether, behind these declarations and so many drives, a drive may have this argument:
-- a literal, the name of a declaration or of a built-in class, or the number of a drive
abbrev pub is_drivable : List Declared → ℕ → DriveAtom → Bool
is_drivable ds made argument.None = true
is_drivable ds made (argument.Bool b) = true
is_drivable ds made (argument.Int n) = true
is_drivable ds made (argument.Str s) = true
is_drivable ds made (argument.Name x) = declares x ds || is_builtin_class x
is_drivable ds made (argument.Drive n) = numbers_drive made n

-- whether it may throw this value with a class, where there is one
abbrev pub is_thrown : List Declared → ℕ → Option DriveAtom → Bool
is_thrown ds made None = true
is_thrown ds made (Some a) = is_drivable ds made a

-- whether, behind these declarations and so many drives, this drive may stand: it calls what can be called,
-- with at most 255 arguments, each of which may stand here; or it goes on with what an earlier drive returned, where that
-- is a generator (Python Language Reference, 6.2.9.1). What is thrown is of a class that is declared or built in
abbrev pub may_drive : List Declared → ℕ → DriveLine → Bool
may_drive ds made (drive.Call f args) = declares_callable f ds && nat_le (length args) 255 && list_all (is_drivable ds made) args
may_drive ds made (drive.Next n) = numbers_drive made n
may_drive ds made (drive.Send n a) = numbers_drive made n && is_drivable ds made a
may_drive ds made (drive.Throw n c v) = numbers_drive made n && is_base ds c && is_thrown ds made v
may_drive ds made (drive.Close n) = numbers_drive made n
may_drive ds made (drive.Report n) = numbers_drive made n

-- ---- what stands in a body

-- whether a yield may stand in a body of this kind (Python Language Reference, 6.2.9)
abbrev pub may_yield : BodyKind → Bool
may_yield body.Function = false
may_yield body.Generator = true

-- whether so many operands may be handled like this in a body of this kind: a call has a callee and at most 255 arguments
abbrev pub may_operate : BodyKind → Way → ℕ → Bool
may_operate k (Asks_one r) n = n == 1
may_operate k (Asks_two r) n = n == 2
may_operate k Calls_it n = nat_le 1 n && nat_le n 256
may_operate k Yields_it n = may_yield k && n == 1

abbrev mutual
  -- whether an expression may stand there: each of its operators has its operands
  pub may_compute : BodyKind → Expr → Bool
  may_compute k (Leaf a) = true
  may_compute k (Operate o es) = may_operate k (way_of o) (operands es) && may_compute_all k es

  pub may_compute_all : BodyKind → Exprs → Bool
  may_compute_all k no_operands = true
  may_compute_all k (operand e es) = may_compute k e && may_compute_all k es

-- ---- where it stands

-- where the statements of a body of this kind stand: the body is open alone
abbrev pub body_of : BodyKind → Inside
body_of k = record { kind = k; blocks = 1; in_loop = false }

abbrev pub is_loop : Head → Bool
is_loop (said.If e) = false
is_loop (said.While e) = true
is_loop said.Try = false
is_loop (said.With e x) = false

-- where those of a block stand that is opened by this line
abbrev pub within : Inside → Head → Inside
within i h = record { kind = i.kind; blocks = suc i.blocks; in_loop = is_loop h || i.in_loop }

-- whether a plain statement may stand somewhere
abbrev pub may_hold : Inside → Plain → Bool
may_hold i (said.Assign x e) = may_compute i.kind e
may_hold i (said.Do o es) = may_compute i.kind (Operate o es)
may_hold i (said.Show e) = may_compute i.kind e
may_hold i (said.Return e) = may_compute i.kind e
may_hold i (said.Raise e) = may_compute i.kind e
may_hold i said.Reraise = true
may_hold i said.Break = i.in_loop
may_hold i said.Continue = i.in_loop
may_hold i said.Pass = true

-- whether what this line computes may stand in a body of this kind
abbrev pub may_begin : BodyKind → Head → Bool
may_begin k (said.If e) = may_compute k e
may_begin k (said.While e) = may_compute k e
may_begin k said.Try = true
may_begin k (said.With e x) = may_compute k e

-- whether it may open a block there: at most 64 are open at once, the body among them
abbrev pub may_open : Inside → Head → Bool
may_open i h = nat_lt i.blocks 64 && may_begin i.kind h
