-- Small scripts and rules, worked by hand.
use Rattle.std.specs.Prelude.{◌≡◌, List, [], ◌∷◌, Some, None, false, codes}
use Rattle.py_tree.specs.declared.body.BodyKind.TheVariants as body
use Rattle.py_tree.specs.declared.expr.Atom.TheVariants as atom
use Rattle.py_tree.specs.Tree.{Leaf, With, nothing, first}
use Rattle.py_lines.specs.declared.drive.DriveAtom.TheVariants as argument
use Rattle.py_lines.specs.declared.drive.DriveLine.{DriveLine}
use Rattle.py_lines.specs.declared.drive.DriveLine.TheVariants as drive
use Rattle.py_grammar.specs.Grammar.{Decl, ClassDecl, ManagerDecl, FunctionDecl, declared_as}
use Rattle.py_grammar.specs.Rules.{Declared, may_derive, may_manage, may_drive}
use Rattle.py_grammar.specs.Script.{Text, Spells}

-- a class, a function, a manager that is entered and left by it, and a generator with a `with`
abbrev pub small_text : Text
small_text = codes "class C KeyError" ∷ codes "def e a b c" ∷ codes "end" ∷ codes "manager m e e" ∷ codes "class D C" ∷ codes "gen f" ∷ codes "with m as x" ∷ codes "end"
    ∷ codes "end" ∷ codes "call f" ∷ codes "throw 1 D m" ∷ []

abbrev pub small_decls : List Decl
small_decls = ClassDecl (codes "C") (codes "KeyError")
    ∷ FunctionDecl (record { kind = body.Function; name = codes "e"; params = codes "a" ∷ codes "b" ∷ codes "c" ∷ []; suite = nothing; line = 2 })
    ∷ ManagerDecl (codes "m") (codes "e") (codes "e")
    ∷ ClassDecl (codes "D") (codes "C")
    ∷ FunctionDecl (record { kind = body.Generator; name = codes "f"; params = []; suite = first 7 (With (Leaf (atom.Name (codes "m"))) (Some (codes "x")) nothing) nothing; line = 6 })
    ∷ []

abbrev pub small_drives : List DriveLine
small_drives = drive.Call (codes "f") [] ∷ drive.Throw 1 (codes "D") (Some (argument.Name (codes "m"))) ∷ []

-- the lines are that script
abbrev pub SmallIsScript : Type 0
SmallIsScript = Spells small_text small_decls small_drives

-- behind a class and a manager
abbrev pub both : List Declared
both = declared_as (ClassDecl (codes "C") (codes "KeyError")) ∷ declared_as (ManagerDecl (codes "m") (codes "e") (codes "e")) ∷ []

-- a class can't be its own base, and a manager can't be one
abbrev pub NoOwnBase : Type 0
NoOwnBase = may_derive both (codes "D") (codes "D") ≡ false

abbrev pub NoManagerAsBase : Type 0
NoManagerAsBase = may_derive both (codes "D") (codes "m") ≡ false

-- no class has a name that is declared, or that of a built-in class
abbrev pub NoSecondClass : Type 0
NoSecondClass = may_derive both (codes "m") (codes "C") ≡ false

abbrev pub NoBuiltinAgain : Type 0
NoBuiltinAgain = may_derive both (codes "KeyError") (codes "C") ≡ false

-- a manager isn't entered by a class
abbrev pub NoClassAsEnter : Type 0
NoClassAsEnter = may_manage both (codes "n") (codes "C") (codes "C") ≡ false

-- no drive calls a class or a manager, or throws a manager
abbrev pub NoCallOfClass : Type 0
NoCallOfClass = may_drive both 1 (drive.Call (codes "C") []) ≡ false

abbrev pub NoCallOfManager : Type 0
NoCallOfManager = may_drive both 1 (drive.Call (codes "m") []) ≡ false

abbrev pub NoThrowOfManager : Type 0
NoThrowOfManager = may_drive both 1 (drive.Throw 1 (codes "m") None) ≡ false
