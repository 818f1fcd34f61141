-- Small scripts and rules, by computing.
use Rattle.std.proofs.Common.{[], ◌∷◌, Some, refl, arith}
use Rattle.std.specs.Prelude.{codes}
use Rattle.py_tree.specs.declared.body.BodyKind.TheVariants as body
use Rattle.py_tree.specs.declared.expr.Atom.TheVariants as atom
use Rattle.py_lines.specs.declared.drive.DriveAtom.TheVariants as argument
use Rattle.py_lines.specs.declared.drive.DriveLine.TheVariants as drive
use Rattle.py_lines.specs.Statements as said
use Rattle.py_lines.specs.declared.header.Header.TheVariants as header
use Rattle.py_lines.specs.Line as line
use Rattle.py_lines.specs.Line.{Said}
use Rattle.py_tree.specs.Tree.{Leaf, With, nothing, first}
use Rattle.py_grammar.specs.Grammar.{ClassDecl, ManagerDecl, FunctionDecl, Declares, Drives}
use Rattle.py_grammar.specs.Worked.{SmallIsScript, NoOwnBase, NoManagerAsBase, NoSecondClass, NoBuiltinAgain, NoClassAsEnter, NoCallOfClass, NoCallOfManager, NoThrowOfManager}

pub small_is_script : SmallIsScript
small_is_script = record {
  items = Declares (ClassDecl (codes "C") (codes "KeyError"))
      ∷ Declares (FunctionDecl (record { kind = body.Function; name = codes "e"; params = codes "a" ∷ codes "b" ∷ codes "c" ∷ []; suite = nothing; line = 2 }))
      ∷ Declares (ManagerDecl (codes "m") (codes "e") (codes "e"))
      ∷ Declares (ClassDecl (codes "D") (codes "C"))
      ∷ Declares (FunctionDecl (record { kind = body.Generator; name = codes "f"; params = []; suite = first 7 (With (Leaf (atom.Name (codes "m"))) (Some (codes "x")) nothing) nothing; line = 6 }))
      ∷ Drives (drive.Call (codes "f") [])
      ∷ Drives (drive.Throw 1 (codes "D") (Some (argument.Name (codes "m"))))
      ∷ [];
  reads = Said (line.Header (header.Class (codes "C") (codes "KeyError")))
      ∷ Said (line.Header (header.Def body.Function (codes "e") (codes "a" ∷ codes "b" ∷ codes "c" ∷ [])))
      ∷ Said line.End
      ∷ Said (line.Header (header.Manager (codes "m") (codes "e") (codes "e")))
      ∷ Said (line.Header (header.Class (codes "D") (codes "C")))
      ∷ Said (line.Header (header.Def body.Generator (codes "f") []))
      ∷ Said (line.Opens (said.With (Leaf (atom.Name (codes "m"))) (Some (codes "x"))))
      ∷ Said line.End
      ∷ Said line.End
      ∷ Said (line.Drive (drive.Call (codes "f") []))
      ∷ Said (line.Drive (drive.Throw 1 (codes "D") (Some (argument.Name (codes "m")))))
      ∷ [];
  read =
      ((refl, tt), ((refl, tt), ((refl, tt), ((refl, tt), ((refl, tt), ((refl, tt), ((refl, omega arith), ((refl, tt), ((refl, tt), ((refl, tt), ((refl, tt), tt)))))))))));
  spelled = refl;
  well = (refl, ((refl, tt), (refl, (refl, ((refl, ((refl, tt), tt)), (refl, (refl, tt)))))));
  declared = refl;
  driven = refl;
}

pub no_own_base : NoOwnBase
no_own_base = refl

pub no_manager_as_base : NoManagerAsBase
no_manager_as_base = refl

pub no_second_class : NoSecondClass
no_second_class = refl

pub no_builtin_again : NoBuiltinAgain
no_builtin_again = refl

pub no_class_as_enter : NoClassAsEnter
no_class_as_enter = refl

pub no_call_of_class : NoCallOfClass
no_call_of_class = refl

pub no_call_of_manager : NoCallOfManager
no_call_of_manager = refl

pub no_throw_of_manager : NoThrowOfManager
no_throw_of_manager = refl
