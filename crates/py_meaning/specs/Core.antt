-- Scripts without raw codes and without reports: those of which any two runs are the same.
use Rattle.std.specs.Prelude.{ℕ, Bool, true, false, List, ◌≡◌}
use Rattle.std.specs.List.{list_all}
use Rattle.py_lines.specs.declared.drive.DriveLine.{DriveLine}
use Rattle.py_lines.specs.declared.drive.DriveLine.TheVariants as drive
use Rattle.py_grammar.specs.declared.script.Script.{Script}
use Rattle.py_grammar.specs.Grammar.{Decl, ClassDecl, ManagerDecl, FunctionDecl, RawDecl}
use Rattle.py_grammar.specs.Script.{decls_of, IsScript}

-- whether a declaration is no raw code
abbrev pub is_core : Decl → Bool
is_core (ClassDecl c b) = true
is_core (ManagerDecl m e x) = true
is_core (FunctionDecl t) = true
is_core (RawDecl b) = false

-- whether a drive has nothing reported
abbrev pub is_plain : DriveLine → Bool
is_plain (drive.Call f args) = true
is_plain (drive.Next n) = true
is_plain (drive.Send n a) = true
is_plain (drive.Throw n c v) = true
is_plain (drive.Close n) = true
is_plain (drive.Report n) = false

-- none of these declarations is a raw code, and none of these drives has anything reported
pub record IsCore (decls : List Decl) (drives : List DriveLine) : Type 0 where
  pub declares : list_all is_core decls ≡ true
  pub drives_plainly : list_all is_plain drives ≡ true

-- the bytes are a script that has neither
abbrev pub IsCoreFrom : List ℕ → Type 0
IsCoreFrom bytes = (s : Script) × IsScript bytes s × IsCore (decls_of s) s.drives
