-- What every script keeps, as the layers above need it.
use Rattle.std.specs.Prelude.{◌≡◌, ◌≢◌, ◌≤◌, ◌⊎◌, ℕ, List, [], Option, Some, None, length, true, false, All, Any, AllPairs, map, slice_get, take}
use Rattle.py_tree.specs.Compilable.{IsCompilable}
use Rattle.py_tree.specs.Tree.{Name}
use Rattle.py_lines.specs.declared.constant.RawConst.{RawConst}
use Rattle.py_lines.specs.declared.constant.RawConst.TheVariants as constant
use Rattle.py_lines.specs.declared.drive.DriveAtom.{DriveAtom}
use Rattle.py_lines.specs.declared.drive.DriveAtom.TheVariants as argument
use Rattle.py_lines.specs.declared.drive.DriveLine.{DriveLine}
use Rattle.py_lines.specs.declared.drive.DriveLine.TheVariants as drive
use Rattle.py_grammar.specs.declared.script.Script.{Script}
use Rattle.py_grammar.specs.declared.raw_block.RawBlock.{RawBlock}
use Rattle.py_grammar.specs.declared.raw_block.RawCounts.{RawCounts}
use Rattle.py_grammar.specs.Grammar.{Decl, ClassDecl, ManagerDecl, FunctionDecl, RawDecl, decl_name, coded_name, codes_in}
use Rattle.py_grammar.specs.RawRules.{all_run, is_heeded}
use Rattle.py_grammar.specs.Rules.{is_among, is_builtin_class}
use Rattle.py_grammar.specs.Script.{decls_of}

-- no two are the same
abbrev pub AreDistinct : List Name → Type 0
AreDistinct names = AllPairs (λ x y. x ≢ y) names

-- a name that some function, or some class, among declarations has
abbrev pub IsFunctionNamed : Name → Decl → Type 0
IsFunctionNamed f (ClassDecl c b) = ⊥
IsFunctionNamed f (ManagerDecl m e x) = ⊥
IsFunctionNamed f (FunctionDecl t) = t.name ≡ f
IsFunctionNamed f (RawDecl b) = b.name ≡ f

abbrev pub IsClassNamed : Name → Decl → Type 0
IsClassNamed c (ClassDecl d b) = d ≡ c
IsClassNamed c (ManagerDecl m e x) = ⊥
IsClassNamed c (FunctionDecl t) = ⊥
IsClassNamed c (RawDecl b) = ⊥

abbrev pub IsFunction : List Decl → Name → Type 0
IsFunction decls f = Any (IsFunctionNamed f) decls

-- a class is one of these, or a built-in one
abbrev pub IsClass : List Decl → Name → Type 0
IsClass decls c = Any (IsClassNamed c) decls ⊎ (is_builtin_class c ≡ true)

-- a constant of a raw code, after codes of these names: a code is one of them, and a tuple is no longer than a script
abbrev pub IsLoadable : List Name → RawConst → Type 0
IsLoadable earlier (constant.Atom a) = Unit {0}
IsLoadable earlier (constant.Code f) = is_among f earlier ≡ true
IsLoadable earlier (constant.Tuple xs) = length xs ≤ 1048576

-- no parameter takes named arguments alone
abbrev pub NoneNamed : Option RawCounts → Type 0
NoneNamed None = Unit {0}
NoneNamed (Some c) = c.named ≡ 0

-- after codes of these names, a raw code has what frames heed, load and run so far
pub record IsWellCoded (earlier : List Name) (b : RawBlock) : Type 0 where
  pub distinct : AreDistinct b.params
  pub few : length b.params ≤ 255
  pub flags : All (λ f. is_heeded f ≡ true) b.flags
  pub counts : NoneNamed b.counts
  pub cells : b.cells ≡ []
  pub frees : b.frees ≡ []
  pub consts : All (IsLoadable earlier) b.consts
  pub some : b.units ≢ []
  pub run : all_run 0 b.units ≡ true

-- behind these declarations, a class has a base that is one, a manager has functions, a function can be compiled, and a raw code can be
-- made and run
abbrev pub IsFounded : List Decl → Decl → Type 0
IsFounded decls (ClassDecl c b) = IsClass decls b
IsFounded decls (ManagerDecl m e x) = IsFunction decls e × IsFunction decls x
IsFounded decls (FunctionDecl t) = IsCompilable t
IsFounded decls (RawDecl b) = IsWellCoded (map coded_name (codes_in decls)) b

-- so does a declaration that isn't named like a built-in class
pub record IsWellDeclared (decls : List Decl) (d : Decl) : Type 0 where
  pub no_class : is_builtin_class (decl_name d) ≡ false
  pub founded : IsFounded decls d

-- a name that stands for something among these declarations: it is that of one, or of a built-in class
abbrev pub IsKnown : List Decl → Name → Type 0
IsKnown decls x = Any (λ d. decl_name d ≡ x) decls ⊎ (is_builtin_class x ≡ true)

-- a number is that of one of so many drives
abbrev pub NumbersDrive : ℕ → ℕ → Type 0
NumbersDrive made n = (1 ≤ n) × (n ≤ made)

-- among these declarations and behind so many drives, an argument of a drive is a literal, such a name or the number of a drive
abbrev pub IsDrivable : List Decl → ℕ → DriveAtom → Type 0
IsDrivable decls made argument.None = Unit {0}
IsDrivable decls made (argument.Bool b) = Unit {0}
IsDrivable decls made (argument.Int n) = Unit {0}
IsDrivable decls made (argument.Str s) = Unit {0}
IsDrivable decls made (argument.Name x) = IsKnown decls x
IsDrivable decls made (argument.Drive n) = NumbersDrive made n

-- so is a value that is thrown with a class, where there is one
abbrev pub IsThrowable : List Decl → ℕ → Option DriveAtom → Type 0
IsThrowable decls made None = Unit {0}
IsThrowable decls made (Some a) = IsDrivable decls made a

-- behind so many drives, one of these functions is called with such arguments
pub record IsWellCalled (decls : List Decl) (made : ℕ) (f : Name) (atoms : List DriveAtom) : Type 0 where
  pub function : IsFunction decls f
  pub few : length atoms ≤ 255
  pub args : All (IsDrivable decls made) atoms

-- behind so many drives, what one of them returned goes on with such an argument
pub record IsWellSent (decls : List Decl) (made n : ℕ) (a : DriveAtom) : Type 0 where
  pub drive : NumbersDrive made n
  pub value : IsDrivable decls made a

-- or an exception of a class is thrown into it, with such a value or without
pub record IsWellThrown (decls : List Decl) (made n : ℕ) (c : Name) (v : Option DriveAtom) : Type 0 where
  pub drive : NumbersDrive made n
  pub class : IsClass decls c
  pub value : IsThrowable decls made v

abbrev pub IsWellDriven : List Decl → ℕ → DriveLine → Type 0
IsWellDriven decls made (drive.Call f args) = IsWellCalled decls made f args
IsWellDriven decls made (drive.Next n) = NumbersDrive made n
IsWellDriven decls made (drive.Send n a) = IsWellSent decls made n a
IsWellDriven decls made (drive.Throw n c v) = IsWellThrown decls made n c v
IsWellDriven decls made (drive.Close n) = NumbersDrive made n
IsWellDriven decls made (drive.Report n) = NumbersDrive made n

-- each drive, behind those in front of it
abbrev pub AreWellDriven : List Decl → List DriveLine → Type 0
AreWellDriven decls drives = (i : ℕ) (d : DriveLine) → slice_get drives i ≡ Some d → IsWellDriven decls i d

-- declarations and drives
pub record AreWellFormed (decls : List Decl) (drives : List DriveLine) : Type 0 where
  pub declared : (i : ℕ) (d : Decl) → slice_get decls i ≡ Some d → IsWellDeclared (take i decls) d
  pub distinct : AreDistinct (map decl_name decls)
  pub driven : AreWellDriven decls drives

-- a script
abbrev pub IsWellFormed : Script → Type 0
IsWellFormed s = AreWellFormed (decls_of s) s.drives
