-- What a reader keeps, and the names that its table has.
use Rattle.std.specs.Prelude.{◌≡◌, ℕ, Option, Some, None, List, [], ◌∷◌, ◌++◌, ◌&&◌, ◌||◌, not, nat_le, length, Bool, true, map}
use Rattle.std.specs.List.{list_all}
use Rattle.py_code.specs.Names.{interned}
use Rattle.py_tree.specs.Tree.{Name}
use Rattle.py_lines.specs.declared.drive.DriveAtom.{DriveAtom}
use Rattle.py_lines.specs.declared.drive.DriveAtom.TheVariants as argument
use Rattle.py_lines.specs.declared.drive.DriveLine.{DriveLine}
use Rattle.py_lines.specs.declared.drive.DriveLine.TheVariants as drive
use Rattle.py_grammar.specs.declared.open_item.OpenItem.{OpenItem}
use Rattle.py_grammar.specs.declared.open_item.OpenItem.TheVariants as item
use Rattle.py_grammar.specs.declared.reader.Reader.{Reader}
use Rattle.py_grammar.specs.declared.table.Table.{Table}
use Rattle.py_grammar.specs.Grammar.{Decl, ClassDecl, ManagerDecl, FunctionDecl, RawDecl, decl_name}
use Rattle.py_grammar.specs.Script.{decls_of}
use Rattle.py_grammar.specs.Rules.{is_among, all_differ, is_builtin_class, numbers_drive}

-- the names of declarations
abbrev pub names_of : List Decl → List Name
names_of ds = map decl_name ds

-- those of the functions among them
abbrev pub function_names : List Decl → List Name
function_names [] = []
function_names (ClassDecl c b ∷ ds) = function_names ds
function_names (ManagerDecl m e x ∷ ds) = function_names ds
function_names (FunctionDecl t ∷ ds) = t.name ∷ function_names ds
function_names (RawDecl b ∷ ds) = b.name ∷ function_names ds

-- and those of the classes
abbrev pub class_names : List Decl → List Name
class_names [] = []
class_names (ClassDecl c b ∷ ds) = c ∷ class_names ds
class_names (ManagerDecl m e x ∷ ds) = class_names ds
class_names (FunctionDecl t ∷ ds) = class_names ds
class_names (RawDecl b ∷ ds) = class_names ds

-- the table of these declarations, and the one with the name of an open body behind them; a raw code isn't among its own constants, so
-- its name goes there at its end
abbrev pub table_of : List Decl → Option OpenItem → Table
table_of ds None = record { names = names_of ds; functions = function_names ds; classes = class_names ds }
table_of ds (Some (item.Body o)) = record { names = names_of ds ++ o.name ∷ []; functions = function_names ds ++ o.name ∷ []; classes = class_names ds }
table_of ds (Some (item.Raw t)) = record { names = names_of ds; functions = function_names ds; classes = class_names ds }

-- until then it is that of no declaration
abbrev pub is_still_new : List Decl → Option OpenItem → Bool
is_still_new ds None = true
is_still_new ds (Some (item.Body o)) = true
is_still_new ds (Some (item.Raw t)) = not (is_among t.name (names_of ds))

-- the table of a reader is that of what it has read
pub record TableIsKept (r : Reader) : Type 0 where
  pub table : r.table ≡ table_of (decls_of r.whole) r.inside
  pub still_new : is_still_new (decls_of r.whole) r.inside ≡ true

-- the table with the name of a function
abbrev pub with_function_name : Table → Name → Table
with_function_name t f = record { names = interned t.names f; functions = interned t.functions f; classes = t.classes }

-- with the name of a class, or of a manager
abbrev pub with_class_name : Table → Name → Table
with_class_name t c = record { names = interned t.names c; functions = t.functions; classes = interned t.classes c }

abbrev pub with_manager_name : Table → Name → Table
with_manager_name t m = record { names = interned t.names m; functions = t.functions; classes = t.classes }

-- the rules on names, by the table
abbrev pub is_new_by : List Name → Name → Bool
is_new_by names x = not (is_among x names) && not (is_builtin_class x)

abbrev pub is_base_by : List Name → Name → Bool
is_base_by classes c = is_among c classes || is_builtin_class c

abbrev pub may_derive_by : Table → Name → Name → Bool
may_derive_by t c b = is_new_by t.names c && is_base_by t.classes b

abbrev pub may_manage_by : Table → Name → Name → Name → Bool
may_manage_by t m e x = is_new_by t.names m && is_among e t.functions && is_among x t.functions

-- whether, behind declarations with these names, a function may have this name and these parameters
abbrev pub may_head : List Name → Name → List Name → Bool
may_head names f ps = nat_le (length ps) 255 && is_new_by names f && all_differ ps

-- whether, behind declarations with these names and so many drives, a drive may have this argument
abbrev pub is_drivable_by : List Name → ℕ → DriveAtom → Bool
is_drivable_by names made argument.None = true
is_drivable_by names made (argument.Bool b) = true
is_drivable_by names made (argument.Int n) = true
is_drivable_by names made (argument.Str s) = true
is_drivable_by names made (argument.Name x) = is_among x names || is_builtin_class x
is_drivable_by names made (argument.Drive n) = numbers_drive made n

-- this value with a class
abbrev pub is_thrown_by : List Name → ℕ → Option DriveAtom → Bool
is_thrown_by names made None = true
is_thrown_by names made (Some a) = is_drivable_by names made a

-- and whether a drive may stand
abbrev pub may_drive_by : Table → ℕ → DriveLine → Bool
may_drive_by t made (drive.Call f args) = nat_le (length args) 255 && is_among f t.functions && list_all (is_drivable_by t.names made) args
may_drive_by t made (drive.Next n) = numbers_drive made n
may_drive_by t made (drive.Send n a) = numbers_drive made n && is_drivable_by t.names made a
may_drive_by t made (drive.Throw n c v) = numbers_drive made n && is_base_by t.classes c && is_thrown_by t.names made v
may_drive_by t made (drive.Close n) = numbers_drive made n
may_drive_by t made (drive.Report n) = numbers_drive made n
