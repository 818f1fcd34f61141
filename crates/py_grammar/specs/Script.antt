-- Which bytes are a script, and which line of them is the bad one.
use Rattle.std.specs.Prelude.{◌≡◌, ◌⊎◌, ℕ, suc, List, [], ◌∷◌, ◌++◌, length, Option, Some, None, option_map, map, encode_utf8_all}
use Rattle.std.specs.List.{AllZip}
use Rattle.py_tree.specs.Views.{tree_of}
use Rattle.py_lines.specs.declared.drive.DriveLine.{DriveLine}
use Rattle.py_lines.specs.Line.{LineRead, Blank, Said, Malformed}
use Rattle.py_lines.specs.Reading.{IsReadAs}
use Rattle.py_grammar.specs.declared.script.Declaration.{Declaration}
use Rattle.py_grammar.specs.declared.script.Declaration.TheVariants.{Class, Manager, Function, Raw}
use Rattle.py_grammar.specs.declared.script.Script.{Script}
use Rattle.py_grammar.specs.Grammar.{Row, row, Decl, ClassDecl, ManagerDecl, FunctionDecl, RawDecl, Item, items_rows, decls_in, drives_in, WellItems}
use Rattle.py_grammar.specs.Lines.{lines}

-- a declaration, as plain data
abbrev pub decl_of : Declaration → Decl
decl_of (Class c b) = ClassDecl c b
decl_of (Manager m e x) = ManagerDecl m e x
decl_of (Function b) = FunctionDecl (tree_of b)
decl_of (Raw b) = RawDecl b

-- what a script declares
abbrev pub decls_of : Script → List Decl
decls_of s = map decl_of s.declarations

-- a text by its lines
abbrev pub Text : Type 0
Text = List (List ℕ)

-- what the n-th line says, in front of the rows behind it
abbrev pub with_read : ℕ → LineRead → Option (List Row) → Option (List Row)
with_read n Malformed rows = None
with_read n Blank rows = rows
with_read n (Said l) rows = option_map (λ rs. row n l ∷ rs) rows

-- the rows of lines that read so from the n-th on, where each is well formed
abbrev pub rows_from : ℕ → List LineRead → Option (List Row)
rows_from n [] = Some []
rows_from n (r ∷ rs) = with_read n r (rows_from (suc n) rs)

-- the lines spell these declarations and drives: what they say, each by itself, are the rows of items that keep the rules
pub record Spells (text : Text) (decls : List Decl) (drives : List DriveLine) : Type 0 where
  pub items : List Item
  pub reads : List LineRead
  pub read : AllZip IsReadAs text reads
  pub spelled : rows_from 1 reads ≡ Some (items_rows items)
  pub well : WellItems [] 0 items
  pub declared : decls ≡ decls_in items
  pub driven : drives ≡ drives_in items

-- some script begins with these lines
abbrev pub Begins : Text → Type 0
Begins text = (more : List ℕ) × (decls : List Decl) × (drives : List DriveLine) × Spells (text ++ lines more) decls drives

-- some script begins with the lines before the k-th, none with those up to it
abbrev pub IsFirstBad : Text → ℕ → Type 0
IsFirstBad text k = (front : Text) × (l : List ℕ) × (back : Text) × (text ≡ front ++ l ∷ back) × (k ≡ suc (length front)) × Begins front × (Begins (front ++ l ∷ []) → ⊥)

-- the lines are the beginning of a script and no whole one: the next line is missing
abbrev pub IsLeftOpen : Text → ℕ → Type 0
IsLeftOpen text k = (k ≡ suc (length text)) × Begins text × ((decls : List Decl) → (drives : List DriveLine) → Spells text decls drives → ⊥)

-- the bad line of bytes that are no script
abbrev pub IsBadLine : List ℕ → ℕ → Type 0
IsBadLine bytes k = IsFirstBad (lines bytes) k ⊎ IsLeftOpen (lines bytes) k

-- the bytes are this script
abbrev pub IsScript : List ℕ → Script → Type 0
IsScript bytes s = Spells (lines bytes) (decls_of s) s.drives

-- and these are its characters
abbrev pub IsReadScript : List ℕ → Script → Type 0
IsReadScript bytes s = IsScript bytes s × (encode_utf8_all s.text ≡ bytes)

-- bytes spell some script
abbrev pub SpellsSome : List ℕ → Type 0
SpellsSome bytes = (decls : List Decl) × (drives : List DriveLine) × Spells (lines bytes) decls drives

-- they have a bad line
abbrev pub HasBadLine : List ℕ → Type 0
HasBadLine bytes = (k : ℕ) × IsBadLine bytes k

-- two scripts that they are have one tree
abbrev pub HasOneTree : List ℕ → Type 0
HasOneTree bytes = (s : Script) → (t : Script) → IsScript bytes s → IsScript bytes t → (decls_of s ≡ decls_of t) × (s.drives ≡ t.drives)
