-- The names of a code, as places in the table of names.
use Rattle.std.specs.Prelude.{ℕ, ◌<◌, Some, List, [], ◌∷◌, ◌≡◌, slice_get, length, chars, codes, encode_utf8_all}
use Rattle.py_code.specs.declared.code.PyCode.{PyCode}
use Rattle.py_code.specs.declared.names.NameId.{NameId}
use Rattle.py_tree.specs.Tree.{Name, Tree}
use Rattle.py_tree.specs.Binding.{locals_of}

-- the table has this text at the name's place
abbrev pub IsNameOf : List (List ℕ) → NameId → List ℕ → Type 0
IsNameOf table id text = (id.index < length table) × (slice_get table id.index ≡ Some text)

-- the name's text is these characters in UTF-8, and they are what it spells
abbrev pub IsNameFor : List (List ℕ) → NameId → Name → Type 0
IsNameFor table id x = IsNameOf table id (encode_utf8_all x) × (chars (encode_utf8_all x) ≡ x)

-- each of these is the name of one of those characters, in order
abbrev pub NamesAll : List (List ℕ) → List NameId → List Name → Type 0
NamesAll table [] [] = Unit {0}
NamesAll table [] (x ∷ xs) = ⊥
NamesAll table (id ∷ ids) [] = ⊥
NamesAll table (id ∷ ids) (x ∷ xs) = IsNameFor table id x × NamesAll table ids xs

-- the names of the code of a body whose globals have these names
pub record IsNamed (table : List (List ℕ)) (globals : List Name) (code : PyCode) (t : Tree) : Type 0 where
  pub source_path : IsNameOf table code.code.source_path (codes "<script>")
  pub obj_name : IsNameOf table code.code.obj_name (encode_utf8_all t.name)
  pub names : NamesAll table code.code.names.items globals
  pub varnames : NamesAll table code.code.varnames.items (locals_of t)
