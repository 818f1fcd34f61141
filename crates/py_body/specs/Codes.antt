-- What holds of each of the codes of a body.
use Rattle.std.specs.Prelude.{ℕ, List, [], ◌∷◌, codes, encode_utf8_all}
use Rattle.py_check.specs.declared.annotated.Annotated.{Annotated}
use Rattle.py_tree.specs.declared.body.Body.{Body}
use Rattle.py_tree.specs.Tree.{Name, Tree}
use Rattle.py_tree.specs.Views.{tree_of}
use Rattle.py_laid.specs.Code.{IsLaid}
use Rattle.py_laid.specs.Naming.{IsNamed}

-- the bytes by which a code names the script that it is from, and its body
abbrev pub script_path : List ℕ
script_path = codes "<script>"

abbrev pub name_of : Body → List ℕ
name_of body = encode_utf8_all (tree_of body).name

-- this holds of each
abbrev pub Each : (Annotated → Type 0) → List Annotated → Type 0
Each P [] = Unit {0}
Each P (code ∷ codes) = P code × Each P codes

-- a code is laid for a tree with some globals, and its names are these of the table
abbrev pub IsLaidWith : List (List ℕ) → Annotated → Tree → Type 0
IsLaidWith table code t = (globals : List Name) × IsLaid globals code t × IsNamed table globals code.code t
