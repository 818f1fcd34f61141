-- Atoms by the tokens that they print.
use Rattle.std.proofs.Common.{◌≡◌, ◌≢◌, true, false, refl, sym, ap, ◌∙◌, Some, None}
use Rattle.std.specs.Prelude.{Option}
use Rattle.py_tree.specs.declared.expr.Atom.{Atom}
use Rattle.py_tree.specs.declared.expr.Atom.TheVariants as atom
use Rattle.py_lines.specs.declared.keyword.Keyword.TheVariants as keyword
use Rattle.py_lines.specs.Meaning.{Meaning, Key, Word, Number, Text}
use Rattle.py_lines.specs.Printing.{atom_token}
use Rattle.py_lines.proofs.Finders.{Finds, Found, Missing}

-- the atom that prints a token
abbrev pub token_atom : Meaning → Option Atom
token_atom (Key keyword.None) = Some atom.None
token_atom (Key keyword.True) = Some (atom.Bool true)
token_atom (Key keyword.False) = Some (atom.Bool false)
token_atom (Number n) = Some (atom.Int n)
token_atom (Text s) = Some (atom.Str s)
token_atom (Word x) = Some (atom.Name x)
token_atom t = None

pub atom_back : (a : Atom) → token_atom (atom_token a) ≡ Some a
atom_back (atom.Bool true) = refl
atom_back (atom.Bool false) = refl
atom_back a = refl

-- a token that is read back as no atom
pub no_atom : (t : Meaning) → token_atom t ≡ None → (a : Atom) → t ≢ atom_token a
no_atom t none a e = let h : None ≡ Some a = sym none ∙ ap token_atom e ∙ atom_back a in cc h

pub same_atom : (a b : Atom) → atom_token a ≡ atom_token b → a ≡ b
same_atom a b e = let h : Some a ≡ Some b = sym (atom_back a) ∙ ap token_atom e ∙ atom_back b in cc h

pub find_atom : (t : Meaning) → Finds atom_token t
find_atom (Key keyword.None) = Found atom.None refl
find_atom (Key keyword.True) = Found (atom.Bool true) refl
find_atom (Key keyword.False) = Found (atom.Bool false) refl
find_atom (Number n) = Found (atom.Int n) refl
find_atom (Text s) = Found (atom.Str s) refl
find_atom (Word x) = Found (atom.Name x) refl
find_atom t = Missing (no_atom t refl)
