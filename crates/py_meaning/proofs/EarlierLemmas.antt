-- The drives of a script name only earlier ones.
use Rattle.std.proofs.Common.{ℕ, Option, Some, None, List, [], ◌∷◌}
use Rattle.std.specs.Prelude.{All}
use Rattle.std.proofs.lemmas.List.Elements.{All-nil, All-cons, All-head, All-tail}
use Rattle.py_lines.specs.declared.drive.DriveAtom.{DriveAtom}
use Rattle.py_lines.specs.declared.drive.DriveAtom.TheVariants as atom
use Rattle.py_lines.specs.declared.drive.DriveLine.{DriveLine}
use Rattle.py_lines.specs.declared.drive.DriveLine.TheVariants as drive
use Rattle.py_grammar.specs.declared.script.Script.{Script}
use Rattle.py_grammar.specs.Grammar.{Decl}
use Rattle.py_grammar.specs.Script.{IsScript, decls_of}
use Rattle.py_grammar.specs.WellFormed.{AreWellDriven, IsDrivable, IsThrowable, IsWellDriven}
use Rattle.py_grammar.proofs.Keeps.{script_driven}
use Rattle.py_meaning.specs.Earlier.{AtomIsEarlier, ValueIsEarlier, LineIsEarlier, NameEarlier}

module _ (decls : List Decl) (made : ℕ) where
  atom_earlier : (a : DriveAtom) → IsDrivable decls made a → AtomIsEarlier made a
  atom_earlier atom.None may = tt
  atom_earlier (atom.Bool b) may = tt
  atom_earlier (atom.Int n) may = tt
  atom_earlier (atom.Str s) may = tt
  atom_earlier (atom.Name x) may = tt
  atom_earlier (atom.Drive n) may = may.1

  atoms_earlier : (atoms : List DriveAtom) → All (IsDrivable decls made) atoms → All (AtomIsEarlier made) atoms
  atoms_earlier [] may = All-nil (AtomIsEarlier made)
  atoms_earlier (a ∷ atoms) may =
      All-cons (AtomIsEarlier made) a atoms (atom_earlier a (All-head (IsDrivable decls made) a atoms may)) (atoms_earlier atoms (All-tail (IsDrivable decls made) a atoms may))

  value_earlier : (v : Option DriveAtom) → IsThrowable decls made v → ValueIsEarlier made v
  value_earlier None may = tt
  value_earlier (Some a) may = atom_earlier a may

  line_earlier : (d : DriveLine) → IsWellDriven decls made d → LineIsEarlier made d
  line_earlier (drive.Call f args) may = atoms_earlier args may.args
  line_earlier (drive.Next n) may = may.1
  line_earlier (drive.Send n a) may = (may.drive.1, atom_earlier a may.value)
  line_earlier (drive.Throw n c v) may = (may.drive.1, value_earlier v may.value)
  line_earlier (drive.Close n) may = may.1
  line_earlier (drive.Report n) may = may.1

-- where these are well driven
pub driven_earlier : (decls : List Decl) (drives : List DriveLine) → AreWellDriven decls drives → NameEarlier drives
driven_earlier decls drives driven = λ i d at. line_earlier decls i d (driven i d at)

-- so are those of a script
pub script_earlier : (bytes : List ℕ) (s : Script) → IsScript bytes s → NameEarlier s.drives
script_earlier bytes s is = driven_earlier (decls_of s) s.drives (script_driven bytes s is)
