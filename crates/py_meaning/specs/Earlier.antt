-- Which drives the lines of a script name: none that comes later.
use Rattle.std.specs.Prelude.{ℕ, ◌≤◌, Option, Some, None, All, List, ◌≡◌, slice_get}
use Rattle.py_lines.specs.declared.drive.DriveAtom.{DriveAtom}
use Rattle.py_lines.specs.declared.drive.DriveAtom.TheVariants as atom
use Rattle.py_lines.specs.declared.drive.DriveLine.{DriveLine}
use Rattle.py_lines.specs.declared.drive.DriveLine.TheVariants as drive

-- behind so many drives, an argument is none of a later one
abbrev pub AtomIsEarlier : ℕ → DriveAtom → Type 0
AtomIsEarlier made (atom.Drive n) = n ≤ made
AtomIsEarlier made a = Unit {0}

-- so is a value that is thrown, where there is one
abbrev pub ValueIsEarlier : ℕ → Option DriveAtom → Type 0
ValueIsEarlier made None = Unit {0}
ValueIsEarlier made (Some a) = AtomIsEarlier made a

-- and what a line names
abbrev pub LineIsEarlier : ℕ → DriveLine → Type 0
LineIsEarlier made (drive.Call f args) = All (AtomIsEarlier made) args
LineIsEarlier made (drive.Next n) = n ≤ made
LineIsEarlier made (drive.Send n a) = (n ≤ made) × AtomIsEarlier made a
LineIsEarlier made (drive.Throw n c v) = (n ≤ made) × ValueIsEarlier made v
LineIsEarlier made (drive.Close n) = n ≤ made
LineIsEarlier made (drive.Report n) = n ≤ made

-- each drive names only what those in front of it left
abbrev pub NameEarlier : List DriveLine → Type 0
NameEarlier drives = (i : ℕ) (d : DriveLine) → slice_get drives i ≡ Some d → LineIsEarlier i d
