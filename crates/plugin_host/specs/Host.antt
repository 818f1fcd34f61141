-- The host between two drives of a plug-in.
use Rattle.std.specs.Prelude.{List, false, ◌≡◌}
use Rattle.py_lines.specs.declared.drive.DriveLine.{DriveLine}
use Rattle.py_grammar.specs.Grammar.{Decl}
use Rattle.py_script.specs.Held.{Held}
use Rattle.py_script.specs.Session.{IsSessionOf}

-- where no drive has failed, a session is one of these declarations, behind these drives
abbrev pub IsBehind : List Decl → List DriveLine → Held → Type 0
IsBehind decls drives s = s.failed ≡ false → IsSessionOf decls drives s
