-- What is claimed of journals that are worked by hand: that they are whole runs of a script, or fail at an event.
use Rattle.std.specs.Prelude.{ℕ, List, ◌≡◌}
use Rattle.py_code.specs.Codes.{Codes}
use Rattle.py_objects.specs.declared.payload.Payload.{Payload}
use Rattle.py_objects.specs.declared.edit.Change.{Change}
use Rattle.py_objects.specs.declared.event.Event.{Event}
use Rattle.py_grammar.specs.declared.script.Script.{Script}
use Rattle.py_grammar.specs.Grammar.{Decl}
use Rattle.py_grammar.specs.Script.{decls_of}
use Rattle.py_lines.specs.declared.drive.DriveLine.{DriveLine}
use Rattle.py_run.specs.declared.journal.Journal.{Journal}
use Rattle.py_core.specs.Runs.{FailsAt, IsCoreWhole}

-- a script has these declarations and drives
pub record IsScriptOf (decls : List Decl) (drives : List DriveLine) (s : Script) : Type 0 where
  pub declares : decls_of s ≡ decls
  pub driven : s.drives ≡ drives

-- a journal of these, with some codes
abbrev pub journal : List Payload → List Change → List Event → Codes → Journal
journal objects changes events k = record { events = events; objects = objects; changes = changes; codes = k }

-- whatever its codes are, it is a whole run of each such script
abbrev pub IsWholeOf : List Decl → List DriveLine → List Payload → List Change → List Event → Type 0
IsWholeOf decls drives objects changes events = (s : Script) (k : Codes) → IsScriptOf decls drives s → IsCoreWhole s (journal objects changes events k)

-- it fails at the event of this number
abbrev pub FailsOf : List Decl → List DriveLine → ℕ → List Payload → List Change → List Event → Type 0
FailsOf decls drives n objects changes events = (s : Script) (k : Codes) → IsScriptOf decls drives s → FailsAt s (journal objects changes events k) n
