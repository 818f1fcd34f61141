-- Which journals are handed back: runs of the script that bytes are, of so many events, with the codes that ran.
use Rattle.std.specs.Prelude.{ℕ, ◌≤◌, List, [], ◌≡◌, length}
use Rattle.py_grammar.specs.declared.script.Script.{Script}
use Rattle.py_grammar.specs.Script.{IsReadScript}
use Rattle.py_run.specs.declared.journal.Journal.{Journal}
use Rattle.py_meaning.specs.Whole.{IsRun, IsWhole}
use Rattle.py_script.specs.Compiled.{RunsItsCodes}

-- the journal where nothing ran
pub record IsEmpty (j : Journal) : Type 0 where
  pub events : j.events ≡ []
  pub objects : j.objects ≡ []
  pub changes : j.changes ≡ []
  pub codes : j.codes.codes ≡ []

-- the journal is a prefix of a run of the script that the bytes are, of at most so many events
abbrev pub IsPartOfRun : List ℕ → ℕ → Journal → Type 0
IsPartOfRun bytes turns j = (s : Script) × IsReadScript bytes s × IsRun s j × (length j.events ≤ turns) × RunsItsCodes s j

-- the journal is a whole run of the script that the bytes are, of at most so many events
abbrev pub IsWholeRun : List ℕ → ℕ → Journal → Type 0
IsWholeRun bytes turns j = (s : Script) × IsReadScript bytes s × IsRun s j × IsWhole s j × (length j.events ≤ turns) × RunsItsCodes s j

-- the journal is a prefix of a run of the script that the bytes are, of exactly so many events, and no whole one
abbrev pub IsCutRun : List ℕ → ℕ → Journal → Type 0
IsCutRun bytes turns j = (s : Script) × IsReadScript bytes s × IsRun s j × (IsWhole s j → ⊥) × (length j.events ≡ turns) × RunsItsCodes s j
