-- What is so of each text that is made from a seed, with at most 10,000 groups: it has a run to its end, and no raw code and no report.
use Rattle.std.specs.Prelude.{ℕ, ◌≤◌, ◌*◌, length}
use Rattle.py_grammar.specs.declared.script.Script.{Script}
use Rattle.py_grammar.specs.Script.{IsReadScript}
use Rattle.py_make.specs.Made.{made_text, most_groups}
use Rattle.py_run.specs.declared.journal.Journal.{Journal}
use Rattle.py_meaning.specs.Core.{IsCoreFrom}
use Rattle.py_meaning.specs.Whole.{IsRun, IsWhole}

-- a group adds at most so many events to a run: those of a call of work that raises, catches and returns
abbrev pub most_events_of_a_group : ℕ
most_events_of_a_group = 37

-- it is a script, of which there is a whole run of at most 37 events a group
abbrev pub HaveRuns : Type 0
HaveRuns =
    (seed count : ℕ) → count ≤ most_groups → (s : Script) × (j : Journal)
    × IsReadScript (made_text seed count) s × IsRun s j × IsWhole s j
    × (length j.events ≤ most_events_of_a_group * count)

-- it has no raw code and no report, so that two runs of it are the same
abbrev pub AreCore : Type 0
AreCore = (seed count : ℕ) → count ≤ most_groups → IsCoreFrom (made_text seed count)
