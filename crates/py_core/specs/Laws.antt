-- What follows for runs of core scripts.
use Rattle.std.specs.Prelude.{ℕ, length, ◌≡◌}
use Rattle.py_grammar.specs.declared.script.Script.{Script}
use Rattle.py_grammar.specs.WellFormed.{IsWellFormed}
use Rattle.py_run.specs.declared.journal.Journal.{Journal}
use Rattle.py_meaning.specs.Whole.{IsRun}
use Rattle.py_core.specs.Forms.{IsCoreScript}
use Rattle.py_core.specs.Runs.{IsCoreRun, IsCoreWhole, FailsAt}

-- a journal of a machine is a run to somebody who has the script alone
abbrev pub MachineRunsAreCore : Type 0
MachineRunsAreCore = (s : Script) (j : Journal) → IsWellFormed s → IsCoreScript s → IsRun s j → IsCoreRun s j (length j.events)

-- one that is a whole run fails nowhere, and one that fails does so at one place
abbrev pub WholeNeverFails : Type 0
WholeNeverFails = (s : Script) (j : Journal) (k : ℕ) → IsCoreWhole s j → FailsAt s j k → ⊥

abbrev pub FailsAtOnePlace : Type 0
FailsAtOnePlace = (s : Script) (j : Journal) (k l : ℕ) → FailsAt s j k → FailsAt s j l → k ≡ l
